-- The program's own command line is one of which clap says what it reads.
use Rattle.std.proofs.Common.{◌≡◌, ◌∙◌, Bool, true, false, if◌then◌else◌, bytes_eq, Decides, refl, sym, List, [], map}
use Rattle.std.proofs.Common.{Option, None, Some, option_map, ap, ap₂, subst, inl, inr, codes}
use Rattle.clap.specs.Words.{App, HasKind, IsAmong, Row, Text, fault_of, first_of, is_simple, is_simple_and_free}
use Rattle.clap.specs.Words.{kind_of, matches_of, subcommand_of}
use Rattle.std.specs.Prelude.{Box}
use Rattle.std.specs.Borrow.{Bor}
use Rattle.std.specs.Box.{box_value}
use Rattle.std.proofs.lemmas.Option.{none-some, same_Some}
use Rattle.std.proofs.lemmas.Slice.Eq.{bytes_eq-Decides}
use Rattle.clap.specs.Simple.{subcommand_rows, subcommand_rows_of}
use Rattle.clap.specs.Words.{found_of, rows_of, subcommand_name_of}
use Rattle.clap.specs.declared.parser.matches.ArgMatches.{ArgMatches}
use Rattle.clap.specs.declared.parser.matches.ArgMatches.TheViews.{out-ArgMatches, out-SubCommand}
use Rattle.clap.specs.declared.parser.matches.SubCommand.{SubCommand}
use Rattle.clap.specs.declared.error.Error.{Error}
use Rattle.clap.specs.declared.error.kind.ErrorKind.{ErrorKind}
use Rattle.clap.specs.declared.error.kind.ErrorKind.TheVariants.{DisplayHelp, OutOfMemory}
use Rattle.clap.proofs.OnLiterals.{clap_on_literals}
use Rattle.wb_words.specs.Start.{Asks, AsksNone, IsNoStart, Names, Starts, begin_with_query, begins_with_help}
use Rattle.wb_words.specs.Start.{single_words, start_app, start_faults, start_words, store_in, subcommand_in}
use Rattle.wb_words.specs.Start.{with_journal, with_service_paths}
use Rattle.wb_words.specs.declared.start.Start.{Start}
use Rattle.wb_words.specs.declared.start.Start.TheVariants.{Run, Serve, Ask, CarryOut, Help}

start_app-free : is_simple_and_free start_app ≡ true
unfolding with_journal with_service_paths start_app clap_on_literals
start_app-free = refl

start_app-simple : is_simple start_app ≡ true
unfolding with_journal with_service_paths start_app clap_on_literals
start_app-simple = refl

-- an error that is no want of memory is one of the faults
pub start_faults-failed : (app : App) (words read : List Text) (error : Error) → app ≡ start_app → read ≡ start_words words
    → (is_simple_and_free app ≡ true → HasKind (fault_of app read) error)
    → (kind_of error ≡ OutOfMemory → ⊥) → IsAmong (kind_of error) (start_faults words)
unfolding start_faults
start_faults-failed app words read error e is h other =
    let fails : HasKind (fault_of start_app (start_words words)) error =
    subst (λ (w : List Text). HasKind (fault_of start_app w) error) is
    (subst (λ (a : App). HasKind (fault_of a read) error) e (h (ap is_simple_and_free e ∙ start_app-free))) in
    elim fails [ inl memory ↦ absurd (other memory) | inr among ↦ among ]

-- words that are read have no fault
pub start_faults-none : (app : App) (words read : List Text) → app ≡ start_app → read ≡ start_words words
    → (is_simple_and_free app ≡ true → fault_of app read ≡ []) → start_faults words ≡ []
unfolding start_faults
start_faults-none app words read e is free =
    subst (λ (w : List Text). fault_of start_app w ≡ []) is
    (subst (λ (a : App). fault_of a read ≡ []) e (free (ap is_simple_and_free e ∙ start_app-free)))

-- an error that asks for help is a wish for it among the faults
pub start_faults-help : (app : App) (words read : List Text) (error : Error) → app ≡ start_app → read ≡ start_words words
    → (is_simple_and_free app ≡ true → HasKind (fault_of app read) error)
    → kind_of error ≡ DisplayHelp → IsAmong DisplayHelp (start_faults words)
start_faults-help app words read error e is h help =
    subst (λ (kind : ErrorKind). IsAmong kind (start_faults words)) help (start_faults-failed app words read error e is h (λ memory. cc))

-- the word that was found for an option is that of the words
pub store_in-found : (app : App) (words read : List Text) (rows : List Row) → app ≡ start_app → read ≡ start_words words
    → (is_simple app ≡ true → rows ≡ matches_of app read) → first_of (codes "store") rows ≡ store_in words
unfolding store_in
store_in-found app words read rows e is found =
    ap (first_of (codes "store")) (found (ap is_simple e ∙ start_app-simple)
    ∙ ap₂ (λ (a : App) (w : List Text). matches_of a w) e is)

-- the subcommand that was met is that of the words
pub subcommand_in-met : (app : App) (words read : List Text) (met : Option (Text × List Row)) → app ≡ start_app
    → read ≡ start_words words → (is_simple app ≡ true → met ≡ subcommand_of app read) → met ≡ subcommand_in words
unfolding subcommand_in
subcommand_in-met app words read met e is found =
    found (ap is_simple e ∙ start_app-simple) ∙ ap₂ (λ (a : App) (w : List Text). subcommand_of a w) e is

-- words that have no fault ask for what their subcommand asks for
pub starts-asked : (words : List Text) (start : Start) → begins_with_help words ≡ false → start_faults words ≡ []
    → Asks words (store_in words) (subcommand_in words) start → Starts words start
starts-asked words (Run store journal) h faults asks = (h, faults, asks)
starts-asked words (Serve store port requests journal lists keys) h faults asks = (h, faults, asks)
starts-asked words (Ask store given) h faults asks = (h, faults, asks)
starts-asked words (CarryOut store given) h faults asks = (h, faults, asks)
starts-asked words Help h faults asks = absurd (never (subcommand_in words) asks)
  where
    never : (named : Option (Text × List Row)) → Asks words (store_in words) named Help → ⊥
    never None asks = asks
    never (Some named) asks = asks

-- words whose subcommand, as it was met, asks for something
pub starts-met : (app : App) (words read : List Text) (rows : List Row) (met : Option (Text × List Row)) (start : Start)
    → app ≡ start_app → read ≡ start_words words → begins_with_help words ≡ false
    → (is_simple_and_free app ≡ true → fault_of app read ≡ [])
    → (is_simple app ≡ true → (rows ≡ matches_of app read) × (met ≡ subcommand_of app read))
    → Asks words (first_of (codes "store") rows) met start → Starts words start
starts-met app words read rows met start e is h free found asks =
    let stored : first_of (codes "store") rows ≡ store_in words = store_in-found app words read rows e is (λ simple. (found simple).0) in
    let named : met ≡ subcommand_in words = subcommand_in-met app words read met e is (λ simple. (found simple).1) in
    starts-asked words start h (start_faults-none app words read e is free)
    (subst (λ (sub : Option (Text × List Row)). Asks words (store_in words) sub start) named
    (subst (λ (file : Option Text). Asks words file met start) stored asks))

-- words whose subcommand, as it was met, asks for nothing
pub starts-none : (app : App) (words read : List Text) (rows : List Row) (met : Option (Text × List Row))
    → app ≡ start_app → read ≡ start_words words → begins_with_help words ≡ false
    → (is_simple_and_free app ≡ true → fault_of app read ≡ [])
    → (is_simple app ≡ true → (rows ≡ matches_of app read) × (met ≡ subcommand_of app read))
    → AsksNone met → IsNoStart words
starts-none app words read rows met e is h free found none =
    let named : met ≡ subcommand_in words = subcommand_in-met app words read met e is (λ simple. (found simple).1) in
    (h, inr (start_faults-none app words read e is free, subst AsksNone named none))

-- ---- the subcommand that was met

names-of : (sub : Option (Text × List Row)) {A B : Type 0} (met : Option (A × B)) (name : A → Text) (rows : B → List Row)
    → option_map (λ p. name p.0) met ≡ option_map (λ p. p.0) sub → option_map (λ p. rows p.1) met ≡ option_map (λ p. p.1) sub
    → sub ≡ option_map (λ p. (name p.0, rows p.1)) met
names-of None None name rows h k = refl
names-of None (Some p) name rows h k = absurd (none-some _ (sym h))
names-of (Some n) None name rows h k = absurd (none-some _ h)
names-of (Some n) (Some p) name rows h k =
    ap₂ (λ (x : Text) (y : List Row). Some (x, y)) (sym (same_Some _ _ h)) (sym (same_Some _ _ k))

names-met : {Z : Type 0} (sub : Option (Box SubCommand Z))
    → option_map (λ b. (out-SubCommand (box_value b)).name.now) sub ≡ option_map (λ p. p.0) (subcommand_rows sub)
names-met None = refl
names-met (Some b) = refl

-- the subcommand that `clap` gives, as its name and its rows
pub subcommand_rows-met : (m : ArgMatches) (met : Option (Bor Text × Bor ArgMatches))
    → option_map (λ p. p.0.now) met ≡ subcommand_name_of m
    → option_map (λ p. rows_of (found_of p.1.now)) met ≡ option_map (λ p. p.1) (subcommand_rows (out-ArgMatches m).subcommand)
    → subcommand_rows_of m ≡ option_map (λ p. (p.0.now, rows_of (found_of p.1.now))) met
subcommand_rows-met m met h k = names-of (subcommand_rows_of m) met (λ name. name.now) (λ arguments. rows_of (found_of arguments.now))
    (h ∙ names-met (out-ArgMatches m).subcommand) k

-- ---- a single command

other-name : (name other : Text) → (name ≡ other → ⊥) → bytes_eq name other ≡ false
other-name name other h = elim (bytes_eq name other) as (λ b. Decides b (name ≡ other) → b ≡ false) [
  | true ↦ λ d. absurd (h (d.0 refl))
  | false ↦ λ d. refl
] (bytes_eq-Decides name other)

-- the words of a single command ask for a query or a command, by the name that they begin with
pub single-names : (words : List Text) (file : Option Text) (name : Text) (rows : List Row) (store : Option (Bor Text)) (given : Bor (List (Bor Text)))
    (start : Start) (asked : Bool) → start ≡ (if asked then Ask store given else CarryOut store given)
    → begin_with_query (map (λ word. word.now) given.now) ≡ asked → map (λ word. word.now) given.now ≡ single_words words
    → option_map (λ file. file.now) store ≡ file → (name ≡ codes "run" → ⊥) → (name ≡ codes "serve" → ⊥)
    → Names words file (name, rows) start
single-names words file name rows store given start true e asks are same run serve = subst (Names words file (name, rows)) (sym e) (
  same,
  record {
    words_are = are;
    asks = ap begin_with_query (sym are) ∙ asks;
    no_run = other-name name (codes "run") run;
    no_service = other-name name (codes "serve") serve;
  },
)
single-names words file name rows store given start false e asks are same run serve = subst (Names words file (name, rows)) (sym e) (
  same,
  record {
    words_are = are;
    asks = ap begin_with_query (sym are) ∙ asks;
    no_run = other-name name (codes "run") run;
    no_service = other-name name (codes "serve") serve;
  },
)
