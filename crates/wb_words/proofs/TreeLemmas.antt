-- What a line asks for, by what clap reads of the one subcommand that its first word names.
use Rattle.std.proofs.Common.{◌≡◌, ◌∙◌, refl, sym, ap, ap₂, inl, inr, true, List, [], ◌∷◌, Option, None, Some}
use Rattle.std.proofs.Common.{option_and_then, map, option_map, is_some, false, Result, Ok, Err, IfOk, IfErr}
use Rattle.std.proofs.Common.{◌<◌, ◌≤◌, ◌-◌, ◌++◌, ◌&&◌, Bool, not, length, get_or, take, drop, take_all, arith}
use Rattle.std.proofs.Common.{bytes_eq, codes, Decides, if◌then◌else◌}
use Rattle.std.proofs.lemmas.Option.{none-some}
use Rattle.std.proofs.lemmas.Slice.Eq.{bytes_eq-Decides}
use Rattle.std.specs.Borrow.{Bor}
use Rattle.clap.specs.Words.{App, HasKind, Kinds, Row, Text, fault_of, is_simple, is_simple_and_free, kind_of}
use Rattle.clap.specs.Words.{matches_of, subcommand_of}
use Rattle.clap.specs.declared.error.Error.{Error}
use Rattle.clap.specs.declared.error.kind.ErrorKind.TheVariants.{OutOfMemory}
use Rattle.clap.proofs.OnLiterals.{clap_on_literals}
use Rattle.wb_words.specs.declared.fault.WordsFault.{WordsFault}
use Rattle.wb_words.specs.declared.fault.WordsFault.TheVariants.{Memory}
use Rattle.wb_words.specs.declared.words.Invocation.{Invocation}
use Rattle.wb_words.specs.Faults.{Reads}
use Rattle.wb_words.specs.Usages.{Argument, arguments_named, subcommand_app, subject, wb_app, wb_usages, word_arguments}
use Rattle.wb_words.specs.Escapes.{end_in_negative, escaped, has_escape, has_negative_value, line_words}
use Rattle.wb_words.specs.Words.{invocation_in, invocation_named, invocation_read, unless_faulty}
use Rattle.wb_words.proofs.SubcommandLemmas.{Fails, fault_of-known, fault_of-unknown, own_app, own_app-free}
use Rattle.wb_words.proofs.SubcommandLemmas.{own_app-simple, subcommand_app-written, subcommand_of-known}
use Rattle.wb_words.proofs.SubcommandLemmas.{usage_named-found, usage_named-missing}

unless_faulty-fails : (kinds : Kinds) (invocation : Option Invocation) → Fails kinds
    → unless_faulty kinds invocation ≡ None
unless_faulty-fails [] invocation h = absurd h
unless_faulty-fails (kind ∷ kinds) invocation h = refl

-- an error that is not for memory has a kind, and then there is no command
unless_faulty-failed : (kinds : Kinds) (error : Error) (invocation : Option Invocation) → HasKind kinds error
    → (kind_of error ≡ OutOfMemory → ⊥) → unless_faulty kinds invocation ≡ None
unless_faulty-failed [] error invocation (inl h) other = absurd (other h)
unless_faulty-failed [] error invocation (inr h) other = absurd h
unless_faulty-failed (kind ∷ kinds) error invocation h other = refl

-- no words ask for nothing
pub invocation_read-nothing : (words : List (Bor Text)) → length words < 1
    → invocation_read (map (λ word. word.now) words) ≡ None
unfolding invocation_read wb_app clap_on_literals
invocation_read-nothing [] none = refl
invocation_read-nothing (word ∷ words) none = absurd (omega arith)

-- a line is its first word and the others
pub words-cut : (words : List (Bor Text)) (d : Bor Text) → 1 ≤ length words
    → map (λ word. word.now) words
    ≡ (get_or words 0 d).now ∷ map (λ word. word.now) (take (length words - 1) (drop 1 words))
words-cut [] d some = absurd (omega arith)
words-cut (word ∷ words) d some =
    ap (λ (rest : List (Bor Text)). word.now ∷ map (λ (other : Bor Text). other.now) rest)
    (sym (take_all (length (word ∷ words) - 1) words (omega arith)))

-- words whose first names no subcommand ask for nothing
pub invocation_read-unknown : (name : Text) (rest : List Text) → None ≡ arguments_named name wb_usages
    → invocation_read (name ∷ rest) ≡ None
unfolding invocation_read
invocation_read-unknown name rest missing =
    unless_faulty-fails _ (option_and_then invocation_named (subcommand_of wb_app (name ∷ rest)))
    (fault_of-unknown name rest (usage_named-missing name wb_usages missing))

-- the first word names a subcommand, of which this is the command
module _ (app : App) (name : Text) (rest : List Text) (arguments : List Argument)
    (named : Some arguments ≡ arguments_named name wb_usages)
    (is : app ≡ subcommand_app (name, arguments)) where
  own : app ≡ own_app (name, arguments)
  own = is ∙ subcommand_app-written (name, arguments)

  free : is_simple_and_free app ≡ true
  free =
      ap is_simple_and_free own ∙ own_app-free name (name, arguments) (usage_named-found name arguments wb_usages named)

  simple : is_simple app ≡ true
  simple = ap is_simple own ∙ own_app-simple name (name, arguments) (usage_named-found name arguments wb_usages named)

  invocation_read-known : invocation_read (name ∷ rest)
      ≡ unless_faulty (fault_of app rest) (invocation_named (name, matches_of app rest))
  unfolding invocation_read
  invocation_read-known =
      let found = usage_named-found name arguments wb_usages named in
      ap₂ (λ (kinds : Kinds) (met : Option (Text × List Row)).
      unless_faulty kinds (option_and_then invocation_named met))
      (fault_of-known name rest arguments found) (subcommand_of-known name rest arguments found)
      ∙ ap (λ (a : App). unless_faulty (fault_of a rest) (invocation_named (name, matches_of a rest))) (sym own)

  -- an error that is not for memory is a fault of the words
  pub invocation_read-failed : (error : Error) → (is_simple_and_free app ≡ true → HasKind (fault_of app rest) error)
      → (kind_of error ≡ OutOfMemory → ⊥) → invocation_read (name ∷ rest) ≡ None
  invocation_read-failed error fails other =
      invocation_read-known ∙ unless_faulty-failed (fault_of app rest) error _ (fails free) other

  -- words that are read ask for what the subcommand asks for with these arguments
  pub invocation_read-read : (rows : List Row) → (is_simple_and_free app ≡ true → fault_of app rest ≡ [])
      → (is_simple app ≡ true → rows ≡ matches_of app rest)
      → invocation_read (name ∷ rest) ≡ invocation_named (name, rows)
  invocation_read-read rows none read = invocation_read-known
      ∙ ap₂ (λ (kinds : Kinds) (given : List Row). unless_faulty kinds (invocation_named (name, given)))
      (none free) (sym (read simple))

-- ---- a line whose last word may be a negative build priority

-- a line of another subcommand is read as it is
line_words-other : (name : Text) (rest : List Text) → bytes_eq name (codes "build-priority") ≡ false
    → line_words (name ∷ rest) ≡ name ∷ rest
unfolding has_negative_value
line_words-other name rest other =
    ap (λ (same : Bool). if same && (not (has_escape rest) && end_in_negative rest) then escaped (name ∷ rest) else name ∷ rest) other

pub invocation_in-other : (name : Text) (rest : List Text) → bytes_eq name (codes "build-priority") ≡ false
    → invocation_in (name ∷ rest) ≡ invocation_read (name ∷ rest)
unfolding invocation_in
invocation_in-other name rest other = ap (λ (words : List Text). invocation_read words) (line_words-other name rest other)

-- the name of no subcommand is another
unknown-other : (name : Text) → None ≡ arguments_named name wb_usages → bytes_eq name (codes "build-priority") ≡ false
unfolding wb_usages
unknown-other name missing =
    elim (bytes_eq name (codes "build-priority")) as (λ same. Decides same (name ≡ codes "build-priority") → same ≡ false) [
      | true ↦ λ d.
          let known : None ≡ Some (subject ++ word_arguments (codes "value" ∷ [])) =
          missing ∙ ap (λ (n : Text). arguments_named n wb_usages) (d.0 refl) in
          absurd (none-some _ known)
      | false ↦ λ d. refl
    ] (bytes_eq-Decides name (codes "build-priority"))

-- words whose first names no subcommand ask for nothing
pub invocation_in-unknown : (name : Text) (rest : List Text) → None ≡ arguments_named name wb_usages
    → invocation_in (name ∷ rest) ≡ None
invocation_in-unknown name rest missing =
    invocation_in-other name rest (unknown-other name missing) ∙ invocation_read-unknown name rest missing

-- ---- what is asked for is what is read

pub reads-value : {X : Type 0} (asked wanted : Option X) (r : Result X WordsFault) → asked ≡ wanted → Reads wanted r
    → IfOk r (λ read. asked ≡ Some read)
reads-value asked wanted (Ok read) e h = e ∙ h
reads-value asked wanted (Err fault) e h = tt

pub reads-refused : {X : Type 0} (asked wanted : Option X) (r : Result X WordsFault) → asked ≡ wanted → Reads wanted r
    → IfErr r (λ fault. (fault ≡ Memory → ⊥) → asked ≡ None)
reads-refused asked wanted (Ok read) e h = tt
reads-refused asked wanted (Err fault) e h = λ other. e ∙ h other

-- a fault of any kind is right where nothing is asked for
pub refused-nothing : {X : Type 0} (asked : Option X) (r : Result X WordsFault) → asked ≡ None
    → IfErr r (λ fault. (fault ≡ Memory → ⊥) → asked ≡ None)
refused-nothing asked (Ok read) e = tt
refused-nothing asked (Err fault) e = λ _. e

-- what was not found has no arguments
pub named-missing : {A : Type 0} (f : A → List Argument) (found : Option A) (named : Option (List Argument))
    → false ≡ is_some found
    → option_map f found ≡ named → None ≡ named
named-missing f None named missing e = e
named-missing f (Some x) named missing e = cc
