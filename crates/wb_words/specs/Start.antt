-- What the words after the program's name ask of it, as `clap` reads them.
use Rattle.std.specs.Prelude.{◌≡◌, ◌≢◌, ◌⊎◌, ℕ, List, [], ◌∷◌, Bool, true, false, if◌then◌else◌, drop, map, nat_eq}
use Rattle.std.specs.Prelude.{Option, Some, None, codes, option_and_then, option_map, ⊤}
use Rattle.std.specs.Borrow.{Bor}
use Rattle.std.specs.List.{starts_with}
use Rattle.std.specs.Str.{bytes_eq}
use Rattle.clap.specs.Words.{App, IsAmong, Kinds, Row, Text, fault_of, first_of, matches_of, new_app, subcommand_of}
use Rattle.clap.specs.Words.{with_subcommand}
use Rattle.clap.specs.declared.error.kind.ErrorKind.{ErrorKind}
use Rattle.clap.specs.declared.error.kind.ErrorKind.TheVariants.{DisplayHelp}
use Rattle.wb_words.specs.Arguments.{word_of}
use Rattle.wb_words.specs.Escapes.{escaped, has_negative_value}
use Rattle.wb_words.specs.Service.{serve_app, service_named}
use Rattle.wb_words.specs.Usages.{is_query, with_arguments, with_wb_usages}
use Rattle.wb_words.specs.declared.usage.ArgumentKind.TheVariants.{NamedWord}
use Rattle.wb_words.specs.declared.start.Start.{Start}
use Rattle.wb_words.specs.declared.start.Start.TheVariants.{Run, Serve, Ask, CarryOut, Help}

-- a subcommand with the option `--journal`, which takes a word
unfoldable pub with_journal : App → App
with_journal app = with_arguments app ((codes "journal", NamedWord) ∷ [])

-- a subcommand with the options `--lists` and `--keys`, each of which takes a word
unfoldable pub with_service_paths : App → App
with_service_paths app = with_arguments app ((codes "lists", NamedWord) ∷ (codes "keys", NamedWord) ∷ [])

-- the program's own command line: the option `--store`, which takes a word, the subcommands `run` and `serve`, which
-- have the option `--journal`, those of a line, and the options `--help` and `-h`; `serve` has the options `--lists`
-- and `--keys`, too
unfoldable pub start_app : App
start_app = with_wb_usages (with_subcommand (with_subcommand (with_arguments (record (new_app (codes "wb")) {
  top = record ((new_app (codes "wb")).top) {
    no_binary_name = true;
    disable_help_subcommand = true;
    subcommand_required = true;
  };
}) ((codes "store", NamedWord) ∷ [])) (with_journal (new_app (codes "run"))).top)
    (with_service_paths (with_journal serve_app)).top)

-- the first word is `help`
abbrev pub begins_with_help : List Text → Bool
begins_with_help [] = false
begins_with_help (word ∷ words) = bytes_eq word (codes "help")

-- how many words before the subcommand name the file that keeps the records
abbrev pub store_words : List Text → ℕ
store_words [] = 0
store_words (word ∷ words) = if bytes_eq word (codes "--store") then 2
    else (if starts_with nat_eq word (codes "--store=") then 1 else 0)

-- the words of a single command: those from the subcommand on
abbrev pub single_words : List Text → List Text
single_words words = drop (store_words words) words

-- the words as they are read
abbrev pub start_words : List Text → List Text
start_words words = if has_negative_value (single_words words) then escaped words else words

-- the faults that `clap` finds in the words; asking for help is one of them
unfoldable pub start_faults : List Text → Kinds
start_faults words = fault_of start_app (start_words words)

-- the word after the option `--store`, if it is given
unfoldable pub store_in : List Text → Option Text
store_in words = first_of (codes "store") (matches_of start_app (start_words words))

-- the subcommand that the words name, with its arguments
unfoldable pub subcommand_in : List Text → Option (Text × List Row)
subcommand_in words = subcommand_of start_app (start_words words)

-- the word after the option `--journal` of the subcommand, if it is given
unfoldable pub journal_in : List Text → Option Text
journal_in words = option_and_then (λ named. word_of (codes "journal") named.1) (subcommand_in words)

-- the word after the option `--lists` of the subcommand, if it is given
unfoldable pub lists_in : List Text → Option Text
lists_in words = option_and_then (λ named. word_of (codes "lists") named.1) (subcommand_in words)

-- the word after the option `--keys` of the subcommand, if it is given
unfoldable pub keys_in : List Text → Option Text
keys_in words = option_and_then (λ named. word_of (codes "keys") named.1) (subcommand_in words)

-- the first of these words is a subcommand that asks the office
abbrev pub begin_with_query : List Text → Bool
begin_with_query [] = false
begin_with_query (word ∷ words) = is_query word

-- the words of a single command, as they were borrowed, which do or do not begin with a query, and the subcommand
-- neither runs nor serves
pub record IsSingle (words : List Text) (named : Text × List Row) (given : List (Bor Text)) (is_asked : Bool) : Type 0 where
  pub words_are : map (λ word. word.now) given ≡ single_words words
  pub asks : begin_with_query (single_words words) ≡ is_asked
  pub no_run : bytes_eq named.0 (codes "run") ≡ false
  pub no_service : bytes_eq named.0 (codes "serve") ≡ false

-- the journal is the file that the arguments of a subcommand name as such
abbrev pub IsJournal : Text × List Row → Option (Bor Text) → Type 0
IsJournal named journal = option_map (λ file. file.now) journal ≡ word_of (codes "journal") named.1

-- the lists of a service lie in the folder that its arguments name as such
abbrev pub AreLists : Text × List Row → Option (Bor Text) → Type 0
AreLists named lists = option_map (λ folder. folder.now) lists ≡ word_of (codes "lists") named.1

-- the keys of a service stand in the file that its arguments name as such
abbrev pub AreKeys : Text × List Row → Option (Bor Text) → Type 0
AreKeys named keys = option_map (λ file. file.now) keys ≡ word_of (codes "keys") named.1

-- a subcommand with its arguments asks for this, with the records in this file
abbrev pub Names : List Text → Option Text → Text × List Row → Start → Type 0
Names words file named (Run store journal) = (option_map (λ file. file.now) store ≡ file) × IsJournal named journal
    × (bytes_eq named.0 (codes "run") ≡ true)
Names words file named (Serve store port requests journal lists keys) = (option_map (λ file. file.now) store ≡ file)
    × IsJournal named journal × AreLists named lists × AreKeys named keys × (service_named named ≡ Some (port, requests))
Names words file named (Ask store given) = (option_map (λ file. file.now) store ≡ file) × IsSingle words named given.now true
Names words file named (CarryOut store given) = (option_map (λ file. file.now) store ≡ file) × IsSingle words named given.now false
Names words file named Help = ⊥

-- a subcommand with its arguments asks for nothing: it serves, and a number is missing or out of range
abbrev pub NamesNone : Text × List Row → Type 0
NamesNone named = (bytes_eq named.0 (codes "serve") ≡ true) × (service_named named ≡ None)

-- the subcommand, if there is one, asks for this
abbrev pub Asks : List Text → Option Text → Option (Text × List Row) → Start → Type 0
Asks words file None start = ⊥
Asks words file (Some named) start = Names words file named start

-- there is no subcommand, or it asks for nothing
abbrev pub AsksNone : Option (Text × List Row) → Type 0
AsksNone None = ⊤
AsksNone (Some named) = NamesNone named

-- the words have no fault, and their subcommand asks for this
abbrev pub IsRead : List Text → Start → Type 0
IsRead words start = (begins_with_help words ≡ false) × (start_faults words ≡ []) × Asks words (store_in words) (subcommand_in words) start

-- the words ask for this
abbrev pub Starts : List Text → Start → Type 0
Starts words (Run store journal) = IsRead words (Run store journal)
Starts words (Serve store port requests journal lists keys) =
    IsRead words (Serve store port requests journal lists keys)
Starts words (Ask store given) = IsRead words (Ask store given)
Starts words (CarryOut store given) = IsRead words (CarryOut store given)
Starts words Help = (begins_with_help words ≡ true) ⊎ IsAmong DisplayHelp (start_faults words)

-- the words have a fault other than that they ask for help
abbrev pub IsFaulty : List Text → Type 0
IsFaulty words = (kind : ErrorKind) × IsAmong kind (start_faults words) × (kind ≢ DisplayHelp)

-- the words ask for nothing: a fault of another kind comes first, or no subcommand has all that it needs
abbrev pub IsNoStart : List Text → Type 0
IsNoStart words = (begins_with_help words ≡ false)
    × (IsFaulty words ⊎ ((start_faults words ≡ []) × AsksNone (subcommand_in words)))
