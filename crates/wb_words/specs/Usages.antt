-- The subcommands of the office with their arguments, as `clap` knows them.
use Rattle.std.specs.Prelude.{Bool, List, [], ◌∷◌, ◌++◌, Option, Some, is_some, true, codes, find, map, option_map}
use Rattle.std.specs.Borrow.{Bor}
use Rattle.std.specs.Str.{bytes_eq}
use Rattle.clap.specs.Lexer.{usize_max}
use Rattle.clap.specs.Words.{App, Rule, Shape, Text, new_app, new_rule, with_rule, with_subcommand}
use Rattle.clap.specs.declared.builder.action.ArgAction.TheVariants.{Append, Set}
use Rattle.wb_words.specs.declared.usage.ArgumentKind.{ArgumentKind}
use Rattle.wb_words.specs.declared.usage.ArgumentKind.TheVariants.{AnyWords, NamedWord, SomeWords, Word}

-- ---- the subcommands, and the arguments of each

-- an argument is its name and its kind
abbrev pub Argument : Type 0
Argument = Text × ArgumentKind

-- a subcommand is its name and its arguments, in their order
abbrev pub Usage : Type 0
Usage = Text × List Argument

-- the arguments that a table of references holds
abbrev pub arguments_in : List (Bor Text × ArgumentKind) → List Argument
arguments_in = map (λ argument. (argument.0.now, argument.1))

-- the usages that a table of references holds
abbrev pub usages_in : List (Bor Text × Bor (List (Bor Text × ArgumentKind))) → List Usage
usages_in = map (λ usage. (usage.0.now, arguments_in usage.1.now))

-- the arguments that take one word each
abbrev pub word_arguments : List Text → List Argument
word_arguments = map (λ id. (id, Word))

-- the arguments that name a source package
abbrev pub subject : List Argument
subject = word_arguments (codes "arch" ∷ codes "source" ∷ codes "version" ∷ [])

-- the arguments that name an architecture and a builder
abbrev pub arch_and_builder : List Argument
arch_and_builder = word_arguments (codes "arch" ∷ codes "builder" ∷ [])

-- the subcommands of operators
abbrev pub operator_usages : List Usage
operator_usages = (codes "add-arch", word_arguments (codes "name" ∷ codes "os" ∷ codes "cpu" ∷ []))
    ∷ (codes "add-builder", word_arguments (codes "name" ∷ codes "arch" ∷ []))
    ∷ (codes "remove-arch", word_arguments (codes "name" ∷ []))
    ∷ (codes "remove-builder", word_arguments (codes "name" ∷ codes "arch" ∷ []))
    ∷ (codes "enter", subject ++ word_arguments (codes "priority" ∷ codes "section" ∷ []))
    ∷ (codes "give-back", subject)
    ∷ (codes "dep-wait", subject ++ (codes "relations", SomeWords) ∷ [])
    ∷ (codes "fail", subject ++ (codes "note", AnyWords) ∷ [])
    ∷ (codes "not-for-us", subject ++ (codes "note", AnyWords) ∷ [])
    ∷ (codes "rebuild", subject ++ (codes "number", Word) ∷ (codes "message", AnyWords) ∷ [])
    ∷ (codes "build-priority", subject ++ word_arguments (codes "value" ∷ []))
    ∷ (codes "forget", subject)
    ∷ []

-- the subcommands of builders
abbrev pub builder_usages : List Usage
builder_usages = (codes "next", arch_and_builder ++ (codes "after", NamedWord) ∷ [])
    ∷ (codes "take", arch_and_builder ++ word_arguments (codes "source" ∷ codes "version" ∷ []))
    ∷ (codes "built", word_arguments (codes "take" ∷ []))
    ∷ (codes "uploaded", word_arguments (codes "take" ∷ []))
    ∷ (codes "put-back", word_arguments (codes "take" ∷ []))
    ∷ (codes "waits", (codes "take", Word) ∷ (codes "relations", SomeWords) ∷ [])
    ∷ (codes "attempted", (codes "take", Word) ∷ (codes "reason", AnyWords) ∷ [])
    ∷ []

-- the subcommands that ask the office
abbrev pub query_usages : List Usage
query_usages = (codes "queue", word_arguments (codes "arch" ∷ []))
    ∷ (codes "summary", word_arguments (codes "arch" ∷ []))
    ∷ (codes "by-state", word_arguments (codes "arch" ∷ codes "state" ∷ []))
    ∷ (codes "item", word_arguments (codes "arch" ∷ codes "source" ∷ []))
    ∷ (codes "depends", word_arguments (codes "arch" ∷ codes "source" ∷ []))
    ∷ (codes "mine", word_arguments (codes "builder" ∷ []))
    ∷ (codes "office", [])
    ∷ (codes "archs", [])
    ∷ (codes "builders", [])
    ∷ []

-- the subcommands that read files
abbrev pub list_usages : List Usage
list_usages = (codes "merge", (codes "sources", Word) ∷ (codes "parts", SomeWords) ∷ [])
    ∷ (codes "report", word_arguments (codes "arch" ∷ codes "file" ∷ []))
    ∷ []

-- all subcommands
unfoldable pub wb_usages : List Usage
wb_usages = operator_usages ++ builder_usages ++ query_usages ++ list_usages

-- the first usage of a subcommand
abbrev pub usage_named : Text → List Usage → Option Usage
usage_named name usages = find (λ usage. bytes_eq usage.0 name) usages

-- the arguments of a subcommand
abbrev pub arguments_named : Text → List Usage → Option (List Argument)
arguments_named name usages = option_map (λ usage. usage.1) (usage_named name usages)

-- a subcommand of this name asks the office
abbrev pub is_query : Text → Bool
is_query name = is_some (arguments_named name query_usages)

-- ---- the command line, as `clap` knows it

-- the rule of an argument
abbrev pub rule_for : Text → ArgumentKind → Rule
rule_for id Word = record (new_rule id) { required = true; action = Some Set }
rule_for id NamedWord = record (new_rule id) { long = Some id; action = Some Set }
rule_for id SomeWords = record (new_rule id) {
  required = true;
  action = Some Append;
  range = Some (record { start_inclusive = 1; end_inclusive = usize_max });
}
rule_for id AnyWords = record (new_rule id) {
  action = Some Append;
  range = Some (record { start_inclusive = 0; end_inclusive = usize_max });
}

-- a command with further arguments
abbrev pub with_arguments : App → List Argument → App
with_arguments app [] = app
with_arguments app (argument ∷ arguments) =
    with_arguments (with_rule app (rule_for argument.0 argument.1)) arguments

-- the subcommand of a usage
abbrev pub subcommand_shape : Usage → Shape
subcommand_shape usage = (with_arguments (new_app usage.0) usage.1).top

-- a command with further subcommands
abbrev pub with_usages : App → List Usage → App
with_usages app [] = app
with_usages app (usage ∷ usages) =
    with_usages (with_subcommand app (subcommand_shape usage)) usages

-- a command with the subcommands of a line
abbrev pub with_wb_usages : App → App
with_wb_usages app =
    with_usages (with_usages (with_usages (with_usages app operator_usages) builder_usages) query_usages) list_usages

-- a command whose first word is a subcommand, and which gives no help
abbrev pub bare_app : App
bare_app = record (new_app (codes "wb")) {
  top = record ((new_app (codes "wb")).top) {
    no_binary_name = true;
    disable_help_flag = true;
    disable_help_subcommand = true;
    subcommand_required = true;
  };
}

-- the command of a line, with all its subcommands
unfoldable pub wb_app : App
wb_app = with_wb_usages bare_app

-- a command that takes no subcommand and gives no help
abbrev pub bare_subcommand : Text → App
bare_subcommand name = record (new_app name) {
  top = record ((new_app name).top) {
    no_binary_name = true;
    disable_help_flag = true;
    disable_help_subcommand = true;
  };
}

-- the command of a line after its first word, which names the subcommand
abbrev pub subcommand_app : Usage → App
subcommand_app usage = with_arguments (bare_subcommand usage.0) usage.1
