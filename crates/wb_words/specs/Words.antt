-- What the words of a line ask of the office, as `clap` reads them.
use Rattle.std.specs.Prelude.{◌==◌, ℕ, ⊤, List, [], ◌∷◌, Option, Some, None, codes, if◌then◌else◌}
use Rattle.std.specs.Prelude.{option_and_then, option_map}
use Prim.Native.Char.{code}
use Rattle.std.specs.List.{slice_split}
use Rattle.std.specs.Option.{option_or}
use Rattle.std.specs.Str.{bytes_eq}
use Rattle.clap.specs.Words.{Kinds, Row, Text, fault_of, subcommand_of}
use Rattle.wb_states.specs.declared.command.Command.{Command}
use Rattle.wb_states.specs.Forms.{AddArch, AddBuilder, Attempted, BuildPriority, Built, DepWait}
use Rattle.wb_states.specs.Forms.{Enter, Fail, Forget, GiveBack, Next, NotForUs}
use Rattle.wb_states.specs.Forms.{PutBack, Rebuild, RemoveArch, RemoveBuilder, Take, Uploaded, Waits}
use Rattle.wb_states.specs.declared.query.Query.{Query}
use Rattle.wb_states.specs.declared.query.Query.TheVariants as query
use Rattle.wb_words.specs.Arguments.{integer_of, number_of, optional_number_of, parts_of, named_source_of, word_of}
use Rattle.wb_words.specs.Arguments.{words_of}
use Rattle.wb_words.specs.Escapes.{line_words}
use Rattle.wb_words.specs.Usages.{wb_app}
use Rattle.wb_words.specs.declared.words.Invocation.{Invocation}
use Rattle.wb_words.specs.declared.words.Invocation.TheVariants as invocation

-- ---- the commands of operators

-- to add an architecture
unfoldable pub add_arch_of : List Row → Option Command
add_arch_of rows = option_and_then (λ name. option_and_then (λ os. option_map (λ cpu.
    AddArch name os cpu)
    (word_of (codes "cpu") rows)) (word_of (codes "os") rows)) (word_of (codes "name") rows)

-- to add a builder
unfoldable pub add_builder_of : List Row → Option Command
add_builder_of rows = option_and_then (λ name. option_map (λ arch. AddBuilder name arch)
    (word_of (codes "arch") rows)) (word_of (codes "name") rows)

-- to take an architecture away
unfoldable pub remove_arch_of : List Row → Option Command
remove_arch_of rows = option_map (λ name. RemoveArch name) (word_of (codes "name") rows)

-- to let a builder build no more for an architecture
unfoldable pub remove_builder_of : List Row → Option Command
remove_builder_of rows = option_and_then (λ name. option_map (λ arch. RemoveBuilder name arch)
    (word_of (codes "arch") rows)) (word_of (codes "name") rows)

-- to enter a source package
unfoldable pub enter_of : List Row → Option Command
enter_of rows = option_and_then (λ subject. option_and_then (λ priority. option_map (λ section.
    Enter subject.arch subject.source subject.version priority section)
    (word_of (codes "section") rows)) (word_of (codes "priority") rows)) (named_source_of rows)

-- to put a source package back
unfoldable pub give_back_of : List Row → Option Command
give_back_of rows = option_map (λ subject.
    GiveBack subject.arch subject.source subject.version) (named_source_of rows)

-- to let a source package wait
unfoldable pub dep_wait_of : List Row → Option Command
dep_wait_of rows = option_map (λ subject. DepWait subject.arch subject.source subject.version
    (words_of (codes "relations") rows)) (named_source_of rows)

-- to say that a build failed
unfoldable pub fail_of : List Row → Option Command
fail_of rows = option_map (λ subject. Fail subject.arch subject.source subject.version
    (words_of (codes "note") rows)) (named_source_of rows)

-- to say that a source package is not to be built
unfoldable pub not_for_us_of : List Row → Option Command
not_for_us_of rows = option_map (λ subject. NotForUs subject.arch subject.source subject.version
    (words_of (codes "note") rows)) (named_source_of rows)

-- to build once more
unfoldable pub rebuild_of : List Row → Option Command
rebuild_of rows = option_and_then (λ subject. option_map (λ number.
    Rebuild subject.arch subject.source subject.version number
    (words_of (codes "message") rows)) (number_of (codes "number") rows)) (named_source_of rows)

-- to give a source package another build priority
unfoldable pub build_priority_of : List Row → Option Command
build_priority_of rows = option_and_then (λ subject. option_map (λ value.
    BuildPriority subject.arch subject.source subject.version value)
    (integer_of (codes "value") rows)) (named_source_of rows)

-- to take the record of a source package away
unfoldable pub forget_of : List Row → Option Command
forget_of rows = option_map (λ subject.
    Forget subject.arch subject.source subject.version) (named_source_of rows)

-- the operator's command of this name with these arguments
unfoldable pub operator_command : Text → List Row → Option Command
operator_command name rows = if bytes_eq name (codes "add-arch") then add_arch_of rows
    else (if bytes_eq name (codes "add-builder") then add_builder_of rows
    else (if bytes_eq name (codes "remove-arch") then remove_arch_of rows
    else (if bytes_eq name (codes "remove-builder") then remove_builder_of rows
    else (if bytes_eq name (codes "enter") then enter_of rows
    else (if bytes_eq name (codes "give-back") then give_back_of rows
    else (if bytes_eq name (codes "dep-wait") then dep_wait_of rows
    else (if bytes_eq name (codes "fail") then fail_of rows
    else (if bytes_eq name (codes "not-for-us") then not_for_us_of rows
    else (if bytes_eq name (codes "rebuild") then rebuild_of rows
    else (if bytes_eq name (codes "build-priority") then build_priority_of rows
    else (if bytes_eq name (codes "forget") then forget_of rows else None)))))))))))

-- ---- the commands of builders

-- to ask for the next source package to build
unfoldable pub next_of : List Row → Option Command
next_of rows = option_and_then (λ arch. option_and_then (λ builder. option_map (λ after.
    Next arch builder after)
    (optional_number_of (codes "after") rows)) (word_of (codes "builder") rows))
    (word_of (codes "arch") rows)

-- to take a source package of the queue
unfoldable pub take_of : List Row → Option Command
take_of rows = option_and_then (λ subject. option_map (λ builder.
    Take subject.arch builder subject.source subject.version)
    (word_of (codes "builder") rows)) (named_source_of rows)

-- to say that it was built
unfoldable pub built_of : List Row → Option Command
built_of rows = option_map (λ take_number. Built take_number) (number_of (codes "take") rows)

-- to say that it was uploaded
unfoldable pub uploaded_of : List Row → Option Command
uploaded_of rows = option_map (λ take_number. Uploaded take_number) (number_of (codes "take") rows)

-- to put what was taken back
unfoldable pub put_back_of : List Row → Option Command
put_back_of rows = option_map (λ take_number. PutBack take_number) (number_of (codes "take") rows)

-- to say what it waits for
unfoldable pub waits_of : List Row → Option Command
waits_of rows = option_map (λ take_number. Waits take_number (words_of (codes "relations") rows))
    (number_of (codes "take") rows)

-- to report a failed build
unfoldable pub attempted_of : List Row → Option Command
attempted_of rows = option_map (λ take_number. Attempted take_number (words_of (codes "reason") rows))
    (number_of (codes "take") rows)

-- the builder's command of this name with these arguments
unfoldable pub builder_command : Text → List Row → Option Command
builder_command name rows = if bytes_eq name (codes "next") then next_of rows
    else (if bytes_eq name (codes "take") then take_of rows
    else (if bytes_eq name (codes "built") then built_of rows
    else (if bytes_eq name (codes "uploaded") then uploaded_of rows
    else (if bytes_eq name (codes "put-back") then put_back_of rows
    else (if bytes_eq name (codes "waits") then waits_of rows
    else (if bytes_eq name (codes "attempted") then attempted_of rows else None))))))

-- ---- what asks the office

-- the query that a word is asked with
abbrev pub query_of : (List ℕ → Query) → Text → List Row → Option Query
query_of asks id rows = option_map asks (word_of id rows)

-- the query that an architecture and another word are asked with
abbrev pub arch_query_of : (List ℕ → List ℕ → Query) → Text → List Row → Option Query
arch_query_of asks id rows = option_and_then (λ arch. query_of (asks arch) id rows) (word_of (codes "arch") rows)

-- the query of this name with these arguments
unfoldable pub query_named : Text → List Row → Option Query
query_named name rows = if bytes_eq name (codes "queue") then query_of (λ arch. query.Queue arch) (codes "arch") rows
    else (if bytes_eq name (codes "summary") then query_of (λ arch. query.Summary arch) (codes "arch") rows
    else (if bytes_eq name (codes "by-state") then arch_query_of (λ arch state. query.ByState arch state) (codes "state") rows
    else (if bytes_eq name (codes "item") then arch_query_of (λ arch source. query.Item arch source) (codes "source") rows
    else (if bytes_eq name (codes "depends") then arch_query_of (λ arch source. query.Depends arch source) (codes "source") rows
    else (if bytes_eq name (codes "mine") then query_of (λ builder. query.Mine builder) (codes "builder") rows
    else (if bytes_eq name (codes "office") then Some query.Office
    else (if bytes_eq name (codes "archs") then Some query.Archs
    else (if bytes_eq name (codes "builders") then Some query.Builders else None))))))))

-- what the subcommand of this name asks for with these arguments, if it asks the office
abbrev pub query_invocation : Text → List Row → Option Invocation
query_invocation name rows = option_map (λ asked. invocation.Query asked) (query_named name rows)

-- ---- what reads files

-- to merge the lists in files
unfoldable pub merge_of : List Row → Option Invocation
merge_of rows = option_and_then (λ sources. option_map (λ parts. invocation.Merge sources parts)
    (parts_of (codes "parts") rows)) (word_of (codes "sources") rows)

-- to carry out the report of an architecture in a file
unfoldable pub report_of : List Row → Option Invocation
report_of rows = option_and_then (λ arch. option_map (λ file. invocation.Report arch file)
    (word_of (codes "file") rows)) (word_of (codes "arch") rows)

-- what the subcommand of this name, one that reads files, asks for with these arguments
unfoldable pub list_invocation : Text → List Row → Option Invocation
list_invocation name rows = if bytes_eq name (codes "merge") then merge_of rows
    else (if bytes_eq name (codes "report") then report_of rows else None)

-- ---- what a line asks for

-- the command of this name with these arguments
unfoldable pub command_named : Text → List Row → Option Command
command_named name rows = option_or (operator_command name rows) (builder_command name rows)

-- a command, or if there is none what else is asked for
abbrev pub or_asked : Option Command → Option Invocation → Option Invocation
or_asked (Some command) next = Some (invocation.Command command)
or_asked None next = next

-- what the subcommand of this name asks for with these arguments, if it is no command
unfoldable pub other_invocation : Text → List Row → Option Invocation
other_invocation name rows = option_or (query_invocation name rows) (list_invocation name rows)

-- what the subcommand of this name asks for with these arguments
unfoldable pub invocation_named : Text × List Row → Option Invocation
invocation_named named = or_asked (command_named named.0 named.1) (other_invocation named.0 named.1)

-- what is asked for, if the words have no fault
abbrev pub unless_faulty : Kinds → Option Invocation → Option Invocation
unless_faulty [] invocation = invocation
unless_faulty (kind ∷ kinds) invocation = None

-- what words ask for, as `clap` reads them
unfoldable pub invocation_read : List Text → Option Invocation
invocation_read words = unless_faulty (fault_of wb_app words)
    (option_and_then invocation_named (subcommand_of wb_app words))

-- what the words of a line ask for
unfoldable pub invocation_in : List Text → Option Invocation
invocation_in words = invocation_read (line_words words)

-- what is asked for is a query
abbrev pub IsQuery : Invocation → Type 0
IsQuery (invocation.Command command) = ⊥
IsQuery (invocation.Query asked) = ⊤
IsQuery (invocation.Merge sources parts) = ⊥
IsQuery (invocation.Report arch file) = ⊥

-- what a text asks for, its words separated by single spaces
abbrev pub invocation_by : Text → Option Invocation
invocation_by text = invocation_in (slice_split (λ c. c == code " ") text)
