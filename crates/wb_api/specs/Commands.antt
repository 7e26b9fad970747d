-- The commands that bodies give: JSON objects (RFC 8259). Further keys are ignored.
use Rattle.std.specs.Prelude.{ℕ, ℤ, List, Option, None, Some, option_and_then, option_map, is_some, codes, if◌then◌else◌, IsTrue, Result, Ok, Err}
use Rattle.std.specs.Str.{is_utf8}
use Rattle.serde_json.specs.Data.{Data}
use Rattle.serde_json.specs.Find.{as_i64, as_null, as_number, as_str, as_u64, get}
use Rattle.serde_json.specs.Read.{read}
use Rattle.wb_states.specs.declared.command.Command.{Command}
use Rattle.wb_states.specs.Forms as form
use Rattle.wb_api.specs.declared.command.NamedSource.{NamedSource}
use Rattle.wb_streams.specs.declared.fault.Fault.{Fault}
use Rattle.wb_streams.specs.declared.fault.Fault.TheVariants.{BadBody}
use Rattle.wb_api.specs.declared.route.CommandKind.{CommandKind}
use Rattle.wb_api.specs.declared.route.CommandKind.TheVariants.{AddArch, AddBuilder, RemoveArch, RemoveBuilder, Enter}
use Rattle.wb_api.specs.declared.route.CommandKind.TheVariants.{Next, Take, Built, Uploaded, Waits, PutBack, Attempted}
use Rattle.wb_api.specs.declared.route.CommandKind.TheVariants.{GiveBack, DepWait, Fail, NotForUs, Rebuild}
use Rattle.wb_api.specs.declared.route.CommandKind.TheVariants.{BuildPriority, Forget, Report}

-- the text under a key
abbrev pub text_in : List ℕ → Data → Option (List ℕ)
text_in key body = option_and_then as_str (get key body)

-- a whole number from 0 to 2^64 - 1, in digits alone
abbrev pub as_whole : Data → Option ℕ
as_whole value = option_and_then as_u64 (as_number value)

-- the whole number under a key
abbrev pub number_in : List ℕ → Data → Option ℕ
number_in key body = option_and_then as_whole (get key body)

-- an integer from -2^63 to 2^63 - 1, in digits alone or after a minus sign, but for -0
abbrev pub as_integer : Data → Option ℤ
as_integer value = option_and_then as_i64 (as_number value)

-- the integer under a key
abbrev pub integer_in : List ℕ → Data → Option ℤ
integer_in key body = option_and_then as_integer (get key body)

-- a whole number, or null for none
abbrev pub as_whole_or_null : Data → Option (Option ℕ)
as_whole_or_null value = if is_some (as_null value) then Some None else option_map (λ n. Some n) (as_whole value)

-- a value, if it is there, read as it has to be
abbrev pub if_there : Option Data → Option (Option ℕ)
if_there None = Some None
if_there (Some value) = as_whole_or_null value

-- the number under a key, or none if the key is missing or has null
abbrev pub number_or_none_in : List ℕ → Data → Option (Option ℕ)
number_or_none_in key body = if_there (get key body)

-- an architecture, a source package and a version
pub record Named : Type 0 where
  pub arch : List ℕ
  pub source : List ℕ
  pub version : List ℕ

-- what stands in a body, as texts
abbrev pub named_source_of : NamedSource → Named
named_source_of subject = record { arch = subject.arch.now; source = subject.source.now; version = subject.version.now }

-- the architecture, the source package and the version that a body names
unfoldable pub named_source_in : Data → Option Named
named_source_in body = option_and_then (λ arch. option_and_then (λ source. option_map (λ version.
    record { arch = arch; source = source; version = version })
    (text_in (codes "version") body)) (text_in (codes "source") body)) (text_in (codes "arch") body)

-- to add an architecture
unfoldable pub add_arch_in : Data → Option Command
add_arch_in body = option_and_then (λ name. option_and_then (λ os. option_map (λ cpu.
    form.AddArch name os cpu)
    (text_in (codes "cpu") body)) (text_in (codes "os") body)) (text_in (codes "name") body)

-- to let a builder build for an architecture
unfoldable pub add_builder_in : Data → Option Command
add_builder_in body = option_and_then (λ name. option_map (λ arch. form.AddBuilder name arch)
    (text_in (codes "arch") body)) (text_in (codes "name") body)

-- to take an architecture away
unfoldable pub remove_arch_in : Data → Option Command
remove_arch_in body = option_map (λ name. form.RemoveArch name) (text_in (codes "name") body)

-- to let a builder build no more for an architecture
unfoldable pub remove_builder_in : Data → Option Command
remove_builder_in body = option_and_then (λ name. option_map (λ arch. form.RemoveBuilder name arch)
    (text_in (codes "arch") body)) (text_in (codes "name") body)

-- to enter a source package
unfoldable pub enter_in : Data → Option Command
enter_in body = option_and_then (λ subject. option_and_then (λ priority. option_map (λ section.
    form.Enter subject.arch subject.source subject.version priority section)
    (text_in (codes "section") body)) (text_in (codes "priority") body)) (named_source_in body)

-- to ask for the next source package to build
unfoldable pub next_in : Data → Option Command
next_in body = option_and_then (λ arch. option_and_then (λ builder. option_map (λ after.
    form.Next arch builder after)
    (number_or_none_in (codes "after") body)) (text_in (codes "builder") body)) (text_in (codes "arch") body)

-- to take a source package of the queue
unfoldable pub take_in : Data → Option Command
take_in body = option_and_then (λ subject. option_map (λ builder.
    form.Take subject.arch builder subject.source subject.version)
    (text_in (codes "builder") body)) (named_source_in body)

-- to say what a source package that is held waits for
unfoldable pub waits_in : Data → Option Command
waits_in body = option_and_then (λ take_number. option_map (λ relations. form.Waits take_number relations)
    (text_in (codes "relations") body)) (number_in (codes "take") body)

-- to report that the build of a source package that is held failed
unfoldable pub attempted_in : Data → Option Command
attempted_in body = option_and_then (λ take_number. option_map (λ reason. form.Attempted take_number reason)
    (text_in (codes "reason") body)) (number_in (codes "take") body)

-- to put a source package back
unfoldable pub give_back_in : Data → Option Command
give_back_in body = option_map (λ subject. form.GiveBack subject.arch subject.source subject.version) (named_source_in body)

-- to let a source package wait
unfoldable pub dep_wait_in : Data → Option Command
dep_wait_in body = option_and_then (λ subject. option_map (λ relations.
    form.DepWait subject.arch subject.source subject.version relations)
    (text_in (codes "relations") body)) (named_source_in body)

-- to say that a build failed
unfoldable pub fail_in : Data → Option Command
fail_in body = option_and_then (λ subject. option_map (λ note.
    form.Fail subject.arch subject.source subject.version note)
    (text_in (codes "note") body)) (named_source_in body)

-- to say that a source package is not to be built
unfoldable pub not_for_us_in : Data → Option Command
not_for_us_in body = option_and_then (λ subject. option_map (λ note.
    form.NotForUs subject.arch subject.source subject.version note)
    (text_in (codes "note") body)) (named_source_in body)

-- to build once more
unfoldable pub rebuild_in : Data → Option Command
rebuild_in body = option_and_then (λ subject. option_and_then (λ number. option_map (λ message.
    form.Rebuild subject.arch subject.source subject.version number message)
    (text_in (codes "message") body)) (number_in (codes "number") body)) (named_source_in body)

-- to give a source package another build priority
unfoldable pub build_priority_in : Data → Option Command
build_priority_in body = option_and_then (λ subject. option_map (λ value.
    form.BuildPriority subject.arch subject.source subject.version value)
    (integer_in (codes "value") body)) (named_source_in body)

-- to take the record of a source package away
unfoldable pub forget_in : Data → Option Command
forget_in body = option_map (λ subject. form.Forget subject.arch subject.source subject.version) (named_source_in body)

-- to report which source packages have what they need to be built
unfoldable pub report_in : Data → Option Command
report_in body = option_and_then (λ arch. option_map (λ text. form.Report arch text)
    (text_in (codes "text") body)) (text_in (codes "arch") body)

-- the command of this kind that a body gives
abbrev pub command_in : CommandKind → Data → Option Command
command_in AddArch body = add_arch_in body
command_in AddBuilder body = add_builder_in body
command_in RemoveArch body = remove_arch_in body
command_in RemoveBuilder body = remove_builder_in body
command_in Enter body = enter_in body
command_in Next body = next_in body
command_in Take body = take_in body
command_in Built body = option_map (λ take_number. form.Built take_number) (number_in (codes "take") body)
command_in Uploaded body = option_map (λ take_number. form.Uploaded take_number) (number_in (codes "take") body)
command_in Waits body = waits_in body
command_in PutBack body = option_map (λ take_number. form.PutBack take_number) (number_in (codes "take") body)
command_in Attempted body = attempted_in body
command_in GiveBack body = give_back_in body
command_in DepWait body = dep_wait_in body
command_in Fail body = fail_in body
command_in NotForUs body = not_for_us_in body
command_in Rebuild body = rebuild_in body
command_in BuildPriority body = build_priority_in body
command_in Forget body = forget_in body
command_in Report body = report_in body

-- the value that bytes write in JSON (RFC 8259), with at most 127 levels
unfoldable pub json_of : List ℕ → Option Data
json_of bytes = if is_utf8 bytes then read bytes else None

-- bytes that are read for a value, which takes memory
abbrev pub IsText : List ℕ → Type 0
IsText bytes = IsTrue (is_utf8 bytes)

-- the value of a build priority in the bytes of a body
abbrev pub value_in : List ℕ → Option ℤ
value_in bytes = option_and_then (integer_in (codes "value")) (json_of bytes)

-- what is there, or the fault of a body
abbrev pub or_bad_body : {X : Type 0} → Option X → Result X Fault
or_bad_body None = Err BadBody
or_bad_body (Some x) = Ok x

-- the command of this kind that the bytes of a body give
unfoldable pub command_of : CommandKind → List ℕ → Result Command Fault
command_of kind bytes = or_bad_body (option_and_then (command_in kind) (json_of bytes))
