-- The checks of a command, in the one order in which they are answered.
use Rattle.std.specs.Prelude.{◌≡◌, ℕ, ℤ, Bool, true, false, not, ◌||◌, ◌&&◌, nat_le, nat_lt, nat_eq, List, [], ◌∷◌}
use Rattle.std.specs.Prelude.{length, bytes_eq, Option, Some, None, is_none, is_some, option_and_then, if◌then◌else◌}
use Rattle.std.specs.Result.{result_err}
use Rattle.std.specs.Option.{option_map, option_or}
use Rattle.std.specs.List.{list_any}
use Rattle.std.specs.Ordering.{is_eq}
use Rattle.std.specs.FinMap as map
use Rattle.std.specs.FinSet as set
use Rattle.deb_version.specs.declared.fault.VersionFault.{VersionFault}
use Rattle.deb_version.specs.Order.{version_cmp}
use Rattle.deb_version.specs.Syntax.{fault_of}
use Rattle.deb_version.specs.declared.fault.VersionFault.TheVariants.{Memory as NoMemory}
use Rattle.deb_relations.specs.declared.fault.RelationFault.{RelationFault}
use Rattle.deb_relations.specs.Reading.{reading_of}
use Rattle.wb_states.specs.declared.command.Command.{Command}
use Rattle.wb_states.specs.declared.command.Merge.{Merge}
use Rattle.wb_states.specs.declared.command.Part.{Part}
use Rattle.wb_states.specs.declared.record.Record.{Record}
use Rattle.wb_states.specs.declared.refusal.Refusal.{Refusal}
use Rattle.wb_states.specs.declared.refusal.Refusal.TheVariants.{UnknownArch, UnknownBuilder, WrongArch, UnknownSource}
use Rattle.wb_states.specs.declared.refusal.Refusal.TheVariants.{OtherVersion, QueueEmpty, NotHeld, AfterAhead}
use Rattle.wb_states.specs.declared.refusal.Refusal.TheVariants.{AlreadyThere, BadName, BadVersion, BadRelations}
use Rattle.wb_states.specs.declared.refusal.Refusal.TheVariants.{BadNumber, BadReport, TextTooLong, Spent, RepeatedArch}
use Rattle.wb_states.specs.declared.refusal.Refusal.TheVariants.{StillHeld, Memory}
use Rattle.wb_states.specs.Holds.{is_held_by, taken_as}
use Rattle.deb_text.specs.Options.{has_value, first_some}
use Rattle.wb_states.specs.Limits.{count_limit, is_build_priority, note_limit, rebuild_limit, relations_limit}
use Rattle.wb_states.specs.Machine.{Machine, is_unknown_arch, is_unknown_builder}
use Rattle.wb_states.specs.Moves.{move_refusal}
use Rattle.deb_relations.specs.Names.{is_package_name}
use Rattle.wb_states.specs.Names.{has_bad_key, is_arch_name, is_os_cpu_word, is_builder_name, is_label_text}
use Rattle.wb_states.specs.Queue.{Entry, head_of}
use Rattle.wb_states.specs.Subject.{Subject, Nothing, Source, Taken, Head, Held, subject_of}
use Rattle.wb_step.specs.Arguments.{Addition, Arch, Builder, Package, Removal, OfArch, OfBuilder, OfPackage, Import}
use Rattle.wb_step.specs.Arguments.{Lists, Lines, arguments_of}
use Rattle.wb_step.specs.Targets.{again_of, next_named, transition_of}
use Rattle.wb_merge.specs.Report.{first_bad_line, lines_in, report_takes_memory}
use Rattle.wb_step.specs.Parts.{parts_refusal}

-- a refusal if a test holds
abbrev pub when : Bool → Refusal → Option Refusal
when true refusal = Some refusal
when false refusal = None

-- ---- the forms of texts

-- an architecture with the words of its operating system and its processor, of which one is malformed
abbrev pub has_bad_arch : List ℕ → List ℕ → List ℕ → Bool
has_bad_arch name os cpu = not (is_arch_name name && (is_os_cpu_word os && is_os_cpu_word cpu))

-- a builder and an architecture, of which one is malformed
abbrev pub has_bad_builder : List ℕ → List ℕ → Bool
has_bad_builder builder arch = not (is_builder_name builder && is_arch_name arch)

-- a source package that is entered, of which a name, the priority or the section is malformed
abbrev pub has_bad_entry : List ℕ → List ℕ → List ℕ → List ℕ → Bool
has_bad_entry arch source priority section =
    not (is_arch_name arch && (is_package_name source && (is_label_text priority && is_label_text section)))

-- an architecture and a builder that asks for its head, of which one is malformed
abbrev pub has_bad_request : List ℕ → List ℕ → Bool
has_bad_request arch builder = not (is_arch_name arch && is_builder_name builder)

-- an architecture, a builder and the source package that it takes, of which one is malformed
abbrev pub has_bad_take : List ℕ → List ℕ → List ℕ → Bool
has_bad_take arch builder source = not (is_arch_name arch && (is_builder_name builder && is_package_name source))

-- a part of which the architecture is malformed
abbrev pub has_bad_part : List Part → Bool
has_bad_part parts = list_any (λ part. not (is_arch_name part.arch)) parts

-- the refusal of a version that is malformed
abbrev pub version_refusal : List ℕ → Option Refusal
version_refusal version = option_map BadVersion (fault_of version)

-- the fault of relations that cannot be read
abbrev pub relations_fault : List ℕ → Option RelationFault
relations_fault relations = result_err (reading_of relations)

-- the refusal of relations that cannot be read
abbrev pub relations_refusal : List ℕ → Option Refusal
relations_refusal relations = option_map (λ fault. BadRelations (Some fault)) (relations_fault relations)

-- the refusal of an architecture, a source package and a version of which one is malformed
abbrev pub key_refusal : List ℕ → List ℕ → List ℕ → Option Refusal
key_refusal arch source version = first_some (when (has_bad_key arch source) BadName ∷ version_refusal version ∷ [])

-- a number that no binary-only rebuild has
abbrev pub is_bad_number : ℕ → Bool
is_bad_number number = nat_eq number 0 || nat_lt rebuild_limit number

-- a number that no build priority is
abbrev pub is_bad_priority : ℤ → Bool
is_bad_priority value = not (is_build_priority value)

-- a note, a reason or a message that is too long
abbrev pub is_long_text : List ℕ → Bool
is_long_text text = nat_lt note_limit (length text)

-- the refusal of the texts by which a source package is set aside: one of its key is malformed, or the note is too long
abbrev pub aside_refusal : List ℕ → List ℕ → List ℕ → List ℕ → Option Refusal
aside_refusal arch source version note =
    first_some (when (has_bad_key arch source) BadName ∷ version_refusal version ∷ when (is_long_text note) TextTooLong ∷ [])

-- the refusal of a report for its first bad line
abbrev pub report_refusal : List ℕ → Option Refusal
report_refusal text = option_map BadReport (first_bad_line [] (lines_in text))

-- two parts are for one architecture
abbrev pub has_repeated_arch : List Part → Bool
has_repeated_arch [] = false
has_repeated_arch (part ∷ parts) = list_any (λ other. bytes_eq part.arch other.arch) parts || has_repeated_arch parts

-- ---- the forms of a command's texts

-- what is added has a name, a priority or a section that is malformed
abbrev pub has_bad_form : Addition → Bool
has_bad_form (Arch fields) = has_bad_arch fields.name fields.os fields.cpu
has_bad_form (Builder fields) = has_bad_builder fields.name fields.arch
has_bad_form (Package fields) = has_bad_entry fields.arch fields.source fields.priority fields.section

-- what is taken away has a name that is malformed
abbrev pub has_bad_removal : Removal → Bool
has_bad_removal (OfArch fields) = not (is_arch_name fields.name)
has_bad_removal (OfBuilder fields) = has_bad_builder fields.name fields.arch
has_bad_removal (OfPackage fields) = has_bad_key fields.arch fields.source

-- a name by which records are named is malformed, of a source package or of a queue, or that of the builder that asks
abbrev pub has_bad_subject : Subject → Option (List ℕ) → Bool
has_bad_subject Nothing builder = false
has_bad_subject (Source arch source) None = has_bad_key arch source
has_bad_subject (Source arch source) (Some builder) = has_bad_take arch builder source
has_bad_subject (Taken take_number) builder = false
has_bad_subject (Head next) builder = has_bad_request next.arch next.builder
has_bad_subject (Held name) builder = false

-- the architecture of a part of a merge, or of a report, is malformed
abbrev pub has_bad_arch_name : Import → Bool
has_bad_arch_name (Lists merge) = has_bad_part merge.parts
has_bad_arch_name (Lines report) = not (is_arch_name report.arch)

-- a name, a priority or a section is malformed of what is added, of what is taken away, of what is imported, or else of
-- what is named
abbrev pub has_bad_name_by : Option Addition → Option Removal → Option Import → Subject → Option (List ℕ) → Bool
has_bad_name_by (Some added) removed imports subject builder = has_bad_form added
has_bad_name_by None (Some removed) imports subject builder = has_bad_removal removed
has_bad_name_by None None (Some imported) subject builder = has_bad_arch_name imported
has_bad_name_by None None None subject builder = has_bad_subject subject builder

-- a name, a priority or a section of the command is malformed
abbrev pub has_bad_name : Command → Bool
has_bad_name command =
    has_bad_name_by (arguments_of command).adds (arguments_of command).removes (arguments_of command).imports
    (subject_of command)
    (arguments_of command).builder

-- the fault of the command's version
abbrev pub version_fault : Command → Option VersionFault
version_fault command = option_and_then fault_of (arguments_of command).version

-- the fault of the command's relations
abbrev pub relation_fault : Command → Option RelationFault
relation_fault command = option_and_then relations_fault (arguments_of command).relations

-- the refusal of the command's relations, if they cannot be read
abbrev pub refused_relations : Command → Option Refusal
refused_relations command = option_map (λ fault. BadRelations (Some fault)) (relation_fault command)

-- the number is that of no binary-only rebuild, or out of the range of build priorities
abbrev pub has_bad_number : Command → Bool
has_bad_number command =
    has_value is_bad_priority (arguments_of command).build_priority || has_value is_bad_number (arguments_of command).number

-- a note, a reason or a message is too long
abbrev pub has_long_text : Command → Bool
has_long_text command = has_value is_long_text (arguments_of command).text

-- the refusal of what is imported for a line of a report
abbrev pub lines_refusal : Import → Option Refusal
lines_refusal (Lists merge) = None
lines_refusal (Lines report) = report_refusal report.text

-- the refusal of the command's report, if it has a bad line
abbrev pub refused_report : Command → Option Refusal
refused_report command = option_and_then lines_refusal (arguments_of command).imports

-- two parts of a merge are for one architecture
abbrev pub has_repeated_part : Import → Bool
has_repeated_part (Lists merge) = has_repeated_arch merge.parts
has_repeated_part (Lines report) = false

-- two parts of the command are for one architecture
abbrev pub repeats_arch : Command → Bool
repeats_arch command = has_value has_repeated_part (arguments_of command).imports

-- ---- what the office has

-- the builder was not added for the architecture
abbrev pub is_for_others : Machine → List ℕ → List ℕ → Bool
is_for_others machine arch builder = not (set.contains machine.builders (builder, arch))

-- the refusal of a builder that may not build for the architecture
unfoldable pub builder_refusal : Machine → List ℕ → List ℕ → Option Refusal
builder_refusal machine arch builder =
    first_some (
    when (is_unknown_arch machine arch) UnknownArch
    ∷ when (is_unknown_builder machine builder) UnknownBuilder
    ∷ when (is_for_others machine arch builder) WrongArch
    ∷ [])

-- a take number, or none, that was not given yet
abbrev pub is_number_ahead : Machine → Option ℕ → Bool
is_number_ahead machine after = has_value (nat_lt machine.handed) after

-- the source package has no record on the architecture
abbrev pub is_unknown_source : Machine → List ℕ × List ℕ → Bool
is_unknown_source machine key = not (map.contains_key machine.records key)

-- the refusal of a record of a version that differs in the order of versions (Debian Policy 5.6.12)
abbrev pub differing : List ℕ → Record → Option Refusal
differing version current =
    if is_eq (version_cmp version current.version) then None else Some (OtherVersion current.version)

-- the refusal of a source package on an architecture whose record, if it has one, is of another version
abbrev pub other_version_at : Machine → List ℕ × List ℕ → List ℕ → Option Refusal
other_version_at machine key version = option_and_then (differing version) (map.get machine.records key)

-- the refusal of a source package without a record, or with one of another version
abbrev pub found_refusal : Machine → List ℕ → List ℕ → List ℕ → Option Refusal
found_refusal machine arch source version =
    first_some (
    when (is_unknown_source machine (arch, source)) UnknownSource
    ∷ other_version_at machine (arch, source) version
    ∷ [])

-- ---- the same of a command

-- it names an architecture that was never added
abbrev pub lacks_arch : Machine → Command → Bool
lacks_arch machine command = has_value (is_unknown_arch machine) (arguments_of command).arch

-- the refusal of the lists of a merge, of which no part can be merged
abbrev pub lists_refusal : Machine → Import → Option Refusal
lists_refusal machine (Lists merge) = parts_refusal machine merge.sources merge.parts
lists_refusal machine (Lines report) = None

-- no part of a merge can be merged
abbrev pub merge_refusal : Machine → Command → Option Refusal
merge_refusal machine command = option_and_then (lists_refusal machine) (arguments_of command).imports

-- the builder that is taken from an architecture, or else this one
abbrev pub builder_in : Option Removal → Option (List ℕ) → Option (List ℕ)
builder_in (Some (OfBuilder fields)) builder = Some fields.name
builder_in removed builder = builder

-- the builder that must build for its architecture: the one that is handed a record, or that is taken from there
abbrev pub builder_named : Command → Option (List ℕ)
builder_named command = builder_in (arguments_of command).removes (arguments_of command).builder

-- its builder was added for no architecture
abbrev pub lacks_builder : Machine → Command → Bool
lacks_builder machine command = has_value (is_unknown_builder machine) (builder_named command)

-- its builder was not added for its architecture
abbrev pub is_for_other_archs : Machine → Command → Bool
is_for_other_archs machine command =
    has_value (λ arch. has_value (is_for_others machine arch) (builder_named command)) (arguments_of command).arch

-- it asks after a take number that was not given yet
abbrev pub is_ahead : Machine → Command → Bool
is_ahead machine command = has_value (λ next. is_number_ahead machine next.after) (next_named command)

-- the take number that what is named has
abbrev pub take_in : Subject → Option ℕ
take_in (Taken take_number) = Some take_number
take_in subject = None

-- the take number that the command names
abbrev pub take_named : Command → Option ℕ
take_named command = take_in (subject_of command)

-- no record is held under its take number (this project's own)
abbrev pub is_not_held : Machine → Command → Bool
is_not_held machine command = has_value (λ take_number. is_none (taken_as machine take_number)) (take_named command)

-- the source package of which a record must be there: the one that is named, unless it is added
abbrev pub source_in : Subject → Option Addition → Option (List ℕ × List ℕ)
source_in (Source arch source) None = Some (arch, source)
source_in subject added = None

-- the record that the command moves, gives a build priority or takes away, by its architecture and source package
abbrev pub source_named : Command → Option (List ℕ × List ℕ)
source_named command = source_in (subject_of command) (arguments_of command).adds

-- there is no record that the command could move, give a build priority or take away
abbrev pub lacks_source : Machine → Command → Bool
lacks_source machine command = has_value (is_unknown_source machine) (source_named command)

-- the record that the command names is of another version
abbrev pub other_version : Machine → Command → Option Refusal
other_version machine command =
    option_and_then (λ version. option_and_then (λ key. other_version_at machine key version) (source_named command))
    (arguments_of command).version

-- the record that it moves is not in a state from which the move goes, or else the move's relations or number are
-- refused
abbrev pub refused_move : Machine → Command → Option Refusal
refused_move machine command = option_and_then (λ asked. move_refusal asked.1 asked.0.1) (transition_of machine command)

-- it asks for the head of a queue that is empty, and what its builder builds is not reported again
abbrev pub has_empty_queue : Machine → Command → Bool
has_empty_queue machine command =
    has_value (λ next. is_none (again_of machine command) && is_none (head_of machine next.arch)) (next_named command)

-- what is added is there already: the architecture, the builder on the architecture, or the record
abbrev pub is_there : Machine → Addition → Bool
is_there machine (Arch fields) = map.contains_key machine.archs fields.name
is_there machine (Builder fields) = set.contains machine.builders (fields.name, fields.arch)
is_there machine (Package fields) = map.contains_key machine.records (fields.arch, fields.source)

-- what it adds is there already
abbrev pub is_there_already : Machine → Command → Bool
is_there_already machine command = has_value (is_there machine) (arguments_of command).adds

-- a record of the architecture
abbrev pub is_on : List ℕ → Entry → Bool
is_on arch entry = bytes_eq entry.0.0 arch

-- a record that a builder holds
abbrev pub has_holder : Record → Bool
has_holder current = is_some current.holder

-- a record of the architecture that the builder holds
abbrev pub is_held_on : List ℕ → List ℕ → Entry → Bool
is_held_on arch builder entry = is_on arch entry && is_held_by builder entry

-- a builder holds what is taken away: a record of the architecture, one of the architecture that the builder holds, or
-- the record of the source package
abbrev pub is_held : Machine → Removal → Bool
is_held machine (OfArch fields) = list_any (λ (entry : Entry). is_on fields.name entry && has_holder entry.1)
    (map.entries machine.records)
is_held machine (OfBuilder fields) = list_any (is_held_on fields.arch fields.name) (map.entries machine.records)
is_held machine (OfPackage fields) = has_value has_holder (map.get machine.records (fields.arch, fields.source))

-- what it takes away is held
abbrev pub is_still_held : Machine → Command → Bool
is_still_held machine command = has_value (is_held machine) (arguments_of command).removes

-- a count is at its limit: that of accepted commands, or for a builder that of take numbers
abbrev pub has_full_count : Machine → Option (List ℕ) → Bool
has_full_count machine None = nat_le count_limit machine.accepted
has_full_count machine (Some builder) = nat_le count_limit machine.accepted || nat_le count_limit machine.handed

-- a count that it would raise is at its limit
abbrev pub is_spent : Machine → Command → Bool
is_spent machine command = is_none (again_of machine command) && has_full_count machine (arguments_of command).builder

-- ---- the one order

-- the checks of a command's texts, in the one order
abbrev pub text_checks : Command → List (Option Refusal)
text_checks command =
    when (has_bad_name command) BadName
    ∷ option_map BadVersion (version_fault command)
    ∷ refused_relations command
    ∷ when (has_bad_number command) BadNumber
    ∷ when (has_long_text command) TextTooLong
    ∷ refused_report command
    ∷ when (repeats_arch command) RepeatedArch
    ∷ []

-- the refusal of a command's texts, the first in the one order
unfoldable pub text_refusal : Command → Option Refusal
text_refusal command = first_some (text_checks command)

-- the checks of a command against what the office has, in the one order
abbrev pub state_checks : Machine → Command → List (Option Refusal)
state_checks machine command =
    when (lacks_arch machine command) UnknownArch
    ∷ merge_refusal machine command
    ∷ when (lacks_builder machine command) UnknownBuilder
    ∷ when (is_for_other_archs machine command) WrongArch
    ∷ when (is_ahead machine command) (AfterAhead machine.handed)
    ∷ when (is_not_held machine command) NotHeld
    ∷ when (lacks_source machine command) UnknownSource
    ∷ other_version machine command
    ∷ refused_move machine command
    ∷ when (has_empty_queue machine command) QueueEmpty
    ∷ when (is_there_already machine command) AlreadyThere
    ∷ when (is_still_held machine command) StillHeld
    ∷ when (is_spent machine command) Spent
    ∷ []

-- the refusal of a command by what the office has, the first in the one order
unfoldable pub state_refusal : Machine → Command → Option Refusal
state_refusal machine command = first_some (state_checks machine command)

-- the refusal of a command, the first in the one order, or none if it is accepted
unfoldable pub first_refusal : Machine → Command → Option Refusal
first_refusal machine command = option_or (text_refusal command) (state_refusal machine command)

-- the relations that the command brings are longer than any that are read
abbrev pub has_long_relations : Command → Bool
has_long_relations command = has_value (λ relations. nat_lt relations_limit (length relations)) (arguments_of command).relations

-- the refusal of a report for a bad line, if no line of it can be read
abbrev pub unread_lines : Import → Option Refusal
unread_lines (Lists merge) = None
unread_lines (Lines report) = if report_takes_memory report.text then None else report_refusal report.text

-- the refusal of the command's report for a bad line, if no line of it can be read
abbrev pub unread_report : Command → Option Refusal
unread_report command = option_and_then unread_lines (arguments_of command).imports

-- what is known of a command that may need memory: no check without memory refuses its texts
pub record MayWantMemory (command : Command) : Type 0 where
  pub names : has_bad_name command ≡ false
  pub version : version_fault command ≡ None
  pub relations : has_long_relations command ≡ false
  pub number : has_bad_number command ≡ false
  pub short : has_long_text command ≡ false
  pub parts : repeats_arch command ≡ false
  pub report : unread_report command ≡ None

-- the refusal of a version's fault: out of memory is no fault of the version
abbrev pub refusal_of_fault : VersionFault → Refusal
refusal_of_fault NoMemory = Memory
refusal_of_fault fault = BadVersion fault
