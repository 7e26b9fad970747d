-- What a command does to the office: the reply or the refusal, and the state after it.
use Rattle.std.specs.Prelude.{ℕ, ℤ, ◌+◌, not, bytes_eq, List, [], Option, Some, None, Result, Ok, Err}
use Rattle.std.specs.FinMap as map
use Rattle.std.specs.FinSet as set
use Rattle.wb_states.specs.declared.command.Command.{Command}
use Rattle.wb_states.specs.declared.moves.Move.{Move}
use Rattle.wb_states.specs.declared.record.Record.{Record}
use Rattle.wb_states.specs.declared.reply.Assignment.{Assignment}
use Rattle.wb_states.specs.declared.reply.Reply.{Reply}
use Rattle.wb_states.specs.declared.reply.Reply.TheVariants.{Done, Job, Again, Merged, Reported}
use Rattle.wb_states.specs.declared.refusal.Refusal.{Refusal}
use Rattle.wb_states.specs.Holds.{take_of}
use Rattle.wb_states.specs.Machine.{Machine}
use Rattle.wb_states.specs.Moves.{build_text_of, record_after_move}
use Rattle.wb_states.specs.Queue.{Entry}
use Rattle.wb_merge.specs.Merge.{blank_record}
use Rattle.wb_merge.specs.Merged.{Records}
use Rattle.wb_merge.specs.Report.{Lines as LinesOf, by_source, lines_in}
use Rattle.wb_merge.specs.Reported.{number_reported, records_reported}
use Rattle.wb_step.specs.Arguments.{Addition, Arch, Builder, Package, Removal, OfArch, OfBuilder, OfPackage, Import}
use Rattle.wb_step.specs.Arguments.{Lists, Lines, arguments_of}
use Rattle.wb_step.specs.Checks.{first_refusal, source_named}
use Rattle.wb_step.specs.Targets.{again_of, transition_of, target_of}
use Rattle.wb_step.specs.Parts.{part_replies, records_after}

-- the answer to a command, and the state after it
abbrev pub Outcome : Type 0
Outcome = Result Reply Refusal × Machine

-- ---- the state after a command that is accepted, but for the count of accepted commands

-- the record of a source package that is entered: it waits for its first build
abbrev pub entered : List ℕ → List ℕ → List ℕ → Record
entered version priority section =
    record (blank_record version) { priority = priority; section = section; depends = Some [] }

-- a record is moved
abbrev pub after_move : Machine → Option (Entry × Move) → Machine
after_move machine None = machine
after_move machine (Some asked) =
    record machine { records = map.insert machine.records asked.0.0 (record_after_move asked.1 asked.0.1) }

-- a record is moved under a new take number
abbrev pub after_take : Machine → Option (Entry × Move) → Machine
after_take machine asked = record (after_move machine asked) { handed = machine.handed + 1 }

-- a record that was found gets a build priority
abbrev pub after_priority : Machine → List ℕ × List ℕ → ℤ → Option Record → Machine
after_priority machine key value None = machine
after_priority machine key value (Some current) =
    record machine { records = map.insert machine.records key (record current { build_priority = value }) }

-- the state with what is added
abbrev pub after_adding : Machine → Addition → Machine
after_adding machine (Arch fields) =
    record machine { archs = map.insert machine.archs fields.name (record { os = fields.os; cpu = fields.cpu }) }
after_adding machine (Builder fields) = record machine { builders = set.insert machine.builders (fields.name, fields.arch) }
after_adding machine (Package fields) =
    record machine { records = map.insert machine.records (fields.arch, fields.source) (entered fields.version fields.priority fields.section) }

-- the state without what is taken away
abbrev pub after_removing : Machine → Removal → Machine
after_removing machine (OfArch fields) =
    record machine {
      records = map.retain_keys machine.records (λ key. not (bytes_eq key.0 fields.name));
      archs = map.remove machine.archs fields.name;
      builders = set.retain machine.builders (λ pair. not (bytes_eq pair.1 fields.name));
    }
after_removing machine (OfBuilder fields) = record machine
    { builders = set.remove machine.builders (fields.name, fields.arch) }
after_removing machine (OfPackage fields) = record machine
    { records = map.remove machine.records (fields.arch, fields.source) }

-- the state after a move, under a new take number if a builder is handed the record
abbrev pub after_moving : Machine → Option (List ℕ) → Option (Entry × Move) → Machine
after_moving machine None asked = after_move machine asked
after_moving machine (Some builder) asked = after_take machine asked

-- the record of a source package that is named gets a build priority
abbrev pub after_value : Machine → ℤ → Option (List ℕ × List ℕ) → Machine
after_value machine value None = machine
after_value machine value (Some key) = after_priority machine key value (map.get machine.records key)

-- the lines of a report that can be read, by their source packages
abbrev pub lines_said : List ℕ → LinesOf
lines_said text = by_source (lines_in text)

-- the records after what is imported: after the parts of a merge, or the lines of a report
abbrev pub records_imported : Machine → Import → Records
records_imported machine (Lists merge) = records_after machine merge.sources merge.parts machine.records
records_imported machine (Lines report) = records_reported machine.records report.arch (lines_said report.text)

-- the state after a command that adds this, or else takes this away, or else imports this, or else gives this build
-- priority, or else moves a record
abbrev pub state_by : Machine → Command → Option Addition → Option Removal → Option Import → Option ℤ → Machine
state_by machine command (Some added) removed imports value = after_adding machine added
state_by machine command None (Some removed) imports value = after_removing machine removed
state_by machine command None None (Some imported) value = record machine
    { records = records_imported machine imported }
state_by machine command None None None (Some value) = after_value machine value (source_named command)
state_by machine command None None None None = after_moving machine (arguments_of command).builder
    (transition_of machine command)

-- the state after a command
abbrev pub state_after : Machine → Command → Machine
state_after machine command =
    state_by machine command (arguments_of command).adds (arguments_of command).removes (arguments_of command).imports
    (arguments_of command).build_priority

-- ---- the reply to a command that is accepted

-- the assignment of a record, under this take number
abbrev pub assignment_of : Entry → ℕ → Assignment
assignment_of entry take_number = record {
  arch = entry.0.0;
  source = entry.0.1;
  version = entry.1.version;
  build = build_text_of entry.1;
  number = entry.1.number;
  message = entry.1.message;
  take = take_number;
}

-- the reply with the assignment of a record, under the next take number
abbrev pub assignment_reply : Machine → Option Entry → Reply
assignment_reply machine None = Done (machine.accepted + 1)
assignment_reply machine (Some entry) = Job (machine.accepted + 1) (assignment_of entry (machine.handed + 1))

-- the reply to what is imported: the ends of a merge's parts, or how many records a report changed
abbrev pub import_reply : Machine → Import → Reply
import_reply machine (Lists merge) = Merged (machine.accepted + 1) (part_replies machine merge.sources merge.parts machine.records)
import_reply machine (Lines report) =
    Reported (machine.accepted + 1) (number_reported machine.records report.arch (lines_said report.text))

-- the reply to a command that imports this, or else asks for this builder
abbrev pub reply_by : Machine → Command → Option Import → Option (List ℕ) → Reply
reply_by machine command (Some imported) builder = import_reply machine imported
reply_by machine command None (Some builder) = assignment_reply machine (target_of machine command)
reply_by machine command None None = Done (machine.accepted + 1)

-- the reply to a command
abbrev pub reply_to : Machine → Command → Reply
reply_to machine command = reply_by machine command (arguments_of command).imports (arguments_of command).builder

-- ---- the step

-- the state with one more accepted command
abbrev pub counted : Machine → Machine → Machine
counted machine after = record after { accepted = machine.accepted + 1 }

-- what is answered and done: a refusal leaves the state as it was, and so does what is reported to a builder again
abbrev pub outcome : Option Refusal → Option Entry → Machine → Command → Outcome
outcome (Some refusal) again machine command = (Err refusal, machine)
outcome None (Some entry) machine command = (Ok (Again machine.accepted (assignment_of entry (take_of entry))), machine)
outcome None None machine command = (Ok (reply_to machine command), counted machine (state_after machine command))

-- the answer to a command and the state after it
unfoldable pub step : Machine → Command → Outcome
step machine command = outcome (first_refusal machine command) (again_of machine command) machine command
