-- Which record a command moves, and by which move.
use Rattle.std.specs.Prelude.{◌≡◌, ℕ, ◌+◌, ◌&&◌, IsTrue, bytes_eq, List, [], Option, Some, None, MatchOption, option_and_then}
use Rattle.std.specs.Result.{result_unwrap_or}
use Rattle.std.specs.List.{list_any}
use Rattle.std.specs.Option.{option_map}
use Rattle.std.specs.FinMap as map
use Rattle.deb_relations.specs.declared.arch.ArchWords.{ArchWords}
use Rattle.deb_relations.specs.Reading.{reading_of}
use Rattle.wb_states.specs.declared.command.Command.{Command}
use Rattle.wb_states.specs.declared.command.Command.TheVariants as of
use Rattle.wb_states.specs.declared.command.Next.{Next}
use Rattle.wb_states.specs.declared.moves.Move.{Move}
use Rattle.wb_states.specs.declared.moves.Move.TheVariants as to
use Rattle.wb_states.specs.Holds.{taken_as, building_after}
use Rattle.wb_states.specs.Machine.{Machine, arch_words}
use Rattle.wb_states.specs.Queue.{Entry, head_of}
use Rattle.wb_states.specs.Subject.{Subject, Nothing, Source, Taken, Head, Held, subject_of}
use Rattle.wb_merge.specs.Report.{by_source, lines_in}
use Rattle.wb_step.specs.Arguments.{Import, Lists, Lines, Removal, OfArch, OfBuilder, OfPackage, arguments_of}

-- the record of a source package, with its key
unfoldable pub record_named : Machine → List ℕ → List ℕ → Option Entry
record_named machine arch source = option_map (λ current. ((arch, source), current)) (map.get machine.records (arch, source))

-- the record by which what a command names is found: of a source package, under a take number, or at the head of a
-- queue; of what a builder holds, none alone
abbrev pub first_named : Machine → Subject → Option Entry
first_named machine Nothing = None
first_named machine (Source arch source) = record_named machine arch source
first_named machine (Taken take_number) = taken_as machine take_number
first_named machine (Head next) = head_of machine next.arch
first_named machine (Held builder) = None

-- a move that is the same on each architecture
abbrev pub on_each : Move → Option (ArchWords → Move)
on_each move = Some (λ words. move)

-- the move that a command makes of a record, by the words of the record's architecture, or none
abbrev pub move_of : Machine → Command → Option (ArchWords → Move)
move_of machine (of.AddArch fields) = None
move_of machine (of.AddBuilder fields) = None
move_of machine (of.RemoveArch fields) = None
move_of machine (of.RemoveBuilder fields) = None
move_of machine (of.Enter fields) = None
move_of machine (of.Next fields) = on_each (to.Take fields.builder (machine.handed + 1))
move_of machine (of.Take fields) = on_each (to.Take fields.builder (machine.handed + 1))
move_of machine (of.Built fields) = on_each to.Built
move_of machine (of.Uploaded fields) = on_each to.Uploaded
move_of machine (of.Waits fields) = Some (λ words. to.Waits (result_unwrap_or (reading_of fields.relations) []) words)
move_of machine (of.PutBack fields) = on_each to.PutBack
move_of machine (of.Attempted fields) = on_each (to.Attempted fields.reason)
move_of machine (of.GiveBack fields) = on_each to.GiveBack
move_of machine (of.DepWait fields) = Some (λ words. to.DepWait (result_unwrap_or (reading_of fields.relations) []) words)
move_of machine (of.Fail fields) = on_each (to.Fail fields.note)
move_of machine (of.NotForUs fields) = on_each (to.NotForUs fields.note)
move_of machine (of.Rebuild fields) = on_each (to.Rebuild fields.number fields.message)
move_of machine (of.BuildPriority fields) = None
move_of machine (of.Forget fields) = None
move_of machine (of.Merge fields) = None
move_of machine (of.Report fields) = None

-- the record that a command moves: the one that it names, if it makes a move (this project's own)
abbrev pub target_of : Machine → Command → Option Entry
target_of machine command = option_and_then (λ move. first_named machine (subject_of command)) (move_of machine command)

-- the move that a command makes of a record of an architecture with these words
abbrev pub move_of_command : Machine → Command → ArchWords → Option Move
move_of_command machine command words = option_map (λ move. move words) (move_of machine command)

-- a record with its key, and the move that a command makes of it
abbrev pub with_move : Machine → Command → Entry → Option (Entry × Move)
with_move machine command entry =
    option_map (λ move. (entry, move)) (move_of_command machine command (arch_words machine entry.0.0))

-- the record that a command moves, with its key, and the move
unfoldable pub transition_of : Machine → Command → Option (Entry × Move)
transition_of machine command = option_and_then (with_move machine command) (target_of machine command)

-- the head of a queue that what is named is
abbrev pub next_in : Subject → Option Next
next_in (Head next) = Some next
next_in subject = None

-- the head of a queue that a command asks for
abbrev pub next_named : Command → Option Next
next_named command = next_in (subject_of command)

-- what is reported to a builder again: what it builds on the architecture under the least take number after the one
-- that it names (this project's own)
abbrev pub again_of : Machine → Command → Option Entry
again_of machine command =
    option_and_then (λ next. option_and_then (building_after machine next.arch next.builder) next.after) (next_named command)

-- a command moves the record at a key
abbrev pub MayMove : Machine → Command → List ℕ × List ℕ → Type 0
MayMove machine command key = (entry : Entry) × ((target_of machine command ≡ Some entry) × (key ≡ entry.0))

-- what is imported may change the record at a key: those of the architectures of a merge's parts, and of the source
-- packages on a report's architecture that its lines name
abbrev pub MayImport : Import → List ℕ × List ℕ → Type 0
MayImport (Lists merge) key = IsTrue (list_any (λ part. bytes_eq key.0 part.arch) merge.parts)
MayImport (Lines report) key = IsTrue (bytes_eq key.0 report.arch && map.contains_key (by_source (lines_in report.text)) key.1)

-- what is taken away may be the record at a key: one of an architecture that is taken away
abbrev pub MayRemove : Option Removal → List ℕ × List ℕ → Type 0
MayRemove (Some (OfArch fields)) key = key.0 ≡ fields.name
MayRemove removed key = ⊥

-- a command that makes no move may change the record at a key: that of the source package that it names, those that it
-- imports, or those that it takes away
abbrev pub MayPut : Subject → Option Import → Option Removal → List ℕ × List ℕ → Type 0
MayPut (Source arch source) imports removed key = key ≡ (arch, source)
MayPut subject (Some imported) removed key = MayImport imported key
MayPut subject None removed key = MayRemove removed key

-- a command may take the record at a key away: one of the architectures of a merge's parts, one of an architecture that
-- is taken away, or the one that is forgotten
abbrev pub MayTakeAway : Option Import → Option Removal → List ℕ × List ℕ → Type 0
MayTakeAway (Some (Lists merge)) removed key = MayImport (Lists merge) key
MayTakeAway (Some (Lines report)) removed key = ⊥
MayTakeAway None (Some (OfArch fields)) key = key.0 ≡ fields.name
MayTakeAway None (Some (OfBuilder fields)) key = ⊥
MayTakeAway None (Some (OfPackage fields)) key = key ≡ (fields.arch, fields.source)
MayTakeAway None None key = ⊥

-- a command may change the record at a key: the one that it enters or moves, that gets a build priority or goes, or
-- those that it imports, or whose architecture it takes away
abbrev pub MayChange : Machine → Command → List ℕ × List ℕ → Type 0
MayChange machine command key =
    MatchOption (move_of machine command) (MayPut (subject_of command) (arguments_of command).imports
    (arguments_of command).removes key) (λ move. MayMove machine command key)
