-- What a command looks at, and what it changes. Whatever else an office keeps makes no difference to it.
use Rattle.std.specs.Prelude.{◌≡◌, ℕ, ℤ, ◌+◌, List, Option, Some, None, IsTrue, IfSome, is_some, option_and_then, if◌then◌else◌}
use Rattle.std.specs.Option.{option_map}
use Rattle.std.specs.FinMap as map
use Rattle.std.specs.FinSet as set
use Rattle.deb_text.specs.Text.{text_cmp, pair_cmp}
use Rattle.wb_states.specs.declared.arch.OsCpu.{OsCpu}
use Rattle.wb_states.specs.declared.command.Command.{Command}
use Rattle.wb_states.specs.declared.command.Next.{Next}
use Rattle.wb_states.specs.declared.moves.Move.{Move}
use Rattle.wb_states.specs.declared.record.Record.{Record}
use Rattle.wb_states.specs.Holds.{taken_as}
use Rattle.wb_states.specs.Machine.{Machine, Key}
use Rattle.wb_states.specs.Moves.{record_after_move}
use Rattle.wb_states.specs.Queue.{Entry, head_of}
use Rattle.wb_step.specs.Arguments.{Addition, Arch, Builder, Package, Removal, OfArch, OfBuilder, OfPackage}
use Rattle.wb_step.specs.Arguments.{arguments_of}
use Rattle.wb_step.specs.Checks.{builder_named, is_still_held, is_there_already, source_named, take_named}
use Rattle.wb_step.specs.Targets.{again_of, next_named, transition_of}
use Rattle.wb_step.specs.Step.{entered}

-- an architecture that is taken away, with all that it has
abbrev pub arch_removed : Option Removal → Option (List ℕ)
arch_removed (Some (OfArch fields)) = Some fields.name
arch_removed removed = None

-- a command that changes one record, one architecture or one pair of a builder and an architecture at most: it imports
-- nothing, and takes no architecture away
pub record IsSingle (command : Command) : Type 0 where
  pub imports : (arguments_of command).imports ≡ None
  pub keeps : arch_removed (arguments_of command).removes ≡ None

-- two states look alike to a command that imports nothing and takes no architecture away: they have the same counts and
-- architectures, its builder was
-- added for the same architectures, and they have the same records of the source package and under the take number that
-- it names, at the head of the queue that it asks for, and of what its builder builds; and what it adds is there in
-- both or in neither, and what it takes away is held in both or in neither
pub record LooksAlike (command : Command) (one other : Machine) : Type 0 where
  pub handed : one.handed ≡ other.handed
  pub accepted : one.accepted ≡ other.accepted
  pub archs : one.archs ≡ other.archs
  pub builder : (name arch : List ℕ) → builder_named command ≡ Some name
      → set.contains one.builders (name, arch) ≡ set.contains other.builders (name, arch)
  pub source : (key : Key) → source_named command ≡ Some key → map.get one.records key ≡ map.get other.records key
  pub taken : (take_number : ℕ) → take_named command ≡ Some take_number → taken_as one take_number ≡ taken_as other take_number
  pub head : (next : Next) → next_named command ≡ Some next → head_of one next.arch ≡ head_of other next.arch
  pub again : again_of one command ≡ again_of other command
  pub there : is_there_already one command ≡ is_there_already other command
  pub held : is_still_held one command ≡ is_still_held other command
  pub single : IsSingle command

-- a record as a move makes it, with its key
abbrev pub moved : Entry × Move → Entry
moved asked = (asked.0.0, record_after_move asked.1 asked.0.1)

-- the record that is added, with its key, if what is added is one
abbrev pub entry_added : Addition → Option Entry
entry_added (Arch fields) = None
entry_added (Builder fields) = None
entry_added (Package fields) = Some ((fields.arch, fields.source), entered fields.version fields.priority fields.section)

-- the record at a key with another build priority
abbrev pub prioritized : Machine → ℤ → List ℕ × List ℕ → Option Entry
prioritized machine value key = option_map (λ current. (key, record current { build_priority = value })) (map.get machine.records key)

-- the record that is put: the one that is added, or that gets a build priority, or else the one that is moved; none
-- where something is taken away
abbrev pub entry_by : Machine → Command → Option Addition → Option Removal → Option ℤ → Option Entry
entry_by machine command (Some added) removed value = entry_added added
entry_by machine command None (Some removed) value = None
entry_by machine command None None (Some value) = option_and_then (prioritized machine value) (source_named command)
entry_by machine command None None None = option_map moved (transition_of machine command)

-- the record that a command enters, moves or gives a build priority, as it is then, with its key
abbrev pub entry_put : Machine → Command → Option Entry
entry_put machine command =
    entry_by machine command (arguments_of command).adds (arguments_of command).removes
    (arguments_of command).build_priority

-- the key of the record that is taken away, if what goes is one
abbrev pub key_removed : Option Removal → Option Key
key_removed (Some (OfPackage fields)) = Some (fields.arch, fields.source)
key_removed removed = None

-- the key of the record that a command takes away
abbrev pub key_gone : Command → Option Key
key_gone command = key_removed (arguments_of command).removes

-- records without the one at a key, or as they are
abbrev pub without_entry : Option Key → map.FinMap pair_cmp Record → map.FinMap pair_cmp Record
without_entry None records = records
without_entry (Some key) records = map.remove records key

-- records with one that is put at its key, or as they are
abbrev pub with_entry : Option Entry → map.FinMap pair_cmp Record → map.FinMap pair_cmp Record
with_entry None records = records
with_entry (Some entry) records = map.insert records entry.0 entry.1

-- architectures with one that is added, if what is added is one
abbrev pub with_arch : Option Addition → map.FinMap text_cmp OsCpu → map.FinMap text_cmp OsCpu
with_arch (Some (Arch fields)) archs = map.insert archs fields.name (record { os = fields.os; cpu = fields.cpu })
with_arch added archs = archs

-- the architectures after a command
abbrev pub archs_after : Command → map.FinMap text_cmp OsCpu → map.FinMap text_cmp OsCpu
archs_after command archs = with_arch (arguments_of command).adds archs

-- pairs of builders and architectures with one that is added, if what is added is one
abbrev pub with_builder : Option Addition → set.FinSet pair_cmp → set.FinSet pair_cmp
with_builder (Some (Builder fields)) builders = set.insert builders (fields.name, fields.arch)
with_builder added builders = builders

-- pairs of builders and architectures without one that is taken away, if what goes is one
abbrev pub without_builder : Option Removal → set.FinSet pair_cmp → set.FinSet pair_cmp
without_builder (Some (OfBuilder fields)) builders = set.remove builders (fields.name, fields.arch)
without_builder removed builders = builders

-- the pairs of builders and architectures after a command
abbrev pub builders_after : Command → set.FinSet pair_cmp → set.FinSet pair_cmp
builders_after command builders = without_builder (arguments_of command).removes
    (with_builder (arguments_of command).adds builders)

-- the last take number after a command: one more if a builder is handed a record
abbrev pub handed_after : Command → ℕ → ℕ
handed_after command handed = if is_some (arguments_of command).builder then handed + 1 else handed

-- the state after a command that is accepted, imports nothing and takes no architecture away: one record is put or
-- goes, an architecture or a builder is added, or a builder goes from an architecture, and it is counted
abbrev pub changed : Machine → Command → Machine
changed machine command = record {
  records = without_entry (key_gone command) (with_entry (entry_put machine command) machine.records);
  archs = archs_after command machine.archs;
  builders = builders_after command machine.builders;
  handed = handed_after command machine.handed;
  accepted = machine.accepted + 1;
}

-- ---- a part of an office

-- a state keeps this record at its key
abbrev pub IsKept : Machine → Entry → Type 0
IsKept machine entry = map.get machine.records entry.0 ≡ Some entry.1

-- a state is a part of another: it has the same counts and architectures, no builder and no record that the other has
-- not, and for each record that is held its holder
pub record IsPartOf (part whole : Machine) : Type 0 where
  pub handed : part.handed ≡ whole.handed
  pub accepted : part.accepted ≡ whole.accepted
  pub archs : part.archs ≡ whole.archs
  pub builders : (name arch : List ℕ) → IsTrue (set.contains part.builders (name, arch)) → IsTrue (set.contains whole.builders (name, arch))
  pub records : (entry : Entry) → IsKept part entry → IsKept whole entry
  pub holders : (entry : Entry) → IsKept part entry → IfSome entry.1.holder (λ name. IsTrue (set.contains part.builders (name, entry.0.0)))

-- a part has all that a command which imports nothing and takes no architecture away names of the whole
pub record HasAllNamed (command : Command) (part whole : Machine) : Type 0 where
  pub builder : (name arch : List ℕ) → builder_named command ≡ Some name
      → IsTrue (set.contains whole.builders (name, arch)) → IsTrue (set.contains part.builders (name, arch))
  pub source : (key : Key) → source_named command ≡ Some key → IfSome (map.get whole.records key) (λ current. IsKept part (key, current))
  pub taken : (take_number : ℕ) → take_named command ≡ Some take_number → IfSome (taken_as whole take_number) (IsKept part)
  pub head : (next : Next) → next_named command ≡ Some next → IfSome (head_of whole next.arch) (IsKept part)
  pub again : IfSome (again_of whole command) (IsKept part)
  pub there : is_there_already part command ≡ is_there_already whole command
  pub held : is_still_held part command ≡ is_still_held whole command
  pub single : IsSingle command
