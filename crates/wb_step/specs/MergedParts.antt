-- What a merge looks at of an office, as an office of its own.
use Rattle.std.specs.Prelude.{◌≡◌, ℕ, Bool, true, false, List, filter, bytes_eq}
use Rattle.std.specs.FinMap as map
use Rattle.std.specs.FinSet as set
use Rattle.std.specs.List.{list_any}
use Rattle.wb_states.specs.declared.command.Part.{Part}
use Rattle.wb_states.specs.Machine.{Machine, Key}
use Rattle.wb_states.specs.Queue.{Entry}
use Rattle.wb_step.specs.Named.{holder_pairs}

-- whether one of the parts of a merge is for the architecture
abbrev pub is_part_for : List Part → List ℕ → Bool
is_part_for parts arch = list_any (λ part. bytes_eq arch part.arch) parts

-- the records of the architectures that the parts of a merge are for, by architecture and source package
abbrev pub entries_of_parts : Machine → List Part → List Entry
entries_of_parts machine parts = filter (λ entry. is_part_for parts entry.0.0) (map.entries machine.records)

-- the part of an office that a merge looks at: the counts, the architectures, the records of the architectures of its
-- parts, and their holders
unfoldable pub part_for_merge : Machine → List Part → Machine
part_for_merge machine parts = record {
  records = map.from_entries (entries_of_parts machine parts);
  archs = machine.archs;
  builders = set.from_list (holder_pairs (entries_of_parts machine parts));
  handed = machine.handed;
  accepted = machine.accepted;
}

-- a state has the records of the architectures of a merge's parts and the number of accepted commands from one state,
-- and all else from another; both have the same last take number
pub record IsJoined (parts : List Part) (merged old new : Machine) : Type 0 where
  pub inside : (key : Key) → is_part_for parts key.0 ≡ true → map.get new.records key ≡ map.get merged.records key
  pub outside : (key : Key) → is_part_for parts key.0 ≡ false → map.get new.records key ≡ map.get old.records key
  pub archs : new.archs ≡ old.archs
  pub builders : new.builders ≡ old.builders
  pub handed : (new.handed ≡ old.handed) × (merged.handed ≡ old.handed)
  pub accepted : new.accepted ≡ merged.accepted
