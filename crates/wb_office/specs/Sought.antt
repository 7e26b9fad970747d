-- The records that a command names, by what they are looked up, and the office that they make.
use Rattle.std.specs.Prelude.{◌≡◌, ℕ, List, [], ◌∷◌, ◌++◌, Option, Some, None, map as each}
use Rattle.std.specs.Option.{option_map}
use Rattle.std.specs.FinMap as map
use Rattle.std.specs.FinSet as set
use Rattle.deb_text.specs.Text.{pair_cmp}
use Rattle.wb_states.specs.declared.arch.OsCpu.{OsCpu}
use Rattle.wb_states.specs.declared.command.Command.{Command}
use Rattle.wb_states.specs.declared.subject.Subject.{Subject}
use Rattle.wb_states.specs.Machine.{Machine, Key}
use Rattle.wb_states.specs.Queue.{Entry}
use Rattle.wb_states.specs.Lookups.{entry_of}
use Rattle.wb_states.specs.Subject.{subject_named}
use Rattle.wb_step.specs.Named as beside
use Rattle.wb_step.specs.Named.{holder_pairs, listed, pairs_named}
use Rattle.wb_step.specs.Targets as subject
use Rattle.wb_office.specs.declared.named.found.FoundPart.{FoundPart}
use Rattle.wb_office.specs.Keys.{key_at}

-- the record that is named by its source package, by its take number, or as the head of a queue
abbrev pub first_named : Machine → Subject → Option Entry
first_named machine names = subject.first_named machine (subject_named names)

-- the other records that are named: what a builder that asks again holds
abbrev pub others_named : Machine → Subject → List Entry
others_named machine names = beside.others_named machine (subject_named names)

-- the key of the record that is put: it is named, or that of the record which is found
abbrev pub key_named : Subject → Option Entry → Option Key
key_named names first = key_at (subject_named names) first

-- what was found is what a command names of this state, if the records that it names are these
pub record HasFound (machine : Machine) (command : Command) (names : Subject) (found : FoundPart) : Type 0 where
  pub handed : found.counts.handed ≡ machine.handed
  pub accepted : found.counts.accepted ≡ machine.accepted
  pub archs : found.archs.items ≡ map.entries machine.archs
  pub first : option_map entry_of found.first ≡ first_named machine names
  pub others : each entry_of found.others.items ≡ others_named machine names
  pub pairs : found.pairs.items ≡ pairs_named machine command

-- the records that were found, the first one before the others
abbrev pub entries_found : FoundPart → List Entry
entries_found found = listed (option_map entry_of found.first) ++ each entry_of found.others.items

-- the office that has what was found and the pairs of the records' holders
unfoldable pub office_of : FoundPart → Machine
office_of found = record {
  records = map.from_entries (entries_found found);
  archs = map.from_entries found.archs.items;
  builders = set.from_list (holder_pairs (entries_found found) ++ found.pairs.items);
  handed = found.counts.handed;
  accepted = found.counts.accepted;
}

-- a state with these architectures too: of two with one name, the first
abbrev pub with_archs : Machine → List (List ℕ × OsCpu) → Machine
with_archs machine [] = machine
with_archs machine (arch ∷ archs) = let made = with_archs machine archs in record made { archs = map.insert made.archs arch.0 arch.1 }

-- a state with these pairs of a builder and an architecture too
abbrev pub with_pairs : Machine → List Key → Machine
with_pairs machine [] = machine
with_pairs machine (pair ∷ pairs) = let made = with_pairs machine pairs in record made { builders = set.insert made.builders pair }

-- pairs with that of a holder too
abbrev pub with_holder : set.FinSet pair_cmp → Option (List ℕ) → List ℕ → set.FinSet pair_cmp
with_holder pairs None arch = pairs
with_holder pairs (Some holder) arch = set.insert pairs (holder, arch)

-- a state with this record too, and with its holder
abbrev pub with_entry : Machine → Entry → Machine
with_entry machine entry = record machine {
  records = map.insert machine.records entry.0 entry.1;
  builders = with_holder machine.builders entry.1.holder entry.0.0;
}

-- a state with these records too, and with their holders: of two with one key, the first
abbrev pub with_entries : Machine → List Entry → Machine
with_entries machine [] = machine
with_entries machine (entry ∷ entries) = with_entry (with_entries machine entries) entry
