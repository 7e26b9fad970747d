-- What a command names of an office, as an office of its own: one that imports nothing and takes no architecture away.
use Rattle.std.specs.Prelude.{ℕ, List, [], ◌∷◌, ◌++◌, map as each, Option, Some, None, if◌then◌else◌}
use Rattle.std.specs.FinMap as map
use Rattle.std.specs.FinSet as set
use Rattle.wb_states.specs.declared.command.Command.{Command}
use Rattle.wb_states.specs.Holds.{held_of}
use Rattle.wb_states.specs.Machine.{Machine, Key, archs_of}
use Rattle.wb_states.specs.Queue.{Entry}
use Rattle.wb_states.specs.Subject.{Subject, Head, Held, subject_of}
use Rattle.wb_step.specs.Arguments.{Addition, Builder, arguments_of}
use Rattle.wb_step.specs.Checks.{builder_named}
use Rattle.wb_step.specs.Targets.{first_named}

-- what was found
abbrev pub listed : {X : Type 0} → Option X → List X
listed None = []
listed (Some x) = x ∷ []

-- what a builder holds, if it asks again
abbrev pub held_again : Machine → List ℕ → Option ℕ → List Entry
held_again machine builder None = []
held_again machine builder (Some after) = held_of machine builder

-- the other records that are named: what a builder that asks again holds, or one that is taken from an architecture
abbrev pub others_named : Machine → Subject → List Entry
others_named machine (Head next) = held_again machine next.builder next.after
others_named machine (Held builder) = held_of machine builder
others_named machine subject = []

-- the records that a command names: of a source package, under a take number, at the head of a queue, and what a
-- builder holds that asks again or is taken from an architecture
abbrev pub entries_named : Machine → Command → List Entry
entries_named machine command = listed (first_named machine (subject_of command)) ++ others_named machine (subject_of command)

-- the pairs of a builder and an architecture that are looked up: those of a builder, or the one that is added, if it is
-- there
abbrev pub pairs_sought : Machine → Option Addition → Option (List ℕ) → List Key
pairs_sought machine added (Some builder) = each (λ arch. (builder, arch)) (archs_of machine builder)
pairs_sought machine (Some (Builder fields)) None =
    if set.contains machine.builders (fields.name, fields.arch) then (fields.name, fields.arch) ∷ [] else []
pairs_sought machine added None = []

-- the pairs of a builder and an architecture for which it was added that a command names
abbrev pub pairs_named : Machine → Command → List Key
pairs_named machine command = pairs_sought machine (arguments_of command).adds (builder_named command)

-- the holders of records, each with the architecture of its record
abbrev pub holder_pairs : List Entry → List Key
holder_pairs [] = []
holder_pairs (entry ∷ entries) = each (λ name. (name, entry.0.0)) (listed entry.1.holder) ++ holder_pairs entries

-- the part of an office that a command names: the counts, the architectures, the pairs and the records that it names,
-- and their holders
unfoldable pub part_named : Machine → Command → Machine
part_named machine command = record {
  records = map.from_entries (entries_named machine command);
  archs = machine.archs;
  builders = set.from_list (holder_pairs (entries_named machine command) ++ pairs_named machine command);
  handed = machine.handed;
  accepted = machine.accepted;
}
