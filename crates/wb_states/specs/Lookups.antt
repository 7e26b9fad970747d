-- What is looked up in the state of the office.
use Rattle.std.specs.Prelude.{ℕ, ◌+◌, Bool, List, filter, nat_eq, bytes_eq, ◌&&◌, length}
use Rattle.std.specs.FinMap as finite
use Rattle.wb_states.specs.declared.state.State.{State}
use Rattle.wb_states.specs.declared.state.State.TheVariants.{NeedsBuild, Building, Built, Uploaded, Installed, DepWait, BdUninstallable, Failed, NotForUs, BuildAttempted}
use Rattle.wb_states.specs.State.{code_of}
use Rattle.wb_states.specs.Machine.{Machine}
use Rattle.wb_states.specs.Queue.{Entry}
use Rattle.wb_states.specs.declared.counts.StateCounts.{StateCounts}
use Rattle.wb_states.specs.declared.keyed.KeyedRecord.{KeyedRecord}

-- a record after its architecture and its source package
abbrev pub entry_of : KeyedRecord → Entry
entry_of row = ((row.arch, row.source), row.current)

-- a record of the state, with its key
abbrev pub keyed : Entry → KeyedRecord
keyed entry = record { arch = entry.0.0; source = entry.0.1; current = entry.1 }

-- a record of the architecture
abbrev pub is_of : List ℕ → Entry → Bool
is_of arch entry = bytes_eq entry.0.0 arch

-- the records of the architecture, by the names of their source packages
unfoldable pub rows_of : Machine → List ℕ → List Entry
rows_of machine arch = filter (is_of arch) (finite.entries machine.records)

-- a record of the architecture that is in the state
abbrev pub is_in : List ℕ → State → Entry → Bool
is_in arch state entry = is_of arch entry && nat_eq (code_of entry.1.state) (code_of state)

-- the records of the architecture that are in the state, by the names of their source packages
unfoldable pub rows_in : Machine → List ℕ → State → List Entry
rows_in machine arch state = filter (is_in arch state) (finite.entries machine.records)

-- how many records of the architecture are in the state
unfoldable pub number_in : Machine → List ℕ → State → ℕ
number_in machine arch state = length (filter (is_in arch state) (finite.entries machine.records))

-- how many records of the architecture are in each state
unfoldable pub counts_of : Machine → List ℕ → StateCounts
counts_of machine arch = record {
  needs_build = number_in machine arch NeedsBuild;
  building = number_in machine arch Building;
  built = number_in machine arch Built;
  uploaded = number_in machine arch Uploaded;
  installed = number_in machine arch Installed;
  dep_wait = number_in machine arch DepWait;
  bd_uninstallable = number_in machine arch BdUninstallable;
  failed = number_in machine arch Failed;
  not_for_us = number_in machine arch NotForUs;
  build_attempted = number_in machine arch BuildAttempted;
}

-- how many records are counted, in all states together
abbrev pub total_of : StateCounts → ℕ
total_of counts =
    counts.needs_build + counts.building + counts.built + counts.uploaded + counts.installed + counts.dep_wait + counts.bd_uninstallable + counts.failed
    + counts.not_for_us + counts.build_attempted
