-- Rows that are written or taken out one after another, and why they are not.
use Rattle.std.specs.Prelude.{◌≡◌, ℕ, List, [], ◌∷◌, bytes_eq, if◌then◌else◌}
use Rattle.std.specs.FinMap as map
use Rattle.std.specs.FinSet as set
use Rattle.deb_text.specs.Text.{pair_cmp}
use Rattle.deb_text.specs.Lists.{IsIn}
use Rattle.wb_states.specs.declared.store_fault.StoreFault.{StoreFault}
use Rattle.wb_states.specs.declared.store_fault.Table.TheVariants.{SourceRecord}
use Rattle.wb_states.specs.Machine.{Key, Machine}
use Rattle.wb_states.specs.Queue.{Entry}
use Rattle.wb_merge.specs.Merged.{Records}
use Rattle.wb_archive.specs.Tables.{HasFittingTake}
use Rattle.wb_store.specs.Faults.{unfit}
use Rattle.wb_store.specs.Writes as write
use Rattle.wb_store.specs.Writes.{OfficeWrite}

-- the write puts one of these records
abbrev pub PutsOne : List Entry → OfficeWrite → Type 0
PutsOne entries (write.PutsRecord entry) = IsIn entry entries
PutsOne entries _ = ⊥

-- the take numbers of these records fit
abbrev pub HaveFittingTakes : List Entry → Type 0
HaveFittingTakes entries = (entry : Entry) → IsIn entry entries → HasFittingTake entry.1

-- the records are not written, since a take number of them is above the limit, for which no row of their table is
-- blamed
abbrev pub HasTakeOverLimit : List Entry → StoreFault → Type 0
HasTakeOverLimit entries fault = (fault ≡ unfit SourceRecord) × ¬ HaveFittingTakes entries

-- ---- an architecture that is taken away

-- records without those of these source packages of the architecture
abbrev pub without_names : List ℕ → List (List ℕ) → Records → Records
without_names arch [] records = records
without_names arch (name ∷ names) records = without_names arch names (map.remove records (arch, name))

-- pairs of a builder and an architecture without this one, if it is of the architecture
abbrev pub without_pair : List ℕ → Key → set.FinSet pair_cmp → set.FinSet pair_cmp
without_pair arch pair builders = if bytes_eq pair.1 arch then set.remove builders pair else builders

-- and without those of these that are
abbrev pub without_pairs : List ℕ → List Key → set.FinSet pair_cmp → set.FinSet pair_cmp
without_pairs arch [] builders = builders
without_pairs arch (pair ∷ pairs) builders = without_pairs arch pairs (without_pair arch pair builders)

-- an office without an architecture, without its records of these source packages, and without those of these pairs that
-- are of it
abbrev pub without_arch : List ℕ → List (List ℕ) → List Key → Machine → Machine
without_arch arch names pairs machine = record machine {
  records = without_names arch names machine.records;
  archs = map.remove machine.archs arch;
  builders = without_pairs arch pairs machine.builders;
}

-- the write takes out the record of one of these source packages of the architecture; one of these pairs, which is of
-- it; or the architecture
abbrev pub TakesOut : List ℕ → List (List ℕ) → List Key → OfficeWrite → Type 0
TakesOut arch names pairs (write.RemovesRecord key) = (key.0 ≡ arch) × IsIn key.1 names
TakesOut arch names pairs (write.RemovesBuilder pair) = IsIn pair pairs × (pair.1 ≡ arch)
TakesOut arch names pairs (write.RemovesArch name) = name ≡ arch
TakesOut arch names pairs _ = ⊥
