-- What a look-up among the rows of a merge promises.
use Rattle.std.specs.Prelude.{◌≡◌, ◌⊎◌, ℕ, List, map, bytes_eq, Result, IfOk, IfErr, OnOk, IsUtf8}
use Rattle.std.specs.List.{AllByRecursion, dedup}
use Rattle.sqlite_trees.specs.declared.store.Store.{Ghosts}
use Rattle.sqlite.specs.Held.{Held, state}
use Rattle.sqlite.specs.State.{State, HasCleanDisk, IsUnchanged, Survives}
use Rattle.deb_relations.specs.Satisfaction.{Offer}
use Rattle.wb_sql.specs.Among.{HasOffice}
use Rattle.wb_states.specs.declared.store_fault.StoreFault.{StoreFault}
use Rattle.wb_states.specs.declared.store_fault.StoreFault.TheVariants.{Memory}
use Rattle.wb_states.specs.declared.scratch.BinaryRow.{BinaryRow}
use Rattle.wb_states.specs.declared.scratch.SourceRow.{SourceRow}
use Rattle.wb_states.specs.Machine.{Machine}
use Rattle.wb_rows.specs.Scratch.{IsReadableBinary, IsReadableSource, binary_cells, name_cells, source_cells}
use Rattle.sqlite.specs.Order.{Row}
use Rattle.wb_store.specs.Calls.{FailsToRead}
use Rattle.wb_store.specs.Faults.{unfit}
use Rattle.wb_store.specs.Lookups.{AreRowsOf}
use Rattle.wb_store.specs.Merging.{Scratch}
use Rattle.wb_store.specs.Queries.{OfficeQuery, table_asked}
use Rattle.wb_store.specs.Stands.{StandsWith}

-- the row is that of a source package that can be read
abbrev pub HasSource : Row → Type 0
HasSource row = (source : SourceRow) × IsReadableSource source × (row ≡ source_cells source)

-- the row is that of a binary package that can be read
abbrev pub HasBinary : Row → Type 0
HasBinary row = (binary : BinaryRow) × IsReadableBinary binary × (row ≡ binary_cells binary)

-- the rows are those of source packages that can be read
abbrev pub AreSources : List Row → Type 0
AreSources = AreRowsOf source_cells IsReadableSource

-- the rows are those of binary packages that can be read
abbrev pub AreBinaries : List Row → Type 0
AreBinaries = AreRowsOf binary_cells IsReadableBinary

-- the row is that of a name in UTF-8
abbrev pub HasName : Row → Type 0
HasName row = (name : List ℕ) × IsUtf8 name × (row ≡ name_cells name)

-- the rows are those of names in UTF-8
abbrev pub AreNames : List Row → Type 0
AreNames = AreRowsOf name_cells IsUtf8

-- these are the names in the rows, without each that is the same as the one before it
abbrev pub DistinctNames : List Row → List (List ℕ) → Type 0
DistinctNames rows found = (names : List (List ℕ)) × (rows ≡ map name_cells names) × (found ≡ dedup bytes_eq names)

-- these are the versions in the rows of binary packages and of names that they provide, or none where there is none
abbrev pub VersionsIn : List Row → List Offer → Type 0
VersionsIn rows found =
    (binaries : List BinaryRow) × (rows ≡ map binary_cells binaries) × (found ≡ map (λ binary. binary.version) binaries)

-- each row of the merge can be read
pub record AreReadable (scratch : Scratch) : Type 0 where
  pub sources : AllByRecursion IsReadableSource scratch.sources
  pub binaries : AllByRecursion IsReadableBinary scratch.binaries

-- why a look-up fails: its query failed; or memory ran out for its answer; or a row is not one of a merge
abbrev pub FailsToLookUp : OfficeQuery → State → State → StoreFault → Type 0
FailsToLookUp query old new fault =
    FailsToRead query old new fault
    ⊎ (((fault ≡ Memory) × IsUnchanged old new)
    ⊎ ((fault ≡ unfit (table_asked query)) × IsUnchanged old new × ((machine : Machine) (scratch : Scratch) → AreReadable scratch → ¬ StandsWith machine scratch old.now)))

-- a look-up among the rows of a merge, by this query: if it succeeds, its answer is that of the rows with which the database stands for a state, and the database
-- stays as it is; if it fails, it fails for one of the reasons above; and a crash leaves no more than before
pub record LooksUpScratch {S A : Type 0} (g : Ghosts S) (query : OfficeQuery) (Answer : Scratch → A → Type 0) (old new : Held S) (result : Result A StoreFault) : Type 0 where
  pub value : HasCleanDisk (state g new) → IfOk result (λ answer. (machine : Machine) (scratch : Scratch) → StandsWith machine scratch (state g old).now → Answer scratch answer)
  pub same : HasCleanDisk (state g new) → HasOffice old.schema → OnOk result (IsUnchanged (state g old) (state g new))
  pub err : HasCleanDisk (state g new) → HasOffice old.schema → IfErr result (FailsToLookUp query (state g old) (state g new))
  pub survives : Survives (state g old) (state g new) (λ _. ¬ HasOffice old.schema)
