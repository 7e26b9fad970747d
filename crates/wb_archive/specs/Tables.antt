-- The tables in which a merge runs, and what stands in them.
use Rattle.std.specs.Prelude.{◌≡◌, ℕ, ◌<◌, ◌≤◌, ⊤, true, false, List, [], ◌∷◌, map, bytes_eq, Option, Some, None, IfSome}
use Rattle.std.specs.List.{list_any, AllByRecursion}
use Rattle.std.specs.FinMap as finite
use Rattle.deb_text.specs.Lists.{IsIn}
use Rattle.wb_states.specs.declared.keyed.KeyedRecord.{KeyedRecord}
use Rattle.wb_states.specs.declared.record.Record.{Record}
use Rattle.wb_states.specs.declared.scratch.SourceRow.{SourceRow}
use Rattle.wb_states.specs.declared.scratch.BinaryRow.{BinaryRow}
use Rattle.wb_states.specs.Limits.{count_limit}
use Rattle.wb_states.specs.Machine.{Machine}
use Rattle.wb_states.specs.State.{is_dep_wait}
use Rattle.wb_merge.specs.Merged.{Records}

-- what stands in the tables: the state of the office, and what is kept of a Sources list and of the Packages list of a part
pub record Contents : Type 0 where
  pub machine : Machine
  pub sources : List SourceRow
  pub binaries : List BinaryRow

-- the tables: what stands in them, and what stood in them at the savepoint, if there is one
pub record Tables : Type 0 where
  pub now : Contents
  pub saved : Option Contents

-- ---- what a call makes of the tables

-- the tables with these records
abbrev pub with_records : Records → Tables → Tables
with_records records tables = record tables { now = record tables.now { machine = record tables.now.machine { records = records } } }

-- the tables with this kept of a Sources list
abbrev pub with_sources : List SourceRow → Tables → Tables
with_sources rows tables = record tables { now = record tables.now { sources = rows } }

-- the tables with this kept of a Packages list
abbrev pub with_binaries : List BinaryRow → Tables → Tables
with_binaries rows tables = record tables { now = record tables.now { binaries = rows } }

-- the tables with a savepoint at what stands in them now
abbrev pub with_savepoint : Tables → Tables
with_savepoint tables = record tables { saved = Some tables.now }

-- the tables without a savepoint
abbrev pub without_savepoint : Tables → Tables
without_savepoint tables = record tables { saved = None }

-- the tables as they were at a savepoint, which stays
abbrev pub back_at : Contents → Tables → Tables
back_at saved tables = record tables { now = saved }

-- ---- what is asked of the tables

-- the row of this number comes after all these
abbrev pub IsAfterSources : ℕ → List SourceRow → Type 0
IsAfterSources seq rows = AllByRecursion (λ (row : SourceRow). row.seq < seq) rows

-- the row of this number comes after all these
abbrev pub IsAfterBinaries : ℕ → List BinaryRow → Type 0
IsAfterBinaries seq rows = AllByRecursion (λ (row : BinaryRow). row.seq < seq) rows

-- no name stands twice
abbrev pub AreApart : List (List ℕ) → Type 0
AreApart [] = ⊤
AreApart (name ∷ names) = (list_any (bytes_eq name) names ≡ false) × AreApart names

-- the names of the source packages of rows, each once
pub record AreNamesOf (rows : List SourceRow) (names : List (List ℕ)) : Type 0 where
  pub apart : AreApart names
  pub all : (name : List ℕ) → list_any (bytes_eq name) names ≡ list_any (λ row. bytes_eq name row.name) rows

-- the take number of the record, if it has one, is at most the limit
abbrev pub HasFittingTake : Record → Type 0
HasFittingTake current = IfSome current.take (λ take_number. take_number ≤ count_limit)

-- among these are all records of the architecture that are in Dep-Wait
abbrev pub HaveWaiting : Records → List ℕ → List KeyedRecord → Type 0
HaveWaiting records arch rows =
    (name : List ℕ) (current : Record) → finite.get records (arch, name) ≡ Some current → is_dep_wait current.state ≡ true
    → IsIn current (map (λ row. row.current) rows)
