-- The rows of a merge, as two lists, and what each call on them makes of the lists.
use Rattle.std.specs.Prelude.{◌≢◌, ◌↔◌, ℕ, ◌<◌, nat_le, not, List, [], ◌∷◌, drop, filter, map, bytes_eq}
use Rattle.std.specs.List.{AllByRecursion, Contains}
use Rattle.std.specs.List.Sorted.{IsStrictlySortedBy}
use Rattle.std.specs.Ordering.{nat_cmp}
use Rattle.sqlite.specs.declared.types.Value.TheVariants.{Null}
use Rattle.sqlite.specs.Order.{Row}
use Rattle.sqlite_trees.specs.Tree.{IsAscending}
use Rattle.deb_text.specs.Lists.{with_item}
use Rattle.deb_text.specs.Text.{text_cmp}
use Rattle.wb_states.specs.declared.scratch.BinaryRow.{BinaryRow}
use Rattle.wb_states.specs.declared.scratch.SourceRow.{SourceRow}
use Rattle.wb_rows.specs.Cells.{number}
use Rattle.wb_rows.specs.Scratch.{binary_cells, source_cells}

-- the source packages and the binary packages that a merge keeps while it runs
pub record Scratch : Type 0 where
  pub sources : List SourceRow
  pub binaries : List BinaryRow

-- no merge runs
abbrev pub no_merge : Scratch
no_merge = record { sources = []; binaries = [] }

-- each list is in the order of the places, and no place comes twice
pub record IsInOrder (scratch : Scratch) : Type 0 where
  pub sources : IsAscending (λ (a b : SourceRow). a.seq < b.seq) scratch.sources
  pub binaries : IsAscending (λ (a b : BinaryRow). a.seq < b.seq) scratch.binaries

-- the row of a source package as its table has it: the place is the rowid
abbrev pub stored_source : SourceRow → Row
stored_source row = number row.seq ∷ Null ∷ drop 1 (source_cells row)

-- the row of a binary package as its table has it: the place is the rowid
abbrev pub stored_binary : BinaryRow → Row
stored_binary row = number row.seq ∷ Null ∷ drop 1 (binary_cells row)

-- no source package has this place
abbrev pub IsNewSource : ℕ → Scratch → Type 0
IsNewSource seq scratch = AllByRecursion (λ (row : SourceRow). row.seq ≢ seq) scratch.sources

-- no binary package has this place
abbrev pub IsNewBinary : ℕ → Scratch → Type 0
IsNewBinary seq scratch = AllByRecursion (λ (row : BinaryRow). row.seq ≢ seq) scratch.binaries

-- one source package more, at its place
abbrev pub with_source : SourceRow → Scratch → Scratch
with_source row scratch = record scratch { sources = with_item (λ (a b : SourceRow). nat_cmp a.seq b.seq) row scratch.sources }

-- one binary package more, at its place
abbrev pub with_binary : BinaryRow → Scratch → Scratch
with_binary row scratch = record scratch { binaries = with_item (λ (a b : BinaryRow). nat_cmp a.seq b.seq) row scratch.binaries }

-- the source packages after a place, and all binary packages
abbrev pub sources_after : ℕ → Scratch → Scratch
sources_after place scratch = record scratch { sources = filter (λ row. not (nat_le row.seq place)) scratch.sources }

-- the binary packages after a place, and all source packages
abbrev pub binaries_after : ℕ → Scratch → Scratch
binaries_after place scratch = record scratch { binaries = filter (λ row. not (nat_le row.seq place)) scratch.binaries }

-- no source package
abbrev pub without_sources : Scratch → Scratch
without_sources scratch = record scratch { sources = [] }

-- no binary package
abbrev pub without_binaries : Scratch → Scratch
without_binaries scratch = record scratch { binaries = [] }

-- the source packages of a name
abbrev pub sources_named : List ℕ → Scratch → List SourceRow
sources_named name scratch = filter (λ row. bytes_eq row.name name) scratch.sources

-- the binary packages that were built from a source package
abbrev pub binaries_of : List ℕ → Scratch → List BinaryRow
binaries_of source scratch = filter (λ row. bytes_eq row.source source) scratch.binaries

-- the binary packages of a name
abbrev pub binaries_named : List ℕ → Scratch → List BinaryRow
binaries_named name scratch = filter (λ row. bytes_eq row.name name) scratch.binaries

-- these are the names of the source packages, each once, by name
pub record ListsNames (sources : List SourceRow) (names : List (List ℕ)) : Type 0 where
  pub ascending : IsStrictlySortedBy text_cmp names
  pub listed : (name : List ℕ) → Contains names name ↔ Contains (map (λ (row : SourceRow). row.name) sources) name
