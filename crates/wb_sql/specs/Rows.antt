-- The rows of one table as SQLite stores them: each is its rowid and then its cells, in the order of the rowids.
use Rattle.std.specs.Prelude.{◌≡◌, ◌⊎◌, ℤ, Bool, true, not, List, ◌∷◌, drop, filter, map, None}
use Rattle.sqlite.specs.declared.types.Value.TheVariants.{Null, Int}
use Rattle.sqlite.specs.Order.{Row}
use Rattle.sqlite.specs.Tree.{IsTable, rowid, put_row}
use Rattle.sqlite.specs.Schema.{Schema}
use Rattle.sqlite.specs.Table.{Table}
use Rattle.sqlite.specs.Rowids.TheVariants.{Chosen}
use Rattle.sqlite.specs.Edit.{have_rowids, with_rowid}
use Rattle.sqlite.specs.Cast.{cast_all}
use Rattle.sqlite_rules.specs.Keys.{conflicts}
use Rattle.sqlite.specs.Rows.{mended_from}

-- a row without its rowid
abbrev pub cells : Row → Row
cells = drop 1

-- the rows without their rowids
abbrev pub cells_of : List Row → List Row
cells_of = map cells

-- REPLACE and DELETE of the kit's `sqlite` find rows by their rowids, and no clause of a connection says that those of
-- a file rise. Every change keeps that they do, and tables without a row have it: so it is held from the making of the
-- tables on, and of a file that another program wrote nothing is claimed.

-- the rowids are whole numbers that rise, so none comes twice
pub record IsStored (rows : List Row) : Type 0 where
  pub whole : have_rowids rows ≡ true
  pub rising : IsTable rows

-- a row that the table takes as it is given: its rowid is left to the table or a whole number, each cell has its column's type,
-- and none is a NULL that a default would replace
pub record IsTyped (table : Table) (given : Row) : Type 0 where
  pub row : given ≡ rowid given ∷ cells given
  pub id : (rowid given ≡ Null) ⊎ ((n : ℤ) × (rowid given ≡ Int n))
  pub cast : cast_all table.columns (cells given) ≡ cells given
  pub present : mended_from table.key 0 table.columns (cells given) ≡ cells given

-- the row with its own rowid or, if that is NULL, with the one after the last
abbrev pub with_next_rowid : List Row → Row → Row
with_next_rowid = with_rowid Chosen

-- a row of the table meets the new one: it has its rowid, or its key under a unique index
abbrev pub meets : Schema → Table → Row → Row → Bool
meets schema table new row = conflicts None schema.indexes table new row

-- what INSERT leaves
abbrev pub inserted : Row → List Row → List Row
inserted given rows = put_row (with_next_rowid rows given) rows

-- the rows that do not meet the one that is given
abbrev pub apart : Schema → Table → Row → List Row → List Row
apart schema table given rows = filter (λ row. not (meets schema table (with_next_rowid rows given) row)) rows

-- what INSERT OR REPLACE leaves: the new row, and the old ones that do not meet it
abbrev pub replaced : Schema → Table → Row → List Row → List Row
replaced schema table given rows = put_row (with_next_rowid rows given) (apart schema table given rows)

-- what DELETE leaves
abbrev pub without : (Row → Bool) → List Row → List Row
without test = filter (λ row. not (test row))
