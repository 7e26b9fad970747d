-- The statements on the scratch tables of a merge: which rows they write, take out and show. The place in the list is the rowid.
use Rattle.std.specs.Prelude.{ℕ, List, [], ◌∷◌}
use Rattle.sqlite.specs.Collation.TheVariants.{Binary}
use Rattle.sqlite.specs.declared.types.Value.TheVariants.{Null}
use Rattle.sqlite.specs.Term.{Term, lit, op2}
use Rattle.sqlite_sql.specs.declared.ops.BinaryOp.TheVariants.{Compare}
use Rattle.sqlite_sql.specs.declared.ops.CompareOp.TheVariants.{Le}
use Rattle.sqlite_value.specs.declared.keys.Key.{Key}
use Rattle.wb_sql.specs.Queries.{TableQuery}
use Rattle.wb_sql.specs.OfficeStatements.{parameter, cell, equals, rising, no_limit, none_skipped}

-- a source package of a merge, with its 9 columns as parameters
abbrev pub source_row : List Term
source_row = parameter 0 ∷ lit Null ∷ parameter 1 ∷ parameter 2 ∷ parameter 3 ∷ parameter 4 ∷ parameter 5 ∷ parameter 6 ∷ parameter 7 ∷ parameter 8 ∷ []

-- a binary package of a merge, with its 7 columns as parameters
abbrev pub binary_row : List Term
binary_row = parameter 0 ∷ lit Null ∷ parameter 1 ∷ parameter 2 ∷ parameter 3 ∷ parameter 4 ∷ parameter 5 ∷ parameter 6 ∷ []

-- the columns of a source package of a merge
abbrev pub source_cells : List Term
source_cells = cell 0 ∷ cell 2 ∷ cell 3 ∷ cell 4 ∷ cell 5 ∷ cell 6 ∷ cell 7 ∷ cell 8 ∷ cell 9 ∷ []

-- the columns of a binary package of a merge
abbrev pub binary_cells : List Term
binary_cells = cell 0 ∷ cell 2 ∷ cell 3 ∷ cell 4 ∷ cell 5 ∷ cell 6 ∷ cell 7 ∷ []

-- the rows of the table in this tree that pass these tests: these columns of them, in this order
abbrev pub shown_of : ℕ → List Term → List Term → List (Term × Key) → TableQuery
shown_of tree tests columns order = record { tree = tree; filter = tests; project = columns; order = order; collations = []; limit = no_limit; offset = none_skipped }

-- all source packages of a merge, by their place in the list
abbrev pub all_sources : TableQuery
all_sources = shown_of 9 [] source_cells (rising 0 ∷ [])

-- all binary packages of a merge, by their place in the list
abbrev pub all_binaries : TableQuery
all_binaries = shown_of 11 [] binary_cells (rising 0 ∷ [])

-- the source packages of a merge with a name, by their place in the list
abbrev pub sources_named : TableQuery
sources_named = shown_of 9 (equals 2 0 ∷ []) source_cells (rising 0 ∷ [])

-- the name of each source package of a merge, by name and then by place in the list
abbrev pub source_names : TableQuery
source_names = shown_of 9 [] (cell 2 ∷ []) (rising 2 ∷ rising 0 ∷ [])

-- the binary packages of a merge that were built from a source package, by their place in the list
abbrev pub binaries_of_source : TableQuery
binaries_of_source = shown_of 11 (equals 4 0 ∷ []) binary_cells (rising 0 ∷ [])

-- the binary packages of a merge with a name, by their place in the list
abbrev pub binaries_named : TableQuery
binaries_named = shown_of 11 (equals 2 0 ∷ []) binary_cells (rising 0 ∷ [])

-- the place in the list is at most the parameter
abbrev pub is_up_to_place : List Term
is_up_to_place = op2 (Compare Le Binary) (cell 0) (parameter 0) ∷ []
