-- The tables of the first schema, in a store of format 1: the records in a table of their own form, and the scratch tables without an index.
use Rattle.std.specs.Prelude.{◌≡◌, ℕ, List, [], ◌∷◌, None, pos}
use Rattle.sqlite.specs.Schema.{Schema}
use Rattle.sqlite.specs.Table.{Table}
use Rattle.sqlite.specs.Term.{Term, lit}
use Rattle.sqlite.specs.declared.types.Value.TheVariants.{Null, Int}
use Rattle.sqlite_catalog.specs.Listing.{automatic}
use Rattle.sqlite_value.specs.Keys.{plain}
use Rattle.wb_sql.specs.Queries.{TableQuery}
use Rattle.wb_sql.specs.OfficeStatements.{cell, no_limit, none_skipped, rising}
use Rattle.wb_sql.specs.Among.{HasIndexed, HasStates}
use Rattle.wb_sql.specs.Tables.{office, arch, builder, scratch_source, scratch_binary}

-- the schema has each of the tables of the first schema, and on each its indexes, in whatever trees, and no other
pub record HasFirstTables (schema : Schema) : Type 0 where
  pub office_is : HasIndexed schema office []
  pub archs_are : HasIndexed schema arch (automatic arch 0 (1 ∷ []) 2 ∷ [])
  pub builders_are : HasIndexed schema builder (automatic builder 0 (1 ∷ 2 ∷ []) 4 ∷ [])
  pub states_are : HasStates schema
  pub sources_are : HasIndexed schema scratch_source []
  pub binaries_are : HasIndexed schema scratch_binary []

-- a table whose PRIMARY KEY has these places, beside another UNIQUE, which comes first, each with an index in its order
pub record IsKeyedBeside (table : Table) (unique places : List ℕ) : Type 0 where
  pub no_key : table.key ≡ None
  pub primary_is : table.primary ≡ places
  pub two_uniques : table.uniques ≡ unique ∷ places ∷ []
  pub two_orders : table.orders ≡ plain ∷ plain ∷ []

-- the columns of a record of the first schema
abbrev pub state_cells : List Term
state_cells = cell 1 ∷ cell 2 ∷ cell 3 ∷ cell 4 ∷ cell 5 ∷ cell 6 ∷ cell 7 ∷ cell 8 ∷ cell 9 ∷ cell 10 ∷ cell 11 ∷ cell 12 ∷ cell 13 ∷ cell 14 ∷ cell 15 ∷ []

-- all records of the first schema, by architecture and then by source package
abbrev pub all_states : TableQuery
all_states = record { tree = 5; filter = []; project = state_cells; order = rising 1 ∷ rising 2 ∷ []; collations = []; limit = no_limit; offset = none_skipped }

-- the architecture of one record of the first schema
abbrev pub first_state : TableQuery
first_state = record { tree = 5; filter = []; project = cell 1 ∷ []; order = []; collations = []; limit = lit (Int (pos 1)); offset = none_skipped }

-- what the columns of the office's row are set to when the second schema takes the place of the first: the format is 2, and the two counts stay
abbrev pub second_format : List Term
second_format = lit Null ∷ lit (Int (pos 2)) ∷ cell 3 ∷ cell 4 ∷ []
