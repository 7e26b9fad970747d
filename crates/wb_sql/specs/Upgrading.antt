-- The step from the tables of the first schema to those of the second: what a database has before it, and what after it.
use Rattle.std.specs.Prelude.{◌≡◌, ℕ, Bool, true, false, List, [], ◌∷◌}
use Rattle.std.specs.List.{list_any}
use Rattle.sqlite.specs.Change.{created, is_used}
use Rattle.sqlite.specs.Does.{lacks_sequence}
use Rattle.sqlite.specs.Schema.{Schema}
use Rattle.wb_sql.specs.Among.{are_unreferred, are_quiet}
use Rattle.wb_sql.specs.FirstSchema.{HasFirstTables}
use Rattle.wb_sql.specs.Making.{with_index}
use Rattle.wb_sql.specs.Tables.{source_record, scratch_source, scratch_binary}
use Rattle.wb_sql.specs.Tables.{record_order, record_take, source_name, binary_source, binary_name}

-- ---- what is there

-- the names of what the second schema adds to the first: a table and five indexes
abbrev pub second_names : List (List ℕ)
second_names = source_record.name ∷ record_order.name ∷ record_take.name ∷ source_name.name ∷ binary_source.name ∷ binary_name.name ∷ []

-- a table, an index or a view has one of these names
abbrev pub has_second_name : Schema → Bool
has_second_name schema = list_any (λ name. is_used schema name) second_names

-- the schema has the tables of the first schema with their indexes, beside tables, indexes and views of others; what the second schema adds can be made in
-- it; no table of others refers to a table of either schema, no foreign key that refers to one of them does anything, and if a table counts its rowids
-- (AUTOINCREMENT), the table of these counts is there
pub record HasFirstOffice (schema : Schema) : Type 0 where
  pub tables : HasFirstTables schema
  pub free : has_second_name schema ≡ false
  pub unreferred : are_unreferred schema ≡ true
  pub quiet : are_quiet schema ≡ true
  pub counted : lacks_sequence schema ≡ false

-- ---- what is made, one CREATE after another

-- the schema with the table of records of the second schema
unfoldable pub with_second_record : Schema → Schema
with_second_record schema = created schema source_record

-- and its first index
unfoldable pub with_second_order : Schema → Schema
with_second_order schema = with_index (with_second_record schema) source_record record_order

-- and its second index
unfoldable pub with_second_take : Schema → Schema
with_second_take schema = with_index (with_second_order schema) source_record record_take

-- and the index of the scratch table of source packages
unfoldable pub with_second_source : Schema → Schema
with_second_source schema = with_index (with_second_take schema) scratch_source source_name

-- and the first index of the scratch table of binary packages
unfoldable pub with_second_binary : Schema → Schema
with_second_binary schema = with_index (with_second_source schema) scratch_binary binary_source

-- and its second index: the schema with all tables and indexes of the second schema
unfoldable pub with_second : Schema → Schema
with_second schema = with_index (with_second_binary schema) scratch_binary binary_name
