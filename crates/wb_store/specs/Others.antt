-- What a change of the office's tables, and the step from the first schema to the second, leave of the tables of others beside them.
use Rattle.std.specs.Prelude.{◌≡◌, false}
use Rattle.std.specs.List.{AllByRecursion}
use Rattle.sqlite.specs.Effect.{Database}
use Rattle.sqlite.specs.Schema.{Schema}
use Rattle.wb_sql.specs.Among.{names_either, names_office}
use Rattle.wb_sql.specs.Upgrading.{with_second}

-- the tables, indexes and views of others are as they were, and their tables have the rows that they had
pub record KeepsOthers (before after : Database) : Type 0 where
  pub schema : after.schema ≡ before.schema
  pub rows : AllByRecursion (λ table. names_office table.name ≡ false → after.trees table.tree ≡ before.trees table.tree) before.schema.tables

-- a step that makes nothing leaves the schema as it was
abbrev pub same_schema : Schema → Schema
same_schema schema = schema

-- the schema becomes this one of what it was, and each table that was there has the rows that it had, unless it has the name of a table of an office in either schema
pub record KeepsOthersIn (become : Schema → Schema) (before after : Database) : Type 0 where
  pub schema : after.schema ≡ become before.schema
  pub rows : AllByRecursion (λ table. names_either table.name ≡ false → after.trees table.tree ≡ before.trees table.tree) before.schema.tables

-- the schema gets the tables and indexes of the second, beside all that it had, and nothing else, and the tables of others have the rows that they had
abbrev pub KeepsOthersOver : Database → Database → Type 0
KeepsOthersOver before after = KeepsOthersIn with_second before after
