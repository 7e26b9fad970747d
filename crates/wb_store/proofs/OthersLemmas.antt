-- The tables of others keep their rows: where nothing is done, where one change follows another, where one of the office's tables is changed, and where those of the
-- second schema are made.
use Rattle.std.proofs.Common.{◌≡◌, ◌≢◌, ◌==◌, ℕ, Bool, true, false, List, [], ◌∷◌, ◌++◌, append-nil, inl, inr, refl}
use Rattle.std.proofs.Common.{sym, ap, subst, ◌∙◌}
use Rattle.std.specs.List.{AllByRecursion}
use Rattle.std.proofs.lemmas.Bool.{both_ways, eq-eqb, or_parts}
use Rattle.sqlite.specs.Schema.{Schema}
use Rattle.sqlite.specs.Table.{Table}
use Rattle.sqlite.specs.Order.{Row}
use Rattle.sqlite.specs.Change.{next_tree}
use Rattle.sqlite.specs.Effect.{Database}
use Rattle.sqlite.specs.State.{State}
use Rattle.sqlite_rules.specs.Lists.{Has}
use Rattle.sqlite_rules.proofs.ListLemmas.{has_kept}
use Rattle.sqlite_schema.specs.Names.{same_name}
use Rattle.wb_sql.specs.Changes.{SetsTable}
use Rattle.wb_sql.specs.Among.{HasTable, names_either, names_office, table_at, table_in}
use Rattle.wb_sql.specs.Making.{MakesTables}
use Rattle.wb_sql.specs.Tables.{office, arch, builder, source_record, source_state, scratch_source, scratch_binary}
use Rattle.wb_sql.specs.Upgrading.{with_second, with_second_binary, with_second_order, with_second_record}
use Rattle.wb_sql.specs.Upgrading.{with_second_source, with_second_take}
use Rattle.wb_sql.proofs.AppendLemmas.{all_both, all_split}
use Rattle.wb_store.specs.Others.{KeepsOthers, KeepsOthersIn, KeepsOthersOver, same_schema}
pub use Rattle.wb_store.specs.MergeLaws.{others_then}

-- what holds of each table of a list follows from another that does
each_table : {P Q : Table → Type 0} (tables : List Table) → ((t : Table) → Has tables t → P t → Q t) → AllByRecursion P tables → AllByRecursion Q tables
each_table [] follows all = tt
each_table (t ∷ tables) follows all = (follows t (inl refl) all.0, each_table tables (λ u has. follows u (inr has)) all.1)

-- what holds of every table holds of each of a list
any_table : {Q : Table → Type 0} (tables : List Table) → ((t : Table) → Q t) → AllByRecursion Q tables
any_table [] holds = tt
any_table (t ∷ tables) holds = (holds t, any_table tables holds)

-- ---- nothing is done, or one change after another

-- a database keeps what it has
pub others_same : (db : Database) → KeepsOthers db db
others_same db = record { schema = refl; rows = any_table db.schema.tables (λ t other. refl) }

-- a database that is the same keeps it
pub others_equal : (before after : Database) → after ≡ before → KeepsOthers before after
others_equal before after same = subst (λ db. KeepsOthers before db) (sym same) (others_same before)

-- what was kept is kept in a database that is the same as the one after
pub others_still : {before mid : Database} (after : Database) → KeepsOthers before mid → after ≡ mid → KeepsOthers before after
others_still {before} after kept same = subst (λ db. KeepsOthers before db) (sym same) kept

-- ---- one of the office's tables is changed

-- a table whose name is no office's is in another tree than one of the office's, which is alone in its own
other_tree : (names : List ℕ → Bool) (schema : Schema) (table : Table) → HasTable schema table → names table.name ≡ true → (t : Table) → Has schema.tables t → names t.name ≡ false → t.tree ≢ table.tree
other_tree names schema table is named t there other same =
    let kept : Has (table ∷ []) t = subst (λ ts. Has ts t) is.in_tree (has_kept (λ (u : Table). u.tree == table.tree) schema.tables t there (eq-eqb t.tree table.tree same)) in
    let one : t ≡ table = elim kept [ inl same ↦ same | inr later ↦ absurd later ] in
    both_ways (names t.name) other (ap (λ (u : Table). names u.name) one ∙ named)

-- a change of the rows of one of the office's tables leaves the rows of others
pub others_kept : (old new : State) (table : Table) (rows : List Row) → HasTable old.now.schema table → names_office table.name ≡ true → SetsTable table rows old new → KeepsOthers old.now new.now
others_kept old new table rows is named made = record {
  schema = made.schema;
  rows = each_table old.now.schema.tables (λ t there keeps other. keeps (other_tree names_office old.now.schema table is named t there other)) made.tables;
}

-- the tables that a command changes have names of the office's
module _ (schema : Schema) where
  pub office_named : names_office (table_in schema office).name ≡ true
  unfolding same_name
  office_named = refl

  pub arch_named : names_office (table_in schema arch).name ≡ true
  unfolding same_name
  arch_named = refl

  pub builder_named : names_office (table_in schema builder).name ≡ true
  unfolding same_name
  builder_named = refl

  pub record_named : names_office (table_in schema source_record).name ≡ true
  unfolding same_name
  record_named = refl

  pub source_named : names_office (table_in schema scratch_source).name ≡ true
  unfolding same_name
  source_named = refl

  pub binary_named : names_office (table_in schema scratch_binary).name ≡ true
  unfolding same_name
  binary_named = refl

-- ---- an office is brought over into the second schema

-- a schema, and what becomes of it, which has all its tables before others
abbrev pub HasAllTables : (Schema → Schema) → Type 0
HasAllTables become = (schema : Schema) → (more : List Table) × ((become schema).tables ≡ schema.tables ++ more)

pub same_has_all : HasAllTables same_schema
same_has_all schema = ([], sym (append-nil schema.tables))

pub second_has_all : HasAllTables with_second
unfolding with_second with_second_binary with_second_source with_second_take with_second_order with_second_record
second_has_all schema = (table_at (next_tree schema) source_record ∷ [], refl)

-- a database keeps what it has
pub over_same : (db : Database) → KeepsOthersIn same_schema db db
over_same db = record { schema = refl; rows = any_table db.schema.tables (λ t other. refl) }

-- what one step keeps of a database, and then another of that, both keep
pub over_then : {one two : Schema → Schema} (before mid after : Database) → HasAllTables one → KeepsOthersIn one before mid → KeepsOthersIn two mid after
    → KeepsOthersIn (λ schema. two (one schema)) before after
over_then {one} {two} before mid after all first second =
    let (more, are) = all before.schema in
    let kept = subst (AllByRecursion (λ (t : Table). names_either t.name ≡ false → after.trees t.tree ≡ mid.trees t.tree)) (ap (λ (s : Schema). s.tables) first.schema ∙ are) second.rows in
    record {
      schema = second.schema ∙ ap two first.schema;
      rows = all_both _ _ _ (λ t was now other. now other ∙ was other) before.schema.tables first.rows
          (all_split (λ (t : Table). names_either t.name ≡ false → after.trees t.tree ≡ mid.trees t.tree) before.schema.tables more kept).0;
    }

-- a change that keeps the tables of others keeps those that are of neither schema
pub over_kept : (before after : Database) → KeepsOthers before after → KeepsOthersIn same_schema before after
over_kept before after kept = record {
  schema = kept.schema;
  rows = each_table before.schema.tables (λ t there keeps other. keeps (or_parts (names_office t.name) _ other).0) kept.rows;
}

-- a change of the rows of a table of an office in either schema leaves the rows of others
pub over_set : (old new : State) (table : Table) (rows : List Row) → HasTable old.now.schema table → names_either table.name ≡ true → SetsTable table rows old new
    → KeepsOthersIn same_schema old.now new.now
over_set old new table rows is named made = record {
  schema = made.schema;
  rows = each_table old.now.schema.tables (λ t there keeps other. keeps (other_tree names_either old.now.schema table is named t there other)) made.tables;
}

-- the tables of the second schema are made
pub over_made : (old new : State) (made : List Table) → MakesTables old.now.schema.tables (with_second old.now.schema) made old new → KeepsOthersOver old.now new.now
over_made old new made makes = record {
  schema = makes.made.schema_is;
  rows = each_table old.now.schema.tables (λ t there keeps other. keeps) makes.kept;
}

-- the tables that are changed have names of the office's in either schema
module _ (schema : Schema) where
  pub office_either : names_either (table_in schema office).name ≡ true
  unfolding same_name
  office_either = refl

  pub states_either : names_either (table_in schema source_state).name ≡ true
  unfolding same_name
  states_either = refl
