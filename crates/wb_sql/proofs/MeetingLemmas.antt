-- When a row of an office's table meets another, in a schema that may have indexes of others.
use Rattle.std.proofs.Common.{◌≡◌, refl, sym, ap, ◌∙◌, ℕ, ◌==◌, Bool, true, false, ◌&&◌, ◌||◌, List, [], ◌∷◌, Option, Some, None}
use Rattle.std.proofs.lemmas.Bool.{and_parts, eq-eqb}
use Rattle.std.proofs.lemmas.Map.Views.{any-filter_same}
use Rattle.sqlite.specs.Collation.TheVariants.{Binary}
use Rattle.sqlite.specs.Schema.{Schema}
use Rattle.sqlite.specs.Table.{Table}
use Rattle.sqlite.specs.Order.{Row, column}
use Rattle.sqlite_value.specs.Keys.{first_key, plain}
use Rattle.sqlite_schema.specs.declared.schema.Index.{Index}
use Rattle.sqlite_schema.specs.Rules.{equal, agree}
use Rattle.sqlite_rules.specs.Keys.{aims, shares, conflicts}
use Rattle.sqlite_catalog.specs.Listing.{automatic}
use Rattle.wb_sql.specs.Changes.{has_key}
use Rattle.wb_sql.specs.Rows.{meets}
use Rattle.wb_sql.specs.Tables.{source_record, record_order, record_take}
use Rattle.wb_sql.specs.OfficeStatements.{record_key}
use Rattle.wb_sql.specs.Among.{table_at, index_at, HasIndexes}

-- a key of two columns is met where a row has both
two_tests : (a b c : Bool) → ((a && true) || ((b && (c && true)) || false)) ≡ (a || (b && c))
two_tests true b c = refl
two_tests false true true = refl
two_tests false true false = refl
two_tests false false c = refl

key_test : (b c : Bool) → ((b && (c && true)) || false) ≡ (b && c)
key_test true true = refl
key_test true false = refl
key_test false c = refl

same_tree : (tree : ℕ) → (tree == tree) ≡ true
same_tree tree = eq-eqb tree tree refl

-- an index that two rows share guards the table
guarded : (target : Option (List ℕ)) (table : Table) (new row : Row) (index : Index) → shares target table new row index ≡ true → (index.table == table.tree) ≡ true
guarded target table new row index e = (and_parts _ _ (and_parts _ _ (and_parts _ _ e).0).0).1

-- of a schema's indexes only those on the table count
pub conflicts_by : (target : Option (List ℕ)) (schema : Schema) (table : Table) (indexes : List Index) (new row : Row) → HasIndexes schema table.tree indexes
    → conflicts target schema.indexes table new row ≡ conflicts target indexes table new row
conflicts_by target schema table indexes new row has =
    ap (λ b. (aims target (0 ∷ []) && agree plain (0 ∷ []) row (0 ∷ []) new) || b)
    (sym (any-filter_same (shares target table new row) (λ i. i.table == table.tree) true (guarded target table new row) schema.indexes))
    ∙ ap (λ these. conflicts target these table new row) has

-- a record meets another with its rowid, or with its architecture and source package
pub meets_record_among : (schema : Schema) (tree key order take : ℕ) (new row : Row)
    → HasIndexes schema tree (automatic (table_at tree source_record) 0 (1 ∷ 2 ∷ []) key ∷ index_at order tree record_order ∷ index_at take tree record_take ∷ [])
    → meets schema (table_at tree source_record) new row ≡ (equal Binary (column row 0) (column new 0) || (equal Binary (column row 1) (column new 1) && equal Binary (column row 2) (column new 2)))
unfolding first_key
meets_record_among schema tree key order take new row has =
    conflicts_by None schema (table_at tree source_record) _ new row has
    ∙ rw (same_tree tree) (two_tests (equal Binary (column row 0) (column new 0)) (equal Binary (column row 1) (column new 1)) (equal Binary (column row 2) (column new 2)))

-- a record has the key of another with its architecture and source package
pub has_key_among : (schema : Schema) (tree key order take : ℕ) (new row : Row)
    → HasIndexes schema tree (automatic (table_at tree source_record) 0 (1 ∷ 2 ∷ []) key ∷ index_at order tree record_order ∷ index_at take tree record_take ∷ [])
    → has_key schema (table_at tree source_record) record_key new row ≡ (equal Binary (column row 1) (column new 1) && equal Binary (column row 2) (column new 2))
unfolding first_key
has_key_among schema tree key order take new row has =
    conflicts_by (Some record_key) schema (table_at tree source_record) _ new row has
    ∙ rw (same_tree tree) (key_test (equal Binary (column row 1) (column new 1)) (equal Binary (column row 2) (column new 2)))
