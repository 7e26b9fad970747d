-- The trees of a sound database have small numbers, and each of its indexes is on one of its tables.
use Rattle.std.proofs.Common.{◌≡◌, ◌<◌, List, [], ◌∷◌, arith, ap}
use Rattle.std.specs.List.{AllByRecursion, AllZip}
use Rattle.sqlite_value.specs.declared.value.Value.{Value}
use Rattle.sqlite_value.specs.declared.value.Value.TheVariants.{Null, Int, Real, Text, Blob}
use Rattle.sqlite_value.specs.Order.{Row, column}
use Rattle.sqlite_schema.specs.declared.schema.Index.{Index}
use Rattle.sqlite_schema.specs.declared.schema.View.{View}
use Rattle.sqlite_catalog.specs.Listing.{IsSound, IsTableRow, IsIndexRow, IsViewRow, IsDefined}
use Rattle.sqlite_catalog.proofs.StepLemmas.{table_below}
use Rattle.sqlite.specs.Schema.{Schema}
use Rattle.sqlite.specs.Table.{Table}
use Rattle.sqlite.specs.Tree.{Trees}
use Rattle.sqlite.specs.Change.{next_tree}
use Rattle.wb_sql.specs.Among.{IsNumbered}
use Rattle.wb_sql.proofs.AppendLemmas.{past_within}
use Rattle.wb_sql.proofs.CreatedLemmas.{next_within}

-- the schema of a database with nothing in it
abbrev pub empty_schema : Schema
empty_schema = record { tables = []; indexes = []; views = [] }

pub empty_numbered : IsNumbered empty_schema
empty_numbered = record { bounded = omega arith; indexes = tt }

-- what each row of a list tells of what it lists
all_listed : {X : Type 0} (R : Row → X → Type 0) (P : X → Type 0) → ((row : Row) (x : X) → R row x → P x) → (rows : List Row) (xs : List X) → AllZip R rows xs → AllByRecursion P xs
all_listed R P tells [] [] zip = tt
all_listed R P tells [] (x ∷ xs) zip = absurd zip
all_listed R P tells (row ∷ rows) [] zip = tt
all_listed R P tells (row ∷ rows) (x ∷ xs) zip = (tells row x zip.0, all_listed R P tells rows xs zip.1)

-- an index is on the table of its row
on_table : (table : Table) (index : Index) (sql : Value) → IsDefined table index sql → index.table ≡ table.tree
on_table table index Null is = ap (λ (i : Index). i.table) is.3
on_table table index (Int n) is = absurd is
on_table table index (Real x) is = absurd is
on_table table index (Text text) is = ap (λ (i : Index). i.table) is.2
on_table table index (Blob b) is = absurd is

pub numbered_of : (schema : Schema) (db : Trees) → IsSound schema db → IsNumbered schema
numbered_of schema db sound =
    let listed = sound.lists.listed in
    let tables = all_listed IsTableRow (λ t. t.tree < 65536) (λ row t is. is.described.low) _ schema.tables listed.tables in
    let indexes = all_listed (IsIndexRow schema.tables) (λ i. i.tree < 65536) (λ row i is. is.described.low) _ schema.indexes listed.indexes in
    let views = all_listed IsViewRow (λ v. v.tree < 65536) (λ row v is. is.described.low) _ schema.views listed.views in
    record {
      bounded = next_within schema 65536 (past_within (λ (v : View). v.tree) 0 65536 schema.views (omega arith) views) tables indexes;
      indexes = all_listed (IsIndexRow schema.tables) (λ i. i.table < next_tree schema)
          (λ row i is. let below = table_below schema is.table is.listed in let same = on_table is.table i (column row 4) is.defined in omega (arith, below, same)) _ schema.indexes
          listed.indexes;
    }
