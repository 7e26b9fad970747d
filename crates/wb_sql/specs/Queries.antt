-- What a query on one table answers (SQL's SELECT with WHERE, ORDER BY, LIMIT and OFFSET).
use Rattle.std.specs.Prelude.{◌≡◌, ℕ, ◌^◌, nat_le, pos, negsuc, false, List, [], ◌∷◌, map, filter, None, IsPermutation, IsSorted}
use Rattle.std.specs.List.{list_all}
use Rattle.sqlite.specs.Collation.{Collation}
use Rattle.sqlite_value.specs.declared.keys.Key.{Key}
use Rattle.sqlite.specs.Order.{Row}
use Rattle.sqlite.specs.Schema.{Schema}
use Rattle.sqlite.specs.Term.{Term, lit, col, holds}
use Rattle.sqlite.specs.declared.types.Value.TheVariants.{Int}
use Rattle.sqlite.specs.Query.{Query, Output, inner, end, output, output_cmp, page}
use Rattle.sqlite.specs.Command.TheVariants.{Select}
use Rattle.sqlite.specs.Listing.{reads_listing}
use Rattle.wb_sql.specs.Statements.{Means}

-- SELECT project FROM the table WHERE each of filter ORDER BY order LIMIT limit OFFSET offset
pub record TableQuery : Type 0 where
  pub tree : ℕ
  pub filter : List Term
  pub project : List Term
  pub order : List (Term × Key)
  pub collations : List Collation
  pub limit : Term
  pub offset : Term

-- the same as a query of `sqlite`
abbrev pub query_of : TableQuery → Query
query_of q = record {
  from = inner q.tree end;
  filter = q.filter;
  group = None;
  project = q.project;
  distinct = false;
  collations = q.collations;
  order = q.order;
  limit = q.limit;
  offset = q.offset;
}

-- over this schema the text, which has so many parameters, asks this, of a table that is stored
pub record Asks (schema : Schema) (sql : List ℕ) (q : TableQuery) (count : ℕ) : Type 0 where
  pub names : List (List ℕ)
  pub means : Means schema sql (Select (record { lets = []; body = query_of q }) names) count
  pub unlisted : reads_listing schema sql ≡ false
  pub stored : nat_le (2 ^ 31) q.tree ≡ false

-- the rows that pass each term of WHERE
abbrev pub chosen : TableQuery → Row → List Row → List Row
chosen q params = filter (λ row. list_all (holds (params ∷ row ∷ [])) q.filter)

-- of each of these, what it is sorted by and what is shown of it
abbrev pub outputs : TableQuery → Row → List Row → List Output
outputs q params rows = map (λ row. output (query_of q) (params ∷ row ∷ [])) (chosen q params rows)

-- the answer shows each row that is chosen once, in the order of ORDER BY, cut by LIMIT and OFFSET
pub record Answers (q : TableQuery) (params : Row) (rows answer : List Row) : Type 0 where
  pub ordered : List Output
  pub same : IsPermutation (outputs q params rows) ordered
  pub sorted : IsSorted (output_cmp (query_of q)) ordered
  pub shown : answer ≡ page (query_of q) params (map (λ o. o.1) ordered)

-- SELECT rowid FROM the table WHERE each of these tests
abbrev pub rowids_where : ℕ → List Term → TableQuery
rowids_where tree tests =
    record { tree = tree; filter = tests; project = col 1 0 ∷ []; order = []; collations = []; limit = lit (Int (negsuc 0)); offset = lit (Int (pos 0)) }
