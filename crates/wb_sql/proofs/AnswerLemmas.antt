-- An ordered answer as one list.
use Rattle.std.proofs.Common.{◌≡◌, pos, negsuc, List, map, take, refl, ◌∙◌, Ordering, Less, IsPermutation}
use Rattle.std.proofs.lemmas.List.Sorted.{IsPermutation-trans}
use Rattle.sqlite.specs.declared.types.Value.TheVariants.{Int}
use Rattle.sqlite.specs.Order.{Row}
use Rattle.sqlite.specs.Term.{lit}
use Rattle.sqlite.specs.Query.{Output, output_cmp}
use Rattle.sqlite_sql.proofs.QueryLemmas.{output_cmp_total}
use Rattle.sqlite_trees.specs.Tree.{IsAscending}
use Rattle.sqlite_keyed.specs.Lists.{sort_by}
use Rattle.sqlite_keyed.proofs.SortLemmas.{HasNoTies, sorted_unique, sorted_is-sort_by}
use Rattle.wb_sql.specs.Queries.{TableQuery, query_of, outputs, Answers}

module _ (q : TableQuery) (params : Row) (rows answer : List Row) (a : Answers q params rows answer) (from_start : q.offset ≡ lit (Int (pos 0))) where
  abbrev by : Output → Output → Ordering
  by = output_cmp (query_of q)

  -- without LIMIT the whole order is shown
  pub whole_answer : q.limit ≡ lit (Int (negsuc 0)) → answer ≡ map (λ (o : Output). o.1) a.ordered
  whole_answer unlimited = a.shown ∙ rw (unlimited, from_start) refl

  -- with LIMIT 1 its first row is
  pub first_answer : q.limit ≡ lit (Int (pos 1)) → answer ≡ take 1 (map (λ (o : Output). o.1) a.ordered)
  first_answer one = a.shown ∙ rw (one, from_start) refl

  -- a list of the same outputs that rises is the order
  pub rising_order : (xs : List Output) → IsAscending (λ x y. by x y ≡ Less) xs → IsPermutation xs (outputs q params rows) → a.ordered ≡ xs
  rising_order xs strict same = sorted_unique by (output_cmp_total (query_of q)) xs a.ordered strict (IsPermutation-trans _ _ _ same a.same) a.sorted

  -- where no two outputs are equal in the order, it is the sorted list of them
  pub sorted_order : HasNoTies by (output_cmp_total (query_of q)) (outputs q params rows) → a.ordered ≡ sort_by by (outputs q params rows)
  sorted_order apart = sorted_is-sort_by by (output_cmp_total (query_of q)) (outputs q params rows) a.ordered apart a.same a.sorted
