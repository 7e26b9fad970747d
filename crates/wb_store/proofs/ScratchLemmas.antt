-- Whether a table has a row, by a query for one.
use Rattle.std.proofs.Common.{◌≡◌, inl, inr, ℕ, Bool, false, not, List, [], ◌∷◌, length, ◌==◌, map, take, Result, Ok, Err, Vec, refl, sym, ap, subst, ◌∙◌, arith, IsPermutation, pos}
use Rattle.std.specs.Vec.{vec_len}
use Rattle.std.proofs.lemmas.List.Sorted.{length_permutation}
use Rattle.sqlite.specs.Effect.{Database}
use Rattle.sqlite.specs.Held.{Held, state}
use Rattle.sqlite.specs.Order.{Row}
use Rattle.sqlite.specs.Query.{Output}
use Rattle.sqlite_trees.specs.declared.store.Store.{Ghosts}
use Rattle.wb_sql.specs.Queries.{Answers, TableQuery, outputs}
use Rattle.wb_sql.proofs.AnswerLemmas.{first_answer}
use Rattle.wb_sql.specs.Among.{rows_in}
use Rattle.sqlite.specs.Term.{lit}
use Rattle.sqlite.specs.declared.types.Value.TheVariants.{Int}
use Rattle.wb_sql.specs.OfficeStatements.{cell, none_skipped}
use Rattle.wb_sql.specs.Tables.{scratch_source, scratch_binary, source_state}
use Rattle.wb_states.specs.declared.store_fault.StoreFault.{StoreFault}
use Rattle.deb_text.specs.Lists.{is_nonempty}
use Rattle.wb_store.specs.Lookups.{ReadsTable}
use Rattle.wb_store.specs.Scratch.{TestsForRows, has_rows}
use Rattle.wb_store.specs.Queries.{AnswersTo, IsForOne, OfficeQuery, table_asked, given_to}
use Rattle.wb_store.proofs.OrderLemmas.{none_permuted}
use Rattle.wb_store.proofs.ReadLemmas.{AsksIn, answered_in, crash_in, fails_in, plain_in}

-- ---- whether a list has a row

length-is_nonempty : {X : Type 0} (xs : List X) → not (length xs == 0) ≡ is_nonempty xs
length-is_nonempty [] = refl
length-is_nonempty (x ∷ xs) = grind arith

-- the length of a vector says it
pub counted-is_nonempty : {X A : Type 0} (v : Vec X A) → not (vec_len v == 0) ≡ is_nonempty v.items
counted-is_nonempty v = ap (λ n. not (n == 0)) v.ok.0 ∙ length-is_nonempty v.items

permuted-is_nonempty : {X : Type 0} (xs ys : List X) → IsPermutation xs ys → is_nonempty xs ≡ is_nonempty ys
permuted-is_nonempty xs [] same = go xs same
  where
    go : {X : Type 0} (xs : List X) → IsPermutation xs [] → is_nonempty xs ≡ false
    go [] same = refl
    go {X} (x ∷ xs) same = absurd (omega (arith, length_permutation {X = X} (x ∷ xs) [] same))
permuted-is_nonempty [] (y ∷ ys) same = sym (ap is_nonempty (none_permuted (y ∷ ys) same))
permuted-is_nonempty (x ∷ xs) (y ∷ ys) same = refl

first-is_nonempty : {X : Type 0} (xs : List X) → is_nonempty (take 1 xs) ≡ is_nonempty xs
first-is_nonempty [] = refl
first-is_nonempty (x ∷ xs) = refl

map-is_nonempty : {X Y : Type 0} (f : X → Y) (xs : List X) → is_nonempty (map f xs) ≡ is_nonempty xs
map-is_nonempty f [] = refl
map-is_nonempty f (x ∷ xs) = refl

-- one row of the table in this tree, of which this column is shown
abbrev one_of : ℕ → ℕ → TableQuery
one_of at tree = record { tree = tree; filter = []; project = cell at ∷ []; order = []; collations = []; limit = lit (Int (pos 1)); offset = none_skipped }

module _ (at tree : ℕ) (rows answer : List Row) (a : Answers (one_of at tree) [] rows answer) where
  outputs-is_nonempty : (all : List Row) → is_nonempty (outputs (one_of at tree) [] all) ≡ is_nonempty all
  outputs-is_nonempty [] = refl
  outputs-is_nonempty (row ∷ all) = refl

  -- the query for one row answers one where there is one
  one_found : is_nonempty answer ≡ is_nonempty rows
  one_found =
      ap is_nonempty (first_answer (one_of at tree) [] rows answer a refl refl) ∙ first-is_nonempty (map (λ (o : Output). o.1) a.ordered)
      ∙ map-is_nonempty (λ (o : Output). o.1) a.ordered ∙ sym (permuted-is_nonempty (outputs (one_of at tree) [] rows) a.ordered a.same) ∙ outputs-is_nonempty rows

-- the query for one row of a table answers one where there is one
pub one_row_found : (query : OfficeQuery) (db : Database) (answer : List Row) → IsForOne query → AnswersTo query db answer → is_nonempty answer ≡ has_rows (table_asked query) db
one_row_found query db answer (inl source) =
    subst (λ q. AnswersTo q db answer → is_nonempty answer ≡ has_rows (table_asked q) db) (sym source) (one_found 0 9 (rows_in db scratch_source) answer)
one_row_found query db answer (inr (inl binary)) =
    subst (λ q. AnswersTo q db answer → is_nonempty answer ≡ has_rows (table_asked q) db) (sym binary) (one_found 0 11 (rows_in db scratch_binary) answer)
one_row_found query db answer (inr (inr state)) =
    subst (λ q. AnswersTo q db answer → is_nonempty answer ≡ has_rows (table_asked q) db) (sym state) (one_found 1 5 (rows_in db source_state) answer)

-- it has no parameters
pub none_given : (query : OfficeQuery) → IsForOne query → [] ≡ given_to query
none_given query (inl source) = ap given_to (sym source)
none_given query (inr (inl binary)) = ap given_to (sym binary)
none_given query (inr (inr state)) = ap given_to (sym state)

-- ---- what a test promises

module _ {S : Type 0} {g : Ghosts S} {text : List ℕ} {query : OfficeQuery} (asks : AsksIn text [] query) {old new : Held S} where
  -- a test whose query succeeded
  pub tests_rows : {X : Type 0} {rows : Vec Row X} {found : Bool} → ReadsTable g (table_asked query) text [] old new (Ok rows)
      → (AnswersTo query (state g old).now rows.items → found ≡ has_rows (table_asked query) (state g old).now) → TestsForRows g query old new (Ok found)
  tests_rows read finds = record {
    value = λ clean there. finds (answered_in asks (state g old) there (read.value clean));
    same = λ clean there. read.same clean (plain_in asks there);
    err = λ clean there. tt;
    survives = crash_in asks g old new read.survives;
  }

  -- a test whose query failed
  pub tests_nothing : {X : Type 0} {fault : StoreFault} {r : Result Bool StoreFault} → ReadsTable {X = X} g (table_asked query) text [] old new (Err fault) → r ≡ Err fault → TestsForRows g query old new r
  tests_nothing read is = subst (λ (r : Result Bool StoreFault). TestsForRows g query old new r) (sym is) (record {
    value = λ clean there. tt;
    same = λ clean there. tt;
    err = λ clean there. fails_in asks (read.err clean);
    survives = crash_in asks g old new read.survives;
  })
