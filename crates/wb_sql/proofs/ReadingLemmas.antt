-- What a query leaves of a connection.
use Rattle.std.proofs.Common.{◌≡◌, inl, inr, ℕ, ◌^◌, nat_le, Bool, true, false, cond, List, [], ◌∷◌, ◌++◌, map, filter, flat_map, IsPermutation, None, Some, Ok, Err, Result, OnOk, IfOk, IfErr, Vec, refl, ap, subst, ◌∙◌}
use Rattle.sqlite.specs.Order.{Row}
use Rattle.sqlite.specs.Tree.{Trees}
use Rattle.sqlite.specs.declared.error.Error.{Error}
use Rattle.sqlite.specs.Clock.{timed}
use Rattle.sqlite.specs.Given.{IsPlain}
use Rattle.sqlite.specs.Listing.{understood}
use Rattle.sqlite.specs.State.{State, Shown, ShowsRows, FailsToQuery, FailsToShow, IsNotRun, IsUnchanged}
use Rattle.sqlite.proofs.Callers.{command_of, reads_as}
use Rattle.std.specs.List.{list_all}
use Rattle.sqlite.specs.Schema.{Schema}
use Rattle.sqlite.specs.Term.{holds}
use Rattle.sqlite.specs.Query.{IsAnswer, output}
use Rattle.sqlite.specs.Program.{overlay}
use Rattle.sqlite.specs.Command.{Command}
use Rattle.sqlite.specs.Command.TheVariants.{Select}
use Rattle.sqlite.specs.declared.types.Value.TheVariants.{Null}
use Rattle.sqlite_resolve.specs.declared.compiled.Compiled.{Compiled}
use Rattle.sqlite_resolve.specs.declared.error.CompileError.{CompileError}
use Rattle.sqlite_keyed.proofs.ListLemmas.{map-map}
use Rattle.wb_sql.specs.Statements.{command_in, Means}
use Rattle.wb_sql.specs.Queries.{TableQuery, query_of, Asks, outputs, Answers}
use Rattle.wb_sql.specs.Transactions.{IsKeptOrUndone}

module _ (sql : List ℕ) (params : Row) (old new : State) where
  shown_same : (rows : List Row) → IsPlain (understood old.now.schema sql) → Shown sql params old new rows → IsUnchanged old new
  unfolding Shown
  shown_same rows plain h = (subst (ShowsRows old new sql h.0 (timed params h.0.formats h.1.now) rows) (subst IsPlain h.1.is plain).0 h.2).3

  -- a query that fails leaves all as it was, or takes the transaction back
  pub query_kept : (e : Error) → FailsToQuery sql params old new e → IsKeptOrUndone old new
  unfolding FailsToQuery IsNotRun
  query_kept e (inl (inl refused)) = inl refused.1
  query_kept e (inl (inr failed)) = inr failed.3
  query_kept e (inr h) = by_returning h.0.returning h.2
    where
      by_returning : (o : _) → FailsToShow old new sql h.0 (timed params h.0.formats h.1.now) e o → IsKeptOrUndone old new
      by_returning None it = inl it.3
      by_returning (Some what) (inl refused) = inl refused.1
      by_returning (Some what) (inr failed) = inr failed.3

  pub answered_same : {X : Type 0} (r : Result (Vec Row X) Error) → IsPlain (understood old.now.schema sql) → IfOk r (λ rows. Shown sql params old new rows.items) → OnOk r (IsUnchanged old new)
  answered_same (Ok rows) plain h = shown_same rows.items plain h
  answered_same (Err e) plain h = tt

  pub failed_kept : {A : Type 0} (r : Result A Error) → IfErr r (FailsToQuery sql params old new) → IfErr r (λ e. FailsToQuery sql params old new e × IsKeptOrUndone old new)
  failed_kept (Ok rows) h = tt
  failed_kept (Err e) h = (h, query_kept e h)

-- a `flat_map` that keeps what passes a test
kept_by : {A B : Type 0} (p : A → Bool) (f : A → B) (xs : List A) → flat_map (λ x. cond (p x) (f x ∷ []) []) xs ≡ map f (filter p xs)
kept_by p f [] = refl
kept_by {A} {B} p f (x ∷ xs) =
    elim (p x) as (λ b. cond b (f x ∷ []) [] ++ flat_map (λ y. cond (p y) (f y ∷ []) []) xs ≡ map f (cond b (x ∷ filter p xs) (filter p xs)))
    [ true ↦ ap (λ l. f x ∷ l) (kept_by p f xs) | false ↦ kept_by p f xs ]

same_command : (r : Result Compiled CompileError) → command_of r ≡ command_in r
same_command (Ok c) = refl
same_command (Err e) = refl

-- the command of a text, as the kit's lemmas speak of it
pub means_as : (schema : Schema) (sql : List ℕ) (command : Command) {count : ℕ} → Means schema sql command count → command_of (understood schema sql) ≡ command
means_as schema sql command {count} m = same_command (understood schema sql) ∙ m.is

-- an answer of the kit to a query on one table, over its rows
pub answers_from : (q : TableQuery) (db : Trees) (params : Row) (answer : List Row) → nat_le (2 ^ 31) q.tree ≡ false → IsAnswer (query_of q) (overlay db []) params answer → Answers q params (db q.tree) answer
answers_from q db params answer low a =
    let test = λ (row : Row). list_all (holds (params ∷ row ∷ [])) q.filter in
    let own : overlay db [] q.tree ≡ db q.tree = rw low in
    let staged : a.staged ≡ map (λ row. params ∷ row ∷ []) (filter test (db q.tree)) =
    a.grouped ∙ kept_by test (λ row. params ∷ row ∷ []) (overlay db [] q.tree) ∙ ap (λ rows. map (λ row. params ∷ row ∷ []) (filter test rows)) own in
    let kept : a.kept ≡ outputs q params (db q.tree) = a.distinct ∙ ap (map (output (query_of q))) staged ∙ map-map (output (query_of q)) (λ row. params ∷ row ∷ []) (filter test (db q.tree)) in
    record { ordered = a.ordered; same = subst (λ k. IsPermutation k a.ordered) kept a.same; sorted = a.sorted; shown = a.shown }

-- what a query on one table shows is its answer
pub answers_query : (sql : List ℕ) (params : Row) (old new : State) (q : TableQuery) {count : ℕ} (rows : List Row) → Asks old.now.schema sql q count → Shown sql params old new rows → Answers q params (old.now.trees q.tree) rows
answers_query sql params old new q {count} rows asks h =
    let read = reads_as sql params old new old.now.schema refl (Select (record { lets = []; body = query_of q }) asks.names) (means_as old.now.schema sql _ asks.means) asks.means.plain asks.unlisted rows h in
    answers_from q old.now.trees params rows asks.stored (read.answer Null)

pub answered : (sql : List ℕ) (params : Row) (old new : State) {X : Type 0} (r : Result (Vec Row X) Error) → IfOk r (λ rows. Shown sql params old new rows.items)
    → IfOk r (λ rows. (q : TableQuery) (count : ℕ) → Asks old.now.schema sql q count → Answers q params (old.now.trees q.tree) rows.items)
answered sql params old new (Ok rows) h = λ q count asks. answers_query sql params old new q rows.items asks h
answered sql params old new (Err e) h = tt
