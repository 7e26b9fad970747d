-- A query of an opening whose rows are read one at a time, and what its test says at each way out.
use Rattle.std.proofs.Common.{◌≡◌, inl, inr, ℕ, ◌≤◌, List, [], ◌∷◌, ◌++◌, length, None, Some, Result, Ok, Err, refl, sym, ap, subst, ◌∙◌, arith}
use Rattle.sqlite.specs.Clock.{timed}
use Rattle.sqlite.specs.Effect.{Database, RefusesToRead}
use Rattle.sqlite.specs.Given.{Advances, FailsToAdvance, HasBegun, HasGiven, IsPlain}
use Rattle.sqlite.specs.Held.{Held, state}
use Rattle.sqlite.specs.Listing.{understood, reads_listing, IsSourceOf}
use Rattle.sqlite.specs.Order.{Row}
use Rattle.sqlite.specs.Schema.{Schema}
use Rattle.sqlite.specs.State.{State, HasCleanDisk, IsStatement, IsUnchanged, IsNotRun, CommitsShowing, FailsToQuery, FailsToShow, Shown, Survives}
use Rattle.sqlite.specs.declared.error.Error.{Error}
use Rattle.sqlite.proofs.Callers.{EndsIn, begins_shown, begun_plain, given_begin, never_commits, unchanged_then}
use Rattle.sqlite.proofs.StateLemmas.{survives_then, survives_weaker}
use Rattle.sqlite.proofs.StreamLemmas.{fails_since}
use Rattle.sqlite_resolve.specs.declared.compiled.Compiled.{Compiled}
use Rattle.sqlite_trees.specs.declared.store.Store.{Ghosts}
use Rattle.wb_sql.specs.Queries.{TableQuery, Asks, Answers}
use Rattle.wb_sql.specs.Statements.{command_in}
use Rattle.wb_sql.proofs.ReadingLemmas.{answers_query, query_kept}
use Rattle.wb_sql.specs.Among.{query_in}
use Rattle.wb_states.specs.declared.store_fault.StoreFault.{StoreFault}
use Rattle.wb_store.specs.Faults.{fault_of}
use Rattle.wb_store.specs.Checks.{Tests}
use Rattle.wb_store.specs.Queries.{HasAsked, OfficeQuery, given_to, query_asked, table_asked, table_of}
use Rattle.wb_store.proofs.ReadLemmas.{AsksIn, answer_in, asked_in, fails_in, plain_in}

-- ---- a query that fails later, as one that fails at its start

module _ (sql : List ℕ) (params : Row) (old mid new : State) (same : IsUnchanged old mid) (counts : old.faults ≤ mid.faults) (limit : mid.step_limit ≡ old.step_limit)
    (plain : IsPlain (understood old.now.schema sql)) where
  abbrev statement_since : (c : Compiled) → IsStatement mid sql params c → IsStatement old sql params c
  statement_since c it = record { is = subst (λ (d : Database). understood d.schema sql ≡ Ok c) same.0.now_is it.is; whole = it.whole; given = it.given; now = it.now }

  source_since : (db : Database) → IsSourceOf (reads_listing mid.now.schema sql) mid.now db → IsSourceOf (reads_listing old.now.schema sql) old.now db
  source_since db = subst (λ (d : Database). IsSourceOf (reads_listing d.schema sql) d db) same.0.now_is

  fails_from_start : (e : Error) → FailsToQuery sql params mid new e → FailsToQuery sql params old new e
  unfolding FailsToQuery IsNotRun
  fails_from_start e (inl (inl refused)) = inl (inl (rw (← same.0.now_is) refused.0, unchanged_then old mid new same refused.1))
  fails_from_start e (inl (inr failed)) = inl (inr (fails_since old mid new same counts e failed))
  fails_from_start e (inr h) =
      let none = (subst IsPlain (statement_since h.0 h.1).is plain).0 in
      let full = timed params h.0.formats h.1.now in
      let it = subst (FailsToShow mid new sql h.0 full e) none h.2 in
      inr (
        h.0,
        statement_since h.0 h.1,
        subst (FailsToShow old new sql h.0 full e) (sym none)
            (it.0, source_since it.0 it.1, subst (λ l. RefusesToRead l h.0.command it.0 full e) limit it.2, unchanged_then old mid new same it.3),
      )

-- ---- the rows so far begin an answer

ends_at_once : (schema : Schema) (sql : List ℕ) (q : TableQuery) (count : ℕ) → Asks schema sql q count → (c : Compiled) → understood schema sql ≡ Ok c → (db : Database) (params : Row) → EndsIn c.command db params
ends_at_once schema sql q count asks c is db params =
    subst (λ k. EndsIn k db params) (sym (sym (ap command_in is) ∙ asks.means.is)) tt

unchanged_still : (old now : State) → IsUnchanged old now → IsUnchanged now now
unchanged_still old now same = (
  record { was_open = same.0.is_open; is_open = same.0.is_open; now_is = refl; committed_is = refl; mode = refl },
  record { changes = refl; last_rowid = refl },
  refl,
)

-- the rows so far begin the answer of the table query
answer_begins : {S : Type 0} (g : Ghosts S) (sql : List ℕ) (q : TableQuery) (count : ℕ) (old : State) (now : Held S) (rows : List Row) → Asks old.now.schema sql q count → HasGiven g sql [] now rows
    → IsUnchanged old (state g now) → (tail : List Row) × Answers q [] (old.now.trees q.tree) (rows ++ tail)
answer_begins g sql q count old now rows asks given same =
    let at = state g now in
    let still = unchanged_still old at same in
    let here : Asks at.now.schema sql q count = subst (λ (d : Database). Asks d.schema sql q count) (sym same.0.now_is) asks in
    let whole = begins_shown sql [] at at rows (given_begin g sql [] now rows given) still (λ c db it source. ends_at_once at.now.schema sql q count here c it.is db _) in
    (whole.0, subst (λ (d : Database). Answers q [] (d.trees q.tree) (rows ++ whole.0)) same.0.now_is (answers_query sql [] at at q (rows ++ whole.0) here whole.1))

-- the rows so far are the answer, if no row is to come
answer_ends : (sql : List ℕ) (q : TableQuery) (count : ℕ) (old mid new : State) (rows : List Row) → Asks old.now.schema sql q count → IsUnchanged old mid → Shown sql [] mid new rows
    → Answers q [] (old.now.trees q.tree) rows
answer_ends sql q count old mid new rows asks same shown =
    let here : Asks mid.now.schema sql q count = subst (λ (d : Database). Asks d.schema sql q count) (sym same.0.now_is) asks in
    subst (λ (d : Database). Answers q [] (d.trees q.tree) rows) same.0.now_is (answers_query sql [] mid new q rows here shown)

-- ---- the query under way

-- a query without parameters has given these rows so far, and the database is as it was
pub record IsUnderWay {S : Type 0} (g : Ghosts S) (query : OfficeQuery) (old now : Held S) (given : List Row) : Type 0 where
  pub text : List ℕ
  pub asks : AsksIn text [] query
  pub runs : HasCleanDisk (state g now) → HasAsked query old.schema → HasGiven g text [] now given × IsUnchanged (state g old) (state g now)
  pub survives : Survives (state g old) (state g now) (λ _. ¬ HasAsked query old.schema)

-- a crash in a query that writes nothing
crash_plain : {S : Type 0} (g : Ghosts S) {text : List ℕ} {query : OfficeQuery} (asks : AsksIn text [] query) (old new : Held S) → Survives (state g old) (state g new) (CommitsShowing text [] (state g old))
    → Survives (state g old) (state g new) (λ _. ¬ HasAsked query old.schema)
crash_plain g {text} {query} asks old new =
    survives_weaker (state g old) (state g new) (CommitsShowing text [] (state g old)) (λ _. ¬ HasAsked query old.schema)
    (λ clean db made there. never_commits text [] (state g old) db (plain_in asks there) made)

-- a crash in a query after one more call
crash_later : {S : Type 0} (g : Ghosts S) (query : OfficeQuery) (old now new : Held S) → Survives (state g old) (state g now) (λ _. ¬ HasAsked query old.schema) → Survives (state g now) (state g new) (λ _. ⊥)
    → Survives (state g old) (state g new) (λ _. ¬ HasAsked query old.schema)
crash_later g query old now new =
    survives_then (state g old) (state g now) (state g new) (λ _. ¬ HasAsked query old.schema) (λ _. ⊥) (λ _. ¬ HasAsked query old.schema) (λ clean db other. other) (λ clean db none. absurd none)

module _ {S : Type 0} {g : Ghosts S} {text : List ℕ} {query : OfficeQuery} (asks : AsksIn text [] query) {old new : Held S}
    (survives : Survives (state g old) (state g new) (CommitsShowing text [] (state g old))) where
  -- the query begins
  pub begins : (HasCleanDisk (state g new) → HasBegun g text [] old new) → IsUnderWay g query old new []
  begins begun = record { text = text; asks = asks; runs = λ clean there. begun_plain g text [] old new (plain_in asks there) (begun clean); survives = crash_plain g asks old new survives }

  -- the query does not begin
  pub tests_refused : {A : Type 0} {Good : List Row → A → Type 0} {Bad : List Row → StoreFault → Type 0} {r : Result A StoreFault} (e : Error)
      → (HasCleanDisk (state g new) → FailsToQuery text [] (state g old) (state g new) e) → r ≡ Err (fault_of e (table_asked query)) → Tests g query Good Bad old new r
  tests_refused {A} {Good} {Bad} e fails is = subst (λ (r : Result A StoreFault). Tests g query Good Bad old new r) (sym is) (record {
    value = λ clean there. tt;
    same = λ clean there. tt;
    err = λ clean there. let failed = fails clean in inl (fails_in asks (e, failed, query_kept text [] (state g old) (state g new) e failed, refl));
    survives = crash_plain g asks old new survives;
  })

-- what a test says of a state says it of the same state
pub tests_at : {S A : Type 0} {g : Ghosts S} {query : OfficeQuery} {Good : List Row → A → Type 0} {Bad : List Row → StoreFault → Type 0} {old now new : Held S} {r : Result A StoreFault}
    → Tests g query Good Bad old now r → new ≡ now → Tests g query Good Bad old new r
tests_at {g} {query} {Good} {Bad} {old} {r} tests same = subst (λ h. Tests g query Good Bad old h r) (sym same) tests

module _ {S : Type 0} {g : Ghosts S} {query : OfficeQuery} {old now : Held S} {given : List Row} (under : IsUnderWay g query old now given) where
  module _ (new : Held S) (later : Survives (state g now) (state g new) (λ _. ⊥)) where
    -- one more row is given
    pub moves : (row : Row) → (HasCleanDisk (state g new) → Advances g now new (Some row)) → (HasCleanDisk (state g new) → IsUnchanged (state g now) (state g new))
        → IsUnderWay g query old new (given ++ row ∷ [])
    moves row advances same = record {
      text = under.text;
      asks = under.asks;
      runs = λ clean there.
          let was = under.runs (omega (arith, clean, later.clean)) there in (advances clean under.text [] given was.0, unchanged_then (state g old) (state g now) (state g new) was.1 (same clean));
      survives = crash_later g query old now new under.survives later;
    }

    module _ {A : Type 0} {Good : List Row → A → Type 0} {Bad : List Row → StoreFault → Type 0} {r : Result A StoreFault} where
      -- the rows are at their end, and good
      pub tests_ended : (x : A) → (HasCleanDisk (state g new) → Advances g now new None) → (HasCleanDisk (state g new) → IsUnchanged (state g now) (state g new)) → Good given x → r ≡ Ok x
          → Tests g query Good Bad old new r
      tests_ended x advances same good is = subst (λ (r : Result A StoreFault). Tests g query Good Bad old new r) (sym is) (record {
        value = λ clean there.
            let was = under.runs (omega (arith, clean, later.clean)) there in
            (given, answer_in under.asks (state g old).now given (answer_ends under.text (query_in old.schema (table_of (table_asked query)) (query_asked query)) (length (given_to query)) (state g old) (state g now) (state g new) given (asked_in under.asks there) was.1 (advances clean under.text [] given was.0)), good);
        same = λ clean there. unchanged_then (state g old) (state g now) (state g new) (under.runs (omega (arith, clean, later.clean)) there).1 (same clean);
        err = λ clean there. tt;
        survives = crash_later g query old now new under.survives later;
      })

      -- the next row cannot be read
      pub tests_failed : (e : Error) → (HasCleanDisk (state g new) → FailsToAdvance g now new e) → r ≡ Err (fault_of e (table_asked query)) → Tests g query Good Bad old new r
      tests_failed e fails is = subst (λ (r : Result A StoreFault). Tests g query Good Bad old new r) (sym is) (record {
        value = λ clean there. tt;
        same = λ clean there. tt;
        err = λ clean there.
            let was = under.runs (omega (arith, clean, later.clean)) there in
            let plain = plain_in under.asks there in
            let failed = fails_from_start under.text [] (state g old) (state g now) (state g new) was.1 under.survives.counts under.survives.limit plain e (fails clean under.text [] given was.0) in
            inl (fails_in under.asks (e, failed, query_kept under.text [] (state g old) (state g new) e failed, refl));
        survives = crash_later g query old now new under.survives later;
      })

  -- the rows so far show that the test fails, whatever comes after them
  pub tests_bad : {A : Type 0} {Good : List Row → A → Type 0} {Bad : List Row → StoreFault → Type 0} {r : Result A StoreFault} (fault : StoreFault)
      → ((rest : List Row) → Bad (given ++ rest) fault) → r ≡ Err fault → Tests g query Good Bad old now r
  tests_bad {A} {Good} {Bad} fault bad is = subst (λ (r : Result A StoreFault). Tests g query Good Bad old now r) (sym is) (record {
    value = λ clean there. tt;
    same = λ clean there. tt;
    err = λ clean there.
        let was = under.runs clean there in
        let whole = answer_begins g under.text (query_in old.schema (table_of (table_asked query)) (query_asked query)) (length (given_to query)) (state g old) now given (asked_in under.asks there) was.0 was.1 in
        inr (was.1, (given ++ whole.0, answer_in under.asks (state g old).now (given ++ whole.0) whole.1, bad whole.0));
    survives = under.survives;
  })
