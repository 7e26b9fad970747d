-- What look-ups, one after another, promise together: from one of them, and from those before and those after.
use Rattle.std.proofs.Common.{◌≡◌, inl, inr, IsTrue, Result, Ok, Err, IfOk, IfErr, refl, sym, ap, subst, ◌∙◌, arith}
use Rattle.sqlite_trees.specs.declared.store.Store.{Ghosts}
use Rattle.sqlite.specs.Effect.{Database}
use Rattle.sqlite.specs.Held.{Held, state}
use Rattle.sqlite.specs.State.{State, HasCleanDisk, IsUnchanged, Survives}
use Rattle.sqlite.proofs.StateLemmas.{survives_then}
use Rattle.wb_sql.specs.Among.{HasOffice}
use Rattle.wb_states.specs.declared.store_fault.StoreFault.{StoreFault}
use Rattle.wb_states.specs.declared.store_fault.StoreFault.TheVariants.{Memory}
use Rattle.wb_states.specs.Machine.{Machine, IsConsistent}
use Rattle.wb_store.specs.Merging.{no_merge}
use Rattle.wb_store.specs.Stands.{StandsFor}
use Rattle.wb_store.specs.Calls.{LooksUp}
use Rattle.wb_store.specs.Queries as ask
use Rattle.wb_store.specs.Queries.{OfficeQuery}
use Rattle.wb_store.specs.Finds.{StaysAs, FailsToFind, Finds}
use Rattle.wb_store.specs.MergeLaws.{survives_itself}

-- ---- states that stay

pub unchanged_then : (a b c : State) → IsUnchanged a b → IsUnchanged b c → IsUnchanged a c
unchanged_then a b c one two = (
  record {
    was_open = one.0.was_open;
    is_open = two.0.is_open;
    now_is = two.0.now_is ∙ one.0.now_is;
    committed_is = two.0.committed_is ∙ one.0.committed_is;
    mode = two.0.mode ∙ one.0.mode;
  },
  record { changes = two.1.changes ∙ one.1.changes; last_rowid = two.1.last_rowid ∙ one.1.last_rowid },
  two.2 ∙ one.2,
)

-- a state stays that nothing was asked of
unchanged_itself : (s : State) → IsTrue s.is_open → IsUnchanged s s
unchanged_itself s is_open = (
  record { was_open = is_open; is_open = is_open; now_is = refl; committed_is = refl; mode = refl },
  record { changes = refl; last_rowid = refl },
  refl,
)

module _ {S : Type 0} (g : Ghosts S) (old mid new : Held S) where
  -- two that stay, one after the other
  pub stays_then : StaysAs g old mid → StaysAs g mid new → StaysAs g old new
  stays_then (inl same) after = subst (λ x. StaysAs g x new) (sym same) after
  stays_then (inr kept) (inl same) = subst (λ x. StaysAs g old x) same (inr kept)
  stays_then (inr kept) (inr later) = inr (unchanged_then (state g old) (state g mid) (state g new) kept.0 later.0, later.1 ∙ kept.1)

module _ {S : Type 0} (g : Ghosts S) (old new : Held S) where
  pub stays-now : StaysAs g old new → (state g new).now ≡ (state g old).now
  stays-now (inl same) = ap (λ x. (state g x).now) (sym same)
  stays-now (inr kept) = kept.0.0.now_is

  -- what stays has the schema that it had, and stands for what it stood for
  pub stays-schema : StaysAs g old new → HasOffice old.schema → HasOffice new.schema
  stays-schema stays office = subst HasOffice (sym (ap (λ (db : Database). db.schema) (stays-now stays))) office

  pub stays-stands : {machine : Machine} → StaysAs g old new → StandsFor machine (state g old).now → StandsFor machine (state g new).now
  stays-stands {machine} stays = subst (StandsFor machine) (sym (stays-now stays))

  -- what stays is open as it was
  pub stays-open : StaysAs g old new → IsTrue (state g old).is_open → IsTrue (state g new).is_open
  stays-open (inl same) is_open = subst (λ x. IsTrue (state g x).is_open) same is_open
  stays-open (inr kept) is_open = kept.0.0.is_open

-- ---- one look-up, or none

module _ {S : Type 0} {g : Ghosts S} {old new : Held S} where
  -- a look-up alone
  pub finds_looked_up : {A : Type 0} {query : OfficeQuery} {Answer : Machine → A → Type 0} (r : Result A StoreFault) → LooksUp g query Answer old new r → Finds g Answer old new r
  finds_looked_up (Ok x) one = record {
    value = λ clean office machine sound stands. one.value clean machine no_merge stands;
    same = λ clean office. inr (one.same clean office, one.survives.limit);
    err = λ clean office is_open. tt;
    survives = one.survives;
  }
  finds_looked_up {query = query} (Err e) one = record {
    value = λ clean office. tt;
    same = λ clean office. tt;
    err = λ clean office is_open. (old, query, inl refl, one.err clean office);
    survives = one.survives;
  }

  -- an answer that follows from another one
  pub finds_from : {A B : Type 0} {Answer : Machine → A → Type 0} {Other : Machine → B → Type 0} {x : A} {y : B} → Finds g Answer old new (Ok x)
      → ((machine : Machine) → IsConsistent machine → Answer machine x → Other machine y) → Finds g Other old new (Ok y)
  finds_from one follows = record {
    value = λ clean office machine sound stands. follows machine sound (one.value clean office machine sound stands);
    same = one.same;
    err = λ clean office is_open. tt;
    survives = one.survives;
  }

  -- another word for the answer
  pub finds_weaker : {A : Type 0} {Answer Other : Machine → A → Type 0} (r : Result A StoreFault) → Finds g Answer old new r
      → ((machine : Machine) (x : A) → IsConsistent machine → Answer machine x → Other machine x) → Finds g Other old new r
  finds_weaker (Ok x) one follows = finds_from one (λ machine. follows machine x)
  finds_weaker (Err e) one follows = record {
    value = λ clean office. tt;
    same = λ clean office. tt;
    err = one.err;
    survives = one.survives;
  }

  -- a failure that is handed on
  pub fails_to_find : {A B : Type 0} {Answer : Machine → A → Type 0} {Other : Machine → B → Type 0} {e : StoreFault} {r : Result B StoreFault}
      → Finds g Answer old new (Err e) → r ≡ Err e → Finds g Other old new r
  fails_to_find {B = B} {Other = Other} one is = subst (λ (r : Result B StoreFault). Finds g Other old new r) (sym is) (record {
    value = λ clean office. tt;
    same = λ clean office. tt;
    err = one.err;
    survives = one.survives;
  })

  -- memory ran out after look-ups that succeeded, or before one
  pub lacks_memory : {A B : Type 0} {Answer : Machine → A → Type 0} {Other : Machine → B → Type 0} {x : A} {r : Result B StoreFault}
      → Finds g Answer old new (Ok x) → r ≡ Err Memory → Finds g Other old new r
  lacks_memory {B = B} {Other = Other} one is = subst (λ (r : Result B StoreFault). Finds g Other old new r) (sym is) (record {
    value = λ clean office. tt;
    same = λ clean office. tt;
    err = λ clean office is_open.
        let stays = one.same clean office in
        (new, ask.Office, stays, inr (inl (refl, unchanged_itself (state g new) (stays-open g old new stays is_open))));
    survives = one.survives;
  })

-- both of what holds of a value
pub both_ok : {A E : Type 0} (P Q : A → Type 0) (r : Result A E) → IfOk r P → IfOk r Q → IfOk r (λ x. P x × Q x)
both_ok P Q (Ok x) one two = (one, two)
both_ok P Q (Err e) one two = tt

-- what look-ups found is made into something else, unless memory runs out
pub made_after : {S A B : Type 0} {g : Ghosts S} {old new : Held S} {Answer : Machine → A → Type 0} {Other : Machine → B → Type 0} {x : A} → Finds g Answer old new (Ok x) → (r : Result B StoreFault)
    → IfOk r (λ y. (machine : Machine) → IsConsistent machine → Answer machine x → Other machine y) → IfErr r (λ fault. fault ≡ Memory) → Finds g Other old new r
made_after one (Ok y) makes full = finds_from one makes
made_after one (Err fault) makes full = lacks_memory one (ap Err full)

-- nothing is asked
pub finds_unasked : {S A : Type 0} {g : Ghosts S} {old : Held S} {Answer : Machine → A → Type 0} {x : A}
    → ((machine : Machine) → IsConsistent machine → Answer machine x) → Finds g Answer old old (Ok x)
finds_unasked {g = g} {old = old} is = record {
  value = λ clean office machine sound stands. is machine sound;
  same = λ clean office. inl refl;
  err = λ clean office is_open. tt;
  survives = survives_itself (state g old);
}

-- ---- look-ups, and then others

module _ {S A : Type 0} {g : Ghosts S} {old mid : Held S} {First : Machine → A → Type 0} {x : A} (one : Finds g First old mid (Ok x)) where
  then_survives : (new : Held S) → (HasCleanDisk (state g new) → HasCleanDisk (state g mid))
      → Survives (state g mid) (state g new) (λ _. ¬ HasOffice mid.schema)
      → Survives (state g old) (state g new) (λ _. ¬ HasOffice old.schema)
  then_survives new before later =
      survives_then (state g old) (state g mid) (state g new) _ _ _ (λ clean db other. other)
      (λ clean db other office. other (stays-schema g old mid (one.same (before clean) office) office)) one.survives later

  later_fault : (new : Held S) (e : StoreFault) → StaysAs g old mid → FailsToFind g mid new e → FailsToFind g old new e
  later_fault new e stays later = (later.0, later.1, stays_then g old mid later.0 stays later.2, later.3)

  -- the others succeed too
  pub finds_then : {B C : Type 0} {new : Held S} {Second : Machine → B → Type 0} {Both : Machine → C → Type 0} {y : B} {z : C}
      → Finds g Second mid new (Ok y) → ((machine : Machine) → IsConsistent machine → First machine x → Second machine y → Both machine z)
      → Finds g Both old new (Ok z)
  finds_then {new} two both =
      let before : HasCleanDisk (state g new) → HasCleanDisk (state g mid) = λ clean. omega (arith, two.survives.clean, clean) in
      record {
        value = λ clean office machine sound stands.
            let stays = one.same (before clean) office in
            both machine sound (one.value (before clean) office machine sound stands)
            (two.value clean (stays-schema g old mid stays office) machine sound (stays-stands g old mid stays stands));
        same = λ clean office.
            let stays = one.same (before clean) office in
            stays_then g old mid new stays (two.same clean (stays-schema g old mid stays office));
        err = λ clean office is_open. tt;
        survives = then_survives new before two.survives;
      }

  -- both answers
  pub finds_both : {B : Type 0} {new : Held S} {Second : Machine → B → Type 0} {y : B} → Finds g Second mid new (Ok y)
      → Finds g (λ machine (z : B). First machine x × Second machine z) old new (Ok y)
  finds_both two = finds_then two (λ machine sound first second. (first, second))

  -- one of the others fails
  pub then_fails : {B C : Type 0} {new : Held S} {Second : Machine → B → Type 0} {Both : Machine → C → Type 0} {e : StoreFault} {r : Result C StoreFault}
      → Finds g Second mid new (Err e) → r ≡ Err e → Finds g Both old new r
  then_fails {C = C} {new} {Both = Both} {e} two is = subst (λ (r : Result C StoreFault). Finds g Both old new r) (sym is) (
      let before : HasCleanDisk (state g new) → HasCleanDisk (state g mid) = λ clean. omega (arith, two.survives.clean, clean) in
      record {
        value = λ clean office. tt;
        same = λ clean office. tt;
        err = λ clean office is_open.
            let stays = one.same (before clean) office in
            later_fault new e stays (two.err clean (stays-schema g old mid stays office) (stays-open g old mid stays is_open));
        survives = then_survives new before two.survives;
      })
