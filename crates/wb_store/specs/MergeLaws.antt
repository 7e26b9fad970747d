-- The laws of the calls of a merge in a transaction of the office: none, one after another, and a failure after them.
use Rattle.std.proofs.Common.{◌≡◌, Bool, false, List, [], ◌∷◌, inl, inr, IsTrue, refl, sym, subst, ◌∙◌, arith}
use Rattle.sqlite_trees.specs.declared.store.Store.{Ghosts}
use Rattle.std.specs.List.{AllByRecursion}
use Rattle.sqlite.specs.Effect.{Database}
use Rattle.sqlite.specs.Schema.{Schema}
use Rattle.sqlite.specs.Table.{Table}
use Rattle.sqlite.specs.Held.{Held, state}
use Rattle.sqlite.specs.Tree.{Trees}
use Rattle.sqlite.specs.State.{State, HasCleanDisk, Survives}
use Rattle.sqlite.proofs.StateLemmas.{survives_then}
use Rattle.wb_states.specs.declared.store_fault.StoreFault.{StoreFault}
use Rattle.wb_sql.specs.Among.{names_office}
use Rattle.wb_store.specs.MergeRuns.{FailsIn, GoesOn, IsMerging, RunsOn, RunsTo}
use Rattle.wb_store.specs.Others.{KeepsOthers}

-- ---- the tables of others

-- what two hold of each table of a list, together
both_tables : {P Q R : Table → Type 0} (tables : List Table) → ((t : Table) → P t → Q t → R t) → AllByRecursion P tables → AllByRecursion Q tables → AllByRecursion R tables
both_tables [] follows one two = tt
both_tables (t ∷ tables) follows one two = (follows t one.0 two.0, both_tables tables follows one.1 two.1)

-- what one keeps of a database, and then another of that, both keep
pub others_then : (before mid after : Database) → KeepsOthers before mid → KeepsOthers mid after → KeepsOthers before after
others_then before mid after one two = record {
  schema = two.schema ∙ one.schema;
  rows = both_tables before.schema.tables (λ t first second other. second other ∙ first other) one.rows
      (subst (λ (s : Schema). AllByRecursion (λ (t : Table). names_office t.name ≡ false → after.trees t.tree ≡ mid.trees t.tree) s.tables) one.schema two.rows);
}

-- ---- none, and one after another

module _ {P : Trees → Type 0} where
  -- a clean disk was clean before
  pub was_clean : (old new : State) → Survives old new P → HasCleanDisk new → HasCleanDisk old
  was_clean old new survives clean = omega (arith, survives.clean, clean)

  -- what stays survives itself
  pub survives_itself : (s : State) → Survives s s P
  survives_itself s = record {
    clean = omega arith;
    shield = λ h. h;
    counts = omega arith;
    limit = refl;
    closes = λ clean is_open. inl is_open;
    crash = λ clean db may. inl may;
  }

goes_on_then : (a b c : State) → GoesOn a b → GoesOn b c → GoesOn a c
goes_on_then a b c one two = record {
  was_open = one.was_open;
  is_open = two.is_open;
  committed = two.committed ∙ one.committed;
  inside = λ inside. two.inside (one.inside inside);
  others = others_then a.now b.now c.now one.others two.others;
  limit = two.limit ∙ one.limit;
}

module _ {S : Type 0} (g : Ghosts S) where
  -- going on, and then again
  pub runs_to_then : (a b c : Held S) → RunsTo g a b → RunsTo g b c → RunsTo g a c
  runs_to_then a b c (inl same) two = subst (λ h. RunsTo g h c) (sym same) two
  runs_to_then a b c (inr one) (inl same) = subst (λ h. RunsTo g a h) same (inr one)
  runs_to_then a b c (inr one) (inr two) = inr (goes_on_then (state g a) (state g b) (state g c) one two)

  -- no call
  pub runs_itself : (is_saved : Bool) (held : Held S) → RunsOn g is_saved held is_saved held
  runs_itself is_saved held = record {
    runs = λ clean merging. (merging, inl refl);
    savepoints = λ clean merging others has. has;
    survives = survives_itself (state g held);
  }

  -- the disk was clean before
  pub clean_before : (b c : Bool) (old new : Held S) → RunsOn g b old c new → HasCleanDisk (state g new) → HasCleanDisk (state g old)
  clean_before b c old new runs clean = was_clean (state g old) (state g new) runs.survives clean

  -- no clean disk, or tables that are those of a merge, so that what was not so afterwards was not so before
  pub never_before : (b c : Bool) (old new : Held S) → RunsOn g b old c new → HasCleanDisk (state g new) → ¬ IsMerging c (state g new) → ¬ IsMerging b (state g old)
  never_before b c old new runs clean never merging = never (runs.runs clean merging).0

  -- calls after calls
  pub runs_then : (a b c : Bool) (first second third : Held S) → RunsOn g a first b second → RunsOn g b second c third → RunsOn g a first c third
  runs_then a b c first second third one two = record {
    runs = λ clean merging.
        let before = one.runs (clean_before b c second third two clean) merging in
        let after = two.runs clean before.0 in
        (after.0, runs_to_then first second third before.1 after.1);
    savepoints = λ clean merging others has.
        let at = clean_before b c second third two clean in
        two.savepoints clean (one.runs at merging).0 others (one.savepoints at merging others has);
    survives = survives_then (state g first) (state g second) (state g third) _ _ _ (λ clean db never. never)
        (λ clean db never. never_before a b first second one (clean_before b c second third two clean) never) one.survives two.survives;
  }

  -- a failure after calls
  pub fails_then : (a b : Bool) (first second third : Held S) (fault : StoreFault) → RunsOn g a first b second → FailsIn g b second third fault → FailsIn g a first third fault
  fails_then a b first second third fault one two = record {
    cause = λ clean merging inside.
        let at = was_clean (state g second) (state g third) two.survives clean in
        let before = one.runs at merging in
        let failed = two.cause clean before.0 (still_inside before.1 inside) in
        (failed.0, (runs_to_then first second failed.0 before.1 failed.1.0, failed.1.1));
    survives = survives_then (state g first) (state g second) (state g third) _ _ _ (λ clean db never. never)
        (λ clean db never. never_before a b first second one (was_clean (state g second) (state g third) two.survives clean) never) one.survives two.survives;
  }
    where
      still_inside : RunsTo g first second → IsTrue first.in_transaction → IsTrue second.in_transaction
      still_inside (inl same) inside = subst (λ (h : Held S). IsTrue h.in_transaction) same inside
      still_inside (inr on) inside = on.inside inside
