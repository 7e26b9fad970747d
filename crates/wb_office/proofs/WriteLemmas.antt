-- How the writes of a change, one after the other, are the whole change.
use Rattle.std.proofs.Common.{◌≡◌, ◌∙◌, ◌⊎◌, inl, inr, refl, sym, ap, subst, arith, ℕ, IsTrue, Result, Ok, Err, OnErr}
use Rattle.std.proofs.Common.{IfErr, Option, Bool, true, false, ◌↔◌}
use Rattle.std.specs.Prelude.{⊤}
use Rattle.sqlite_trees.specs.declared.store.Store.{Ghosts}
use Rattle.sqlite.specs.Effect.{Database}
use Rattle.sqlite.specs.Held.{Held, state}
use Rattle.sqlite.specs.State.{HasCleanDisk}
use Rattle.sqlite.proofs.StateLemmas.{survives_then, survives_weaker}
use Rattle.wb_sql.specs.Transactions.{LeavesNoMore}
use Rattle.wb_sql.proofs.CallLemmas.{on_ok}
use Rattle.wb_states.specs.declared.command.Command.{Command}
use Rattle.wb_states.specs.declared.store_fault.StoreFault.{StoreFault}
use Rattle.wb_states.specs.declared.store_fault.Table.TheVariants.{Office}
use Rattle.wb_states.specs.Machine.{Machine, Key}
use Rattle.wb_step.specs.Step.{step}
use Rattle.wb_store.specs.Stands.{StandsFor}
use Rattle.wb_store.specs.Calls.{Becomes, Changes, FailsToWrite}
use Rattle.wb_store.specs.Faults.{IsUnfit}
use Rattle.wb_store.specs.Settled.{IsOffice, IsUnderWay, IsBackAt}
use Rattle.wb_store.specs.Writes as write
use Rattle.wb_store.specs.Writes.{OfficeWrite}
use Rattle.wb_store.proofs.OthersLemmas.{others_then}
pub use Rattle.wb_store.specs.MergeLaws.{survives_itself}
use Rattle.wb_store.proofs.SettledLemmas.{not_changed, stays_or_goes_back}
use Rattle.wb_office.specs.Changed.{HasFittingCounts, LacksFittingNumbers, found_at, IsStepOf, IsWriteOf, before_counts}
use Rattle.wb_office.specs.Changed.{ComesToStandFor, FailsAtOnce, Writes, IsLeftOrBack, ChangesBy, IsEntering}
use Rattle.wb_office.specs.Changed.{IsWriteOfRecord}
use Rattle.wb_store.proofs.StaysLemmas.{no_more}
use Rattle.wb_office.proofs.StepOfLemmas.{same_counts}

-- what holds of the value or the error of a result, weaker
pub if_err : {A E : Type 0} {P Q : E → Type 0} (r : Result A E) → ((e : E) → P e → Q e) → IfErr r P → IfErr r Q
if_err (Ok x) follows h = tt
if_err (Err e) follows h = follows e h

pub on_err : {A E P Q : Type 0} (r : Result A E) → (P → Q) → OnErr r P → OnErr r Q
on_err (Ok x) follows h = tt
on_err (Err e) follows h = follows h

-- ---- one write

module _ {S A : Type 0} {g : Ghosts S} {old new : Held S} {r : Result A StoreFault} where
  -- a write that makes the same of the states that are allowed
  pub writes_same : {Is All : OfficeWrite → Type 0} {Room Fits : StoreFault → Type 0} {Given Allows : Machine → Type 0} {made after : Machine → Machine} → ((write : OfficeWrite) → Is write → All write)
      → ((e : StoreFault) → Room e → Fits e) → ((machine : Machine) → Allows machine → Given machine × (made machine ≡ after machine))
      → Writes g Is Room Given made old new r → Writes g All Fits Allows after old new r
  writes_same {Is = Is} {All = All} {Room = Room} {Fits = Fits} {Given = Given} {made = made} all fits same one = record {
    ok = λ clean. on_ok {P = (machine : Machine) → StandsFor machine (state g old).now → Given machine → ComesToStandFor g (made machine) old new} r
        (λ makes machine stands allows. subst (λ m. ComesToStandFor g m old new) (same machine allows).1 (makes machine stands (same machine allows).0)) (one.ok clean);
    err = λ clean inside. if_err {P = FailsAtOnce g Is Room old new} r (λ e failed. unfit e failed) (one.err clean inside);
    survives = one.survives;
  }
    where
      unfit : (e : StoreFault) → FailsAtOnce g Is Room old new e → FailsAtOnce g All Fits old new e
      unfit e (inl (write, is, failed)) = inl (write, all write is, failed)
      unfit e (inr (why, same)) = inr (fits e why, same)

  -- a change of the tables is a write
  pub writes_change : {write : OfficeWrite} {Is : OfficeWrite → Type 0} {Fits : StoreFault → Type 0} {Allows : Machine → Type 0} {after : Machine → Machine} → Is write → Changes g write Allows after old new r → Writes g Is Fits Allows after old new r
  writes_change {write = write} {Allows = Allows} {after = after} is one = record {
    ok = λ clean. on_ok {P = (machine : Machine) → StandsFor machine (state g old).now → Allows machine → Becomes (after machine) (state g old) (state g new)} r
        (λ makes machine stands allows. inr (makes machine stands allows)) (one.ok clean);
    err = λ clean inside. if_err {P = FailsToWrite write (state g old) (state g new)} r (λ e failed. inl (write, is, failed)) (one.err clean inside);
    survives = one.survives;
  }

module _ {S A : Type 0} {g : Ghosts S} {old : Held S} {Is : OfficeWrite → Type 0} {Fits : StoreFault → Type 0} where
  -- nothing is written where nothing is to be
  pub writes_nothing : {x : A} {Allows : Machine → Type 0} {after : Machine → Machine} → ((machine : Machine) → Allows machine → machine ≡ after machine) → Writes g Is Fits Allows after old old (Ok x)
  writes_nothing same = record {
    ok = λ clean machine stands allows. inl (refl, subst (λ m. StandsFor m (state g old).now) (same machine allows) stands);
    err = λ clean inside. tt;
    survives = survives_itself (state g old);
  }

-- the write of the record that the part of the office has at the key is one of the change
pub record_written : (command : Command) (key : Option Key) (after : Machine) (is_new : Bool) → IsTrue is_new ↔ IsEntering command → (it : OfficeWrite) → IsWriteOfRecord is_new (found_at after key) it
    → IsWriteOf command key after it
record_written command key after is_new same (write.PutsRecord entry) is = (is_new, same, is)
record_written command key after is_new same (write.ReplacesRecord entry) is = (is_new, same, is)
record_written command key after true same (write.RemovesRecord other) none = absurd none
record_written command key after false same (write.RemovesRecord other) none = absurd none
record_written command key after true same (write.RemovesBuilder pair) none = absurd none
record_written command key after false same (write.RemovesBuilder pair) none = absurd none
record_written command key after is_new same (write.RemovesArch name) is = (is_new, same, is)
record_written command key after is_new same (write.SetsCounts handed accepted) is = (is_new, same, is)
record_written command key after true same (write.AddsArch arch) none = absurd none
record_written command key after false same (write.AddsArch arch) none = absurd none
record_written command key after true same (write.AddsBuilder pair) none = absurd none
record_written command key after false same (write.AddsBuilder pair) none = absurd none

-- ---- two writes

module _ {S : Type 0} (g : Ghosts S) (old new : Held S) where
  -- a write leaves a database that stands for what it made
  pub reached_stands : {machine : Machine} → ComesToStandFor g machine old new → StandsFor machine (state g new).now
  reached_stands (inl same) = same.1
  reached_stands (inr made) = made.stands

  -- a write leaves the transaction under way
  pub reached_way : {before now machine : Machine} → ComesToStandFor g machine old new → LeavesNoMore (state g old) (state g new) → IsUnderWay before now (state g old) → IsUnderWay before machine (state g new)
  reached_way {before = before} {now = now} {machine = machine} (inl same) less way =
      let here : IsUnderWay before now (state g new) = subst (λ (h : Held S). IsUnderWay before now (state g h)) same.0 way in
      record { is_open = here.is_open; inside = here.inside; stands = same.1; began = here.began; alone = here.alone }
  reached_way {before = before} (inr made) less way = record {
    is_open = made.shown.is_open;
    inside = subst IsTrue (sym made.shown.mode) refl;
    stands = made.stands;
    began = subst (IsOffice before) (sym made.shown.committed_is) way.began;
    alone = λ db may. way.alone db (less db may) ∙ ap (λ (d : Database). d.trees) (sym made.shown.committed_is);
  }

  -- a write that fails leaves the transaction under way as it was, or taken back
  failed_way : {before now : Machine} (Is : OfficeWrite → Type 0) (Fits : StoreFault → Type 0) (e : StoreFault) → FailsAtOnce g Is Fits old new e → LeavesNoMore (state g old) (state g new) → IsUnderWay before now (state g old) → IsLeftOrBack g before new
  failed_way {before = before} {now = now} Is Fits e (inl failed) less way = elim (stays_or_goes_back (state g old) (state g new) failed.2.left less way) [
    | inl still ↦ inl (now, still)
    | inr back ↦ inr back
  ]
  failed_way {before = before} {now = now} Is Fits e (inr unwritten) less way = inl (now, subst (λ (h : Held S). IsUnderWay before now (state g h)) unwritten.1 way)

module _ {S : Type 0} (g : Ghosts S) (old mid new : Held S) where
  -- one change after another
  pub becomes_then : {between machine : Machine} → ComesToStandFor g between old mid → Becomes machine (state g mid) (state g new) → Becomes machine (state g old) (state g new)
  becomes_then {machine = machine} (inl same) made = subst (λ (h : Held S). Becomes machine (state g h) (state g new)) (sym same.0) made
  becomes_then (inr one) two = record {
    stands = two.stands;
    shown = record {
      was_open = one.shown.was_open;
      is_open = two.shown.is_open;
      now_is = two.shown.now_is;
      committed_is = two.shown.committed_is ∙ one.shown.committed_is;
      mode = two.shown.mode;
    };
    schema_is = two.schema_is ∙ one.schema_is;
    marks = two.marks ∙ one.marks;
    others = others_then (state g old).now (state g mid).now (state g new).now one.others two.others;
    limit = two.limit ∙ one.limit;
  }

-- a write leaves the transaction that it was in
pub reached_inside : {S : Type 0} (g : Ghosts S) (old mid : Held S) {between : Machine} → ComesToStandFor g between old mid → IsTrue old.in_transaction → IsTrue mid.in_transaction
reached_inside {S = S} g old mid (inl same) inside = subst (λ (h : Held S). IsTrue h.in_transaction) same.0 inside
reached_inside g old mid (inr made) inside = subst IsTrue (sym made.shown.mode) refl

module _ {S : Type 0} (g : Ghosts S) (command : Command) (key : Option Key) (after : Machine) (old : Held S) where
  abbrev WritesSubject : {A : Type 0} → Held S → Result A StoreFault → Type 0
  WritesSubject = Writes g (IsWriteOf command key after) (LacksFittingNumbers after key) (λ whole. IsStepOf whole command key after) (before_counts command) old

  -- the counts do not fit, or memory ran out for them
  pub changes_nothing : {B : Type 0} (e : StoreFault) (r : Result B StoreFault) → r ≡ Err e → IsUnfit Office (HasFittingCounts after) e → ChangesBy g command key after old old r
  changes_nothing e r is fault = subst (λ r. ChangesBy g command key after old old r) (sym is) (record {
    ok = λ clean. tt;
    cause = λ clean inside whole stands made. inl (inr (inl fault, refl));
    err = λ clean before whole way made. inl (whole, way);
    survives = survives_itself (state g old);
  })

  -- the first write failed
  pub changes_not : {A B : Type 0} (new : Held S) (e : StoreFault) (r : Result B StoreFault) → r ≡ Err e → WritesSubject {A = A} new (Err e) → ChangesBy g command key after old new r
  changes_not new e r is one = subst (λ r. ChangesBy g command key after old new r) (sym is) (record {
    ok = λ clean. tt;
    cause = λ clean inside whole stands made. inl (one.err clean inside);
    err = λ clean before whole way made. failed_way g old new (IsWriteOf command key after) (LacksFittingNumbers after key) e (one.err clean way.inside) (no_more g old new one.survives way.stands.has clean) way;
    survives = survives_weaker (state g old) (state g new) _ _ (λ clean db other ready. other ready.1.has) one.survives;
  })

  -- the first write succeeded, and then the counts are written
  pub changes_by : {A B : Type 0} (mid new : Held S) {x : A} (r : Result B StoreFault) (handed accepted : ℕ) → (handed ≡ after.handed) × (accepted ≡ after.accepted) → WritesSubject mid (Ok x)
      → Changes g (write.SetsCounts handed accepted) (λ _. ⊤) (λ machine. record machine { handed = handed; accepted = accepted }) mid new r → ChangesBy g command key after old new r
  changes_by mid new r handed accepted same one two =
      let before : HasCleanDisk (state g new) → HasCleanDisk (state g mid) = λ clean. omega (arith, two.survives.clean, clean) in
      record {
        ok = λ clean. on_ok {P = (machine : Machine) → StandsFor machine (state g mid).now → ⊤ → Becomes (record machine { handed = handed; accepted = accepted }) (state g mid) (state g new)} r
            (λ makes whole stands made.
            let reached = one.ok (before clean) whole stands made in
            let counts : record (before_counts command whole) { handed = handed; accepted = accepted } ≡ (step whole command).1 =
            (λ i. record (before_counts command whole) { handed = same.0 i; accepted = same.1 i }) ∙ same_counts command made in
            becomes_then g old mid new reached
            (subst (λ m. Becomes m (state g mid) (state g new)) counts (makes (before_counts command whole) (reached_stands g old mid reached) tt))) (two.ok clean);
        cause = λ clean inside whole stands made.
            let reached = one.ok (before clean) whole stands made in
            if_err {P = FailsToWrite (write.SetsCounts handed accepted) (state g mid) (state g new)} r
            (λ e failed. inr (mid, reached, subst (λ it. FailsToWrite it (state g mid) (state g new) e) (λ i. write.SetsCounts (same.0 i) (same.1 i)) failed)) (two.err clean (reached_inside g old mid reached inside));
        err = λ clean first whole way made.
            let reached = one.ok (before clean) whole way.stands made in
            let here : IsUnderWay first (before_counts command whole) (state g mid) = reached_way g old mid reached (no_more g old mid one.survives way.stands.has (before clean)) way in
            on_err {P = IsUnderWay first (before_counts command whole) (state g new) ⊎ IsBackAt first (state g new)} r (λ left. elim left [
              | inl still ↦ inl (before_counts command whole, still)
              | inr back ↦ inr back
            ]) (not_changed g mid new r two clean here);
        survives = survives_then (state g old) (state g mid) (state g new) _ _ _ (λ clean db other ready. other ready.1.has)
            (λ clean db other ready. other (reached_stands g old mid (one.ok (before clean) ready.0 ready.1 ready.2)).has) one.survives two.survives;
      }
