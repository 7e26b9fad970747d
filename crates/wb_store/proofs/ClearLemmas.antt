-- Writes to the scratch tables, one after another.
use Rattle.std.proofs.Common.{◌≡◌, inl, inr, Result, Ok, Err, IfErr, IsTrue, refl, sym, subst, ◌∙◌, arith}
use Rattle.sqlite_trees.specs.declared.store.Store.{Ghosts}
use Rattle.sqlite.specs.Held.{Held, state}
use Rattle.sqlite.specs.State.{HasCleanDisk}
use Rattle.sqlite.proofs.StateLemmas.{survives_then, survives_weaker}
use Rattle.wb_sql.proofs.CallLemmas.{on_ok}
use Rattle.wb_states.specs.declared.store_fault.StoreFault.{StoreFault}
use Rattle.wb_states.specs.declared.store_fault.Table.{Table}
use Rattle.wb_states.specs.Machine.{Machine}
use Rattle.wb_store.specs.Calls.{BecomesWith}
use Rattle.wb_store.specs.Merging.{Scratch}
use Rattle.wb_store.specs.ScratchWrites.{Allows, ChangesScratch, ClearsScratch, FailsToClear, FailsToWrite, ReachesScratch, ScratchWrite, after_write, table_written}
use Rattle.wb_store.specs.Stands.{StandsWith}
use Rattle.wb_store.proofs.OthersLemmas.{others_then}

if_err : {E A : Type 0} {P Q : E → Type 0} (r : Result A E) → ((e : E) → P e → Q e) → IfErr r P → IfErr r Q
if_err (Ok x) follows h = tt
if_err (Err e) follows h = follows e h

module _ {S : Type 0} (g : Ghosts S) where
  -- one change of the rows of a merge after another
  pub becomes_then : {between machine : Machine} {some scratch : Scratch} (old mid new : Held S) → BecomesWith between some (state g old) (state g mid) → BecomesWith machine scratch (state g mid) (state g new)
      → BecomesWith machine scratch (state g old) (state g new)
  becomes_then old mid new one two = record {
    stands = two.stands;
    schema_is = two.schema_is ∙ one.schema_is;
    shown = record { was_open = one.shown.was_open; is_open = two.shown.is_open; now_is = refl; committed_is = two.shown.committed_is ∙ one.shown.committed_is; mode = two.shown.mode };
    marks = two.marks ∙ one.marks;
    others = others_then (state g old).now (state g mid).now (state g new).now one.others two.others;
    limit = two.limit ∙ one.limit;
  }

  reaches_then : {machine : Machine} {some : Scratch} (old mid new : Held S) → BecomesWith machine some (state g old) (state g mid) → ReachesScratch g machine mid new → ReachesScratch g machine old new
  reaches_then {machine = machine} {some = some} old mid new one (inl same) = inr (some, subst (λ (h : Held S). BecomesWith machine some (state g old) (state g h)) same one)
  reaches_then old mid new one (inr two) = inr (two.0, becomes_then old mid new one two.1)

  -- one write alone
  pub one_write : {A : Type 0} (write : ScratchWrite) {after : Scratch → Scratch} {old new : Held S} (r : Result A StoreFault) → ((scratch : Scratch) → Allows write scratch)
      → ((scratch : Scratch) → after_write write scratch ≡ after scratch) → ChangesScratch g write old new r → ClearsScratch g (table_written write) after old new r
  one_write write {after = after} {old = old} {new = new} r allows same h = record {
    ok = λ clean. on_ok {P = (machine : Machine) (scratch : Scratch) → StandsWith machine scratch (state g old).now → Allows write scratch → BecomesWith machine (after_write write scratch) (state g old) (state g new)} r
        (λ makes machine scratch stands. subst (λ s. BecomesWith machine s (state g old) (state g new)) (same scratch) (makes machine scratch stands (allows scratch))) (h.ok clean);
    err = λ clean inside machine scratch stands. if_err {P = FailsToWrite write (state g old) (state g new)} r (λ fault failed. (old, write, inl refl, failed)) (h.err clean inside);
    ended = h.ended;
    survives = survives_weaker (state g old) (state g new) _ _ (λ clean db none machine scratch stands. none stands.has) h.survives;
  }

  -- a write that failed, whatever was to follow
  pub write_failed : {A : Type 0} (write : ScratchWrite) {after : Scratch → Scratch} {old new : Held S} {e : StoreFault} → ChangesScratch {A = A} g write old new (Err e) → ClearsScratch {A = A} g (table_written write) after old new (Err e)
  write_failed write {after = after} {old = old} {new = new} {e = e} h = record {
    ok = λ clean. tt;
    err = λ clean inside machine scratch stands. (old, write, inl refl, h.err clean inside);
    ended = h.ended;
    survives = survives_weaker (state g old) (state g new) _ _ (λ clean db none machine scratch stands. none stands.has) h.survives;
  }

  -- several that failed, whatever was to follow
  pub clears_failed : {A : Type 0} {first : Table} {after later : Scratch → Scratch} {old new : Held S} {e : StoreFault} → ClearsScratch {A = A} g first after old new (Err e) → ClearsScratch {A = A} g first later old new (Err e)
  clears_failed h = record { ok = λ clean. tt; err = h.err; ended = h.ended; survives = h.survives }

  -- one write, and then others, which leave as much as they would have left without it
  pub write_then : {A B : Type 0} (write : ScratchWrite) {first : Table} {after : Scratch → Scratch} {old mid new : Held S} (x : A) (r : Result B StoreFault) → ((scratch : Scratch) → Allows write scratch)
      → ((scratch : Scratch) → after (after_write write scratch) ≡ after scratch) → ChangesScratch g write old mid (Ok x) → ClearsScratch g first after mid new r → ClearsScratch g first after old new r
  write_then {A = A} {B = B} write {first = first} {after = after} {old = old} {mid = mid} {new = new} x r allows same one two =
      let before : HasCleanDisk (state g new) → HasCleanDisk (state g mid) = λ clean. omega (arith, two.survives.clean, clean) in
      record {
        ok = λ clean. on_ok {P = (machine : Machine) (scratch : Scratch) → StandsWith machine scratch (state g mid).now → BecomesWith machine (after scratch) (state g mid) (state g new)} r
            (λ makes machine scratch stands.
            let made = one.ok (before clean) machine scratch stands (allows scratch) in
            subst (λ s. BecomesWith machine s (state g old) (state g new)) (same scratch) (becomes_then old mid new made (makes machine (after_write write scratch) made.stands))) (two.ok clean);
        err = λ clean inside machine scratch stands.
            let made = one.ok (before clean) machine scratch stands (allows scratch) in
            if_err {P = FailsToClear g machine mid new} r (λ fault failed. (failed.0, failed.1, reaches_then old mid failed.0 made failed.2, failed.3))
            (two.err clean (subst IsTrue (sym made.shown.mode) refl) machine (after_write write scratch) made.stands);
        ended = λ over. absurd (let refused = (one.ended over).0 in cc);
        survives = survives_then (state g old) (state g mid) (state g new) _ _ _ (λ clean db none machine scratch stands. none stands.has)
            (λ clean db none machine scratch stands. let made = one.ok (before clean) machine scratch stands (allows scratch) in none machine (after_write write scratch) made.stands) one.survives two.survives;
      }

  -- some writes, and then others
  pub clears_then : {A B : Type 0} {first next : Table} {after later : Scratch → Scratch} {old mid new : Held S} (x : A) (r : Result B StoreFault) → ClearsScratch g first after old mid (Ok x) → ClearsScratch g next later mid new r
      → ClearsScratch g first (λ scratch. later (after scratch)) old new r
  clears_then {A = A} {B = B} {after = after} {later = later} {old = old} {mid = mid} {new = new} x r one two =
      let before : HasCleanDisk (state g new) → HasCleanDisk (state g mid) = λ clean. omega (arith, two.survives.clean, clean) in
      record {
        ok = λ clean. on_ok {P = (machine : Machine) (scratch : Scratch) → StandsWith machine scratch (state g mid).now → BecomesWith machine (later scratch) (state g mid) (state g new)} r
            (λ makes machine scratch stands.
            let made = one.ok (before clean) machine scratch stands in
            becomes_then old mid new made (makes machine (after scratch) made.stands)) (two.ok clean);
        err = λ clean inside machine scratch stands.
            let made = one.ok (before clean) machine scratch stands in
            if_err {P = FailsToClear g machine mid new} r (λ fault failed. (failed.0, failed.1, reaches_then old mid failed.0 made failed.2, failed.3))
            (two.err clean (subst IsTrue (sym made.shown.mode) refl) machine (after scratch) made.stands);
        ended = λ over. absurd (let refused = (one.ended over).0 in cc);
        survives = survives_then (state g old) (state g mid) (state g new) _ _ _ (λ clean db none. none)
            (λ clean db none machine scratch stands. let made = one.ok (before clean) machine scratch stands in none machine (after scratch) made.stands) one.survives two.survives;
      }
