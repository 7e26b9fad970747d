-- Changes of the office's tables, one after another.
use Rattle.std.proofs.Common.{◌⊎◌, inl, inr, Result, Ok, Err, refl, sym, subst, arith}
use Rattle.std.specs.Prelude.{⊤}
use Rattle.sqlite_trees.specs.declared.store.Store.{Ghosts}
use Rattle.sqlite.specs.Held.{Held, state}
use Rattle.sqlite.specs.State.{HasCleanDisk, Survives}
use Rattle.sqlite.proofs.StateLemmas.{survives_then, survives_weaker}
use Rattle.wb_sql.specs.Transactions.{LeavesNoMore}
use Rattle.wb_sql.proofs.CallLemmas.{on_ok}
use Rattle.wb_states.specs.declared.store_fault.StoreFault.{StoreFault}
use Rattle.wb_states.specs.Machine.{Machine}
use Rattle.wb_store.specs.Stands.{StandsFor}
use Rattle.wb_store.specs.Calls.{Becomes, Changes, FailsToWrite}
use Rattle.wb_store.specs.Settled.{IsUnderWay, IsBackAt}
use Rattle.wb_store.specs.Writes.{OfficeWrite}
use Rattle.wb_store.proofs.SettledLemmas.{not_changed}
use Rattle.wb_office.specs.Changed.{FailsAtOnce, ComesToStandFor}
use Rattle.wb_office.specs.Turns.{StopsWith, IsNoOffice, ChangesInTurn}
use Rattle.wb_office.proofs.WriteLemmas.{becomes_then, if_err, on_err, reached_inside, reached_stands, reached_way}
use Rattle.wb_office.proofs.WriteLemmas.{survives_itself}

module _ {S : Type 0} (g : Ghosts S) where
  -- ---- what the database comes to

  comes_then : {between machine : Machine} (old mid new : Held S) → ComesToStandFor g between old mid → ComesToStandFor g machine mid new → ComesToStandFor g machine old new
  comes_then {machine = machine} old mid new (inl nothing) two = subst (λ held. ComesToStandFor g machine held new) (sym nothing.0) two
  comes_then {machine = machine} old mid new (inr one) (inl nothing) =
      inr (subst (λ held. Becomes machine (state g old) (state g held)) nothing.0 (record { stands = subst (λ (held : Held S). StandsFor machine (state g held).now) (sym nothing.0) nothing.1; shown = one.shown; schema_is = one.schema_is; marks = one.marks; others = one.others; limit = one.limit }))
  comes_then old mid new (inr one) (inr two) = inr (becomes_then g old mid new (inr one) two)

  fewer_for : {machine : Machine} (old new : Held S) → Survives (state g old) (state g new) (λ _. IsNoOffice g old) → StandsFor machine (state g old).now → HasCleanDisk (state g new) → LeavesNoMore (state g old) (state g new)
  fewer_for {machine = machine} old new survives stands clean db may = elim (survives.crash clean db may) [ inl was ↦ was | inr none ↦ absurd (none machine stands) ]

  -- ---- one change, and none

  -- one change of the tables
  pub one_change : {A : Type 0} {write : OfficeWrite} {Is : OfficeWrite → Type 0} {Why : StoreFault → Type 0} {after : Machine → Machine} {old new : Held S} (r : Result A StoreFault) → Is write → Changes g write (λ _. ⊤) after old new r
      → ChangesInTurn g Is Why after old new r
  one_change {write = write} {after = after} {old = old} {new = new} r is h = record {
    ok = λ clean. on_ok {P = (machine : Machine) → StandsFor machine (state g old).now → ⊤ → Becomes (after machine) (state g old) (state g new)} r (λ makes machine stands. inr (makes machine stands tt)) (h.ok clean);
    cause = λ clean inside machine stands. if_err {P = FailsToWrite write (state g old) (state g new)} r (λ e failed. (machine, old, inl (refl, stands), inl (write, is, failed))) (h.err clean inside);
    err = λ clean before now way. on_err {P = IsUnderWay before now (state g new) ⊎ IsBackAt before (state g new)} r
        (λ left. elim left [ inl there ↦ inl (now, there) | inr back ↦ inr back ]) (not_changed g old new r h clean way);
    survives = survives_weaker (state g old) (state g new) _ _ (λ clean db other machine stands. other stands.has) h.survives;
  }

  -- ---- several

  module _ {A B : Type 0} {Is : OfficeWrite → Type 0} {Why : StoreFault → Type 0} {first second : Machine → Machine} {old mid new : Held S} where
    pub then_changes : (x : A) (r : Result B StoreFault) → ChangesInTurn g Is Why first old mid (Ok x) → ChangesInTurn g Is Why second mid new r
        → ChangesInTurn g Is Why (λ machine. second (first machine)) old new r
    then_changes x r one two =
        let before : HasCleanDisk (state g new) → HasCleanDisk (state g mid) = λ clean. omega (arith, two.survives.clean, clean) in
        record {
          ok = λ clean. on_ok {P = (machine : Machine) → StandsFor machine (state g mid).now → ComesToStandFor g (second machine) mid new} r (λ makes machine stands.
              let made = one.ok (before clean) machine stands in
              comes_then old mid new made (makes (first machine) (reached_stands g old mid made))) (two.ok clean);
          cause = λ clean inside machine stands.
              let made = one.ok (before clean) machine stands in
              if_err {P = StopsWith g Is Why mid new} r (λ e stops. (stops.0, stops.1, comes_then old mid stops.1 made stops.2, stops.3))
              (two.cause clean (reached_inside g old mid made inside) (first machine) (reached_stands g old mid made));
          err = λ clean begin now way.
              let made = one.ok (before clean) now way.stands in
              two.err clean begin (first now) (reached_way g old mid made (fewer_for old mid one.survives way.stands (before clean)) way);
          survives = survives_then (state g old) (state g mid) (state g new) _ _ _ (λ clean db other. other)
              (λ clean db other machine stands. other (first machine) (reached_stands g old mid (one.ok (before clean) machine stands))) one.survives two.survives;
        }

  -- nothing was to be changed
  pub no_change : {A : Type 0} {Is : OfficeWrite → Type 0} {Why : StoreFault → Type 0} {held : Held S} (x : A) → ChangesInTurn g Is Why (λ machine. machine) held held (Ok x)
  no_change {held = held} x = record {
    ok = λ clean machine stands. inl (refl, stands);
    cause = λ clean inside machine stands. tt;
    err = λ clean before now way. tt;
    survives = survives_itself (state g held);
  }

  -- a change was not made for a reason
  pub not_made : {A : Type 0} {Is : OfficeWrite → Type 0} {Why : StoreFault → Type 0} {after : Machine → Machine} {held : Held S} (e : StoreFault) → Why e → ChangesInTurn {A = A} g Is Why after held held (Err e)
  not_made {held = held} e why = record {
    ok = λ clean. tt;
    cause = λ clean inside machine stands. (machine, held, inl (refl, stands), inr (why, refl));
    err = λ clean before now way. inl (now, way);
    survives = survives_itself (state g held);
  }

  -- fewer writes, that fail for fewer reasons
  pub for_more : {A : Type 0} {Is All : OfficeWrite → Type 0} {Why More : StoreFault → Type 0} {after : Machine → Machine} {old new : Held S} (r : Result A StoreFault) → ((write : OfficeWrite) → Is write → All write)
      → ((e : StoreFault) → Why e → More e) → ChangesInTurn g Is Why after old new r → ChangesInTurn g All More after old new r
  for_more {Is = Is} {All = All} {Why = Why} {More = More} r all more h = record {
    ok = h.ok;
    cause = λ clean inside machine stands. if_err r (λ e stops. (stops.0, stops.1, stops.2, go_on e stops.3)) (h.cause clean inside machine stands);
    err = h.err;
    survives = h.survives;
  }
    where
      go_on : (e : StoreFault) {a b : Held S} → FailsAtOnce g Is Why a b e → FailsAtOnce g All More a b e
      go_on e (inl (write, is, failed)) = inl (write, all write is, failed)
      go_on e (inr why) = inr (more e why.0, why.1)

  -- changes that failed would have made no matter what
  pub failed_alike : {A : Type 0} {Is : OfficeWrite → Type 0} {Why : StoreFault → Type 0} {after other : Machine → Machine} {old new : Held S} (e : StoreFault) → ChangesInTurn {A = A} g Is Why after old new (Err e) → ChangesInTurn {A = A} g Is Why other old new (Err e)
  failed_alike e h = record { ok = λ clean. tt; cause = h.cause; err = h.err; survives = h.survives }
