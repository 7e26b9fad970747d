-- An office of the first schema that an opening tests and brings over, or refuses.
use Rattle.std.proofs.Common.{◌≡◌, inl, inr, true, false, map, Result, Ok, Err, Vec, sym, subst, ◌∙◌}
use Rattle.std.proofs.lemmas.Bool.{both_ways}
use Rattle.sqlite_trees.specs.declared.store.Store.{Ghosts}
use Rattle.sqlite.specs.Held.{Held, state}
use Rattle.sqlite.specs.State.{HasCleanDisk, Survives}
use Rattle.wb_sql.specs.Upgrading.{HasFirstOffice}
use Rattle.sqlite.specs.Tree.{Trees}
use Rattle.wb_states.specs.declared.counts.Counts.{Counts}
use Rattle.wb_states.specs.declared.keyed.KeyedRecord.{KeyedRecord}
use Rattle.wb_states.specs.declared.store_fault.StoreFault.{StoreFault}
use Rattle.wb_states.specs.Lookups.{entry_of}
use Rattle.wb_states.specs.Machine.{Machine}
use Rattle.wb_store.specs.Settled.{IsFirstOffice}
use Rattle.wb_store.specs.FirstOpening.{BringsOver, ReadsOffice}
use Rattle.wb_store.specs.Others.{KeepsOthersOver}
use Rattle.wb_store.specs.Upgrading.{HasFirst, UpgradesOffice}
use Rattle.wb_store.proofs.FindsLemmas.{stays-now, stays-open}
use Rattle.wb_store.proofs.RefusalLemmas.{idle_kept, idle_stays}
use Rattle.wb_store.proofs.StaysLemmas.{was_clean}

-- tests of an office of the first schema leave no more than before
first_left : {S : Type 0} (g : Ghosts S) (old new : Held S) → Survives (state g old) (state g new) (λ _. ¬ HasFirstOffice old.schema) → HasFirstOffice old.schema → HasCleanDisk (state g new)
    → (db : Trees) → (state g new).may_leave db → (state g old).may_leave db
first_left g old new survives first clean db may = elim (survives.crash clean db may) [ inl was ↦ was | inr other ↦ absurd (other first) ]

module _ {S X : Type 0} {g : Ghosts S} {old : Held S} (idle : (state g old).in_transaction ≡ false) where
  -- it is not read
  pub not_read : {new : Held S} {fault : StoreFault} {r : Result Counts StoreFault} → ReadsOffice {X = X} g old new (Err fault) → r ≡ Err fault → BringsOver g old new r
  not_read {new = new} {fault = fault} reads is = subst (λ (r : Result Counts StoreFault). BringsOver g old new r) (sym is) (record {
    was_clean = was_clean (state g old) (state g new) reads.survives;
    limit = reads.survives.limit;
    brought = λ clean machine sound first. tt;
    others = λ clean machine first. tt;
    fails = λ clean machine sound first. inl (reads.fails clean first.office.stands.has machine sound first.office.stands tt);
    refuses = λ clean first. inl (reads.err clean first);
    crash = λ clean machine first db may. elim (reads.survives.crash clean db may) [
      | inl was ↦ inl was
      | inr none ↦ absurd (none first.office.stands.has)
    ];
    leaves = λ clean first some db may. inl (first_left g old new reads.survives first clean db may);
    good = λ clean first. tt;
    idle = λ clean first. idle_kept (state g old) (state g new) idle (reads.kept clean first);
  })

  module _ {mid : Held S} {counts : Counts} {records : Vec KeyedRecord X} (reads : ReadsOffice g old mid (Ok (counts, records))) where
    -- it stays an office of the first schema
    first_stays : HasCleanDisk (state g mid) → (machine : Machine) → HasFirst machine (state g old) → HasFirst machine (state g mid)
    first_stays clean machine first =
        let stays = reads.same clean first.office.stands.has in
        record {
          is_open = stays-open g old mid stays first.is_open;
          office = subst (IsFirstOffice machine) (sym (stays-now g old mid stays)) first.office;
        }

    left_before : HasCleanDisk (state g mid) → (machine : Machine) → HasFirst machine (state g old) → (db : Trees) → (state g mid).may_leave db → (state g old).may_leave db
    left_before clean machine first db may = elim (reads.survives.crash clean db may) [
      | inl was ↦ was
      | inr none ↦ absurd (none first.office.stands.has)
    ]

    -- no transaction is under way after that, so this is never refused
    pub never_inside : {fault : StoreFault} → (state g mid).in_transaction ≡ true → BringsOver g old mid (Err fault)
    never_inside inside = record {
      was_clean = was_clean (state g old) (state g mid) reads.survives;
      limit = reads.survives.limit;
      brought = λ clean machine sound first. tt;
      others = λ clean machine first. tt;
      fails = λ clean machine sound first. absurd (both_ways (state g mid).in_transaction (idle_stays g old mid idle (reads.same clean first.office.stands.has)) inside);
      refuses = λ clean first. inr ((reads.good clean first).0.0, (reads.good clean first).1, λ machine has. absurd (both_ways (state g mid).in_transaction (idle_stays g old mid idle (reads.same clean first)) inside));
      crash = λ clean machine first db may. inl (left_before clean machine first db may);
      leaves = λ clean first some db may. inl (first_left g old mid reads.survives first clean db may);
      good = λ clean first. tt;
      idle = λ clean first. idle_stays g old mid idle (reads.same clean first);
    }

    module _ {A : Type 0} {new : Held S} where
      -- it is not brought over
      pub not_brought : {fault : StoreFault} {r : Result Counts StoreFault} → UpgradesOffice {A = A} g (map entry_of records.items) mid new (Err fault) → r ≡ Err fault → BringsOver g old new r
      not_brought {fault = fault} upgrades is = subst (λ (r : Result Counts StoreFault). BringsOver g old new r) (sym is) (record {
        was_clean = λ clean. was_clean (state g old) (state g mid) reads.survives (upgrades.was_clean clean);
        limit = upgrades.limit ∙ reads.survives.limit;
        brought = λ clean machine sound first. tt;
        others = λ clean machine first. tt;
        fails = λ clean machine sound first.
            let before = upgrades.was_clean clean in
            inr (mid, reads.same before first.office.stands.has, upgrades.err clean machine (first_stays before machine first) (reads.told before first.office.stands.has machine first.office.stands).1);
        refuses = λ clean first.
            let before = upgrades.was_clean clean in
            inr ((reads.good before first).0.0, (reads.good before first).1, λ machine has. (mid, reads.same before first, upgrades.err clean machine (first_stays before machine has) (reads.told before has.office.stands.has machine has.office.stands).1));
        crash = λ clean machine first db may.
            let before = upgrades.was_clean clean in
            elim (upgrades.crash clean machine (first_stays before machine first) (reads.told before first.office.stands.has machine first.office.stands).1 db may) [
              | inl was ↦ inl (left_before before machine first db was)
              | inr made ↦ inr made
            ];
        leaves = λ clean first some db may.
            let before = upgrades.was_clean clean in
            let good = reads.good before first in
            let (machine, has) = some good.0.0 good.1 in
            elim (upgrades.crash clean machine (first_stays before machine has) (reads.told before first machine has.office.stands).1 db may) [
              | inl was ↦ inl (left_before before machine has db was)
              | inr made ↦ inr (machine, has.office, made)
            ];
        good = λ clean first. tt;
        idle = λ clean first. upgrades.idle clean;
      })

      -- it is
      pub brought_over : {x : A} → UpgradesOffice g (map entry_of records.items) mid new (Ok x) → BringsOver g old new (Ok counts)
      brought_over upgrades = record {
        was_clean = λ clean. was_clean (state g old) (state g mid) reads.survives (upgrades.was_clean clean);
        limit = upgrades.limit ∙ reads.survives.limit;
        brought = λ clean machine sound first.
            let before = upgrades.was_clean clean in
            let told = reads.told before first.office.stands.has machine first.office.stands in
            (told.0, upgrades.upgraded clean machine (first_stays before machine first) told.1);
        others = λ clean machine first.
            let before = upgrades.was_clean clean in
            let told = reads.told before first.office.stands.has machine first.office.stands in
            subst (λ db. KeepsOthersOver db (state g new).now) (stays-now g old mid (reads.same before first.office.stands.has))
            (upgrades.others clean machine (first_stays before machine first) told.1);
        fails = λ clean machine sound first. tt;
        refuses = λ clean first. tt;
        crash = λ clean machine first db may.
            let before = upgrades.was_clean clean in
            elim (upgrades.crash clean machine (first_stays before machine first) (reads.told before first.office.stands.has machine first.office.stands).1 db may) [
              | inl was ↦ inl (left_before before machine first db was)
              | inr made ↦ inr made
            ];
        leaves = λ clean first some db may.
            let before = upgrades.was_clean clean in
            let good = reads.good before first in
            let (machine, has) = some good.0.0 good.1 in
            elim (upgrades.crash clean machine (first_stays before machine has) (reads.told before first machine has.office.stands).1 db may) [
              | inl was ↦ inl (left_before before machine has db was)
              | inr made ↦ inr (machine, has.office, made)
            ];
        good = λ clean first. reads.good (upgrades.was_clean clean) first;
        idle = λ clean first. upgrades.idle clean;
      }
