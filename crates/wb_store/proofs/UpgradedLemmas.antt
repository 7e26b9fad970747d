-- An office of the first schema that is brought over in one transaction, or not.
use Rattle.std.proofs.Common.{◌≡◌, inl, inr, true, List, Result, Ok, Err, OnErr, OnOk, refl, sym, ap, subst, ◌∙◌}
use Rattle.sqlite_trees.specs.declared.store.Store.{Ghosts}
use Rattle.sqlite.specs.declared.error.Error.{Error}
use Rattle.sqlite.specs.Effect.{Database}
use Rattle.sqlite.specs.Held.{Held, state}
use Rattle.sqlite.specs.State.{HasCleanDisk, IsLive, IsRolledBack, Survives}
use Rattle.sqlite.specs.Tree.{Trees}
use Rattle.wb_sql.specs.Transactions.{Commits, FailsToCommit, IsTakenBack, LeavesAlone}
use Rattle.wb_sql.specs.Upgrading.{with_second}
use Rattle.wb_states.specs.declared.store_fault.StoreFault.{StoreFault}
use Rattle.wb_states.specs.declared.store_fault.Table.TheVariants.{Office}
use Rattle.wb_states.specs.Machine.{Machine, empty_office}
use Rattle.wb_states.specs.Queue.{Entry}
use Rattle.wb_store.specs.Faults.{fault_of}
use Rattle.wb_store.specs.Others.{KeepsOthersOver}
use Rattle.wb_store.specs.Settled.{IsOffice, StandsForTrees}
use Rattle.wb_store.specs.Stands.{StandsFor}
use Rattle.wb_store.specs.Settled.{IsFirstOffice}
use Rattle.wb_store.specs.Upgrading.{AreRecordsOf, FailsToMove, HasFirst, IsInside, IsMoved, LeavesOrUpgrades, Moves}
use Rattle.wb_store.specs.Upgrading.{UpgradesOffice, with_records, without_records}
use Rattle.wb_store.proofs.PreparingLemmas.{over_of, taken_of}
use Rattle.wb_store.proofs.SettledLemmas.{office_of, office_trees}
use Rattle.wb_store.proofs.StaysLemmas.{was_clean}
use Rattle.wb_store.proofs.UpgradeLemmas.{all_records}

-- the steps in the transaction that began, for each office of which these are the records
abbrev pub MovesAll : {S A : Type 0} → Ghosts S → List Entry → Held S → Held S → Result A StoreFault → Type 0
MovesAll g records begun written r = (machine : Machine) → Moves g with_second (IsFirstOffice machine) (StandsFor (with_records (without_records machine) records)) begun written r

module _ {S : Type 0} (g : Ghosts S) (records : List Entry) (old begun written : Held S) (begins : begun ≡ record old { in_transaction = true }) {A : Type 0} (r : Result A StoreFault)
    (moves : MovesAll g records begun written r) where
  -- what they make of the office
  moves_at : (machine : Machine) → AreRecordsOf machine records → Moves g with_second (IsFirstOffice machine) (StandsFor machine) begun written r
  moves_at machine are =
      subst (λ after. Moves g with_second (IsFirstOffice machine) (StandsFor after) begun written r) (ap (with_records (without_records machine)) are ∙ all_records machine) (moves machine)

  office_then : (machine : Machine) → HasFirst machine (state g old) → IsFirstOffice machine (state g begun).now
  office_then machine first = subst (λ h. IsFirstOffice machine (state g h).now) (sym begins) first.office

  inside_then : (machine : Machine) → HasFirst machine (state g old) → IsInside (state g begun)
  inside_then machine first = subst (λ h. IsInside (state g h)) (sym begins) (record { is_open = first.is_open; inside = refl })

  -- before the end of the transaction a crash leaves none of them
  no_more_then : (machine : Machine) → HasFirst machine (state g old) → AreRecordsOf machine records → HasCleanDisk (state g written) → (db : Trees) → (state g written).may_leave db
      → (state g old).may_leave db
  no_more_then machine first are clean db may = elim (((moves_at machine are).survives clean (inside_then machine first) (office_then machine first)).crash clean db may) [
    | inl was ↦ subst (λ h. (state g h).may_leave db) begins was
    | inr none ↦ absurd none
  ]

  -- a clean disk was clean before them, and the limit of steps stays
  clean_then : HasCleanDisk (state g written) → HasCleanDisk (state g old)
  clean_then clean = subst (λ h. HasCleanDisk (state g h)) begins ((moves empty_office).was_clean clean)

  limit_then : (state g written).step_limit ≡ (state g old).step_limit
  limit_then = (moves empty_office).limit ∙ ap (λ h. (state g h).step_limit) begins

module _ {S : Type 0} (g : Ghosts S) (records : List Entry) (old begun written new : Held S) (begins : begun ≡ record old { in_transaction = true }) where
  -- what failed is taken back
  pub not_moved : {A B : Type 0} (fault : StoreFault) → MovesAll {A = A} g records begun written (Err fault) → (r : Result B Error)
      → (HasCleanDisk (state g new) → OnOk r (IsRolledBack (state g written) (state g new)))
      → (HasCleanDisk (state g new) → OnErr r (IsTakenBack (state g written) (state g new)))
      → Survives (state g written) (state g new) (λ _. ⊥) → UpgradesOffice {A = A} g records old new (Err fault)
  not_moved fault moves r ok err survives =
      let before : HasCleanDisk (state g new) → HasCleanDisk (state g written) = λ clean. was_clean (state g written) (state g new) survives clean in
      record {
        was_clean = λ clean. clean_then g records old begun written begins (Err fault) moves (before clean);
        limit = survives.limit ∙ limit_then g records old begun written begins (Err fault) moves;
        idle = λ clean. over_of (state g written) (state g new) (taken_of (state g written) (state g new) r (ok clean) (err clean));
        upgraded = λ clean machine first are. tt;
        others = λ clean machine first are. tt;
        crash = λ clean machine first are db may. elim (survives.crash clean db may) [
          | inl was ↦ inl (no_more_then g records old begun written begins (Err fault) moves machine first are (before clean) db was)
          | inr none ↦ absurd none
        ];
        err = λ clean machine first are. (
          written,
          inl (subst (λ h. FailsToMove g h written fault) begins
              ((moves_at g records old begun written begins (Err fault) moves machine are).err (before clean)
              (inside_then g records old begun written begins (Err fault) moves machine first) (office_then g records old begun written begins (Err fault) moves machine first))),
        );
      }

-- what a commit makes of an office that was moved
module _ {S : Type 0} (g : Ghosts S) (records : List Entry) (old begun written at : Held S) (begins : begun ≡ record old { in_transaction = true }) {A : Type 0} {x : A}
    (moves : MovesAll g records begun written (Ok x)) (live : IsLive (state g written)) (survives : Survives (state g written) (state g at) (λ db. db ≡ (state g written).now.trees)) where
  before_it : HasCleanDisk (state g at) → HasCleanDisk (state g written)
  before_it clean = was_clean (state g written) (state g at) survives clean

  moved : HasCleanDisk (state g at) → (machine : Machine) → HasFirst machine (state g old) → AreRecordsOf machine records → IsMoved with_second (StandsFor machine) (state g begun) (state g written)
  moved clean machine first are =
      (moves_at g records old begun written begins (Ok x) moves machine are).ok (before_it clean) (inside_then g records old begun written begins (Ok x) moves machine first)
      (office_then g records old begun written begins (Ok x) moves machine first)

  is_office : HasCleanDisk (state g at) → (machine : Machine) → HasFirst machine (state g old) → AreRecordsOf machine records → IsOffice machine (state g written).now
  is_office clean machine first are = let made = moved clean machine first are in office_of (state g written).now made.reached (live made.shown.is_open).0

  -- a crash leaves the one or the other
  leaves_then : HasCleanDisk (state g at) → (machine : Machine) → HasFirst machine (state g old) → AreRecordsOf machine records → LeavesOrUpgrades machine (state g old) (state g at)
  leaves_then clean machine first are db may = elim (survives.crash clean db may) [
    | inl was ↦ inl (no_more_then g records old begun written begins (Ok x) moves machine first are (before_it clean) db was)
    | inr kept ↦ inr (subst (StandsForTrees machine) (sym kept) (office_trees (state g written).now (is_office clean machine first are)))
  ]

  -- a commit that succeeds settles it
  pub upgraded_by : {B : Type 0} {y : B} → (HasCleanDisk (state g at) → Commits (state g written) (state g at)) → (HasCleanDisk (state g at) → LeavesAlone (state g at) (state g written).now.trees)
      → UpgradesOffice g records old at (Ok y)
  upgraded_by commits alone = record {
    was_clean = λ clean. clean_then g records old begun written begins (Ok x) moves (before_it clean);
    limit = survives.limit ∙ limit_then g records old begun written begins (Ok x) moves;
    idle = λ clean. (commits clean).shown.mode;
    upgraded = λ clean machine first are.
        let made = commits clean in
        record {
          is_open = made.shown.is_open;
          idle = made.shown.mode;
          committed = made.shown.now_is ∙ sym made.shown.committed_is;
          holds = subst (IsOffice machine) (sym made.shown.now_is) (is_office clean machine first are);
          alone = λ db may. alone clean db may ∙ ap (λ (d : Database). d.trees) (sym made.shown.now_is);
        };
    others = λ clean machine first are.
        subst (λ db. KeepsOthersOver (state g old).now db) (sym (commits clean).shown.now_is)
        (subst (λ h. KeepsOthersOver (state g h).now (state g written).now) begins (moved clean machine first are).others);
    crash = leaves_then;
    err = λ clean machine first are. tt;
  }

  -- one that fails is taken back
  pub not_committed : {B : Type 0} (new : Held S) (e : Error) (fault : StoreFault) → fault ≡ fault_of e Office → (HasCleanDisk (state g at) → FailsToCommit g written e)
      → (HasCleanDisk (state g new) → IsTakenBack (state g at) (state g new)) → Survives (state g at) (state g new) (λ _. ⊥) → UpgradesOffice {A = B} g records old new (Err fault)
  not_committed new e fault fault_is cause back later =
      let then : HasCleanDisk (state g new) → HasCleanDisk (state g at) = λ clean. was_clean (state g at) (state g new) later clean in
      record {
        was_clean = λ clean. clean_then g records old begun written begins (Ok x) moves (before_it (then clean));
        limit = later.limit ∙ survives.limit ∙ limit_then g records old begun written begins (Ok x) moves;
        idle = λ clean. over_of (state g at) (state g new) (back clean);
        upgraded = λ clean machine first are. tt;
        others = λ clean machine first are. tt;
        crash = λ clean machine first are db may. elim (later.crash clean db may) [
          | inl was ↦ leaves_then (then clean) machine first are db was
          | inr none ↦ absurd none
        ];
        err = λ clean machine first are. (
          written,
          inr (subst (λ h. IsMoved with_second (StandsFor machine) (state g h) (state g written)) begins (moved (then clean) machine first are), (e, cause (then clean), fault_is)),
        );
      }
