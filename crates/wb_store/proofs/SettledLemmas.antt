-- How the calls on an office take it through a transaction: begun, changed, looked up in, ended.
use Rattle.std.proofs.Common.{◌≡◌, ◌⊎◌, inl, inr, true, false, [], if◌then◌else◌, Result, Ok, Err, OnOk, OnErr, IfErr, IsTrue, refl, sym, ap, subst, ◌∙◌}
use Rattle.std.proofs.lemmas.Bool.{both_ways}
use Rattle.sqlite_trees.specs.declared.store.Store.{Ghosts}
use Rattle.sqlite.specs.declared.error.Error.{Error}
use Rattle.sqlite.specs.Tree.{Trees}
use Rattle.sqlite.specs.Effect.{Database, IsDatabase}
use Rattle.sqlite.specs.Held.{Held, state}
use Rattle.sqlite.specs.State.{State, HasCleanDisk, IsLive, IsUnchanged, IsRolledBack, Executes, Survives}
use Rattle.wb_sql.specs.declared.transaction.CommitError.{CommitError}
use Rattle.wb_sql.specs.declared.transaction.CommitError.TheVariants as commit
use Rattle.wb_sql.specs.Transactions.{cause_of, rollback_text, FailsToCommit, IsKeptOrUndone, IsTakenBack, Commits, LeavesAlone, LeavesNoMore}
use Rattle.wb_sql.proofs.CallLemmas.{on_ok}
use Rattle.wb_sql.specs.Among.{HasOffice}
use Rattle.wb_states.specs.declared.store_fault.StoreFault.{StoreFault}
use Rattle.wb_states.specs.declared.store_fault.StoreFault.TheVariants as fault
use Rattle.wb_states.specs.declared.store_fault.Table.TheVariants.{Office}
use Rattle.wb_states.specs.Machine.{Machine}
use Rattle.wb_store.specs.Ending.{IsEndedFrom, IsFaultOfCommit, IsFaultOfRollBack, committed, doubt_of, is_over, rolled_back}
use Rattle.wb_store.specs.Faults.{fault_of}
use Rattle.wb_store.specs.Merging.{Scratch}
use Rattle.wb_store.specs.Stands.{StandsFor, StandsWith}
use Rattle.wb_store.specs.Calls.{Becomes, Changes, FailsToWrite, LooksUp, FailsToLookUp}
use Rattle.wb_store.specs.Settled.{StandsForTrees, IsOffice, IsSettled, IsUnderWay, IsUnderWayWith, LeavesOnly, IsBackAt, SettlesBy, TakesBack}
use Rattle.wb_store.specs.Queries.{OfficeQuery}
use Rattle.wb_store.specs.Writes.{OfficeWrite}

-- ---- a database and its trees

-- a database that stands for a state and is sound is that of an office
pub office_of : {machine : Machine} (db : Database) → StandsFor machine db → IsDatabase db → IsOffice machine db
office_of db h sound = record { sound = sound; stands = h }

-- the database of an office stands for its state
pub office_stands : {machine : Machine} (db : Database) → IsOffice machine db → StandsFor machine db
office_stands db h = h.stands

-- the trees of an office's database stand for its state
pub office_trees : {machine : Machine} (db : Database) → IsOffice machine db → StandsForTrees machine db.trees
office_trees db h = record { schema = db.schema; sound = h.sound; stands = h.stands }

same_office : {machine : Machine} (a b : Database) → b ≡ a → IsOffice machine a → IsOffice machine b
same_office {machine = machine} a b same = subst (IsOffice machine) (sym same)

same_stands : {machine : Machine} {scratch : Scratch} (a b : Database) → b ≡ a → StandsWith machine scratch a → StandsWith machine scratch b
same_stands {machine = machine} {scratch = scratch} a b same = subst (StandsWith machine scratch) (sym same)

only_of : {machine : Machine} (s : State) (db : Database) → LeavesAlone s db.trees → IsOffice machine db → LeavesOnly machine s
only_of {machine = machine} s db alone is left may = subst (StandsForTrees machine) (sym (alone left may)) (office_trees db is)

-- ---- a transaction begins

-- a connection that is settled, and then is in a transaction, has one under way that changed nothing
pub begins : {S : Type 0} (g : Ghosts S) {machine : Machine} (old new : Held S) → new ≡ record old { in_transaction = true } → IsSettled machine (state g old) → IsUnderWay machine machine (state g new)
begins g {machine} old new begun h =
    let at : IsUnderWay machine machine (state g (record old { in_transaction = true })) = record {
      is_open = h.is_open;
      inside = refl;
      stands = office_stands (state g old).now h.holds;
      began = same_office (state g old).now (state g old).committed (sym h.committed) h.holds;
      alone = λ db may. h.alone db may ∙ ap (λ (d : Database). d.trees) h.committed;
    } in
    subst (λ x. IsUnderWay machine machine (state g x)) (sym begun) at

-- ---- what a failure makes of a transaction

module _ {before now : Machine} {scratch : Scratch} (old new : State) where
  -- a transaction under way that a call left as it was
  pub stays_under_way : IsUnchanged old new → LeavesNoMore old new → IsUnderWayWith before now scratch old → IsUnderWayWith before now scratch new
  stays_under_way same fewer h = record {
    is_open = same.0.is_open;
    inside = subst IsTrue (sym same.0.mode) h.inside;
    stands = same_stands old.now new.now same.0.now_is h.stands;
    began = same_office old.committed new.committed same.0.committed_is h.began;
    alone = λ db may. h.alone db (fewer db may) ∙ ap (λ (d : Database). d.trees) (sym same.0.committed_is);
  }

  -- a transaction under way that is taken back
  pub goes_back : IsRolledBack old new → LeavesNoMore old new → IsUnderWayWith before now scratch old → IsBackAt before new
  goes_back undone fewer h = record {
    idle = undone.autocommit;
    left = λ db may. only_of old old.committed h.alone h.began db (fewer db may);
    settled = λ is_open.
        let u = undone.undone is_open in
        record {
          is_open = is_open;
          idle = undone.autocommit;
          committed = u.0 ∙ sym u.1;
          holds = same_office old.committed new.now u.0 h.began;
          alone = λ db may. h.alone db (fewer db may) ∙ ap (λ (d : Database). d.trees) (sym u.0);
        };
  }

  -- after a failure that committed nothing, the transaction is under way as it was, or taken back
  pub stays_or_goes_back : IsKeptOrUndone old new → LeavesNoMore old new → IsUnderWayWith before now scratch old → IsUnderWayWith before now scratch new ⊎ IsBackAt before new
  stays_or_goes_back (inl same) fewer h = inl (stays_under_way same fewer h)
  stays_or_goes_back (inr undone) fewer h = inr (goes_back undone fewer h)

-- a settled connection is back at its state
pub settled_back : {machine : Machine} (s : State) → IsSettled machine s → IsBackAt machine s
settled_back s h = record { idle = h.idle; left = only_of s s.now h.alone h.holds; settled = λ _. h }

module _ {machine : Machine} (old new : State) where
  -- a settled connection that a call left as it was
  pub stays_settled : IsUnchanged old new → LeavesNoMore old new → IsSettled machine old → IsSettled machine new
  stays_settled same fewer h = record {
    is_open = same.0.is_open;
    idle = same.0.mode ∙ h.idle;
    committed = same.0.now_is ∙ h.committed ∙ sym same.0.committed_is;
    holds = same_office old.now new.now same.0.now_is h.holds;
    alone = λ db may. h.alone db (fewer db may) ∙ ap (λ (d : Database). d.trees) (sym same.0.now_is);
  }

  -- what was taken back stays so where all is left as it was
  pub stays_back : IsUnchanged old new → LeavesNoMore old new → IsBackAt machine old → IsBackAt machine new
  stays_back same fewer h = record {
    idle = same.0.mode ∙ h.idle;
    left = λ db may. h.left db (fewer db may);
    settled = λ _. stays_settled same fewer (h.settled same.0.was_open);
  }

  -- and where it is taken back once more
  pub goes_back_again : IsRolledBack old new → LeavesNoMore old new → IsBackAt machine old → IsBackAt machine new
  goes_back_again undone fewer h = record {
    idle = undone.autocommit;
    left = λ db may. h.left db (fewer db may);
    settled = λ is_open.
        let u = undone.undone is_open in
        let s = h.settled (undone.was_open is_open) in
        record {
          is_open = is_open;
          idle = undone.autocommit;
          committed = u.0 ∙ sym u.1;
          holds = same_office old.now new.now (u.0 ∙ sym s.committed) s.holds;
          alone = λ db may. s.alone db (fewer db may) ∙ ap (λ (d : Database). d.trees) (s.committed ∙ sym u.0);
        };
  }

on_err : {E A Q : Type 0} {P : E → Type 0} (r : Result A E) → ((e : E) → P e → Q) → IfErr r P → OnErr r Q
on_err (Ok x) follows h = tt
on_err (Err e) follows h = follows e h

fewer_of : {P : Trees → Type 0} (old new : State) → Survives old new P → ((db : Trees) → ¬ P db) → HasCleanDisk new → LeavesNoMore old new
fewer_of old new survives never clean db may = elim (survives.crash clean db may) [ inl was ↦ was | inr made ↦ absurd (never db made) ]

-- ---- a transaction ends

-- a commit in doubt is not answered out of memory
doubt_is_told : (told : StoreFault) → doubt_of told ≡ fault.Memory → ⊥
doubt_is_told fault.Memory is = absurd (cc)
doubt_is_told fault.Device is = absurd (cc)
doubt_is_told fault.NotOffice is = absurd (cc)
doubt_is_told fault.NewerSchema is = absurd (cc)
doubt_is_told (fault.Damaged table row) is = absurd (cc)

committed_ok : {A : Type 0} (P : Type 0) (r : Result A CommitError) → OnOk r P → OnOk (committed r) P
committed_ok P (Ok x) h = h
committed_ok P (Err e) h = tt

pub committed_err : {A : Type 0} (P : Type 0) (r : Result A CommitError) → OnErr r P → OnErr (committed r) P
committed_err P (Ok x) h = tt
committed_err P (Err e) h = h

-- out of memory is what the commit answered, if it is not in doubt
memory_told : {A : Type 0} (r : Result A CommitError) → committed r ≡ Err fault.Memory → r ≡ Err commit.Memory
memory_told (Ok x) is = absurd (cc)
memory_told (Err commit.Memory) is = refl
memory_told (Err (commit.InDoubt e)) is = absurd (doubt_is_told (fault_of e Office) (cc))

-- why a commit was not made, as the fault of the store
pub commit_fault : {S A : Type 0} (g : Ghosts S) (at : Held S) (r : Result A CommitError) → IfErr r (λ e. FailsToCommit g at (cause_of e)) → IfErr (committed r) (IsFaultOfCommit g at)
commit_fault g at (Ok x) failed = tt
commit_fault g at (Err e) failed = (e, failed, refl)

-- ROLLBACK took the transaction back, or found it over
pub roll_back_ends : (at new : State) (r : Result (Unit {0}) Error) → OnOk r (IsRolledBack at new) → IfErr r (λ e. Executes rollback_text [] at new (Err e)) → OnOk (rolled_back r) (IsEndedFrom at new)
roll_back_ends at new (Ok x) undone failed = inl undone
roll_back_ends at new (Err e) undone failed =
    (elim (is_over e) as (λ over. is_over e ≡ over → OnOk (if over then Ok tt else Err (fault_of e Office)) (IsEndedFrom at new)) [
      | true ↦ λ is. inr (e, failed, is)
      | false ↦ λ is. tt
    ]) refl

-- why ROLLBACK took nothing back, as the fault of the store
pub roll_back_fault : (at new : State) (r : Result (Unit {0}) Error) → IfErr r (λ e. Executes rollback_text [] at new (Err e)) → IfErr (rolled_back r) (IsFaultOfRollBack at new)
roll_back_fault at new (Ok x) failed = tt
roll_back_fault at new (Err e) failed =
    (elim (is_over e) as (λ over. is_over e ≡ over → IfErr (if over then Ok tt else Err (fault_of e Office)) (IsFaultOfRollBack at new)) [
      | true ↦ λ is. tt
      | false ↦ λ is. (e, failed, is, refl)
    ]) refl

module _ {S A : Type 0} (g : Ghosts S) (old new : Held S) where
  -- the clauses of a commit on a database, said of an office
  pub settles : (r : Result A CommitError)
      → (HasCleanDisk (state g new) → OnOk r (Commits (state g old) (state g new)))
      → (HasCleanDisk (state g new) → OnOk r (LeavesAlone (state g new) (state g old).now.trees))
      → (HasCleanDisk (state g new) → r ≡ Err commit.Memory → LeavesNoMore (state g old) (state g new))
      → (HasCleanDisk (state g new) → OnErr r (IsKeptOrUndone (state g old) (state g new)))
      → IsLive (state g old) → Survives (state g old) (state g new) (λ db. db ≡ (state g old).now.trees) → SettlesBy g old new (committed r)
  settles r ok alone memory err live survives = record {
    ok = λ clean before now h. committed_ok _ r (settled_by r (ok clean) (alone clean) before now h);
    shows = λ clean before now h. committed_ok _ r (on_ok {P = Commits (state g old) (state g new)} r (λ made. made.shown.now_is) (ok clean));
    memory = λ clean before now h is.
        let lacked = memory_told r is in
        stays_or_goes_back (state g old) (state g new) (subst (λ x. OnErr x (IsKeptOrUndone (state g old) (state g new))) lacked (err clean)) (memory clean lacked) h;
    crash = λ clean before now h db may. elim (survives.crash clean db may) [
      | inl was ↦ inl (only_of (state g old) (state g old).committed h.alone h.began db was)
      | inr made ↦ inr (subst (StandsForTrees now) (sym made) (office_trees (state g old).now (office_of (state g old).now h.stands (live h.is_open).0)))
    ];
  }
    where
      settled_by : (r : Result A CommitError) → OnOk r (Commits (state g old) (state g new)) → OnOk r (LeavesAlone (state g new) (state g old).now.trees)
          → (before now : Machine) → IsUnderWay before now (state g old) → OnOk r (IsSettled now (state g new))
      settled_by (Err e) made alone before now h = tt
      settled_by (Ok x) made alone before now h = record {
        is_open = made.shown.is_open;
        idle = made.shown.mode;
        committed = made.shown.now_is ∙ sym made.shown.committed_is;
        holds = same_office (state g old).now (state g new).now made.shown.now_is (office_of (state g old).now h.stands (live h.is_open).0);
        alone = λ db may. alone db may ∙ ap (λ (d : Database). d.trees) (sym made.shown.now_is);
      }

  -- the clauses of a roll-back on a database, said of an office
  pub takes_back : (r : Result A Error)
      → (HasCleanDisk (state g new) → OnOk r (IsRolledBack (state g old) (state g new)))
      → (HasCleanDisk (state g new) → OnErr r (IsTakenBack (state g old) (state g new)))
      → Survives (state g old) (state g new) (λ _. ⊥) → TakesBack g old new
  takes_back r ok err survives = record {
    back = λ clean before now from. back clean before now (taken r (ok clean) (err clean)) from;
    beside = λ clean before now scratch h. beside clean before now scratch (taken r (ok clean) (err clean)) h;
  }
    where
      taken : (r : Result A Error) → OnOk r (IsRolledBack (state g old) (state g new)) → OnErr r (IsTakenBack (state g old) (state g new)) → IsTakenBack (state g old) (state g new)
      taken (Ok x) undone none = inl undone
      taken (Err e) none undone = undone

      beside : HasCleanDisk (state g new) → (before now : Machine) (scratch : Scratch) → IsTakenBack (state g old) (state g new) → IsUnderWayWith before now scratch (state g old) → IsBackAt before (state g new)
      beside clean before now scratch (inl undone) h = goes_back (state g old) (state g new) undone (fewer_of (state g old) (state g new) survives (λ db none. none) clean) h
      beside clean before now scratch (inr over) h = absurd (both_ways _ over.0 h.inside)

      back : HasCleanDisk (state g new) → (before now : Machine) → IsTakenBack (state g old) (state g new) → IsUnderWay before now (state g old) ⊎ IsBackAt before (state g old) → IsBackAt before (state g new)
      back clean before now (inl undone) (inl h) = goes_back (state g old) (state g new) undone (fewer_of (state g old) (state g new) survives (λ db none. none) clean) h
      back clean before now (inl undone) (inr h) = goes_back_again (state g old) (state g new) undone (fewer_of (state g old) (state g new) survives (λ db none. none) clean) h
      back clean before now (inr over) (inl h) = absurd (both_ways _ over.0 h.inside)
      back clean before now (inr over) (inr h) = stays_back (state g old) (state g new) over.1 (fewer_of (state g old) (state g new) survives (λ db none. none) clean) h

-- ---- changes and look-ups

module _ {S : Type 0} (g : Ghosts S) (old new : Held S) where
  fewer_by : Survives (state g old) (state g new) (λ _. ¬ HasOffice old.schema) → HasOffice old.schema → HasCleanDisk (state g new) → LeavesNoMore (state g old) (state g new)
  fewer_by survives has = fewer_of (state g old) (state g new) survives (λ db other. other has)

  -- a look-up that fails changes nothing, or takes the transaction back
  pub kept_or_undone_in : (query : OfficeQuery) (fault : StoreFault) → FailsToLookUp query (state g old) (state g new) fault → IsKeptOrUndone (state g old) (state g new)
  kept_or_undone_in query fault (inl read) = read.left
  kept_or_undone_in query fault (inr (inl full)) = inl full.1
  kept_or_undone_in query fault (inr (inr unfit)) = inl unfit.1

module _ {S A : Type 0} (g : Ghosts S) (old new : Held S) where
  -- a change that succeeds leaves the transaction under way, with what it made of the state
  pub changed : {write : OfficeWrite} {Allows : Machine → Type 0} {after : Machine → Machine} {before now : Machine} (r : Result A StoreFault) → Changes g write Allows after old new r → HasCleanDisk (state g new) → IsUnderWay before now (state g old) → Allows now
      → OnOk r (IsUnderWay before (after now) (state g new))
  changed {Allows = Allows} {after = after} {before = before} {now = now} r h clean way allows = on_ok {P = (machine : Machine) → StandsFor machine (state g old).now → Allows machine → Becomes (after machine) (state g old) (state g new)} r (λ makes.
      let made : Becomes (after now) (state g old) (state g new) = makes now way.stands allows in
      record {
        is_open = made.shown.is_open;
        inside = subst IsTrue (sym made.shown.mode) refl;
        stands = made.stands;
        began = same_office (state g old).committed (state g new).committed made.shown.committed_is way.began;
        alone = λ db may. way.alone db (fewer_by g old new h.survives way.stands.has clean db may) ∙ ap (λ (d : Database). d.trees) (sym made.shown.committed_is);
      }) (h.ok clean)

  -- a change that fails leaves the transaction under way as it was, or taken back
  pub not_changed : {write : OfficeWrite} {Allows : Machine → Type 0} {after : Machine → Machine} {before now : Machine} (r : Result A StoreFault) → Changes g write Allows after old new r → HasCleanDisk (state g new) → IsUnderWay before now (state g old)
      → OnErr r (IsUnderWay before now (state g new) ⊎ IsBackAt before (state g new))
  not_changed {write = write} r h clean way = on_err {P = FailsToWrite write (state g old) (state g new)} r
      (λ fault failed. stays_or_goes_back (state g old) (state g new) failed.left (fewer_by g old new h.survives way.stands.has clean) way) (h.err clean way.inside)

  -- a look-up that succeeds leaves the connection settled
  pub looked_up : {query : OfficeQuery} {Answer : Machine → A → Type 0} {machine : Machine} (r : Result A StoreFault) → LooksUp g query Answer old new r → HasCleanDisk (state g new) → IsSettled machine (state g old) → OnOk r (IsSettled machine (state g new))
  looked_up r h clean settled = on_ok r (λ same. stays_settled (state g old) (state g new) same (fewer_by g old new h.survives settled.holds.stands.has clean) settled) (h.same clean settled.holds.stands.has)

  -- a look-up that fails leaves the connection at its state, unless a fault shut it
  pub not_looked_up : {query : OfficeQuery} {Answer : Machine → A → Type 0} {machine : Machine} (r : Result A StoreFault) → LooksUp g query Answer old new r → HasCleanDisk (state g new) → IsSettled machine (state g old) → OnErr r (IsBackAt machine (state g new))
  not_looked_up {query = query} {machine = machine} r h clean settled =
      let fewer = fewer_by g old new h.survives settled.holds.stands.has clean in
      on_err {P = FailsToLookUp query (state g old) (state g new)} r
      (λ fault failed. back_at (kept_or_undone_in g old new query fault failed) fewer) (h.err clean settled.holds.stands.has)
    where
      back_at : IsKeptOrUndone (state g old) (state g new) → LeavesNoMore (state g old) (state g new) → IsBackAt machine (state g new)
      back_at (inl same) fewer = stays_back (state g old) (state g new) same fewer (settled_back (state g old) settled)
      back_at (inr undone) fewer = goes_back_again (state g old) (state g new) undone fewer (settled_back (state g old) settled)
