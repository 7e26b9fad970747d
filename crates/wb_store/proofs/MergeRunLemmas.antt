-- What each call of a merge in a transaction of the office leaves of its tables, and why it fails.
use Rattle.std.proofs.Common.{◌≡◌, ◌≢◌, IsOk, Bool, true, false, List, ◌∷◌, [], Option, None, Some, inl, inr, Result}
use Rattle.std.proofs.Common.{Ok, Err, IfOk, IfErr, IfSome, IsErrAnd, OnOk, IsTrue, refl, sym, subst, ◌∙◌}
use Rattle.std.specs.Bool.{⊤}
use Rattle.sqlite_trees.specs.declared.store.Store.{Ghosts}
use Rattle.sqlite.specs.Effect.{Database}
use Rattle.sqlite.specs.Held.{Held, state}
use Rattle.sqlite.specs.Tree.{Trees}
use Rattle.sqlite.specs.State.{State, Savepoint, HasCleanDisk, IsUnchanged, Shows, Survives}
use Rattle.sqlite.proofs.StateLemmas.{survives_weaker}
use Rattle.std.specs.List.{AllByRecursion}
use Rattle.sqlite.specs.Schema.{Schema}
use Rattle.sqlite.specs.Table as Table
use Rattle.wb_sql.specs.Among.{HasOffice, names_office}
use Rattle.wb_sql.specs.Savepoints.{GoesBack, IsAny, IsSaved, IsSavedAs, Releases, Saves, back_text, release_text, save_text}
use Rattle.wb_states.specs.declared.store_fault.StoreFault.{StoreFault}
use Rattle.wb_states.specs.declared.store_fault.Table.{Table}
use Rattle.wb_states.specs.declared.record.Record.{Record}
use Rattle.wb_states.specs.declared.store_fault.Table.TheVariants.{SourceRecord}
use Rattle.wb_states.specs.Machine.{Key, Machine}
use Rattle.std.specs.FinMap as map
use Rattle.wb_archive.specs.Tables.{Contents, HasFittingTake, Tables, back_at, with_savepoint, without_savepoint}
use Rattle.wb_store.specs.Calls.{BecomesWith, Changes, LooksUp}
use Rattle.wb_store.specs.Faults.{unfit}
use Rattle.wb_store.specs.MergeRuns.{AllTakesFit, FailsAfter, FailsAtCall, FailsIn, GoesOn, HasSavepoint, HasOtherSavepoints, HoldsContents, HoldsSome, HoldsTables, IsMerging, IsOfRecord, IsSavedWith, RunsOn, RunsTo, SavepointText, scratch_of}
use Rattle.wb_store.specs.MergeLaws.{runs_itself}
use Rattle.wb_store.specs.Merging.{Scratch}
use Rattle.wb_store.specs.Others.{KeepsOthers}
use Rattle.wb_store.specs.Queries.{OfficeQuery}
use Rattle.wb_store.specs.Queries as ask
use Rattle.wb_store.specs.Savepoints.{CallsPart}
use Rattle.wb_store.specs.ScratchLookups.{LooksUpScratch}
use Rattle.wb_store.specs.ScratchWrites.{Allows, ChangesScratch, ClearsScratch, FailsToClear, ReachesScratch, ScratchWrite, after_write}
use Rattle.wb_store.specs.Writes.{OfficeWrite}
use Rattle.wb_store.proofs.OthersLemmas.{others_same, others_then, others_equal, others_still}

-- ---- answers

-- a fault that is handed on
pub handed_fault : {T E : Type 0} {e : E} (P : E → Type 0) (r : Result T E) → IsErrAnd r (λ d. d ≡ e) → P e → IfErr r P
handed_fault P (Ok x) is h = tt
handed_fault P (Err d) is h = subst P (sym is) h

pub on_ok_of : {T E P : Type 0} (r : Result T E) → P → OnOk r P
on_ok_of (Ok x) h = h
on_ok_of (Err e) h = tt

-- with the reference that stays
pub with_same : {T E Q : Type 0} (P : Type 0) (r : Result T E) → Q → OnOk r P → OnOk r (Q × P)
with_same P (Ok x) same h = (same, h)
with_same P (Err e) same h = tt

pub fault_with_same : {T E Q : Type 0} (P : E → Type 0) (r : Result T E) → Q → IfErr r P → IfErr r (λ e. Q × P e)
fault_with_same P (Ok x) same h = tt
fault_with_same P (Err e) same h = (same, h)

-- ---- the savepoint, which a call leaves alone

module _ (old new : State) where
  -- a savepoint stays where the transaction has the same ones, and the tables of others keep their rows
  pub savepoint_stays : (is_saved : Bool) (saved : Option Contents) → new.marks ≡ old.marks → KeepsOthers old.now new.now → HasSavepoint is_saved saved old → HasSavepoint is_saved saved new
  savepoint_stays false None marks others h = h
  savepoint_stays true (Some saved) marks others h = record {
    front = h.front;
    was = h.was;
    newest = marks ∙ h.newest;
    holds = h.holds;
    others = others_then h.was old.now new.now h.others others;
  }
  savepoint_stays false (Some saved) marks others h = h
  savepoint_stays true None marks others h = h

  -- the savepoints beside that of the merge stay where the transaction has the same ones
  other_savepoints_stay : (is_saved : Bool) (others : List Savepoint) → new.marks ≡ old.marks → HasOtherSavepoints is_saved others old → HasOtherSavepoints is_saved others new
  other_savepoints_stay false others marks has = marks ∙ has
  other_savepoints_stay true others marks has = (has.0, marks ∙ has.1)

  goes_on_unchanged : IsUnchanged old new → new.step_limit ≡ old.step_limit → GoesOn old new
  goes_on_unchanged same limit = record {
    was_open = same.0.was_open;
    is_open = same.0.is_open;
    committed = same.0.committed_is;
    inside = λ inside. subst IsTrue (sym same.0.mode) inside;
    others = others_equal old.now new.now same.0.now_is;
    limit = limit;
  }

  pub goes_on_becoming : {machine : Machine} {scratch : Scratch} → BecomesWith machine scratch old new → GoesOn old new
  goes_on_becoming made = record {
    was_open = made.shown.was_open;
    is_open = made.shown.is_open;
    committed = made.shown.committed_is;
    inside = λ inside. subst IsTrue (sym made.shown.mode) refl;
    others = made.others;
    limit = made.limit;
  }

  unchanged_holds : (is_saved : Bool) (tables : Tables) → IsUnchanged old new → HoldsTables is_saved tables old → HoldsTables is_saved tables new
  unchanged_holds is_saved tables same h = record {
    now = subst (HoldsContents tables.now) (sym same.0.now_is) h.now;
    saved = savepoint_stays is_saved tables.saved same.2 (others_equal old.now new.now same.0.now_is) h.saved;
  }

  becoming_holds : (is_saved : Bool) (tables : Tables) (now : Contents) → BecomesWith now.machine (scratch_of now) old new → HoldsTables is_saved tables old → HoldsTables is_saved (record tables { now = now }) new
  becoming_holds is_saved tables now made h = record {
    now = made.stands;
    saved = savepoint_stays is_saved tables.saved made.marks made.others h.saved;
  }

holds_some : (is_saved : Bool) (s : State) → IsMerging is_saved s → HoldsSome s.now
holds_some is_saved s merging = (merging.0.now, merging.1.now)

has_office : (is_saved : Bool) (s : State) → IsMerging is_saved s → HasOffice s.now.schema
has_office is_saved s merging = merging.1.now.has

module _ {S : Type 0} (g : Ghosts S) (is_saved : Bool) (old new : Held S) where
  -- a crash leaves no more of the tables of a merge than of any that an office has
  survives_merge : {P : Trees → Type 0} → ((db : Trees) → P db → ¬ IsMerging is_saved (state g old)) → Survives (state g old) (state g new) P → Survives (state g old) (state g new) (λ _. ¬ IsMerging is_saved (state g old))
  survives_merge follows survives = survives_weaker (state g old) (state g new) _ _ (λ clean db made. follows db made) survives

  fails_here : (fault : StoreFault) → IsMerging is_saved (state g old) → FailsAtCall (state g old) (state g new) fault → FailsAfter g old new fault
  fails_here fault merging failed = (old, (inl refl, (holds_some is_saved (state g old) merging, failed)))

-- what stands in the tables, with other rows of the lists
abbrev contents_with : (Scratch → Scratch) → Contents → Contents
contents_with after now = let kept = after (scratch_of now) in record { machine = now.machine; sources = kept.sources; binaries = kept.binaries }

-- one of several writes of the rows of the lists failed
module _ {S : Type 0} (g : Ghosts S) (old new : Held S) where
  cleared_after_others : (fault : StoreFault) (machine : Machine) → HoldsSome (state g old).now → FailsToClear g machine old new fault → FailsAfter g old new fault
  cleared_after_others fault machine some failed = (failed.0, (reached failed.2, (still failed.2, inr (inl (failed.1, failed.3)))))
    where
      reached : ReachesScratch g machine old failed.0 → RunsTo g old failed.0
      reached (inl same) = inl same
      reached (inr made) = inr (goes_on_becoming (state g old) (state g failed.0) made.1)

      still : ReachesScratch g machine old failed.0 → HoldsSome (state g failed.0).now
      still (inl same) = subst (λ (h : Held S). HoldsSome (state g h).now) same some
      still (inr made) = (record { machine = machine; sources = made.0.sources; binaries = made.0.binaries }, made.1.stands)

over_limit : (machine : Machine) (key : Key) (found : Option Record) → found ≡ map.get machine.records key → ¬ IfSome found HasFittingTake → ¬ AllTakesFit machine
over_limit machine key None is none all = none tt
over_limit machine key (Some current) is over all = over (all key current (sym is))

-- ---- look-ups

module _ {S : Type 0} (g : Ghosts S) (is_saved : Bool) (old new : Held S) where
  -- a record that was looked up, whose take number does not fit
  pub unfit_fails : {key : Key} {found : Option Record} (fault : StoreFault)
      → LooksUp g (ask.RecordAt key) (λ machine told. told ≡ map.get machine.records key) old new (Ok found) → (fault ≡ unfit SourceRecord) × ¬ IfSome found HasFittingTake → FailsIn g is_saved old new fault
  unfit_fails {key = key} {found = found} fault h refused = record {
    cause = λ clean merging inside. fails_here g is_saved old new fault merging (inr (inr (inr (inr (inr (record {
      fault_is = refused.0;
      same = h.same clean (has_office is_saved (state g old) merging);
      over = λ machine kept stands all. over_limit machine key found (h.value clean machine kept stands) refused.1 all;
    }))))));
    survives = survives_merge g is_saved old new (λ db lacks merging. lacks (has_office is_saved (state g old) merging)) h.survives;
  }

module _ {S A : Type 0} (g : Ghosts S) (is_saved : Bool) (old new : Held S) where
  module _ {query : OfficeQuery} {Answer : Machine → A → Type 0} where
    pub looked_holds : (r : Result A StoreFault) → LooksUp g query Answer old new r → HasCleanDisk (state g new) → (tables : Tables) → HoldsTables is_saved tables (state g old)
        → OnOk r (HoldsTables is_saved tables (state g new))
    looked_holds (Err fault) h clean tables holds = tt
    looked_holds (Ok found) h clean tables holds = unchanged_holds (state g old) (state g new) is_saved tables (h.same clean holds.now.has) holds

    pub looked_value : (r : Result A StoreFault) → LooksUp g query Answer old new r → HasCleanDisk (state g new) → (tables : Tables) → HoldsTables is_saved tables (state g old)
        → IfOk r (Answer tables.now.machine)
    looked_value (Err fault) h clean tables holds = tt
    looked_value (Ok found) h clean tables holds = h.value clean tables.now.machine (scratch_of tables.now) holds.now

    pub looked_runs : (r : Result A StoreFault) → LooksUp g query Answer old new r → OnOk r (RunsOn g is_saved old is_saved new)
    looked_runs (Err fault) h = tt
    looked_runs (Ok found) h = record {
      runs = λ clean merging.
          let same = h.same clean (has_office is_saved (state g old) merging) in (
            (merging.0, unchanged_holds (state g old) (state g new) is_saved merging.0 same merging.1),
            inr
                (goes_on_unchanged (state g old) (state g new) same h.survives.limit),
          );
      savepoints = λ clean merging others has. other_savepoints_stay (state g old) (state g new) is_saved others (h.same clean (has_office is_saved (state g old) merging)).2 has;
      survives = survives_merge g is_saved old new (λ db lacks merging. lacks (has_office is_saved (state g old) merging)) h.survives;
    }

    pub looked_fails : (r : Result A StoreFault) → LooksUp g query Answer old new r → IfErr r (FailsIn g is_saved old new)
    looked_fails (Ok found) h = tt
    looked_fails (Err fault) h = record {
      cause = λ clean merging inside. fails_here g is_saved old new fault merging (inr (inr (inl (query, h.err clean (has_office is_saved (state g old) merging)))));
      survives = survives_merge g is_saved old new (λ db lacks merging. lacks (has_office is_saved (state g old) merging)) h.survives;
    }

  module _ {query : OfficeQuery} {Answer : Scratch → A → Type 0} where
    pub listed_holds : (r : Result A StoreFault) → LooksUpScratch g query Answer old new r → HasCleanDisk (state g new) → (tables : Tables) → HoldsTables is_saved tables (state g old)
        → OnOk r (HoldsTables is_saved tables (state g new))
    listed_holds (Err fault) h clean tables holds = tt
    listed_holds (Ok found) h clean tables holds = unchanged_holds (state g old) (state g new) is_saved tables (h.same clean holds.now.has) holds

    pub listed_value : (r : Result A StoreFault) → LooksUpScratch g query Answer old new r → HasCleanDisk (state g new) → (tables : Tables) → HoldsTables is_saved tables (state g old)
        → IfOk r (Answer (scratch_of tables.now))
    listed_value (Err fault) h clean tables holds = tt
    listed_value (Ok found) h clean tables holds = h.value clean tables.now.machine (scratch_of tables.now) holds.now

    pub listed_runs : (r : Result A StoreFault) → LooksUpScratch g query Answer old new r → OnOk r (RunsOn g is_saved old is_saved new)
    listed_runs (Err fault) h = tt
    listed_runs (Ok found) h = record {
      runs = λ clean merging.
          let same = h.same clean (has_office is_saved (state g old) merging) in (
            (merging.0, unchanged_holds (state g old) (state g new) is_saved merging.0 same merging.1),
            inr
                (goes_on_unchanged (state g old) (state g new) same h.survives.limit),
          );
      savepoints = λ clean merging others has. other_savepoints_stay (state g old) (state g new) is_saved others (h.same clean (has_office is_saved (state g old) merging)).2 has;
      survives = survives_merge g is_saved old new (λ db lacks merging. lacks (has_office is_saved (state g old) merging)) h.survives;
    }

    pub listed_fails : (r : Result A StoreFault) → LooksUpScratch g query Answer old new r → IfErr r (FailsIn g is_saved old new)
    listed_fails (Ok found) h = tt
    listed_fails (Err fault) h = record {
      cause = λ clean merging inside. fails_here g is_saved old new fault merging (inr (inr (inr (inl (query, h.err clean (has_office is_saved (state g old) merging))))));
      survives = survives_merge g is_saved old new (λ db lacks merging. lacks (has_office is_saved (state g old) merging)) h.survives;
    }

  -- ---- writes of a record

  module _ {write : OfficeWrite} {after : Machine → Machine} where
    pub changed_holds : (r : Result A StoreFault) → Changes g write (λ _. ⊤) after old new r → HasCleanDisk (state g new) → (tables : Tables) → HoldsTables is_saved tables (state g old)
        → OnOk r (HoldsTables is_saved (record tables { now = record tables.now { machine = after tables.now.machine } }) (state g new))
    changed_holds (Err fault) h clean tables holds = tt
    changed_holds (Ok x) h clean tables holds =
        becoming_holds (state g old) (state g new) is_saved tables (record tables.now { machine = after tables.now.machine }) (h.beside clean tables.now.machine (scratch_of tables.now) holds.now tt) holds

    pub changed_runs : (r : Result A StoreFault) → Changes g write (λ _. ⊤) after old new r → OnOk r (RunsOn g is_saved old is_saved new)
    changed_runs (Err fault) h = tt
    changed_runs (Ok x) h = record {
      runs = λ clean merging.
          let made = h.beside clean merging.0.now.machine (scratch_of merging.0.now) merging.1.now tt in (
            (
              record merging.0 { now = record merging.0.now { machine = after merging.0.now.machine } },
              becoming_holds (state g old) (state g new) is_saved merging.0 (record merging.0.now { machine = after merging.0.now.machine }) made merging.1,
            ),
            inr (goes_on_becoming (state g old) (state g new) made),
          );
      savepoints = λ clean merging others has.
          other_savepoints_stay (state g old) (state g new) is_saved others (h.beside clean merging.0.now.machine (scratch_of merging.0.now) merging.1.now tt).marks has;
      survives = survives_merge g is_saved old new (λ db lacks merging. lacks (has_office is_saved (state g old) merging)) h.survives;
    }

    pub changed_fails : IsOfRecord write → (r : Result A StoreFault) → Changes g write (λ _. ⊤) after old new r → IfErr r (FailsIn g is_saved old new)
    changed_fails of (Ok x) h = tt
    changed_fails of (Err fault) h = record {
      cause = λ clean merging inside. fails_here g is_saved old new fault merging (inl (write, (of, h.err clean inside)));
      survives = survives_merge g is_saved old new (λ db lacks merging. lacks (has_office is_saved (state g old) merging)) h.survives;
    }

  -- ---- writes of the rows of the lists

  module _ {write : ScratchWrite} where
    pub added_holds : (r : Result A StoreFault) → ChangesScratch g write old new r → HasCleanDisk (state g new) → (tables : Tables) → Allows write (scratch_of tables.now) → HoldsTables is_saved tables (state g old)
        → OnOk r (HoldsTables is_saved (record tables { now = contents_with (after_write write) tables.now }) (state g new))
    added_holds (Err fault) h clean tables allows holds = tt
    added_holds (Ok x) h clean tables allows holds =
        becoming_holds (state g old) (state g new) is_saved tables (contents_with (after_write write) tables.now) (h.ok clean tables.now.machine (scratch_of tables.now) holds.now allows) holds

    pub added_runs : (r : Result A StoreFault) → ChangesScratch g write old new r → OnOk r (RunsOn g is_saved old is_saved new)
    added_runs (Err fault) h = tt
    added_runs (Ok x) h = record {
      runs = λ clean merging.
          let allows = h.allowed clean merging.0.now.machine (scratch_of merging.0.now) merging.1.now in
          let made = h.ok clean merging.0.now.machine (scratch_of merging.0.now) merging.1.now allows in (
            (record merging.0 { now = contents_with (after_write write) merging.0.now }, becoming_holds (state g old) (state g new) is_saved merging.0 (contents_with (after_write write) merging.0.now) made merging.1),
            inr (goes_on_becoming (state g old) (state g new) made),
          );
      savepoints = λ clean merging others has.
          let allows = h.allowed clean merging.0.now.machine (scratch_of merging.0.now) merging.1.now in
          other_savepoints_stay (state g old) (state g new) is_saved others (h.ok clean merging.0.now.machine (scratch_of merging.0.now) merging.1.now allows).marks has;
      survives = survives_merge g is_saved old new (λ db lacks merging. lacks (has_office is_saved (state g old) merging)) h.survives;
    }

    pub added_fails : (r : Result A StoreFault) → ChangesScratch g write old new r → IfErr r (FailsIn g is_saved old new)
    added_fails (Ok x) h = tt
    added_fails (Err fault) h = record {
      cause = λ clean merging inside. fails_here g is_saved old new fault merging (inr (inl (write, h.err clean inside)));
      survives = survives_merge g is_saved old new (λ db lacks merging. lacks (has_office is_saved (state g old) merging)) h.survives;
    }

  module _ {first : Table} {after : Scratch → Scratch} where
    pub cleared_holds : (r : Result A StoreFault) → ClearsScratch g first after old new r → HasCleanDisk (state g new) → (tables : Tables) → HoldsTables is_saved tables (state g old)
        → OnOk r (HoldsTables is_saved (record tables { now = contents_with after tables.now }) (state g new))
    cleared_holds (Err fault) h clean tables holds = tt
    cleared_holds (Ok x) h clean tables holds =
        becoming_holds (state g old) (state g new) is_saved tables (contents_with after tables.now) (h.ok clean tables.now.machine (scratch_of tables.now) holds.now) holds

    pub cleared_runs : (r : Result A StoreFault) → ClearsScratch g first after old new r → OnOk r (RunsOn g is_saved old is_saved new)
    cleared_runs (Err fault) h = tt
    cleared_runs (Ok x) h = record {
      runs = λ clean merging.
          let made = h.ok clean merging.0.now.machine (scratch_of merging.0.now) merging.1.now in (
            (record merging.0 { now = contents_with after merging.0.now }, becoming_holds (state g old) (state g new) is_saved merging.0 (contents_with after merging.0.now) made merging.1),
            inr (goes_on_becoming (state g old) (state g new) made),
          );
      savepoints = λ clean merging others has.
          other_savepoints_stay (state g old) (state g new) is_saved others (h.ok clean merging.0.now.machine (scratch_of merging.0.now) merging.1.now).marks has;
      survives = survives_merge g is_saved old new (λ db never merging. never merging.0.now.machine (scratch_of merging.0.now) merging.1.now) h.survives;
    }

    pub cleared_fails : (r : Result A StoreFault) → ClearsScratch g first after old new r → IfErr r (FailsIn g is_saved old new)
    cleared_fails (Ok x) h = tt
    cleared_fails (Err fault) h = record {
      cause = λ clean merging inside.
          cleared_after_others g old new fault merging.0.now.machine (holds_some is_saved (state g old) merging) (h.err clean inside merging.0.now.machine (scratch_of merging.0.now) merging.1.now);
      survives = survives_merge g is_saved old new (λ db never merging. never merging.0.now.machine (scratch_of merging.0.now) merging.1.now) h.survives;
    }

-- ---- the savepoint

-- the tables of others have the rows again that they had
each_back : (before after : Database) (tables : List Table.Table) → AllByRecursion (λ (t : Table.Table). names_office t.name ≡ false → after.trees t.tree ≡ before.trees t.tree) tables
    → AllByRecursion (λ (t : Table.Table). names_office t.name ≡ false → before.trees t.tree ≡ after.trees t.tree) tables
each_back before after [] same = tt
each_back before after (t ∷ tables) same = (λ other. sym (same.0 other), each_back before after tables same.1)

others_back : (was now : Database) → KeepsOthers was now → KeepsOthers now was
others_back was now kept = record {
  schema = sym kept.schema;
  rows = subst (λ (schema : Schema). AllByRecursion (λ (t : Table.Table). names_office t.name ≡ false → was.trees t.tree ≡ now.trees t.tree) schema.tables) (sym kept.schema) (each_back was now was.schema.tables kept.rows);
}

-- where a savepoint was set, there is what stood in the tables at it; and where none was, there is none
some_saved : (s : State) (merging : IsMerging true s) → (saved : Contents) × (merging.0.saved ≡ Some saved)
some_saved s merging = at merging.0.saved merging.1.saved
  where
    at : (o : Option Contents) → HasSavepoint true o s → (saved : Contents) × (o ≡ Some saved)
    at (Some saved) h = (saved, refl)
    at None h = absurd h

module _ {S : Type 0} (g : Ghosts S) (old new : Held S) where
  needs_saved : IsMerging true (state g old) → IsSaved (state g old)
  needs_saved merging = saved_part merging.0.saved merging.1.saved
    where
      saved_part : (saved : Option Contents) → HasSavepoint true saved (state g old) → IsSaved (state g old)
      saved_part (Some saved) h = (h.front, h.was, h.newest)
      saved_part None h = absurd h

  saved_now : (tables : Tables) (was_saved : Bool) → Saves (state g old) (state g new) → HoldsTables was_saved tables (state g old) → HoldsTables true (with_savepoint tables) (state g new)
  saved_now tables was_saved made h = record {
    now = subst (HoldsContents tables.now) (sym made.shown.now_is) h.now;
    saved = record {
      front = (state g old).marks;
      was = (state g old).now;
      newest = made.saved;
      holds = h.now;
      others = others_equal (state g old).now (state g new).now made.shown.now_is;
    };
  }

  goes_on_showing : {db : Database} → Shows (state g old) (state g new) db (state g old).committed true
      → KeepsOthers (state g old).now db → new.step_limit ≡ old.step_limit
      → GoesOn (state g old) (state g new)
  goes_on_showing {db = db} shown others limit = record {
    was_open = shown.was_open;
    is_open = shown.is_open;
    committed = shown.committed_is;
    inside = λ inside. subst IsTrue (sym shown.mode) refl;
    others = others_still (state g new).now others shown.now_is;
    limit = limit;
  }

  went_back : (tables : Tables) (saved : Contents) → tables.saved ≡ Some saved → GoesBack (state g old) (state g new)
      → new.step_limit ≡ old.step_limit → HoldsTables true tables (state g old)
      → HoldsTables true (back_at saved tables) (state g new) × GoesOn (state g old) (state g new)
  went_back tables saved is back limit h =
      let at : IsSavedWith saved (state g old) = subst (λ o. HasSavepoint true o (state g old)) is h.saved in
      let made = back at.front at.was at.newest in (
        record {
          now = subst (HoldsContents saved) (sym made.shown.now_is) at.holds;
          saved = subst (λ o. HasSavepoint true o (state g new)) (sym is) (record {
            front = at.front;
            was = at.was;
            newest = made.marks ∙ at.newest;
            holds = at.holds;
            others = others_equal at.was (state g new).now made.shown.now_is;
          });
        },
        goes_on_showing made.shown (others_back at.was (state g old).now at.others) limit,
      )

  released : (tables : Tables) → Releases (state g old) (state g new) → HoldsTables true tables (state g old) → HoldsTables false (without_savepoint tables) (state g new)
  released tables made h = record { now = subst (HoldsContents tables.now) (sym made.shown.now_is) h.now; saved = tt }

module _ {S A : Type 0} (g : Ghosts S) (old new : Held S) where
  part_fails : (text : SavepointText) {Needs : State → Type 0} {Done : State → State → Type 0} (is_saved : Bool) → (IsMerging is_saved (state g old) → Needs (state g old))
      → (r : Result A StoreFault) → CallsPart g text.0 Needs Done old new r → IfErr r (FailsIn g is_saved old new)
  part_fails text is_saved needs (Ok x) h = tt
  part_fails text is_saved needs (Err fault) h = record {
    cause = λ clean merging inside. fails_here g is_saved old new fault merging (inr (inr (inr (inr (inl (text, h.err clean inside))))));
    survives = survives_merge g is_saved old new (λ db lacks merging. lacks (needs merging)) h.survives;
  }

  pub save_fails : (is_saved : Bool) (r : Result A StoreFault) → CallsPart g save_text IsAny Saves old new r → IfErr r (FailsIn g is_saved old new)
  save_fails is_saved = part_fails (save_text, inl refl) is_saved (λ merging. tt)

  pub back_fails : (is_saved : Bool) (r : Result A StoreFault) → CallsPart g back_text IsAny GoesBack old new r → IfErr r (FailsIn g is_saved old new)
  back_fails is_saved = part_fails (back_text, inr (inl refl)) is_saved (λ merging. tt)

  pub release_fails : (r : Result A StoreFault) → CallsPart g release_text IsSaved Releases old new r → IfErr r (FailsIn g true old new)
  release_fails = part_fails (release_text, inr (inr refl)) true (needs_saved g old new)

  -- where the transaction notes that the savepoint is set
  pub save_holds : (is_saved : Bool) (r : Result A StoreFault) → OnOk r
      (is_saved ≡ true) → CallsPart g save_text IsAny Saves old new r → HasCleanDisk (state g new)
      → (tables : Tables) → HoldsTables false tables (state g old) → OnOk r (HoldsTables is_saved
      (with_savepoint tables) (state g new))
  save_holds is_saved (Err fault) noted h clean tables holds = tt
  save_holds is_saved (Ok x) noted h clean tables holds = subst (λ b. HoldsTables b (with_savepoint tables)
      (state g new)) (sym noted) (saved_now g old new tables false (h.ok clean tt) holds)

  pub save_runs : (is_saved : Bool) (r : Result A StoreFault) → OnOk r
      (is_saved ≡ true) → CallsPart g save_text IsAny Saves old new r → OnOk r (RunsOn g false old is_saved new)
  save_runs is_saved (Err fault) noted h = tt
  save_runs is_saved (Ok x) noted h = subst (λ b. RunsOn g false old b new) (sym noted) (record {
    runs = λ clean merging.
        let made = h.ok clean tt in (
          (with_savepoint merging.0, saved_now g old new merging.0 false made merging.1),
          inr
              (goes_on_showing g old new made.shown (others_same (state g old).now) h.survives.limit),
        );
    savepoints = λ clean merging others has.
        ((state g old).now, subst (λ (marks : List Savepoint). IsSavedAs marks (state g old).now (state g new)) has (h.ok clean tt).saved);
    survives = survives_merge g false old new (λ db lacks merging. lacks tt) h.survives;
  })

  pub back_holds : (r : Result A StoreFault) → CallsPart g back_text IsAny GoesBack old new r → HasCleanDisk (state g new) → (tables : Tables) (saved : Contents) → HoldsTables true tables (state g old)
      → tables.saved ≡ Some saved → OnOk r (HoldsTables true (back_at saved tables) (state g new))
  back_holds (Err fault) h clean tables saved holds is = tt
  back_holds (Ok x) h clean tables saved holds is =
      (went_back g old new tables saved is (h.ok clean tt) h.survives.limit holds).0

  pub back_runs : (r : Result A StoreFault) → CallsPart g back_text IsAny GoesBack old new r → OnOk r (RunsOn g true old true new)
  back_runs (Err fault) h = tt
  back_runs (Ok x) h = record {
    runs = λ clean merging.
        let at = some_saved (state g old) merging in
        let made = went_back g old new merging.0 at.0 at.1 (h.ok clean tt) h.survives.limit merging.1 in
        ((back_at at.0 merging.0, made.0), inr made.1);
    savepoints = λ clean merging others has. other_savepoints_stay (state g old) (state g new) true others (h.ok clean tt others has.0 has.1).marks has;
    survives = survives_merge g true old new (λ db lacks merging. lacks tt) h.survives;
  }

  -- where the transaction notes that the savepoint is given up
  pub release_holds : (is_saved : Bool) (r : Result A StoreFault) → OnOk r
      (is_saved ≡ false) → CallsPart g release_text IsSaved Releases old new r → HasCleanDisk (state g new)
      → (tables : Tables) → HoldsTables true tables (state g old) → OnOk r (HoldsTables is_saved
      (without_savepoint tables) (state g new))
  release_holds is_saved (Err fault) noted h clean tables holds = tt
  release_holds is_saved (Ok x) noted h clean tables holds =
      subst (λ b. HoldsTables b (without_savepoint tables) (state g new)) (sym noted) (released g old new tables
      (h.ok clean (needs_saved g old new (tables, holds))) holds)

  pub release_runs : (is_saved : Bool) (r : Result A StoreFault) → OnOk r
      (is_saved ≡ false) → CallsPart g release_text IsSaved Releases old new r → OnOk r (RunsOn g true old is_saved new)
  release_runs is_saved (Err fault) noted h = tt
  release_runs is_saved (Ok x) noted h = subst (λ b. RunsOn g true old b new) (sym noted) (record {
    runs = λ clean merging.
        let made = h.ok clean (needs_saved g old new merging) in (
          (without_savepoint merging.0, released g old new merging.0 made merging.1),
          inr
              (goes_on_showing g old new made.shown (others_same (state g old).now) h.survives.limit),
        );
    savepoints = λ clean merging others has. (h.ok clean (needs_saved g old new merging)).marks others has.0 has.1;
    survives = survives_merge g true old new (λ db lacks merging. lacks (needs_saved g old new merging)) h.survives;
  })

-- ---- a call on the savepoint that does nothing where the savepoint is set, or is not

nothing_runs : {S : Type 0} (g : Ghosts S) (old new : Held S) (is_saved : Bool) → new ≡ old
    → RunsOn g is_saved old is_saved new
nothing_runs {S} g old new is_saved same =
    subst (λ (h : Held S). RunsOn g is_saved old is_saved h) (sym same) (runs_itself g is_saved old)

nothing_fails : {A : Type 0} (P : StoreFault → Type 0) (r : Result A StoreFault) → IsOk r → IfErr r P
nothing_fails P (Ok x) is = tt
nothing_fails P (Err fault) is = absurd (let same = is in cc)

-- where there is no savepoint, none was saved
unsaved : (s : State) (saved : Option Contents) → HasSavepoint false saved s → saved ≡ None
unsaved s None has = refl
unsaved s (Some saved) has = absurd has

module _ {S A : Type 0} (g : Ghosts S) (old new : Held S) where
  -- it is set only once
  pub saves_holds : (was_saved is_saved : Bool) (r : Result A StoreFault) → OnOk r (is_saved ≡ true)
      → (was_saved ≡ false → CallsPart g save_text IsAny Saves old new r) → (tables : Tables)
      → HasCleanDisk (state g new) → HoldsTables was_saved tables (state g old) → tables.saved ≡ None
      → OnOk r (HoldsTables is_saved (with_savepoint tables) (state g new))
  saves_holds false is_saved r noted calls tables clean holds none = save_holds g old new is_saved r noted (calls refl)
      clean tables holds
  saves_holds true is_saved r noted calls tables clean holds none =
      absurd (subst (λ o. HasSavepoint true o (state g old)) none holds.saved)

  pub saves_runs : (was_saved is_saved : Bool) (r : Result A StoreFault) → OnOk r (is_saved ≡ true)
      → (was_saved ≡ false → CallsPart g save_text IsAny Saves old new r)
      → (was_saved ≡ true → IsOk r × (new ≡ old)) → OnOk r (RunsOn g was_saved old is_saved new)
  saves_runs false is_saved r noted calls stays = save_runs g old new is_saved r noted (calls refl)
  saves_runs true is_saved (Ok x) noted calls stays =
      subst (λ b. RunsOn g true old b new) (sym noted) (nothing_runs g old new true (stays refl).1)
  saves_runs true is_saved (Err fault) noted calls stays = tt

  pub saves_fails : (was_saved : Bool) (r : Result A StoreFault)
      → (was_saved ≡ false → CallsPart g save_text IsAny Saves old new r)
      → (was_saved ≡ true → IsOk r × (new ≡ old)) → IfErr r (FailsIn g was_saved old new)
  saves_fails false r calls stays = save_fails g old new false r (calls refl)
  saves_fails true r calls stays = nothing_fails _ r (stays refl).0

  -- where none is set there is nothing to go back to
  pub backs_holds : (is_saved : Bool) (r : Result A StoreFault)
      → (is_saved ≡ true → CallsPart g back_text IsAny GoesBack old new r) → (tables : Tables) (saved : Contents)
      → HasCleanDisk (state g new) → HoldsTables is_saved tables (state g old) → tables.saved ≡ Some saved
      → OnOk r (HoldsTables is_saved (back_at saved tables) (state g new))
  backs_holds true r calls tables saved clean holds is = back_holds g old new r (calls refl) clean tables saved holds is
  backs_holds false r calls tables saved clean holds is =
      absurd (subst (λ o. HasSavepoint false o (state g old)) is holds.saved)

  pub backs_runs : (is_saved : Bool) (r : Result A StoreFault)
      → (is_saved ≡ true → CallsPart g back_text IsAny GoesBack old new r)
      → (is_saved ≡ false → IsOk r × (new ≡ old)) → OnOk r (RunsOn g is_saved old is_saved new)
  backs_runs true r calls stays = back_runs g old new r (calls refl)
  backs_runs false (Ok x) calls stays = nothing_runs g old new false (stays refl).1
  backs_runs false (Err fault) calls stays = tt

  pub backs_fails : (is_saved : Bool) (r : Result A StoreFault)
      → (is_saved ≡ true → CallsPart g back_text IsAny GoesBack old new r)
      → (is_saved ≡ false → IsOk r × (new ≡ old)) → IfErr r (FailsIn g is_saved old new)
  backs_fails true r calls stays = back_fails g old new true r (calls refl)
  backs_fails false r calls stays = nothing_fails _ r (stays refl).0

  -- and none to give up
  pub releases_holds : (was_saved is_saved : Bool) (r : Result A StoreFault) → OnOk r (is_saved ≡ false)
      → (was_saved ≡ true → CallsPart g release_text IsSaved Releases old new r) → (tables : Tables)
      → HasCleanDisk (state g new) → HoldsTables was_saved tables (state g old) → tables.saved ≢ None
      → OnOk r (HoldsTables is_saved (without_savepoint tables) (state g new))
  releases_holds true is_saved r noted calls tables clean holds some = release_holds g old new is_saved r noted
      (calls refl) clean tables holds
  releases_holds false is_saved r noted calls tables clean holds some =
      absurd (some (unsaved (state g old) tables.saved holds.saved))

  pub releases_runs : (was_saved is_saved : Bool) (r : Result A StoreFault) → OnOk r (is_saved ≡ false)
      → (was_saved ≡ true → CallsPart g release_text IsSaved Releases old new r)
      → (was_saved ≡ false → IsOk r × (new ≡ old)) → OnOk r (RunsOn g was_saved old is_saved new)
  releases_runs true is_saved r noted calls stays = release_runs g old new is_saved r noted (calls refl)
  releases_runs false is_saved (Ok x) noted calls stays =
      subst (λ b. RunsOn g false old b new) (sym noted) (nothing_runs g old new false (stays refl).1)
  releases_runs false is_saved (Err fault) noted calls stays = tt

  pub releases_fails : (was_saved : Bool) (r : Result A StoreFault)
      → (was_saved ≡ true → CallsPart g release_text IsSaved Releases old new r)
      → (was_saved ≡ false → IsOk r × (new ≡ old)) → IfErr r (FailsIn g was_saved old new)
  releases_fails true r calls stays = release_fails g old new r (calls refl)
  releases_fails false r calls stays = nothing_fails _ r (stays refl).0
