-- How a merge of lists is made in a transaction of the office, and how it stops.
use Rattle.std.proofs.Common.{◌≡◌, ◌≤◌, ◌+◌, Bool, true, false, cond, List, [], ◌∷◌, None, Some, inl, inr, Result, Ok}
use Rattle.std.proofs.Common.{Err, IsTrue, Vec, nat_le, refl, sym, ap, subst, ◌∙◌}
use Rattle.std.specs.Bool.{⊤}
use Rattle.std.specs.List.{AllByRecursion, list_any}
use Rattle.sqlite_trees.specs.declared.store.Store.{Ghosts}
use Rattle.sqlite.specs.Effect.{Database}
use Rattle.sqlite.specs.Held.{Held, state}
use Rattle.sqlite.specs.State.{State, HasCleanDisk, IsRolledBack, IsUnchanged, Survives}
use Rattle.sqlite.proofs.StateLemmas.{survives_then, survives_weaker}
use Rattle.deb_control.specs.declared.fault.ControlFault.{ControlFault}
use Rattle.deb_control.specs.Paragraphs.{ReaderState}
use Rattle.wb_sql.specs.Transactions.{IsKeptOrUndone, LeavesNoMore}
use Rattle.wb_states.specs.declared.counts.Counts.{Counts}
use Rattle.wb_states.specs.declared.refusal.Refusal.{Refusal}
use Rattle.wb_states.specs.declared.refusal.Refusal.TheVariants.{Spent, UnknownArch}
use Rattle.wb_states.specs.declared.reply.PartEnd.{PartEnd}
use Rattle.wb_states.specs.declared.reply.PartEnd.TheVariants as end
use Rattle.wb_states.specs.declared.reply.PartReply.{PartReply}
use Rattle.wb_states.specs.declared.store_fault.StoreFault.{StoreFault}
use Rattle.wb_states.specs.declared.store_fault.Table.TheVariants.{Office}
use Rattle.wb_states.specs.Limits.{count_limit}
use Rattle.wb_states.specs.Machine.{Machine}
use Rattle.wb_states.specs.Refusals.{is_of_store}
use Rattle.wb_merge.specs.Merged.{Records}
use Rattle.wb_step.specs.Parts.{is_merged}
use Rattle.wb_archive.specs.declared.fault.MergeFault.{MergeFault}
use Rattle.wb_archive.specs.declared.fault.MergeFault.TheVariants as merge_fault
use Rattle.wb_archive.specs.declared.merge.PartList.{PartList}
use Rattle.wb_archive.specs.Faults.{StopsAs}
use Rattle.wb_archive.specs.Merges.{IsMergeOfLists}
use Rattle.wb_archive.specs.Parts.{IsPartEnd}
use Rattle.wb_archive.specs.Readers.{refusal_by, refusal_in}
use Rattle.wb_archive.specs.Tables.{Tables, with_records}
use Rattle.wb_archive.proofs.EndLemmas.{kinds_of_store}
use Rattle.wb_store.specs.Calls.{Changes, FailsToLookUp}
use Rattle.wb_store.specs.Faults.{IsUnfit}
use Rattle.wb_store.specs.Merging.{Scratch}
use Rattle.wb_store.specs.MergeRuns.{FailsAtCall, FailsIn, HoldsSome, HoldsTables, IsMerging, RunsOn, RunsTo}
use Rattle.wb_store.specs.MergeRuns.{scratch_of}
use Rattle.wb_store.specs.MergeLaws.{runs_to_then}
use Rattle.wb_store.specs.Queries.{OfficeQuery}
use Rattle.wb_store.specs.ScratchLookups as scratch
use Rattle.wb_store.specs.Settled.{IsBackAt, IsOffice, IsUnderWay, IsUnderWayWith, StandsForTrees}
use Rattle.wb_store.specs.Stands.{StandsFor, StandsWith}
use Rattle.wb_store.specs.Writes as write
use Rattle.wb_store.proofs.MergeRunLemmas.{goes_on_becoming}
use Rattle.wb_store.proofs.SettledLemmas.{office_trees}
use Rattle.wb_store.proofs.StaysLemmas.{was_clean}
use Rattle.wb_office.specs.declared.merge_lists.Stop.{Stop}
use Rattle.wb_office.specs.declared.merge_lists.Stop.TheVariants.{Failed, Refused}
use Rattle.wb_office.specs.MergeLists.{AreListsDone, AreListsToRead, FailsToMerge, IfFailed, IfRefused}
use Rattle.wb_office.specs.MergeLists.{IsLeftWithLists, IsMergedIn, IsRefusedMerge, MergesLists, counted, fault_in}
use Rattle.wb_office.specs.Turns.{IsNoOffice}

-- ---- before a merge

-- the tables of an office in which no merge ran yet
abbrev pub tables_of : Machine → Tables
tables_of machine = record { now = record { machine = machine; sources = []; binaries = [] }; saved = None }

pub begins_with : {machine : Machine} (s : State) → StandsFor machine s.now → HoldsTables false (tables_of machine) s
begins_with s stands = record { now = stands; saved = tt }

merging_at : {machine : Machine} (s : State) → StandsFor machine s.now → IsMerging false s
merging_at {machine = machine} s stands = (tables_of machine, begins_with s stands)

-- ---- after a failure of a call

looked_in : (query : OfficeQuery) (old new : State) (fault : StoreFault) → FailsToLookUp query old new fault → IsKeptOrUndone old new
looked_in query old new fault (inl read) = read.left
looked_in query old new fault (inr (inl full)) = inl full.1
looked_in query old new fault (inr (inr unfit)) = inl unfit.1

listed_in : (query : OfficeQuery) (old new : State) (fault : StoreFault) → scratch.FailsToLookUp query old new fault → IsKeptOrUndone old new
listed_in query old new fault (inl read) = read.left
listed_in query old new fault (inr (inl full)) = inl full.1
listed_in query old new fault (inr (inr unfit)) = inl unfit.1

kept_or_undone : (old new : State) (fault : StoreFault) → FailsAtCall old new fault → IsKeptOrUndone old new
kept_or_undone old new fault (inl of_record) = of_record.1.1.left
kept_or_undone old new fault (inr (inl of_row)) = of_row.1.left
kept_or_undone old new fault (inr (inr (inl asked))) = looked_in asked.0 old new fault asked.1
kept_or_undone old new fault (inr (inr (inr (inl asked)))) = listed_in asked.0 old new fault asked.1
kept_or_undone old new fault (inr (inr (inr (inr (inl part))))) = part.1.3
kept_or_undone old new fault (inr (inr (inr (inr (inr over))))) = inl over.same

module _ {S : Type 0} (g : Ghosts S) {before now : Machine} (old : Held S) (way : IsUnderWay before now (state g old)) where
  committed_to : (mid : Held S) → RunsTo g old mid → (state g mid).committed ≡ (state g old).committed
  committed_to mid (inl same) = ap (λ (h : Held S). (state g h).committed) (sym same)
  committed_to mid (inr on) = on.committed

  inside_to : (mid : Held S) → RunsTo g old mid → IsTrue (state g mid).in_transaction
  inside_to mid (inl same) = subst (λ (h : Held S). IsTrue h.in_transaction) same way.inside
  inside_to mid (inr on) = on.inside way.inside

  open_to : (mid : Held S) → RunsTo g old mid → IsTrue (state g mid).is_open
  open_to mid (inl same) = subst (λ (h : Held S). IsTrue (state g h).is_open) same way.is_open
  open_to mid (inr on) = on.is_open

  -- the transaction is under way after calls that succeeded
  pub way_to : {after : Machine} {kept : Scratch} (mid : Held S) → RunsTo g old mid → StandsWith after kept (state g mid).now → LeavesNoMore (state g old) (state g mid) → IsUnderWayWith before after kept (state g mid)
  way_to mid runs stands fewer = record {
    is_open = open_to mid runs;
    inside = inside_to mid runs;
    stands = stands;
    began = subst (IsOffice before) (sym (committed_to mid runs)) way.began;
    alone = λ db may. way.alone db (fewer db may) ∙ ap (λ (d : Database). d.trees) (sym (committed_to mid runs));
  }

  back_after : (mid new : Held S) → RunsTo g old mid → IsRolledBack (state g mid) (state g new) → LeavesNoMore (state g old) (state g new) → IsBackAt before (state g new)
  back_after mid new runs undone fewer = record {
    idle = undone.autocommit;
    left = λ db may. subst (StandsForTrees before) (sym (way.alone db (fewer db may))) (office_trees (state g old).committed way.began);
    settled = λ is_open.
        let u = undone.undone is_open in
        record {
          is_open = is_open;
          idle = undone.autocommit;
          committed = u.0 ∙ sym u.1;
          holds = subst (IsOffice before) (sym (u.0 ∙ committed_to mid runs)) way.began;
          alone = λ db may. way.alone db (fewer db may) ∙ ap (λ (d : Database). d.trees) (sym (u.0 ∙ committed_to mid runs));
        };
  }

  unchanged_after : {after : Machine} {kept : Scratch} (mid new : Held S) → RunsTo g old mid → StandsWith after kept (state g mid).now → IsUnchanged (state g mid) (state g new) → LeavesNoMore (state g old) (state g new)
      → IsUnderWayWith before after kept (state g new)
  unchanged_after {after = after} {kept = kept} mid new runs stands same fewer = record {
    is_open = same.0.is_open;
    inside = subst IsTrue (sym same.0.mode) (inside_to mid runs);
    stands = subst (StandsWith after kept) (sym same.0.now_is) stands;
    began = subst (IsOffice before) (sym (same.0.committed_is ∙ committed_to mid runs)) way.began;
    alone = λ db may. way.alone db (fewer db may) ∙ ap (λ (d : Database). d.trees) (sym (same.0.committed_is ∙ committed_to mid runs));
  }

  -- after a failure it is under way as it was, or taken back
  pub left_after : (mid new : Held S) → RunsTo g old mid → HoldsSome (state g mid).now → IsKeptOrUndone (state g mid) (state g new) → LeavesNoMore (state g old) (state g new) → IsLeftWithLists g before new
  left_after mid new runs some (inl same) fewer = inl (some.0.machine, (scratch_of some.0, unchanged_after mid new runs some.1 same fewer))
  left_after mid new runs some (inr undone) fewer = inr (back_after mid new runs undone fewer)

-- ---- what a crash leaves

module _ {S : Type 0} (g : Ghosts S) (old new : Held S) where
  survives_no_office : Survives (state g old) (state g new) (λ _. ¬ IsMerging false (state g old)) → Survives (state g old) (state g new) (λ _. IsNoOffice g old)
  survives_no_office survives = survives_weaker (state g old) (state g new) _ _ (λ clean db never machine stands. never (merging_at (state g old) stands)) survives

  pub fewer_of : {machine : Machine} → Survives (state g old) (state g new) (λ _. IsNoOffice g old) → HasCleanDisk (state g new) → StandsFor machine (state g old).now → LeavesNoMore (state g old) (state g new)
  fewer_of {machine = machine} survives clean stands db may = elim (survives.crash clean db may) [ inl was ↦ was | inr none ↦ absurd (none machine stands) ]

-- ---- what a merge of lists answers

-- the replies to a merge of lists and the records after it
done_of : {R : Type 0} (MayStand : R → ReaderState → Type 0) (Breaks : R → ControlFault → Type 0) {Holds : Records → Type 0} (sources : R) (parts : List (PartList R)) (machine : Machine) (replies : List PartReply)
    (made : IsMergeOfLists MayStand Breaks machine Holds sources parts machine.records replies) → AreListsDone MayStand Breaks sources parts machine replies made.merged.done.last
done_of MayStand Breaks sources parts machine replies made = record {
  text = made.text;
  begins = made.begins;
  bad = made.bad;
  read = made.read;
  merged = record {
    given = made.merged.given;
    are = made.merged.are;
    done = record { last = made.merged.done.last; done = made.merged.done.done; holds = refl };
  };
}

kind_of_end : (end : PartEnd) (refusal : Refusal) → IsPartEnd end → refusal_in end ≡ Some refusal → is_of_store refusal ≡ false
kind_of_end (end.Merged counts) refusal kind is = absurd cc
kind_of_end (end.Refused other) refusal kind is = let same : other ≡ refusal = cc in subst (λ r. is_of_store r ≡ false) same (kinds_of_store other kind)

refusal_kind : (replies : List PartReply) (refusal : Refusal) → AllByRecursion (λ (reply : PartReply). IsPartEnd reply.end) replies → refusal_by replies ≡ Some refusal → is_of_store refusal ≡ false
refusal_kind [] refusal kinds is = let same : UnknownArch ≡ refusal = cc in subst (λ r. is_of_store r ≡ false) same refl
refusal_kind (reply ∷ replies) refusal kinds is =
    (elim (list_any (λ (r : PartReply). is_merged r.end) (reply ∷ replies)) as (λ any. cond any None (refusal_in reply.end) ≡ Some refusal → is_of_store refusal ≡ false) [
      | true ↦ λ none. absurd cc
      | false ↦ λ first. kind_of_end reply.end refusal kinds.0 first
    ]) is

-- the counts that are set are those after the merge
pub set_as : {S A : Type 0} (g : Ghosts S) (counts after : Counts) (mid new : Held S) (r : Result A StoreFault) → after ≡ counted counts
    → Changes g (write.SetsCounts after.handed after.accepted) (λ _. ⊤) (λ machine. record machine { handed = after.handed; accepted = after.accepted }) mid new r
    → Changes g (write.SetsCounts counts.handed (counts.accepted + 1)) (λ _. ⊤) (λ machine. record machine { handed = counts.handed; accepted = counts.accepted + 1 }) mid new r
set_as g counts after mid new r is =
    subst (λ (a : Counts). Changes g (write.SetsCounts a.handed a.accepted) (λ _. ⊤) (λ machine. record machine { handed = a.handed; accepted = a.accepted }) mid new r) is

-- ---- each end of a merge in a transaction

module _ {S R : Type 0} (g : Ghosts S) (MayStand : R → ReaderState → Type 0) (Breaks : R → ControlFault → Type 0)
    (sources : R) (parts : List (PartList R)) (Noted : Records → Records → Type 0) (counts : Counts) (old mid : Held S)
    (is_saved : Bool)
  where
    abbrev Ready : Machine → Type 0
    Ready = AreListsToRead MayStand sources parts

    abbrev Done : Machine → List PartReply → Records → Type 0
    Done machine replies last =
        AreListsDone MayStand Breaks sources parts machine replies last × Noted machine.records last

    -- what the merge answers of lists that can be read
    abbrev pub Answers : List PartReply → Type 0
    Answers replies = HasCleanDisk (state g mid) → (machine : Machine) → StandsFor machine (state g old).now → Ready machine
        → IsMergeOfLists MayStand Breaks machine
        (λ records. HoldsTables is_saved (with_records records (tables_of machine)) (state g mid)
        × Noted machine.records records) sources parts machine.records replies

    module _ (runs : RunsOn g false old is_saved mid) where
      fewer : {machine : Machine} → HasCleanDisk (state g mid) → StandsFor machine (state g old).now → LeavesNoMore (state g old) (state g mid)
      fewer clean stands = fewer_of g old mid (survives_no_office g old mid runs.survives) clean stands

      reached : {machine : Machine} → HasCleanDisk (state g mid) → StandsFor machine (state g old).now → RunsTo g old mid
      reached clean stands = (runs.runs clean (merging_at (state g old) stands)).1

      left_running : HasCleanDisk (state g mid) → (before now : Machine) → IsUnderWay before now (state g old) → IsLeftWithLists g before mid
      left_running clean before now way =
          let at = runs.runs clean (merging_at (state g old) way.stands) in
          inl (at.0.0.now.machine, (scratch_of at.0.0.now, way_to g old way mid at.1 at.0.1.now (fewer clean way.stands)))

      -- memory ran out
      pub out_of_memory : {X : Type 0} → MergesLists {X = X} g Ready Done counts old mid (Err (Failed (fault_in merge_fault.Memory)))
      out_of_memory = record {
        ok = λ clean machine stands ready. tt;
        room = tt;
        refused = λ clean machine stands ready. tt;
        kind = tt;
        cause = λ clean inside machine stands. inl refl;
        left = left_running;
        survives = survives_no_office g old mid runs.survives;
      }

      module _ (replies : List PartReply) (answers : Answers replies) where
        done : (clean : HasCleanDisk (state g mid)) (machine : Machine) (stands : StandsFor machine (state g old).now) (ready : Ready machine)
            → Done machine replies (answers clean machine stands ready).merged.done.last
        done clean machine stands ready = (
          done_of MayStand Breaks sources parts machine replies (answers clean machine stands ready),
          (answers clean machine stands ready).merged.done.holds.1,
        )

        -- no part was merged
        pub no_part : {X : Type 0} (refusal : Refusal) → AllByRecursion (λ (reply : PartReply). IsPartEnd reply.end) replies → refusal_by replies ≡ Some refusal
            → MergesLists {X = X} g Ready Done counts old mid (Err (Refused refusal))
        no_part refusal kinds is = record {
          ok = λ clean machine stands ready. tt;
          room = tt;
          refused = λ clean machine stands ready. record {
            replies = replies;
            last = (answers clean machine stands ready).merged.done.last;
            done = done clean machine stands ready;
            why = inl is;
          };
          kind = refusal_kind replies refusal kinds is;
          cause = λ clean inside machine stands. tt;
          left = left_running;
          survives = survives_no_office g old mid runs.survives;
        }

        spent_kind : (stop : Stop) → IfRefused (λ refusal. (refusal ≡ Spent) × (nat_le count_limit counts.accepted ≡ true)) stop → IfRefused (λ refusal. is_of_store refusal ≡ false) stop
        spent_kind (Refused refusal) spent = ap is_of_store spent.0
        spent_kind (Failed fault) spent = tt

        -- the merge cannot be counted
        pub not_counted : {X : Type 0} (stop : Stop) → refusal_by replies ≡ None → IfRefused (λ refusal. (refusal ≡ Spent) × (nat_le count_limit counts.accepted ≡ true)) stop
            → IfFailed (IsUnfit Office (counts.handed ≤ count_limit)) stop → MergesLists {X = X} g Ready Done counts old mid (Err stop)
        not_counted stop good spent unfit = record {
          ok = λ clean machine stands ready. tt;
          room = tt;
          refused = λ clean machine stands ready. refused_so stop spent clean machine stands ready;
          kind = spent_kind stop spent;
          cause = λ clean inside machine stands. failed_so stop unfit;
          left = left_running;
          survives = survives_no_office g old mid runs.survives;
        }
          where
            refused_so : (stop : Stop) → IfRefused (λ refusal. (refusal ≡ Spent) × (nat_le count_limit counts.accepted ≡ true)) stop
                → HasCleanDisk (state g mid) → (machine : Machine) → StandsFor machine (state g old).now → Ready machine → IfRefused (IsRefusedMerge Done counts machine) stop
            refused_so (Refused refusal) spent clean machine stands ready = record {
              replies = replies;
              last = (answers clean machine stands ready).merged.done.last;
              done = done clean machine stands ready;
              why = inr (good, spent.0, spent.1);
            }
            refused_so (Failed fault) spent clean machine stands ready = tt

            failed_so : (stop : Stop) → IfFailed (IsUnfit Office (counts.handed ≤ count_limit)) stop → IfFailed (FailsToMerge g counts old mid) stop
            failed_so (Refused refusal) unfit = tt
            failed_so (Failed fault) unfit = inr (inr (inl unfit))

        -- the counts are written, or this fails
        module _ (new : Held S) where
          abbrev pub Counts_set : {A : Type 0} → Result A StoreFault → Type 0
          Counts_set r = Changes g (write.SetsCounts counts.handed (counts.accepted + 1)) (λ _. ⊤)
              (λ machine. record machine { handed = counts.handed; accepted = counts.accepted + 1 }) mid new r

          module _ {A : Type 0} (r : Result A StoreFault) (set : Counts_set r) where
            clean_mid : HasCleanDisk (state g new) → HasCleanDisk (state g mid)
            clean_mid clean = was_clean (state g mid) (state g new) set.survives clean

            survives_all : Survives (state g old) (state g new) (λ _. IsNoOffice g old)
            survives_all = survives_then (state g old) (state g mid) (state g new) _ _ _ (λ clean db none. none)
                (λ clean db lacks machine stands. lacks (runs.runs (clean_mid clean) (merging_at (state g old) stands)).0.1.now.has) (survives_no_office g old mid runs.survives) set.survives

          stands_mid : (clean : HasCleanDisk (state g mid)) (machine : Machine) (stands : StandsFor machine (state g old).now) (ready : Ready machine)
              → StandsFor (record machine { records = (answers clean machine stands ready).merged.done.last }) (state g mid).now
          stands_mid clean machine stands ready = (answers clean machine stands ready).merged.done.holds.0.now

          pub merged : {A X : Type 0} {x : A} (made : Vec PartReply X) → made.items ≡ replies → refusal_by replies ≡ None → nat_le count_limit counts.accepted ≡ false → Counts_set (Ok x)
              → MergesLists {X = X} g Ready Done counts old new (Ok made)
          merged {x = x} made same good room set = record {
            ok = λ clean machine stands ready.
                let before = clean_mid (Ok x) set clean in
                let here = set.ok clean (record machine { records = (answers before machine stands ready).merged.done.last }) (stands_mid before machine stands ready) tt in
                subst (λ items. IsMergedIn g Done counts machine items old new) (sym same) (record {
                  last = (answers before machine stands ready).merged.done.last;
                  accepted = record { done = done before machine stands ready; good = good; room = room };
                  runs = runs_to_then g old mid new (reached before stands) (inr (goes_on_becoming (state g mid) (state g new) here));
                  stands = here.stands;
                });
            room = room;
            refused = λ clean machine stands ready. tt;
            kind = tt;
            cause = λ clean inside machine stands. tt;
            left = λ clean before now way. tt;
            survives = survives_all (Ok x) set;
          }

          pub counts_not_set : {A X : Type 0} (fault : StoreFault) → Counts_set {A = A} (Err fault) → MergesLists {X = X} g Ready Done counts old new (Err (Failed fault))
          counts_not_set {A = A} fault set = record {
            ok = λ clean machine stands ready. tt;
            room = tt;
            refused = λ clean machine stands ready. tt;
            kind = tt;
            cause = λ clean inside machine stands.
                let before = clean_mid (Err fault) set clean in
                let at = reached before stands in
                inr (inr (inr (mid, (at, set.err clean (still_inside at inside)))));
            left = λ clean before now way.
                let earlier = clean_mid (Err fault) set clean in
                let at = runs.runs earlier (merging_at (state g old) way.stands) in
                let failed = set.err clean (still_inside at.1 way.inside) in
                left_after g old way mid new at.1 (at.0.0.now, at.0.1.now) failed.left (fewer_of g old new (survives_all (Err fault) set) clean way.stands);
            survives = survives_all (Err fault) set;
          }
            where
              still_inside : RunsTo g old mid → IsTrue old.in_transaction → IsTrue mid.in_transaction
              still_inside (inl same) inside = subst (λ (h : Held S). IsTrue h.in_transaction) same inside
              still_inside (inr on) inside = on.inside inside

    -- a call failed
    pub call_failed : {X : Type 0} (fault : StoreFault) → FailsIn g false old mid fault → MergesLists {X = X} g Ready Done counts old mid (Err (Failed fault))
    call_failed fault fails = record {
      ok = λ clean machine stands ready. tt;
      room = tt;
      refused = λ clean machine stands ready. tt;
      kind = tt;
      cause = λ clean inside machine stands. inr (inl (fails.cause clean (merging_at (state g old) stands) inside));
      left = λ clean before now way.
          let at = fails.cause clean (merging_at (state g old) way.stands) way.inside in
          left_after g old way at.0 mid at.1.0 at.1.1.0 (kept_or_undone (state g at.0) (state g mid) fault at.1.1.1) (fewer_of g old mid (survives_no_office g old mid fails.survives) clean way.stands);
      survives = survives_no_office g old mid fails.survives;
    }

    -- the merge stopped
    pub merge_stopped : {T X : Type 0} (Follows : T → T → Type 0) (Fails : T → T → StoreFault → Type 0) (w v : T) (fault : MergeFault StoreFault) → StopsAs Follows Fails w v fault
        → (Follows w v → RunsOn g false old is_saved mid) → ((f : StoreFault) → Fails w v f → FailsIn g false old mid f) → MergesLists {X = X} g Ready Done counts old mid (Err (Failed (fault_in fault)))
    merge_stopped Follows Fails w v merge_fault.Memory h runs fails = out_of_memory (runs h)
    merge_stopped Follows Fails w v (merge_fault.Tables f) h runs fails = call_failed f (fails f h)
