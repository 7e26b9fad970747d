-- The clauses of the trait, which follow from those that the calls have of their own.
use Rattle.std.proofs.Common.{OnOk, subst, ap, map, ◌∙◌}
use Rattle.std.proofs.lemmas.Result.{IfOk-weaker}
use Rattle.sqlite.specs.Held.{state}
use Rattle.wb_archive.specs.Tables.{with_binaries, with_sources}
use Rattle.wb_states.specs.declared.scratch.BinaryRow.{BinaryRow}
use Rattle.wb_states.specs.declared.scratch.SourceRow.{SourceRow}
use Rattle.wb_store.specs.MergeRuns.{HoldsTables}
use Rattle.wb_store.proofs.MergeAskLemmas.{added_last, names_listed, new_last, turned_rows, versions_named}
use Rattle.wb_store.proofs.MergeRunLemmas.{added_fails, added_holds, added_runs, backs_fails, backs_holds, backs_runs}
use Rattle.wb_store.proofs.MergeRunLemmas.{cleared_fails, cleared_holds, cleared_runs, fault_with_same, listed_fails}
use Rattle.wb_store.proofs.MergeRunLemmas.{listed_holds, listed_runs, listed_value, releases_fails, releases_holds}
use Rattle.wb_store.proofs.MergeRunLemmas.{releases_runs, saves_fails, saves_holds, saves_runs, with_same}
use Rattle.wb_store.proofs.merge_tables.WritingMergeTables.TheImpl.Goals as goal

-- ---- look-ups

pub listed_names-tells : goal.listed_names-tells
listed_names-tells g i c = record {
  value =
      λ tables clean holds. IfOk-weaker c.result _ _
      (λ names listed. names_listed tables.now.sources names.items listed)
      (listed_value g.S.Store c.args.self.now.is_saved c.args.self.now.store.now c.new.self.now.store.now c.result
      c.ensures.looks_up clean tables holds);
  same = λ tables clean holds. rw c.ensures.same_merge.0 (listed_holds g.S.Store c.args.self.now.is_saved
      c.args.self.now.store.now c.new.self.now.store.now c.result c.ensures.looks_up clean tables holds);
  follows = rw c.ensures.same_merge.0 (with_same _ c.result c.ensures.same_reference (listed_runs g.S.Store
      c.args.self.now.is_saved c.args.self.now.store.now c.new.self.now.store.now c.result c.ensures.looks_up));
  fails = fault_with_same _ c.result c.ensures.same_reference (listed_fails g.S.Store c.args.self.now.is_saved
      c.args.self.now.store.now c.new.self.now.store.now c.result c.ensures.looks_up);
}

pub sources_named-tells : goal.sources_named-tells
sources_named-tells g i c = record {
  value = λ tables clean holds. IfOk-weaker c.result _ _ (λ rows are. are
      ∙ turned_rows (λ row. row.name) c.args.name.now tables.now.sources)
      (listed_value g.S.Store c.args.self.now.is_saved c.args.self.now.store.now c.new.self.now.store.now c.result
      c.ensures.looks_up clean tables holds);
  same = λ tables clean holds. rw c.ensures.same_merge.0 (listed_holds g.S.Store c.args.self.now.is_saved
      c.args.self.now.store.now c.new.self.now.store.now c.result c.ensures.looks_up clean tables holds);
  follows = rw c.ensures.same_merge.0 (with_same _ c.result c.ensures.same_reference (listed_runs g.S.Store
      c.args.self.now.is_saved c.args.self.now.store.now c.new.self.now.store.now c.result c.ensures.looks_up));
  fails = fault_with_same _ c.result c.ensures.same_reference (listed_fails g.S.Store c.args.self.now.is_saved
      c.args.self.now.store.now c.new.self.now.store.now c.result c.ensures.looks_up);
}

pub binaries_of-tells : goal.binaries_of-tells
binaries_of-tells g i c = record {
  value = λ tables clean holds. IfOk-weaker c.result _ _ (λ rows are. are
      ∙ turned_rows (λ row. row.source) c.args.source.now tables.now.binaries)
      (listed_value g.S.Store c.args.self.now.is_saved c.args.self.now.store.now c.new.self.now.store.now c.result
      c.ensures.looks_up clean tables holds);
  same = λ tables clean holds. rw c.ensures.same_merge.0 (listed_holds g.S.Store c.args.self.now.is_saved
      c.args.self.now.store.now c.new.self.now.store.now c.result c.ensures.looks_up clean tables holds);
  follows = rw c.ensures.same_merge.0 (with_same _ c.result c.ensures.same_reference (listed_runs g.S.Store
      c.args.self.now.is_saved c.args.self.now.store.now c.new.self.now.store.now c.result c.ensures.looks_up));
  fails = fault_with_same _ c.result c.ensures.same_reference (listed_fails g.S.Store c.args.self.now.is_saved
      c.args.self.now.store.now c.new.self.now.store.now c.result c.ensures.looks_up);
}

pub versions_named-tells : goal.versions_named-tells
versions_named-tells g i c = record {
  value = λ tables clean holds. IfOk-weaker c.result _ _ (λ rows are. are
      ∙ versions_named c.args.name.now tables.now.binaries)
      (listed_value g.S.Store c.args.self.now.is_saved c.args.self.now.store.now c.new.self.now.store.now c.result
      c.ensures.looks_up clean tables holds);
  same = λ tables clean holds. rw c.ensures.same_merge.0 (listed_holds g.S.Store c.args.self.now.is_saved
      c.args.self.now.store.now c.new.self.now.store.now c.result c.ensures.looks_up clean tables holds);
  follows = rw c.ensures.same_merge.0 (with_same _ c.result c.ensures.same_reference (listed_runs g.S.Store
      c.args.self.now.is_saved c.args.self.now.store.now c.new.self.now.store.now c.result c.ensures.looks_up));
  fails = fault_with_same _ c.result c.ensures.same_reference (listed_fails g.S.Store c.args.self.now.is_saved
      c.args.self.now.store.now c.new.self.now.store.now c.result c.ensures.looks_up);
}

-- ---- rows that are added and taken out

pub add_source-tells : goal.add_source-tells
add_source-tells g i c = record {
  value = λ tables clean holds above. rw c.ensures.kept.2 (subst
      (λ rows. OnOk c.result (HoldsTables c.args.self.now.is_saved (with_sources rows tables)
      (state g.S.Store c.new.self.now.store.now)))
      (added_last (λ (row : SourceRow). row.seq) c.args.row.now tables.now.sources above)
      (added_holds g.S.Store c.args.self.now.is_saved c.args.self.now.store.now c.new.self.now.store.now c.result
      c.ensures.changes clean tables
      (new_last (λ (row : SourceRow). row.seq) c.args.row.now tables.now.sources above) holds));
  follows = rw c.ensures.kept.2 (with_same _ c.result c.ensures.same_reference (added_runs g.S.Store
      c.args.self.now.is_saved c.args.self.now.store.now c.new.self.now.store.now c.result c.ensures.changes));
  fails = fault_with_same _ c.result c.ensures.same_reference (added_fails g.S.Store c.args.self.now.is_saved
      c.args.self.now.store.now c.new.self.now.store.now c.result c.ensures.changes);
}

pub add_binary-tells : goal.add_binary-tells
add_binary-tells g i c = record {
  value = λ tables clean holds above. rw c.ensures.kept.2 (subst
      (λ rows. OnOk c.result (HoldsTables c.args.self.now.is_saved (with_binaries rows tables)
      (state g.S.Store c.new.self.now.store.now)))
      (added_last (λ (row : BinaryRow). row.seq) c.args.row.now tables.now.binaries above)
      (added_holds g.S.Store c.args.self.now.is_saved c.args.self.now.store.now c.new.self.now.store.now c.result
      c.ensures.changes clean tables
      (new_last (λ (row : BinaryRow). row.seq) c.args.row.now tables.now.binaries above) holds));
  follows = rw c.ensures.kept.2 (with_same _ c.result c.ensures.same_reference (added_runs g.S.Store
      c.args.self.now.is_saved c.args.self.now.store.now c.new.self.now.store.now c.result c.ensures.changes));
  fails = fault_with_same _ c.result c.ensures.same_reference (added_fails g.S.Store c.args.self.now.is_saved
      c.args.self.now.store.now c.new.self.now.store.now c.result c.ensures.changes);
}

pub clear_binaries-tells : goal.clear_binaries-tells
clear_binaries-tells g i c = record {
  value = λ tables clean holds. rw c.ensures.same_merge.0 (cleared_holds g.S.Store c.args.self.now.is_saved
      c.args.self.now.store.now c.new.self.now.store.now c.result c.ensures.clears clean tables holds);
  follows = rw c.ensures.same_merge.0 (with_same _ c.result c.ensures.same_reference (cleared_runs g.S.Store
      c.args.self.now.is_saved c.args.self.now.store.now c.new.self.now.store.now c.result c.ensures.clears));
  fails = fault_with_same _ c.result c.ensures.same_reference (cleared_fails g.S.Store c.args.self.now.is_saved
      c.args.self.now.store.now c.new.self.now.store.now c.result c.ensures.clears);
}

pub clear_scratch-tells : goal.clear_scratch-tells
clear_scratch-tells g i c = record {
  value = λ tables clean holds. rw c.ensures.same_merge.0 (cleared_holds g.S.Store c.args.self.now.is_saved
      c.args.self.now.store.now c.new.self.now.store.now c.result c.ensures.clears clean tables holds);
  follows = rw c.ensures.same_merge.0 (with_same _ c.result c.ensures.same_reference (cleared_runs g.S.Store
      c.args.self.now.is_saved c.args.self.now.store.now c.new.self.now.store.now c.result c.ensures.clears));
  fails = fault_with_same _ c.result c.ensures.same_reference (cleared_fails g.S.Store c.args.self.now.is_saved
      c.args.self.now.store.now c.new.self.now.store.now c.result c.ensures.clears);
}

-- ---- the savepoint

pub save-tells : goal.save-tells
save-tells g i c = record {
  value = saves_holds g.S.Store c.args.self.now.store.now c.new.self.now.store.now c.args.self.now.is_saved
      c.new.self.now.is_saved c.result c.ensures.kept.0 c.ensures.calls;
  follows = with_same _ c.result c.ensures.same_reference (saves_runs g.S.Store c.args.self.now.store.now
      c.new.self.now.store.now c.args.self.now.is_saved c.new.self.now.is_saved c.result c.ensures.kept.0
      c.ensures.calls c.ensures.stays);
  fails = fault_with_same _ c.result c.ensures.same_reference (saves_fails g.S.Store c.args.self.now.store.now
      c.new.self.now.store.now c.args.self.now.is_saved c.result c.ensures.calls c.ensures.stays);
}

pub back_to-tells : goal.back_to-tells
back_to-tells g i c = record {
  value = rw c.ensures.same_merge.0 (backs_holds g.S.Store c.args.self.now.store.now c.new.self.now.store.now
      c.args.self.now.is_saved c.result c.ensures.calls);
  follows = rw c.ensures.same_merge.0 (with_same _ c.result c.ensures.same_reference (backs_runs g.S.Store
      c.args.self.now.store.now c.new.self.now.store.now c.args.self.now.is_saved c.result c.ensures.calls
      c.ensures.stays));
  fails = fault_with_same _ c.result c.ensures.same_reference (backs_fails g.S.Store c.args.self.now.store.now
      c.new.self.now.store.now c.args.self.now.is_saved c.result c.ensures.calls c.ensures.stays);
}

pub release-tells : goal.release-tells
release-tells g i c = record {
  value = releases_holds g.S.Store c.args.self.now.store.now c.new.self.now.store.now c.args.self.now.is_saved
      c.new.self.now.is_saved c.result c.ensures.kept.0 c.ensures.calls;
  follows = with_same _ c.result c.ensures.same_reference (releases_runs g.S.Store c.args.self.now.store.now
      c.new.self.now.store.now c.args.self.now.is_saved c.new.self.now.is_saved c.result c.ensures.kept.0
      c.ensures.calls c.ensures.stays);
  fails = fault_with_same _ c.result c.ensures.same_reference (releases_fails g.S.Store c.args.self.now.store.now
      c.new.self.now.store.now c.args.self.now.is_saved c.result c.ensures.calls c.ensures.stays);
}
