use Rattle.std.proofs.Common.{◌≡◌, refl, sym, subst}
use Rattle.sqlite_trees.specs.declared.store.Store.{Ghosts}
use Rattle.sqlite.specs.Held.{state}
use Rattle.wb_merge.specs.Changes.{NotesChanges}
use Rattle.wb_store.specs.declared.writing.Writing.{Writing}
use Rattle.wb_states.specs.declared.store_fault.StoreFault.{StoreFault}
use Rattle.wb_store.specs.MergeRuns.{FailsIn, HoldsTables, RunsOn}
use Rattle.wb_store.proofs.ReadLemmas.{handed_on}
use Rattle.wb_office.proofs.MergeInLemmas.{begins_with, counts_not_set, merge_stopped, merged, no_part, not_counted}
use Rattle.wb_office.proofs.MergeInLemmas.{set_as, tables_of}
use Rattle.wb_office.proofs.merge_lists.merge_in.Goals as goal

-- what the tables of a merge in a transaction say of calls
abbrev Follows : {S : Type 0} → Ghosts S → Writing S → Writing S → Type 0
Follows g a b = (b.store.ghost_name ≡ a.store.ghost_name) × RunsOn g a.is_saved a.store.now b.is_saved b.store.now

abbrev Fails : {S : Type 0} → Ghosts S → Writing S → Writing S → StoreFault → Type 0
Fails g a b fault = (b.store.ghost_name ≡ a.store.ghost_name) × FailsIn g a.is_saved a.store.now b.store.now fault

pub returns-in-Err-clause-merges : goal.returns-in-Err-clause-merges
returns-in-Err-clause-merges g c =
    rw c.fault_in.ensures.value (merge_stopped g.S.Store g.R.ReadParagraphs.may_stand_at g.R.ReadParagraphs.breaks c.args.sources.now c.args.parts.items
    (NotesChanges c.args.notes.now c.merge_lists.new.notes) c.args.counts c.args.writing.now.store.now c.merge_lists.new.tables.store.now c.merge_lists.new.tables.is_saved (Follows g.S.Store) (Fails g.S.Store) c.args.writing.now c.merge_lists.new.tables c.in-Err.fault c.in-Err.ensures.calls.stops
    (λ (follows : (c.merge_lists.new.tables.store.ghost_name ≡ c.args.writing.now.store.ghost_name) × RunsOn g.S.Store c.args.writing.now.is_saved c.args.writing.now.store.now c.merge_lists.new.tables.is_saved c.merge_lists.new.tables.store.now).
    subst (λ a. RunsOn g.S.Store a c.args.writing.now.store.now c.merge_lists.new.tables.is_saved c.merge_lists.new.tables.store.now) c.requires.unsaved follows.1)
    (λ fault (fails : (c.merge_lists.new.tables.store.ghost_name ≡ c.args.writing.now.store.ghost_name) × FailsIn g.S.Store c.args.writing.now.is_saved c.args.writing.now.store.now c.merge_lists.new.tables.store.now fault).
    subst (λ a. FailsIn g.S.Store a c.args.writing.now.store.now c.merge_lists.new.tables.store.now fault) c.requires.unsaved fails.1))

pub returns-in-Err-unless_refused-clause-merges : goal.returns-in-Err-unless_refused-clause-merges
returns-in-Err-unless_refused-clause-merges g c = no_part g.S.Store g.R.ReadParagraphs.may_stand_at g.R.ReadParagraphs.breaks c.args.sources.now c.args.parts.items
    (NotesChanges c.args.notes.now c.merge_lists.new.notes) c.args.counts c.args.writing.now.store.now c.merge_lists.new.tables.store.now c.merge_lists.new.tables.is_saved (subst (λ a. RunsOn g.S.Store a c.args.writing.now.store.now c.merge_lists.new.tables.is_saved c.merge_lists.new.tables.store.now) c.requires.unsaved c.in-Ok.ensures.calls.follows.1) c.in-Ok.replies.items
    (λ clean machine stands ready. c.in-Ok.ensures.value (tables_of machine) machine clean
    (subst (λ a. HoldsTables a (tables_of machine) (state g.S.Store c.args.writing.now.store.now)) (sym c.requires.unsaved) (begins_with (state g.S.Store c.args.writing.now.store.now) stands)) refl refl refl ready.unread ready.are_parts)
    c.in-Err-unless_refused.refusal c.in-Ok.ensures.kinds c.in-Err-unless_refused.ensures.refused

pub returns-in_err-after-clause-merges : goal.returns-in_err-after-clause-merges
returns-in_err-after-clause-merges g c = rw (handed_on c.from_residual.result c.from_residual.ensures.1) (not_counted g.S.Store g.R.ReadParagraphs.may_stand_at g.R.ReadParagraphs.breaks c.args.sources.now c.args.parts.items
    (NotesChanges c.args.notes.now c.merge_lists.new.notes) c.args.counts c.args.writing.now.store.now c.merge_lists.new.tables.store.now c.merge_lists.new.tables.is_saved (subst (λ a. RunsOn g.S.Store a c.args.writing.now.store.now c.merge_lists.new.tables.is_saved c.merge_lists.new.tables.store.now) c.requires.unsaved c.in-Ok.ensures.calls.follows.1) c.in-Ok.replies.items
    (λ clean machine stands ready. c.in-Ok.ensures.value (tables_of machine) machine clean
    (subst (λ a. HoldsTables a (tables_of machine) (state g.S.Store c.args.writing.now.store.now)) (sym c.requires.unsaved) (begins_with (state g.S.Store c.args.writing.now.store.now) stands)) refl refl refl ready.unread ready.are_parts)
    c.in_err-after.field-0.0 c.in-Ok-unless_refused.ensures.ok.1 c.in_err-after.ensures.refused c.in_err-after.ensures.failed)

pub returns-in-Ok-set_counts-clause-merges : goal.returns-in-Ok-set_counts-clause-merges
returns-in-Ok-set_counts-clause-merges g c = merged g.S.Store g.R.ReadParagraphs.may_stand_at g.R.ReadParagraphs.breaks c.args.sources.now c.args.parts.items
    (NotesChanges c.args.notes.now c.merge_lists.new.notes) c.args.counts c.args.writing.now.store.now c.merge_lists.new.tables.store.now c.merge_lists.new.tables.is_saved (subst (λ a. RunsOn g.S.Store a c.args.writing.now.store.now c.merge_lists.new.tables.is_saved c.merge_lists.new.tables.store.now) c.requires.unsaved c.in-Ok.ensures.calls.follows.1) c.in-Ok.replies.items
    (λ clean machine stands ready. c.in-Ok.ensures.value (tables_of machine) machine clean
    (subst (λ a. HoldsTables a (tables_of machine) (state g.S.Store c.args.writing.now.store.now)) (sym c.requires.unsaved) (begins_with (state g.S.Store c.args.writing.now.store.now) stands)) refl refl refl ready.unread ready.are_parts)
    c.set_counts.new.self.store.now c.in-Ok-unless_refused.replies c.in-Ok-unless_refused.ensures.ok.0 c.in-Ok-unless_refused.ensures.ok.1 c.in_ok-after.ensures.room
    (set_as g.S.Store c.args.counts c.in_ok-after.after c.merge_lists.new.tables.store.now c.set_counts.new.self.store.now _ c.in_ok-after.ensures.value c.in-Ok-set_counts.ensures.changes)

pub returns-in-Err-set_counts-clause-merges : goal.returns-in-Err-set_counts-clause-merges
returns-in-Err-set_counts-clause-merges g c = counts_not_set g.S.Store g.R.ReadParagraphs.may_stand_at g.R.ReadParagraphs.breaks c.args.sources.now c.args.parts.items
    (NotesChanges c.args.notes.now c.merge_lists.new.notes) c.args.counts c.args.writing.now.store.now c.merge_lists.new.tables.store.now c.merge_lists.new.tables.is_saved (subst (λ a. RunsOn g.S.Store a c.args.writing.now.store.now c.merge_lists.new.tables.is_saved c.merge_lists.new.tables.store.now) c.requires.unsaved c.in-Ok.ensures.calls.follows.1) c.in-Ok.replies.items
    (λ clean machine stands ready. c.in-Ok.ensures.value (tables_of machine) machine clean
    (subst (λ a. HoldsTables a (tables_of machine) (state g.S.Store c.args.writing.now.store.now)) (sym c.requires.unsaved) (begins_with (state g.S.Store c.args.writing.now.store.now) stands)) refl refl refl ready.unread ready.are_parts)
    c.set_counts.new.self.store.now c.in-Err-set_counts.fault
    (set_as g.S.Store c.args.counts c.in_ok-after.after c.merge_lists.new.tables.store.now c.set_counts.new.self.store.now _ c.in_ok-after.ensures.value c.in-Err-set_counts.ensures.changes)
