use Rattle.std.proofs.Common.{◌∙◌, Ok, Err, sym, ap, subst}
use Rattle.std.specs.List.{AllZip}
use Rattle.deb_control.specs.Lines.{lines_of, paragraphs_in}
use Rattle.deb_control.specs.Paragraphs.{begun}
use Rattle.wb_states.specs.declared.command.Command.TheVariants as of
use Rattle.wb_archive.specs.Merges.{BeginsAt, IsPartOf}
use Rattle.wb_store.proofs.ReadLemmas.{handed_on}
use Rattle.wb_office.specs.Answers.{Answers, AreOf}
use Rattle.wb_office.specs.MergeLists.{AreListsDone, AreListsNoted, AreListsToRead}
use Rattle.wb_office.specs.PartLists.{Stands}
use Rattle.wb_office.proofs.MergeAnswerLemmas.{NeverBreaks, carries_as, merge_kept, merge_not_begun, merge_not_kept}
use Rattle.wb_office.proofs.MergeAnswerLemmas.{merge_noted}
use Rattle.wb_office.proofs.merging.answer_merge.Goals as goal

pub returns-in_default-clause-answers : goal.returns-in_default-clause-answers
returns-in_default-clause-answers g c =
    merge_not_begun g.S.Store c.args.counts c.args.archs.now c.args.merge.now c.requires.texts c.args.store.now

pub returns-in_err-replies-clause-answers : goal.returns-in_err-replies-clause-answers
returns-in_err-replies-clause-answers g c =
    subst (Answers g.S.Store (AreOf c.args.counts c.args.archs.now) (of.Merge c.args.merge.now) c.args.store.now c.carry_lists.new.store)
    (sym (handed_on c.from_residual.result c.from_residual.ensures.1))
    (merge_not_kept g.S.Store c.args.counts c.args.archs.now c.args.merge.now c.requires.texts c.of-sources.result c.in-Ok.parts.items
    (c.of-sources.ensures ∙ ap (λ text. begun (paragraphs_in (lines_of text))) c.as_slice-2.ensures)
    (λ machine own. subst (AllZip (IsPartOf (BeginsAt Stands) machine) c.in-Ok.parts.items) c.as_slice.ensures (c.in-Ok.ensures.value machine own))
    c.args.store.now c.carry_lists.new.store c.in_err-replies.field-0.0
    (carries_as g.S.Store (AreListsToRead Stands c.of-sources.result c.in-Ok.parts.items)
    (AreListsNoted Stands NeverBreaks c.of-sources.result c.in-Ok.parts.items c.args.notes.now c.carry_lists.new.notes)
    (AreListsDone Stands NeverBreaks c.of-sources.result c.in-Ok.parts.items) c.args.counts c.args.store.now
    c.carry_lists.new.store (Err c.in_err-replies.field-0.0) (λ machine replies last done. done.0) c.in_err-replies.ensures.carries))

pub returns-clause-answers : goal.returns-clause-answers
returns-clause-answers g c =
    subst (λ answer. Answers g.S.Store (AreOf c.args.counts c.args.archs.now) (of.Merge c.args.merge.now) c.args.store.now c.carry_lists.new.store (Ok answer))
    (sym c.merged.ensures.value)
    (merge_kept g.S.Store c.args.counts c.args.archs.now c.args.merge.now c.requires.texts c.of-sources.result c.in-Ok.parts.items
    (c.of-sources.ensures ∙ ap (λ text. begun (paragraphs_in (lines_of text))) c.as_slice-2.ensures)
    (λ machine own. subst (AllZip (IsPartOf (BeginsAt Stands) machine) c.in-Ok.parts.items) c.as_slice.ensures (c.in-Ok.ensures.value machine own))
    c.args.store.now c.carry_lists.new.store c.in_ok-replies.replies
    (carries_as g.S.Store (AreListsToRead Stands c.of-sources.result c.in-Ok.parts.items)
    (AreListsNoted Stands NeverBreaks c.of-sources.result c.in-Ok.parts.items c.args.notes.now c.carry_lists.new.notes)
    (AreListsDone Stands NeverBreaks c.of-sources.result c.in-Ok.parts.items) c.args.counts c.args.store.now
    c.carry_lists.new.store (Ok c.in_ok-replies.replies) (λ machine replies last done. done.0) c.in_ok-replies.ensures.carries))

pub returns-clause-noted : goal.returns-clause-noted
returns-clause-noted g c =
    λ clean machine consistent settled given.
    merge_noted g.S.Store c.args.counts c.args.archs.now c.args.merge.now c.requires.texts c.of-sources.result c.in-Ok.parts.items
    (c.of-sources.ensures ∙ ap (λ text. begun (paragraphs_in (lines_of text))) c.as_slice-2.ensures)
    (λ machine own. subst (AllZip (IsPartOf (BeginsAt Stands) machine) c.in-Ok.parts.items) c.as_slice.ensures (c.in-Ok.ensures.value machine own))
    c.args.store.now c.carry_lists.new.store c.args.notes.now c.carry_lists.new.notes c.in_ok-replies.replies
    c.in_ok-replies.ensures.carries clean machine settled given
