use Rattle.std.proofs.Common.{◌∙◌, Ok, Err, ap, sym, subst}
use Rattle.deb_control.specs.Feed.{MayStandAt}
use Rattle.wb_states.specs.declared.reply.Reply.{Reply}
use Rattle.wb_archive.specs.Feeds.{IsFeedBreak}
use Rattle.wb_store.proofs.ReadLemmas.{handed_on}
use Rattle.wb_store.specs.Opening.{AreCountsOf}
use Rattle.wb_office.specs.declared.answer.Answered.{Answered}
use Rattle.wb_office.specs.ListAnswers.{NotesLists, RespondsLists}
use Rattle.wb_office.specs.MergeLists.{AreListsDone, AreListsNoted, AreListsToRead}
use Rattle.wb_office.proofs.ListAnswerLemmas.{idle_by, inside_by, lists_kept, lists_not_begun, lists_not_idle}
use Rattle.wb_office.proofs.ListAnswerLemmas.{lists_not_kept, lists_noted, lists_unread}
use Rattle.wb_office.proofs.MergeAnswerLemmas.{carries_as}
use Rattle.wb_office.proofs.lists.answer_lists.Goals as goal

pub returns-in-Err-clause-responds : goal.returns-in-Err-clause-responds
returns-in-Err-clause-responds g c =
    lists_unread g.S.Store g.R.Read.remaining c.args.sources c.args.lists.items c.args.known.now c.find_archs.new.known c.args.store.now c.find_archs.new.store
    c.in-Err.ensures.finds c.in-Err.ensures.err

pub returns-then-not-is_idle-clause-responds : goal.returns-then-not-is_idle-clause-responds
returns-then-not-is_idle-clause-responds g c =
    lists_not_idle g.S.Store g.R.Read.remaining c.args.sources c.args.lists.items c.args.known.now c.find_archs.new.known c.args.store.now c.find_archs.new.store
    c.in-Ok.ensures.finds (λ machine own was. (own was).1)
    (inside_by c.is_idle.result c.find_archs.new.store.in_transaction c.is_idle.ensures.value c.if-not-is_idle.true)

pub returns-in_default-clause-responds : goal.returns-in_default-clause-responds
returns-in_default-clause-responds g c =
    lists_not_begun g.S.Store g.R.Read.remaining c.args.sources c.args.lists.items c.args.known.now c.find_archs.new.known c.args.store.now c.find_archs.new.store
    c.in-Ok.ensures.finds (λ machine own was. (own was).1)

pub carry_lists-requires : goal.carry_lists-requires
carry_lists-requires g c = record {
  idle = idle_by c.is_idle.result c.find_archs.new.store.in_transaction c.is_idle.ensures.value c.if-not-is_idle.false;
}

pub returns-in_err-replies-clause-responds : goal.returns-in_err-replies-clause-responds
returns-in_err-replies-clause-responds g c =
    subst (RespondsLists g.S.Store g.R.Read.remaining c.args.sources c.args.lists.items c.args.known.now c.args.store.now c.find_archs.new.known c.carry_lists.new.store)
    (sym (handed_on c.from_residual.result c.from_residual.ensures.1))
    (lists_not_kept g.S.Store g.R.Read.remaining c.args.sources c.args.lists.items c.args.known.now c.find_archs.new.known c.args.store.now c.find_archs.new.store
    c.in-Ok.ensures.finds (λ machine own was. (own was).1) c.requires.names c.of-sources.result c.of-sources.ensures c.in-Ok-feed_lists.feeds.items
    (λ machine own was. c.in-Ok-feed_lists.ensures.value machine (c.deref.ensures.value ∙ (own was).0))
    c.carry_lists.new.store c.in_err-replies.field-0.0
    (carries_as g.S.Store (AreListsToRead MayStandAt c.of-sources.result c.in-Ok-feed_lists.feeds.items)
    (AreListsNoted MayStandAt IsFeedBreak c.of-sources.result c.in-Ok-feed_lists.feeds.items c.args.notes.now c.carry_lists.new.notes)
    (AreListsDone MayStandAt IsFeedBreak c.of-sources.result c.in-Ok-feed_lists.feeds.items) c.find_archs.new.known.counts
    c.find_archs.new.store c.carry_lists.new.store (Err c.in_err-replies.field-0.0) (λ machine replies last done. done.0) c.in_err-replies.ensures.carries))

pub returns-clause-responds : goal.returns-clause-responds
returns-clause-responds g c =
    subst (λ reply. RespondsLists g.S.Store g.R.Read.remaining c.args.sources c.args.lists.items c.args.known.now c.args.store.now
    c.learn_merged.new.known c.carry_lists.new.store (Ok reply)) (sym (ap (λ
    (answer : Answered). answer.reply) c.merged-reply.ensures.value))
    (lists_kept g.S.Store g.R.Read.remaining c.args.sources c.args.lists.items c.args.known.now c.find_archs.new.known c.args.store.now c.find_archs.new.store
    c.in-Ok.ensures.finds (λ machine own was. (own was).1) c.requires.names c.of-sources.result c.of-sources.ensures c.in-Ok-feed_lists.feeds.items
    (λ machine own was. c.in-Ok-feed_lists.ensures.value machine (c.deref.ensures.value ∙ (own was).0))
    c.carry_lists.new.store c.in_ok-replies.replies c.learn_merged.new.known
    (carries_as g.S.Store (AreListsToRead MayStandAt c.of-sources.result c.in-Ok-feed_lists.feeds.items)
    (AreListsNoted MayStandAt IsFeedBreak c.of-sources.result c.in-Ok-feed_lists.feeds.items c.args.notes.now c.carry_lists.new.notes)
    (AreListsDone MayStandAt IsFeedBreak c.of-sources.result c.in-Ok-feed_lists.feeds.items) c.find_archs.new.known.counts
    c.find_archs.new.store c.carry_lists.new.store (Ok c.in_ok-replies.replies) (λ machine replies last done. done.0) c.in_ok-replies.ensures.carries)
    (λ machine after knows same counted. c.learn_merged.ensures.knows machine after knows same
    (subst (AreCountsOf after) (sym (ap (λ
    (answer : Answered). answer.counts) c.merged-reply.ensures.value)) counted)))

pub returns-clause-noted : goal.returns-clause-noted
returns-clause-noted g c =
    λ clean machine consistent settled was. subst (λ (reply : Reply).
    NotesLists g.S.Store g.R.Read.remaining c.args.sources c.args.lists.items machine c.learn_merged.new.known
    c.args.notes.now c.carry_lists.new.notes c.carry_lists.new.store reply)
    (sym (ap (λ (answer : Answered). answer.reply) c.merged-reply.ensures.value))
    (lists_noted g.S.Store g.R.Read.remaining c.args.sources c.args.lists.items c.args.known.now c.find_archs.new.known c.args.store.now c.find_archs.new.store
    c.in-Ok.ensures.finds (λ machine own was. (own was).1) c.requires.names c.of-sources.result c.of-sources.ensures c.in-Ok-feed_lists.feeds.items
    (λ machine own was. c.in-Ok-feed_lists.ensures.value machine (c.deref.ensures.value ∙ (own was).0))
    c.carry_lists.new.store c.args.notes.now c.carry_lists.new.notes c.in_ok-replies.replies c.learn_merged.new.known
    c.in_ok-replies.ensures.carries
    (λ machine after knows same counted. c.learn_merged.ensures.knows machine after knows same
    (subst (AreCountsOf after) (sym (ap (λ (answer : Answered). answer.counts) c.merged-reply.ensures.value)) counted))
    clean machine consistent settled was)
