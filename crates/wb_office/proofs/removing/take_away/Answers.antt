use Rattle.std.proofs.Common.{◌≡◌, ◌∙◌, ◌+◌, refl, Ok, Err}
use Rattle.wb_states.specs.declared.command.Command.TheVariants as of
use Rattle.wb_states.specs.declared.counts.Counts.{Counts}
use Rattle.wb_states.specs.declared.reply.Reply.TheVariants.{Done}
use Rattle.wb_states.specs.Machine.{Machine}
use Rattle.wb_office.specs.Removing.{AreWithArch, IsToGo}
use Rattle.wb_office.proofs.AnswerLemmas.{answered_in, unread}
use Rattle.wb_office.proofs.BatchLemmas.{batch_done, batch_not_kept}
use Rattle.wb_office.proofs.RemovalLemmas.{removal_is, removal_reply}
use Rattle.wb_office.proofs.removing.take_away.Goals as goal

pub returns-in-Err : goal.returns-in-Err
returns-in-Err g c = record {
  answers = unread g.S.Store (of.RemoveArch c.args.removal.now) c.args.store.now c.find_parts.new.store
      c.find_parts.new.store c.in-Err.ensures.finds;
}

pub returns-in-Ok-keep_batch : goal.returns-in-Ok-keep_batch
returns-in-Ok-keep_batch g c =
    let removal = c.args.removal.now in
    let after : Counts = record { handed = c.args.counts.handed; accepted = c.args.counts.accepted + 1 } in
    record {
      answers = answered_in g.S.Store (of.RemoveArch removal) c.args.store.now c.find_parts.new.store
          c.keep_batch.new.store _ c.in-Ok.ensures.finds
          (λ machine given found. (given, (c.deref.ensures.value ∙ found.0, c.deref-2.ensures.value ∙ found.1)))
          (batch_done {Given = λ (machine : Machine). IsToGo c.args.counts removal machine
          × AreWithArch removal.name c.deref.result.now c.deref-2.result.now machine}
          after (of.RemoveArch removal) (Done (c.args.counts.accepted + 1)) c.find_parts.new.store
          c.keep_batch.new.store
          (λ machine given. removal_is c.args.counts after removal c.deref.result.now c.deref-2.result.now machine
          (refl, refl) given.0 given.1)
          (λ machine is. removal_reply is) tt (c.in-Ok-keep_batch.ensures.keeps (of.RemoveArch removal)));
    }

pub returns : goal.returns
returns g c =
    let removal = c.args.removal.now in
    let after : Counts = record { handed = c.args.counts.handed; accepted = c.args.counts.accepted + 1 } in
    record {
      answers = answered_in g.S.Store (of.RemoveArch removal) c.args.store.now c.find_parts.new.store
          c.keep_batch.new.store _ c.in-Ok.ensures.finds
          (λ machine given found. (given, (c.deref.ensures.value ∙ found.0, c.deref-2.ensures.value ∙ found.1)))
          (batch_not_kept {Given = λ (machine : Machine). IsToGo c.args.counts removal machine
          × AreWithArch removal.name c.deref.result.now c.deref-2.result.now machine}
          after (of.RemoveArch removal) c.find_parts.new.store c.keep_batch.new.store c.in-Err-keep_batch.failure
          (λ machine given. removal_is c.args.counts after removal c.deref.result.now c.deref-2.result.now machine
          (refl, refl) given.0 given.1)
          (c.in-Err-keep_batch.ensures.keeps (of.RemoveArch removal)));
    }
