use Rattle.std.proofs.Common.{sym, subst}
use Rattle.wb_office.specs.Applies.{Ends}
use Rattle.wb_office.proofs.ApplyLemmas.{ends_unread}
use Rattle.wb_office.proofs.office.end.Goals as goal

pub returns-in-Unread : goal.returns-in-Unread
returns-in-Unread g c = record {
  ends = subst (λ f. Ends g.S.Store f c.args.store.now c.end_with.new.store c.end_with.result.0 c.end_with.result.1) (sym c.in-Unread.is)
      (ends_unread g.S.Store c.args.store.now c.end_with.new.store c.end_with.result.0 c.end_with.result.1 c.in-Unread.fault c.end_with.ensures.ends);
}
