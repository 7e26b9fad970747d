use Rattle.std.proofs.Common.{sym, subst, IsPermutation}
use Rattle.wb_store.proofs.CountLemmas.{looks_up_as, looks_up_failed}
use Rattle.wb_store.proofs.ReadLemmas.{handed_on}
use Rattle.wb_store.proofs.store.Store.counts.Goals as goal

pub returns-in_err-states : goal.returns-in_err-states
returns-in_err-states g c = record {
  looks_up = rw (← c.self.view_is) (looks_up_failed
      (handed_on c.from_residual.result c.from_residual.ensures.1) c.in_err-states.ensures.looks_up);
}

pub returns : goal.returns
returns g c = record {
  looks_up = rw (← c.self.view_is) (looks_up_as c.state_counts_in.result c.in_ok-states.ensures.looks_up
      (λ machine is. c.state_counts_in.ensures.value machine c.args.arch.now (subst (IsPermutation _)
      (sym c.deref.ensures.value) is)));
}
