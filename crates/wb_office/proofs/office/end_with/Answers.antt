use Rattle.std.proofs.Common.{not, sym, subst}
use Rattle.wb_states.specs.declared.refusal.Refusal.TheVariants.{Memory}
use Rattle.wb_office.specs.Applies.{EndsWith}
use Rattle.wb_office.proofs.ApplyLemmas.{ends_of_memory}
use Rattle.wb_office.proofs.office.end_with.Goals as goal

pub returns-in-Memory : goal.returns-in-Memory
returns-in-Memory g c = record {
  ends = subst (λ f. EndsWith g.S.Store f c.args.store.now c.is_usable.new.self Memory (not c.is_usable.result)) (sym c.in-Memory.is)
      (ends_of_memory g.S.Store c.args.store.now c.is_usable.new.self c.is_usable.result c.is_usable.ensures.open c.is_usable.ensures.unchanged c.is_usable.ensures.shut c.is_usable.ensures.survives);
}
