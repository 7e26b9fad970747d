use Rattle.std.proofs.Common.{◌∙◌, sym, subst}
use Rattle.wb_store.proofs.ReadLemmas.{handed_on}
use Rattle.wb_office.specs.RowWrites.{TakesOut}
use Rattle.wb_office.specs.Turns.{ChangesInTurn}
use Rattle.wb_office.proofs.TurnLemmas.{failed_alike}
use Rattle.wb_office.proofs.WrittenRowLemmas.{in_list, leave_all, leave_next, leaving}
use Rattle.wb_office.proofs.rows.remove_pairs.Goals as goal

pub returns-in_err-remove_pair-clause-changes : goal.returns-in_err-remove_pair-clause-changes
returns-in_err-remove_pair-clause-changes g c = λ names.
    subst (λ r. ChangesInTurn g.S.Store (TakesOut c.args.arch.now names c.args.pairs.now) (λ _. ⊥)
    (leaving c.args.arch.now c.args.pairs.now) c.args.writing.now.store.now c.remove_pair.new.writing.store.now r)
    (sym (handed_on c.from_residual.result c.from_residual.ensures.1))
    (c.loop-pair.invariant.rest names _ _ (failed_alike g.S.Store _
    (c.in_err-remove_pair.ensures.changes names c.args.pairs.now
    (in_list c.args.pairs.now c.loop-pair.pair-index c.pair-item.result c.loop-pair-test.true c.pair-item.is))))

pub loop-pair-preserved : goal.loop-pair-preserved
loop-pair-preserved g c = record {
  same_reference = c.remove_pair.ensures.same_reference ∙ c.loop-pair.invariant.same_reference;
  rest = λ names new r later. c.loop-pair.invariant.rest names new r
      (leave_next g.S.Store c.args.arch.now names c.args.pairs.now c.loop-pair.pair-index c.pair-item.result _
      c.loop-pair-test.true c.pair-item.is
      (c.in_ok-remove_pair.ensures.changes names c.args.pairs.now
      (in_list c.args.pairs.now c.loop-pair.pair-index c.pair-item.result c.loop-pair-test.true c.pair-item.is)) new
      r later);
}

pub returns-clause-changes : goal.returns-clause-changes
returns-clause-changes g c = λ names.
    c.loop-pair.invariant.rest names _ _ (leave_all g.S.Store c.args.arch.now names c.args.pairs.now
    c.loop-pair.pair-index c.loop-pair.writing.store.now c.loop-pair-test.false)
