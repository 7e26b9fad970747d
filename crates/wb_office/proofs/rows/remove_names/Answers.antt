use Rattle.std.proofs.Common.{◌∙◌, sym, subst, refl}
use Rattle.wb_store.proofs.ReadLemmas.{handed_on}
use Rattle.wb_office.specs.RowWrites.{TakesOut}
use Rattle.wb_office.specs.Turns.{ChangesInTurn}
use Rattle.wb_office.proofs.WrittenRowLemmas.{fails_among, in_list, lacking, remove_all, remove_next}
use Rattle.wb_office.proofs.rows.remove_names.Goals as goal

pub returns-in_err-remove-clause-changes : goal.returns-in_err-remove-clause-changes
returns-in_err-remove-clause-changes g c = λ pairs.
    subst (λ r. ChangesInTurn g.S.Store (TakesOut c.args.arch.now c.args.names.now pairs) (λ _. ⊥)
    (lacking c.args.arch.now c.args.names.now) c.args.writing.now.store.now c.remove.new.self.store.now r)
    (sym (handed_on c.from_residual.result c.from_residual.ensures.1))
    (c.loop-name.invariant.rest pairs _ _ (fails_among g.S.Store _
    (refl, in_list c.args.names.now c.loop-name.name-index c.name-item.result c.loop-name-test.true c.name-item.is)
    c.in_err-remove.ensures.changes))

pub loop-name-preserved : goal.loop-name-preserved
loop-name-preserved g c = record {
  same_reference = c.remove.ensures.same_reference ∙ c.loop-name.invariant.same_reference;
  rest = λ pairs new r later. c.loop-name.invariant.rest pairs new r
      (remove_next g.S.Store c.args.arch.now pairs c.args.names.now c.loop-name.name-index c.name-item.result _
      c.loop-name-test.true c.name-item.is c.in_ok-remove.ensures.changes new r later);
}

pub returns-clause-changes : goal.returns-clause-changes
returns-clause-changes g c = λ pairs.
    c.loop-name.invariant.rest pairs _ _ (remove_all g.S.Store c.args.arch.now pairs c.args.names.now
    c.loop-name.name-index c.loop-name.writing.store.now c.loop-name-test.false)
