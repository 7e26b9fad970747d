use Rattle.std.proofs.Common.{sym, subst, ◌∙◌, map as each}
use Rattle.std.proofs.lemmas.Bool.{both_ways}
use Rattle.wb_states.specs.Lookups.{entry_of}
use Rattle.wb_store.proofs.ReadLemmas.{handed_on}
use Rattle.wb_office.specs.RowWrites.{HasTakeOverLimit, PutsOne}
use Rattle.wb_office.specs.Turns.{ChangesInTurn}
use Rattle.wb_office.proofs.TurnLemmas.{not_made}
use Rattle.wb_office.proofs.WrittenRowLemmas.{fails_among, having, in_place, put_all, put_next}
use Rattle.wb_office.proofs.rows.put_all.Goals as goal

pub returns-then-not-has_fitting_take-clause-changes : goal.returns-then-not-has_fitting_take-clause-changes
returns-then-not-has_fitting_take-clause-changes g c =
    c.loop-row.invariant.rest _ _ (not_made g.S.Store _ (
      c.unfit.ensures,
      λ all. both_ways _ c.if-not-has_fitting_take.true
          (c.has_fitting_take.ensures.value.1 (all (entry_of c.row-item.result) (in_place entry_of c.args.rows.now c.loop-row.row-index c.row-item.result c.loop-row-test.true c.row-item.is))),
    ))

pub returns-in_err-put-clause-changes : goal.returns-in_err-put-clause-changes
returns-in_err-put-clause-changes g c =
    subst (λ r. ChangesInTurn g.S.Store (PutsOne (each entry_of c.args.rows.now)) (HasTakeOverLimit (each entry_of c.args.rows.now)) (having (each entry_of c.args.rows.now)) c.args.writing.now.store.now c.put.new.self.store.now r)
    (sym (handed_on c.from_residual.result c.from_residual.ensures.1))
    (c.loop-row.invariant.rest _ _ (fails_among g.S.Store _ (in_place entry_of c.args.rows.now c.loop-row.row-index c.row-item.result c.loop-row-test.true c.row-item.is) c.in_err-put.ensures.changes))

pub loop-row-preserved : goal.loop-row-preserved
loop-row-preserved g c = record {
  same_reference = c.put.ensures.same_reference ∙ c.loop-row.invariant.same_reference;
  rest = λ new r later. c.loop-row.invariant.rest new r
      (put_next g.S.Store c.args.rows.now c.loop-row.row-index c.row-item.result _ c.loop-row-test.true c.row-item.is c.in_ok-put.ensures.changes new r later);
}

pub returns-clause-changes : goal.returns-clause-changes
returns-clause-changes g c = c.loop-row.invariant.rest _ _ (put_all g.S.Store c.args.rows.now c.loop-row.row-index c.loop-row.writing.store.now c.loop-row-test.false)
