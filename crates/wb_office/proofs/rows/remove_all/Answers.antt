use Rattle.std.proofs.Common.{sym, subst, refl}
use Rattle.wb_store.proofs.ReadLemmas.{handed_on}
use Rattle.wb_office.specs.RowWrites.{TakesOut, without_arch}
use Rattle.wb_office.specs.Turns.{ChangesInTurn}
use Rattle.wb_office.proofs.TurnLemmas.{failed_alike, one_change, then_changes}
use Rattle.wb_office.proofs.rows.remove_all.Goals as goal

pub returns-in_err-remove_names-clause-changes : goal.returns-in_err-remove_names-clause-changes
returns-in_err-remove_names-clause-changes g c =
    subst (λ r. ChangesInTurn g.S.Store (TakesOut c.args.arch.now c.args.names.now c.args.pairs.now)
    (λ _. ⊥)
    (without_arch c.args.arch.now c.args.names.now c.args.pairs.now) c.args.writing.now.store.now
    c.remove_names.new.writing.store.now r)
    (sym (handed_on c.from_residual.result c.from_residual.ensures.1))
    (failed_alike g.S.Store _ (c.in_err-remove_names.ensures.changes c.args.pairs.now))

pub returns-in_err-remove_pairs-clause-changes : goal.returns-in_err-remove_pairs-clause-changes
returns-in_err-remove_pairs-clause-changes g c =
    subst (λ r. ChangesInTurn g.S.Store (TakesOut c.args.arch.now c.args.names.now c.args.pairs.now)
    (λ _. ⊥)
    (without_arch c.args.arch.now c.args.names.now c.args.pairs.now) c.args.writing.now.store.now
    c.remove_pairs.new.writing.store.now r)
    (sym (handed_on c.from_residual-in_err-remove_pairs.result c.from_residual-in_err-remove_pairs.ensures.1))
    (failed_alike g.S.Store _ (then_changes g.S.Store _ _
    (c.in_ok-remove_names.ensures.changes c.args.pairs.now)
    (c.in_err-remove_pairs.ensures.changes c.args.names.now)))

pub returns-clause-changes : goal.returns-clause-changes
returns-clause-changes g c =
    then_changes g.S.Store _ c.remove_arch.result
    (then_changes g.S.Store _ _ (c.in_ok-remove_names.ensures.changes c.args.pairs.now)
    (c.in_ok-remove_pairs.ensures.changes c.args.names.now))
    (one_change g.S.Store c.remove_arch.result refl c.remove_arch.ensures.changes)
