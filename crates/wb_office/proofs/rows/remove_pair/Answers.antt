use Rattle.std.proofs.Common.{◌≡◌, Bool, true, false, not, refl}
use Rattle.wb_office.proofs.WrittenRowLemmas.{pair_goes}
use Rattle.wb_office.proofs.rows.remove_pair.Goals as goal

is_true : (b : Bool) → false ≡ not b → b ≡ true
is_true true e = refl
is_true false e = cc

pub returns-clause-changes : goal.returns-clause-changes
returns-clause-changes g c = λ names pairs within.
    pair_goes g.S.Store c.args.arch.now names pairs c.args.pair.now c.remove_builder.result (is_true _ c.if-ne.ensures)
    within c.remove_builder.ensures.changes
