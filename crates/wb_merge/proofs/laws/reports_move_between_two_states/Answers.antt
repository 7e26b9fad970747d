use Rattle.wb_merge.proofs.ReportMoveLemmas.{two-states, at-other, held-kept, made-uninstallable, made-installable, others-kept}
use Rattle.wb_merge.proofs.laws.reports_move_between_two_states.Goals as goal

pub returns-clause-states : goal.returns-clause-states
returns-clause-states c = two-states

pub returns-clause-version : goal.returns-clause-version
returns-clause-version c = at-other

pub returns-clause-held : goal.returns-clause-held
returns-clause-held c = held-kept

pub returns-clause-uninstallable : goal.returns-clause-uninstallable
returns-clause-uninstallable c = made-uninstallable

pub returns-clause-installable : goal.returns-clause-installable
returns-clause-installable c = made-installable

pub returns-clause-others : goal.returns-clause-others
returns-clause-others c = others-kept
