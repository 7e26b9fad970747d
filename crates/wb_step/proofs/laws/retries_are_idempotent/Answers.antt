use Rattle.wb_step.proofs.RetryLemmas.{next-retried, next-lost}
use Rattle.wb_step.proofs.laws.retries_are_idempotent.Goals as goal

pub returns-clause-again : goal.returns-clause-again
returns-clause-again c = next-retried

pub returns-clause-lost : goal.returns-clause-lost
returns-clause-lost c = next-lost
