use Rattle.std.proofs.lemmas.Result.{IfOk-weaker}
use Rattle.wb_office.proofs.«office».«Office+FileStore+D».try_close.Goals as goal

pub returns-clause-settled : goal.returns-clause-settled
returns-clause-settled g c = IfOk-weaker c.try_close.result _ _ (λ files closed clean machine stands. closed clean machine stands.back) c.try_close.ensures.settled
