use Rattle.wb_store.proofs.FileLemmas.{leave_wider}
use Rattle.wb_office.proofs.«office».«Office+FileStore+D».surrender.Goals as goal

pub returns-clause-stands : goal.returns-clause-stands
returns-clause-stands g c = λ clean machine stands. leave_wider g.D.Disk c.surrender.result stands.back.left (c.surrender.ensures.left clean)

pub returns-clause-either : goal.returns-clause-either
returns-clause-either g c = λ clean before after one. leave_wider g.D.Disk c.surrender.result one.left (c.surrender.ensures.left clean)
