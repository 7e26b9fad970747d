use Rattle.std.proofs.Common.{IfErr, sym, subst}
use Rattle.wb_store.specs.Files.{AreRefused}
use Rattle.wb_store.proofs.ReadLemmas.{handed_on}
use Rattle.wb_office.proofs.StandingLemmas.{stands_opened, stands_opened_one}
use Rattle.wb_office.proofs.«office».«Office+FileStore+D».try_open.Goals as goal

pub returns-clause-found : goal.returns-clause-found
returns-clause-found g c = λ clean machine are. stands_opened c.new.ensures.value
    (c.in_ok-store.ensures.found clean machine are)

pub returns-clause-left : goal.returns-clause-left
returns-clause-left g c = λ clean one other leave. stands_opened_one c.new.ensures.value
    (c.in_ok-store.ensures.left clean one other leave)

pub returns-clause-new : goal.returns-clause-new
returns-clause-new g c = λ clean new. stands_opened c.new.ensures.value (c.in_ok-store.ensures.new clean new)

pub returns-in_err-store-clause-refused : goal.returns-in_err-store-clause-refused
returns-in_err-store-clause-refused g c =
    subst (λ r. IfErr r (λ refused. AreRefused g.D.Disk c.args.files refused.fault refused.files)) (sym (handed_on c.from_residual.result c.from_residual.ensures.1)) c.in_err-store.ensures.refused
