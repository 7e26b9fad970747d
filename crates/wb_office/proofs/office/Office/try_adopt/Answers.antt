use Rattle.wb_office.proofs.StandingLemmas.{stands_opened}
use Rattle.wb_office.proofs.office.Office.try_adopt.Goals as goal

pub returns-in-Ok-clause-found : goal.returns-in-Ok-clause-found
returns-in-Ok-clause-found g c = λ clean machine is. stands_opened c.new.ensures.value
    (c.in-Ok.ensures.found clean machine is)
