use Rattle.wb_step.proofs.NamedPartLemmas.{part_of_named, part_has_all_named}
use Rattle.wb_step.proofs.PartOfLemmas.{part_consistent, part_alike}
use Rattle.wb_step.proofs.laws.parts_of_an_office_answer_alike.Goals as goal

pub returns-clause-consistent : goal.returns-clause-consistent
returns-clause-consistent c = part_consistent

pub returns-clause-alike : goal.returns-clause-alike
returns-clause-alike c = part_alike

pub returns-clause-part : goal.returns-clause-part
returns-clause-part c = part_of_named

pub returns-clause-named : goal.returns-clause-named
returns-clause-named c = part_has_all_named
