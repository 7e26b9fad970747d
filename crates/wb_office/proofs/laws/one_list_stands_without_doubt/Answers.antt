use Rattle.wb_office.specs.Files.{HasFailedWith}
use Rattle.wb_office.proofs.DoubtLemmas.{one_stands}
use Rattle.wb_office.proofs.laws.one_list_stands_without_doubt.Goals as goal

pub returns : goal.returns
returns g c = record { same = λ machine before after. one_stands (HasFailedWith g.D.Disk before after) machine }
