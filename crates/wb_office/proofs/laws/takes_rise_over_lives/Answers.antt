use Rattle.std.proofs.Common.{[], inl, inr, refl}
use Rattle.wb_office.specs.Files.{HasFailedWith}
use Rattle.wb_office.proofs.FencingLemmas.{fenced}
use Rattle.wb_office.proofs.laws.takes_rise_over_lives.Goals as goal

pub returns : goal.returns
returns g c = record { fenced = λ one other lives found first second. fenced (HasFailedWith g.D.Disk) one other (one, []) (other, []) (inl refl) (inr refl) tt tt lives found first second }
