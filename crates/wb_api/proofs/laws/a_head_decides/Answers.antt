use Rattle.wb_api.proofs.LawLemmas.{head_decides, head_memory}
use Rattle.wb_api.proofs.laws.a_head_decides.Goals as goal

pub returns : goal.returns
returns c = record { value = head_decides; memory = head_memory }
