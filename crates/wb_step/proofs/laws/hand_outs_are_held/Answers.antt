use Rattle.wb_step.proofs.HandOutLemmas.{hand_out-built}
use Rattle.wb_step.proofs.laws.hand_outs_are_held.Goals as goal

pub returns : goal.returns
returns c = record { held = hand_out-built }
