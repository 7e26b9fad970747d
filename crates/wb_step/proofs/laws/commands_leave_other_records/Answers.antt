use Rattle.wb_step.proofs.FrameLemmas.{step-others}
use Rattle.wb_step.proofs.laws.commands_leave_other_records.Goals as goal

pub returns : goal.returns
returns c = record { others = step-others }
