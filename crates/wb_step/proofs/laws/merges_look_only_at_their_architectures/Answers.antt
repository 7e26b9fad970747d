use Rattle.wb_step.proofs.MergedPartLemmas.{merge_part, merge_part-consistent, merge_answer, merge_joined, merge_alone}
use Rattle.wb_step.proofs.laws.merges_look_only_at_their_architectures.Goals as goal

pub returns-clause-part : goal.returns-clause-part
returns-clause-part c = merge_part

pub returns-clause-consistent : goal.returns-clause-consistent
returns-clause-consistent c = merge_part-consistent

pub returns-clause-answer : goal.returns-clause-answer
returns-clause-answer c = merge_answer

pub returns-clause-joined : goal.returns-clause-joined
returns-clause-joined c = merge_joined

pub returns-clause-alone : goal.returns-clause-alone
returns-clause-alone c = merge_alone
