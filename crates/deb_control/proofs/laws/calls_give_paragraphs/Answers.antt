use Rattle.deb_control.proofs.CallLemmas.{answer_after-paragraph, answer_after-end, answer_after-ended}
use Rattle.deb_control.proofs.laws.calls_give_paragraphs.Goals as goal

pub returns-clause-value : goal.returns-clause-value
returns-clause-value c = answer_after-paragraph

pub returns-clause-end : goal.returns-clause-end
returns-clause-end c = answer_after-end

pub returns-clause-ended : goal.returns-clause-ended
returns-clause-ended c = answer_after-ended
