use Rattle.std.proofs.Common.{sym, ap, ◌∙◌}
use Rattle.wb_api.specs.Encoding.{refusal_text}
use Rattle.wb_api.proofs.PlainLemmas.{refusal_text-UnknownArch, refusal_text-UnknownBuilder, refusal_text-WrongArch, refusal_text-UnknownSource, refusal_text-QueueEmpty, refusal_text-NotHeld, refusal_text-AlreadyThere, refusal_text-BadName, refusal_text-BadNumber, refusal_text-TextTooLong, refusal_text-Spent, refusal_text-Closed, refusal_text-Memory, refusal_text-RepeatedArch, refusal_text-StillHeld}
use Rattle.wb_api.proofs.refusal.constant_text.Goals as goal

pub returns-in-UnknownArch-clause-value : goal.returns-in-UnknownArch-clause-value
returns-in-UnknownArch-clause-value c = sym (ap refusal_text c.in-UnknownArch.is ∙ refusal_text-UnknownArch)

pub returns-in-UnknownBuilder-clause-value : goal.returns-in-UnknownBuilder-clause-value
returns-in-UnknownBuilder-clause-value c = sym (ap refusal_text c.in-UnknownBuilder.is ∙ refusal_text-UnknownBuilder)

pub returns-in-WrongArch-clause-value : goal.returns-in-WrongArch-clause-value
returns-in-WrongArch-clause-value c = sym (ap refusal_text c.in-WrongArch.is ∙ refusal_text-WrongArch)

pub returns-in-UnknownSource-clause-value : goal.returns-in-UnknownSource-clause-value
returns-in-UnknownSource-clause-value c = sym (ap refusal_text c.in-UnknownSource.is ∙ refusal_text-UnknownSource)

pub returns-in-QueueEmpty-clause-value : goal.returns-in-QueueEmpty-clause-value
returns-in-QueueEmpty-clause-value c = sym (ap refusal_text c.in-QueueEmpty.is ∙ refusal_text-QueueEmpty)

pub returns-in-NotHeld-clause-value : goal.returns-in-NotHeld-clause-value
returns-in-NotHeld-clause-value c = sym (ap refusal_text c.in-NotHeld.is ∙ refusal_text-NotHeld)

pub returns-in-AlreadyThere-clause-value : goal.returns-in-AlreadyThere-clause-value
returns-in-AlreadyThere-clause-value c = sym (ap refusal_text c.in-AlreadyThere.is ∙ refusal_text-AlreadyThere)

pub returns-in-BadName-clause-value : goal.returns-in-BadName-clause-value
returns-in-BadName-clause-value c = sym (ap refusal_text c.in-BadName.is ∙ refusal_text-BadName)

pub returns-in-BadNumber-clause-value : goal.returns-in-BadNumber-clause-value
returns-in-BadNumber-clause-value c = sym (ap refusal_text c.in-BadNumber.is ∙ refusal_text-BadNumber)

pub returns-in-TextTooLong-clause-value : goal.returns-in-TextTooLong-clause-value
returns-in-TextTooLong-clause-value c = sym (ap refusal_text c.in-TextTooLong.is ∙ refusal_text-TextTooLong)

pub returns-in-Spent-clause-value : goal.returns-in-Spent-clause-value
returns-in-Spent-clause-value c = sym (ap refusal_text c.in-Spent.is ∙ refusal_text-Spent)

pub returns-in-Closed-clause-value : goal.returns-in-Closed-clause-value
returns-in-Closed-clause-value c = sym (ap refusal_text c.in-Closed.is ∙ refusal_text-Closed)

pub returns-in-Memory-clause-value : goal.returns-in-Memory-clause-value
returns-in-Memory-clause-value c = sym (ap refusal_text c.in-Memory.is ∙ refusal_text-Memory)

pub returns-in-RepeatedArch-clause-value : goal.returns-in-RepeatedArch-clause-value
returns-in-RepeatedArch-clause-value c = sym (ap refusal_text c.in-RepeatedArch.is ∙ refusal_text-RepeatedArch)

pub returns-in-StillHeld-clause-value : goal.returns-in-StillHeld-clause-value
returns-in-StillHeld-clause-value c = sym (ap refusal_text c.in-StillHeld.is ∙ refusal_text-StillHeld)
