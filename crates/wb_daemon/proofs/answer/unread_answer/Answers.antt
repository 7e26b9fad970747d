-- A line fault, or that there is no memory.
use Rattle.std.proofs.Common.{◌≡◌, ◌∙◌, sym}
use Rattle.wb_words.specs.declared.fault.WordsFault.TheVariants.{NoCommand, Memory}
use Rattle.wb_daemon.proofs.answer.unread_answer.Goals as goal

pub returns-in-NoCommand-clause-fault : goal.returns-in-NoCommand-clause-fault
returns-in-NoCommand-clause-fault c = λ _ machine. c.fault_answer.ensures.value machine

pub returns-in-NoCommand-clause-memory : goal.returns-in-NoCommand-clause-memory
returns-in-NoCommand-clause-memory c = λ is machine. let differ : NoCommand ≡ Memory → ⊥ = λ same. cc in absurd (differ (sym c.in-NoCommand.is ∙ is))

pub returns-in-Memory-clause-fault : goal.returns-in-Memory-clause-fault
returns-in-Memory-clause-fault c = λ is machine. let differ : Memory ≡ NoCommand → ⊥ = λ same. cc in absurd (differ (sym c.in-Memory.is ∙ is))

pub returns-in-Memory-clause-memory : goal.returns-in-Memory-clause-memory
returns-in-Memory-clause-memory c = λ _ machine. c.memory_answer.ensures.value machine
