use Rattle.wb_store.proofs.PartLemmas.{part_called}
use Rattle.wb_store.proofs.merge_tables.WritingMergeTables.back_to.Goals as goal

pub returns-clause-calls : goal.returns-clause-calls
returns-clause-calls g c saved = rw (← c.store.view_is)
    (part_called c.back_to-answered.ensures.runs c.answer_on.ensures.value)
