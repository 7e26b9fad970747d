use Rattle.wb_store.proofs.ReadLemmas.{reads_table}
use Rattle.wb_store.proofs.reading.rows_of.Goals as goal

pub returns : goal.returns
returns g c = record { reads = reads_table c.args.table c.read-answered.result c.read-answered.ensures.runs c.answer_on.ensures.value }
