use Rattle.wb_store.proofs.ReadLemmas.{reads_rows}
use Rattle.wb_store.proofs.reading.records.Goals as goal

pub returns : goal.returns
returns g c = record { reads = reads_rows c.records_in.result c.in_ok-rows_of.ensures.reads c.records_in.ensures.value c.records_in.ensures.err }
