use Rattle.wb_store.proofs.FirstRecordLemmas.{reads_first, reads_no_first}
use Rattle.wb_store.proofs.ReadLemmas.{handed_on}
use Rattle.wb_store.proofs.upgrading.first_records.Goals as goal

pub returns-in_err-rows : goal.returns-in_err-rows
returns-in_err-rows g c = record { reads = reads_no_first c.all_states.ensures c.in_err-rows.ensures.reads (handed_on c.from_residual.result c.from_residual.ensures.1) }

pub returns : goal.returns
returns g c = record {
  reads = reads_first c.all_states.ensures c.first_records_in.result c.in_ok-rows.ensures.reads c.first_records_in.ensures.value c.first_records_in.ensures.kept c.first_records_in.ensures.err;
}
