use Rattle.wb_store.proofs.ChangeLemmas.{record_change}
use Rattle.wb_store.proofs.changes.put.Goals as goal

pub returns : goal.returns
returns g c = record {
  changes = record_change c.args.arch.now c.args.source.now c.args.current.now c.put_record.ensures c.record_values.ensures.value c.upsert-answered.ensures.runs c.upsert-answered.ensures.ok c.answer_on.ensures.value;
}
