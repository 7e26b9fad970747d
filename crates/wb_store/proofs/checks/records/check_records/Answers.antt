use Rattle.wb_store.proofs.OpeningRecordLemmas.{records_pass}
use Rattle.wb_store.proofs.checks.records.check_records.Goals as goal

pub returns-clause-passes : goal.returns-clause-passes
returns-clause-passes g c = records_pass c.args.format c.args.archs.now c.args.builders.now c.args.handed c.test_rows.result c.test_rows.ensures.tests
