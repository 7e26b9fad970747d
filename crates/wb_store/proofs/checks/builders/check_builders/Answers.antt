use Rattle.std.proofs.Common.{refl}
use Rattle.wb_store.specs.Queries as ask
use Rattle.wb_store.proofs.OpeningBuilderLemmas.{builders_pass}
use Rattle.wb_store.proofs.CheckLemmas.{faulted, tests_nothing, tests_rows}
use Rattle.wb_store.proofs.ReadLemmas.{asks_in}
use Rattle.wb_store.proofs.checks.builders.check_builders.Goals as goal

pub returns-in_err-rows-clause-tests : goal.returns-in_err-rows-clause-tests
returns-in_err-rows-clause-tests g c = tests_nothing (asks_in ask.Builders c.all_builders.ensures refl) c.in_err-rows.ensures.reads (faulted c.from_residual.result c.from_residual.ensures.1)

pub returns-in_err-rows-clause-passes : goal.returns-in_err-rows-clause-passes
returns-in_err-rows-clause-passes g c = builders_pass c.args.archs.now c.from_residual.result (returns-in_err-rows-clause-tests g c)

pub returns-clause-tests : goal.returns-clause-tests
returns-clause-tests g c = tests_rows (asks_in ask.Builders c.all_builders.ensures refl) c.builders_in.result c.in_ok-rows.ensures.reads c.builders_in.ensures.value c.builders_in.ensures.err

pub returns-clause-passes : goal.returns-clause-passes
returns-clause-passes g c = builders_pass c.args.archs.now c.builders_in.result (returns-clause-tests g c)
