use Rattle.std.proofs.Common.{refl}
use Rattle.wb_store.specs.Queries as ask
use Rattle.wb_store.proofs.CheckLemmas.{archs_pass, faulted, tests_nothing, tests_rows}
use Rattle.wb_store.proofs.ReadLemmas.{asks_in}
use Rattle.wb_store.proofs.checks.archs.check_archs.Goals as goal

pub returns-in_err-rows_of-clause-tests : goal.returns-in_err-rows_of-clause-tests
returns-in_err-rows_of-clause-tests g c = tests_nothing (asks_in ask.Archs c.all_archs.ensures refl) c.in_err-rows_of.ensures.reads (faulted c.from_residual.result c.from_residual.ensures.1)

pub returns-in_err-rows_of-clause-passes : goal.returns-in_err-rows_of-clause-passes
returns-in_err-rows_of-clause-passes g c = archs_pass c.from_residual.result (returns-in_err-rows_of-clause-tests g c)

pub returns : goal.returns
returns g c =
    let tests = tests_rows (asks_in ask.Archs c.all_archs.ensures refl) c.tested_archs.result c.in_ok-rows_of.ensures.reads c.tested_archs.ensures.value c.tested_archs.ensures.err in
    record { tests = tests; passes = archs_pass c.tested_archs.result tests }
