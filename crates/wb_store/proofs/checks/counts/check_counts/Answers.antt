use Rattle.std.proofs.Common.{subst, IfErr, IfOk, refl}
use Rattle.wb_store.specs.Checks.{AreBadCounts, HoldsCounts}
use Rattle.wb_store.specs.Queries as ask
use Rattle.wb_store.proofs.OpeningCountLemmas.{counts_pass}
use Rattle.wb_store.proofs.CheckLemmas.{faulted, tests_nothing, tests_rows}
use Rattle.wb_store.proofs.ReadLemmas.{asks_in}
use Rattle.wb_store.proofs.checks.counts.check_counts.Goals as goal

pub returns-in_err-rows-clause-tests : goal.returns-in_err-rows-clause-tests
returns-in_err-rows-clause-tests g c = tests_nothing (asks_in ask.Office c.office_counts.ensures refl) c.in_err-rows.ensures.reads (faulted c.from_residual.result c.from_residual.ensures.1)

pub returns-in_err-rows-clause-passes : goal.returns-in_err-rows-clause-passes
returns-in_err-rows-clause-passes g c = counts_pass c.args.format c.from_residual.result (returns-in_err-rows-clause-tests g c)

pub returns-clause-tests : goal.returns-clause-tests
returns-clause-tests g c =
    tests_rows (asks_in ask.Office c.office_counts.ensures refl) c.tested_counts.result c.in_ok-rows.ensures.reads
    (subst (λ rows. IfOk c.tested_counts.result (HoldsCounts c.args.format rows)) c.deref.ensures.value c.tested_counts.ensures.value)
    (subst (λ rows. IfErr c.tested_counts.result (AreBadCounts c.args.format rows)) c.deref.ensures.value c.tested_counts.ensures.err)

pub returns-clause-passes : goal.returns-clause-passes
returns-clause-passes g c = counts_pass c.args.format c.tested_counts.result (returns-clause-tests g c)
