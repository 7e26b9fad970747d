use Rattle.std.proofs.Common.{inl, inr, Ok, Err}
use Rattle.wb_store.proofs.CheckLemmas.{faulted}
use Rattle.wb_store.proofs.FirstRecordLemmas.{read_checks}
use Rattle.wb_store.proofs.OpeningLemmas.{all_passed, none_yet, then_failed, then_passed}
use Rattle.wb_store.proofs.upgrading.read_office.Goals as goal

pub returns-in_err-counts-clause-reads : goal.returns-in_err-counts-clause-reads
returns-in_err-counts-clause-reads g c =
    then_failed (none_yet g.S.Store c.args.conn.now) c.in_err-counts.ensures.checks (λ machine told. tt) (λ at after good why. inl why) (faulted c.from_residual.result c.from_residual.ensures.1)

pub returns-in_err-records-clause-reads : goal.returns-in_err-records-clause-reads
returns-in_err-records-clause-reads g c =
    let one = then_passed (none_yet g.S.Store c.args.conn.now) c.in_ok-counts.ensures.checks in
    then_failed one (read_checks (Err _) c.in_err-records.ensures.reads) (λ machine told. tt) (λ at after good why. inr (good.1.0.0, why))
    (faulted c.from_residual-in_err-records.result c.from_residual-in_err-records.ensures.1)

pub returns-clause-reads : goal.returns-clause-reads
returns-clause-reads g c =
    let one = then_passed (none_yet g.S.Store c.args.conn.now) c.in_ok-counts.ensures.checks in
    let two = then_passed one (read_checks (Ok _) c.in_ok-records.ensures.reads) in
    all_passed two (λ db good. good.0.1) (λ machine told. (told.0.1, told.1))
