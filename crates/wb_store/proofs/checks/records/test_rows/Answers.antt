use Rattle.std.proofs.Common.{◌∙◌, ◌+◌, Err, [], ◌∷◌, ◌++◌, ap, inl, refl, rules, arith}
use Rattle.wb_states.specs.declared.store_fault.StoreFault.TheVariants.{Memory}
use Rattle.wb_store.specs.Faults.{fault_of}
use Rattle.wb_store.specs.Schemas.{query_of_records}
use Rattle.wb_store.proofs.CheckLemmas.{faulted}
use Rattle.wb_store.proofs.OpeningRecordLemmas.{none_given, on_records, fits_too, holds_tested, is_bad, none_tested}
use Rattle.wb_store.proofs.OpeningStreamLemmas.{begins, moves, tests_at, tests_bad, tests_ended, tests_failed, tests_refused}
use Rattle.wb_store.proofs.ReadLemmas.{asks_in}
use Rattle.wb_store.proofs.checks.records.test_rows.Goals as goal

pub returns-in-Err : goal.returns-in-Err
returns-in-Err g c =
    let held = rw c.in-Err.is at c.query.follows.holds-at-none in
    record { tests = tests_refused (asks_in (query_of_records c.args.kept.now.format) c.all_records.ensures.text (none_given c.args.kept.now.format)) held.survives c.in-Err.error held.err (ap Err c.fault_of.ensures.value ∙ ap (λ table. Err (fault_of c.in-Err.error table)) (c.table_of_records-table.ensures.value ∙ on_records c.args.kept.now.format)) }

pub rows-init : goal.rows-init
rows-init g c =
    let kept = c.args.kept.now in
    let made = c.in-Ok.ensures in
    (refl, ([], begins (asks_in (query_of_records c.args.kept.now.format) c.all_records.ensures.text (none_given c.args.kept.now.format)) made.survives made.begun, none_tested kept.format kept.archs.now kept.builders.now kept.handed (λ n. rw c.new-takes.ensures.empty refl)))

pub rows-preserved : goal.rows-preserved
rows-preserved g c =
    let kept = c.args.kept.now in
    let so = c.rows.invariant.1 in
    let row = c.in-Ok-Some.row.now in
    let moved = rw (c.in-Ok-Some.is, c.in-Ok-Some.field-0-is) at c.next.follows.holds-at-none in (
      moved.same_reference ∙ c.rows.invariant.0,
      (
        so.0 ++ row ∷ [],
        moves so.1 c.next.follows.lender-at-none.conn.now moved.survives row moved.ok moved.same,
        fits_too kept.format kept.archs.now kept.builders.now kept.handed so.2 row (omega arith) c.in_ok-test_row-in-Ok-Some.ensures.value,
      ),
    )

pub returns-in_err-test_row-in-Ok-Some : goal.returns-in_err-test_row-in-Ok-Some
returns-in_err-test_row-in-Ok-Some g c =
    let kept = c.args.kept.now in
    let so = c.rows.invariant.1 in
    let row = c.in-Ok-Some.row.now in
    let fault = c.in_err-test_row-in-Ok-Some.field-0.0 in
    let moved = rw (c.in-Ok-Some.is, c.in-Ok-Some.field-0-is) at c.next.follows.holds-at-none in
    let under = moves so.1 c.next.follows.lender-at-none.conn.now moved.survives row moved.ok moved.same in
    record {
      tests = tests_at (tests_bad under fault
          (λ rest. is_bad kept.format kept.archs.now kept.builders.now kept.handed so.2 row rest (c.rows.before + 1) fault (omega arith) c.in_err-test_row-in-Ok-Some.ensures.err) (faulted c.from_residual.result c.from_residual.ensures.1)) (search rules);
    }

pub returns-in-Ok-None : goal.returns-in-Ok-None
returns-in-Ok-None g c =
    let kept = c.args.kept.now in
    let so = c.rows.invariant.1 in
    let moved = rw (c.in-Ok-None.is, c.in-Ok-None.field-0-is) at c.next.follows.holds-at-none in
    record { tests = tests_at (tests_ended so.1 c.next.follows.lender-at-none.conn.now moved.survives tt moved.ok moved.same (holds_tested kept.format kept.archs.now kept.builders.now kept.handed so.2) refl) (search rules) }

pub returns-in-Err-next : goal.returns-in-Err-next
returns-in-Err-next g c =
    let so = c.rows.invariant.1 in
    let moved = rw c.in-Err-next.is at c.next.follows.holds-at-none in
    record { tests = tests_at (tests_failed so.1 c.next.follows.lender-at-none.conn.now moved.survives c.in-Err-next.error moved.err (ap Err c.fault_of-in-Err-next.ensures.value ∙ ap (λ table. Err (fault_of c.in-Err-next.error table)) (c.table_of_records-table.ensures.value ∙ on_records c.args.kept.now.format))) (search rules) }

pub returns : goal.returns
returns g c = record { tests = tests_at (tests_bad c.rows.invariant.1.1 Memory (λ rest. inl refl) refl) (search rules) }
