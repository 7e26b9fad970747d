use Rattle.std.proofs.Common.{inl, inr, refl, Ok, subst}
use Rattle.wb_store.specs.Queries as ask
use Rattle.wb_store.specs.Scratch.{TestsForRows}
use Rattle.wb_store.proofs.CheckLemmas.{faulted}
use Rattle.wb_store.proofs.OpeningLemmas.{binaries_there, no_binaries, no_sources, none_yet, rows_empty, rows_left, rows_unread, scratch_both, sources_there, then_failed, then_passed}
use Rattle.wb_store.proofs.opening.check_scratch.Goals as goal

pub returns-in_err-has_scratch_sources : goal.returns-in_err-has_scratch_sources
returns-in_err-has_scratch_sources g c = record {
  checks = then_failed (none_yet g.S.Store c.args.conn.now) (rows_unread ask.OneSource (sources_there c.args.format) {A = Unit {0}} c.in_err-has_scratch_sources.ensures.tests)
      (λ machine told. tt) (λ at after good why. inl why) (faulted c.from_residual.result c.from_residual.ensures.1);
}

pub returns-then-branch : goal.returns-then-branch
returns-then-branch g c =
    let tests = subst (λ found. TestsForRows g.S.Store ask.OneSource c.args.conn.now c.has_scratch_sources.new.conn (Ok found)) c.if-branch.true c.in_ok-has_scratch_sources.ensures.tests in
    record {
      checks = then_failed (none_yet g.S.Store c.args.conn.now) (rows_left ask.OneSource (sources_there c.args.format) {A = Unit {0}} (λ machine stands. no_sources c.args.format machine _ stands) tests)
          (λ machine told. tt) (λ at after good why. inl why) refl;
    }

pub returns-in_err-has_scratch_binaries : goal.returns-in_err-has_scratch_binaries
returns-in_err-has_scratch_binaries g c =
    let tests = subst (λ found. TestsForRows g.S.Store ask.OneSource c.args.conn.now c.has_scratch_sources.new.conn (Ok found)) c.if-branch.false c.in_ok-has_scratch_sources.ensures.tests in
    let one = then_passed (none_yet g.S.Store c.args.conn.now) (rows_empty ask.OneSource (sources_there c.args.format) {A = Unit {0}} {x = tt {0}} tests) in
    record {
      checks = then_failed one (rows_unread ask.OneBinary (binaries_there c.args.format) {A = Unit {0}} c.in_err-has_scratch_binaries.ensures.tests)
          (λ machine told. tt) (λ at after good why. inr (good.1, why)) (faulted c.from_residual-in_err-has_scratch_binaries.result c.from_residual-in_err-has_scratch_binaries.ensures.1);
    }

pub returns-then-branch-2 : goal.returns-then-branch-2
returns-then-branch-2 g c =
    let tests = subst (λ found. TestsForRows g.S.Store ask.OneSource c.args.conn.now c.has_scratch_sources.new.conn (Ok found)) c.if-branch.false c.in_ok-has_scratch_sources.ensures.tests in
    let left = subst (λ found. TestsForRows g.S.Store ask.OneBinary c.has_scratch_sources.new.conn c.has_scratch_binaries.new.conn (Ok found)) c.if-branch-2.true c.in_ok-has_scratch_binaries.ensures.tests in
    let one = then_passed (none_yet g.S.Store c.args.conn.now) (rows_empty ask.OneSource (sources_there c.args.format) {A = Unit {0}} {x = tt {0}} tests) in
    record {
      checks = then_failed one (rows_left ask.OneBinary (binaries_there c.args.format) {A = Unit {0}} (λ machine stands. no_binaries c.args.format machine _ stands) left) (λ machine told. tt) (λ at after good why. inr (good.1, why)) refl;
    }

pub returns : goal.returns
returns g c =
    let one = subst (λ found. TestsForRows g.S.Store ask.OneSource c.args.conn.now c.has_scratch_sources.new.conn (Ok found)) c.if-branch.false c.in_ok-has_scratch_sources.ensures.tests in
    let two = subst (λ found. TestsForRows g.S.Store ask.OneBinary c.has_scratch_sources.new.conn c.has_scratch_binaries.new.conn (Ok found)) c.if-branch-2.false c.in_ok-has_scratch_binaries.ensures.tests in
    record { checks = scratch_both c.args.format (rows_empty ask.OneSource (sources_there c.args.format) {A = Unit {0}} {x = tt {0}} one) (rows_empty ask.OneBinary (binaries_there c.args.format) {A = Unit {0}} {x = tt {0}} two) }
