use Rattle.std.proofs.Common.{inl, inr, Ok, Err, refl}
use Rattle.wb_store.specs.declared.format.Format.TheVariants.{One}
use Rattle.wb_store.proofs.CheckLemmas.{faulted}
use Rattle.wb_store.proofs.OpeningLemmas.{all_passed, archs_tested, builders_tested, counts_tested, none_yet, records_tested, then_failed, then_passed}
use Rattle.wb_store.proofs.opening.check_first.Goals as goal

pub returns-in_err-counts : goal.returns-in_err-counts
returns-in_err-counts g c = record {
  checks = then_failed (none_yet g.S.Store c.args.conn.now) (counts_tested One (Err _) c.in_err-counts.ensures.tests c.in_err-counts.ensures.passes)
      (λ machine told. tt) (λ at after good why. inl why) (faulted c.from_residual.result c.from_residual.ensures.1);
}

pub returns-in_err-archs : goal.returns-in_err-archs
returns-in_err-archs g c =
    let one = then_passed (none_yet g.S.Store c.args.conn.now) (counts_tested One (Ok _) c.in_ok-counts.ensures.tests c.in_ok-counts.ensures.passes) in
    record {
      checks = then_failed one (archs_tested One (Err _) c.in_err-archs.ensures.tests c.in_err-archs.ensures.passes)
          (λ machine told. tt) (λ at after good why. inr (inl (c.in_ok-counts.counts, good.1, why)))
          (faulted c.from_residual-in_err-archs.result c.from_residual-in_err-archs.ensures.1);
    }

pub returns-in_err-builders : goal.returns-in_err-builders
returns-in_err-builders g c =
    let one = then_passed (none_yet g.S.Store c.args.conn.now) (counts_tested One (Ok _) c.in_ok-counts.ensures.tests c.in_ok-counts.ensures.passes) in
    let two = then_passed one (archs_tested One (Ok _) c.in_ok-archs.ensures.tests c.in_ok-archs.ensures.passes) in
    record {
      checks = then_failed two (builders_tested One c.deref.ensures.value (Err _) c.in_err-builders.ensures.tests c.in_err-builders.ensures.passes)
          (λ machine told. told.1)
          (λ at after good why. inr (inr (inl (c.in_ok-counts.counts, c.in_ok-archs.archs.items, good.0.1, good.1, why))))
          (faulted c.from_residual-in_err-builders.result c.from_residual-in_err-builders.ensures.1);
    }

pub returns-in_err-check_scratch : goal.returns-in_err-check_scratch
returns-in_err-check_scratch g c =
    let one = then_passed (none_yet g.S.Store c.args.conn.now) (counts_tested One (Ok _) c.in_ok-counts.ensures.tests c.in_ok-counts.ensures.passes) in
    let two = then_passed one (archs_tested One (Ok _) c.in_ok-archs.ensures.tests c.in_ok-archs.ensures.passes) in
    let three = then_passed two (builders_tested One c.deref.ensures.value (Ok _) c.in_ok-builders.ensures.tests c.in_ok-builders.ensures.passes) in
    record {
      checks = then_failed three c.in_err-check_scratch.ensures.checks (λ machine told. tt)
          (λ at after good why.
          inr (inr (inr (inl (c.in_ok-counts.counts, c.in_ok-archs.archs.items, c.in_ok-builders.builders.items, good.0.0.1, good.0.1, good.1, why)))))
          (faulted c.from_residual-in_err-check_scratch.result c.from_residual-in_err-check_scratch.ensures.1);
    }

pub returns-in_err-check_records : goal.returns-in_err-check_records
returns-in_err-check_records g c =
    let one = then_passed (none_yet g.S.Store c.args.conn.now) (counts_tested One (Ok _) c.in_ok-counts.ensures.tests c.in_ok-counts.ensures.passes) in
    let two = then_passed one (archs_tested One (Ok _) c.in_ok-archs.ensures.tests c.in_ok-archs.ensures.passes) in
    let three = then_passed two (builders_tested One c.deref.ensures.value (Ok _) c.in_ok-builders.ensures.tests c.in_ok-builders.ensures.passes) in
    let four = then_passed three c.in_ok-check_scratch.ensures.checks in
    record {
      checks = then_failed four (records_tested One c.deref-2.ensures.value c.deref-3.ensures.value (Err _) c.in_err-check_records.ensures.tests c.in_err-check_records.ensures.passes)
          (λ machine told. record { archs_are = told.0.0.1; builders_are = told.0.1; handed_is = told.0.0.0.1.0 })
          (λ at after good why.
          inr (inr (inr (inr (good.1, (c.in_ok-counts.counts, c.in_ok-archs.archs.items, c.in_ok-builders.builders.items, good.0.0.0.1, good.0.0.1, good.0.1, why))))))
          (faulted c.from_residual-in_err-check_records.result c.from_residual-in_err-check_records.ensures.1);
    }

pub returns : goal.returns
returns g c =
    let one = then_passed (none_yet g.S.Store c.args.conn.now) (counts_tested One (Ok _) c.in_ok-counts.ensures.tests c.in_ok-counts.ensures.passes) in
    let two = then_passed one (archs_tested One (Ok _) c.in_ok-archs.ensures.tests c.in_ok-archs.ensures.passes) in
    let three = then_passed two (builders_tested One c.deref.ensures.value (Ok _) c.in_ok-builders.ensures.tests c.in_ok-builders.ensures.passes) in
    let four = then_passed three c.in_ok-check_scratch.ensures.checks in
    let five = then_passed four (records_tested One c.deref-2.ensures.value c.deref-3.ensures.value (Ok _) c.in_ok-check_records.ensures.tests c.in_ok-check_records.ensures.passes) in
    record {
      checks = all_passed five
          (λ db good. (
            (
              record {
                counts = c.in_ok-counts.counts;
                archs = c.in_ok-archs.archs.items;
                builders = c.in_ok-builders.builders.items;
                counts_held = good.0.0.0.0.1;
                archs_held = good.0.0.0.1;
                builders_held = good.0.0.1;
                records_held = good.1;
              },
              refl,
            ),
            good.0.1,
          ))
          (λ machine told. told.0.0.0.0.1);
    }
