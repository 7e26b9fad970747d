-- What was written of what is said to the words, and what they leave of the office.
use Rattle.std.proofs.Common.{inl, inr, map, refl, subst, arith}
use Rattle.wb_step.specs.Offices.{Open}
use Rattle.wb_daemon.specs.Single.{AnswersWords}
use Rattle.wb_daemon.proofs.SingleLemmas.{answers-leaves, stops-leaves}
use Rattle.wb_daemon.proofs.single.run_words.Goals as goal

pub returns-in-Ok : goal.returns-in-Ok
returns-in-Ok g c =
    let words = map (λ word. word.now) c.args.words.now in
    let old = g.L.Lists.may_read c.args.lists.now in record {
      status = c.in-Ok.ensures.status;
      value = λ _ before clean stands.
          let now = c.in-Ok.ensures.value before clean stands in
          (now.0, now.1, (now.2, c.in-Ok.ensures.failed));
      err = λ e before clean stands.
          let now = c.in-Ok.ensures.value before clean stands in (
            now.0,
            Open,
            now.1,
            inl (
              subst (λ status. AnswersWords old words c.args.writer.now c.answer_single.new.writer before now.0 status) e (now.2, c.in-Ok.ensures.failed),
              refl,
            ),
          );
      replay = λ before clean stands.
          let now = c.in-Ok.ensures.value before clean stands in
          (now.0, Open, now.1, answers-leaves old words before now.0 _ _ c.in-Ok.status now.2);
      clean = c.answer_single.ensures.clean;
    }

pub returns-in-Err : goal.returns-in-Err
returns-in-Err g c =
    let words = map (λ word. word.now) c.args.words.now in
    let old = g.L.Lists.may_read c.args.lists.now in record {
      status = omega arith;
      value = λ small. absurd (omega (arith, small));
      err = λ _ before clean stands.
          let now = c.in-Err.ensures.err before clean stands in
          (now.0, now.1, now.2, inr (c.in-Err.cause, now.3, c.in-Err.ensures.failed));
      replay = λ before clean stands.
          let now = c.in-Err.ensures.err before clean stands in
          (now.0, now.1, now.2, stops-leaves old words before now.0 now.1 _ _ c.in-Err.cause now.3);
      clean = c.answer_single.ensures.clean;
    }
