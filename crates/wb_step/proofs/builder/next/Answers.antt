use Rattle.std.proofs.Common.{◌∙◌, ap, sym, Ok, Err}
use Rattle.wb_states.specs.declared.counts.Counts.{Counts}
use Rattle.wb_states.specs.declared.refusal.Refusal.TheVariants.{AfterAhead}
use Rattle.wb_states.specs.declared.reply.Reply.TheVariants.{Again}
use Rattle.wb_step.proofs.CarriesLemmas.{carries-refused, carries-returned, carries-reached}
use Rattle.wb_step.proofs.NextLemmas.{next-BadName, next-builder, next-AfterAhead, next-again, next-new}
use Rattle.wb_step.proofs.WantLemmas.{want-Next}
use Rattle.wb_step.proofs.builder.next.Goals as goal

pub returns-then-has_bad_request : goal.returns-then-has_bad_request
returns-then-has_bad_request c = record {
  carries = carries-refused
      (λ _. next-BadName c.args.office.now c.args.command.now.arch c.args.command.now.builder c.args.command.now.after (sym c.has_bad_request.ensures.value ∙ c.if-has_bad_request.true))
      (λ none. cc);
}

pub returns-in_err-check_builds : goal.returns-in_err-check_builds
returns-in_err-check_builds c = record {
  carries = carries-returned c.from_residual.result c.from_residual.ensures.1
      (λ differs. next-builder c.args.office.now c.args.command.now.arch c.args.command.now.builder c.args.command.now.after _ (sym c.has_bad_request.ensures.value ∙ c.if-has_bad_request.false) (c.in_err-check_builds.ensures.refused differs))
      (λ _. want-Next c.args.command.now.arch c.args.command.now.builder c.args.command.now.after (sym c.has_bad_request.ensures.value ∙ c.if-has_bad_request.false));
}

pub returns-then-is_ahead : goal.returns-then-is_ahead
returns-then-is_ahead c = record {
  carries = carries-refused
      (λ _. next-AfterAhead c.args.office.now c.args.command.now.arch c.args.command.now.builder c.args.command.now.after (sym c.has_bad_request.ensures.value ∙ c.if-has_bad_request.false) c.in_ok-check_builds.ensures.ok (sym (c.is_ahead.ensures.value c.args.office.now (ap (λ (counts : Counts). counts.handed) c.counts-counts.ensures.value)) ∙ c.if-is_ahead.true)
      ∙ (λ i. (Err (AfterAhead (sym c.counts-counts.ensures.value i).handed), c.args.office.now)))
      (λ none. cc);
}

pub returns-in-None : goal.returns-in-None
returns-in-None c = record {
  carries = carries-reached c.next_head.ensures.reaches
      (next-new c.args.office.now c.args.command.now.arch c.args.command.now.builder c.args.command.now.after (sym c.has_bad_request.ensures.value ∙ c.if-has_bad_request.false) c.in_ok-check_builds.ensures.ok (sym (c.is_ahead.ensures.value c.args.office.now (ap (λ (counts : Counts). counts.handed) c.counts-counts.ensures.value)) ∙ c.if-is_ahead.false) (sym c.in-None.is ∙ c.in_ok-held.ensures.value))
      (want-Next c.args.command.now.arch c.args.command.now.builder c.args.command.now.after (sym c.has_bad_request.ensures.value ∙ c.if-has_bad_request.false));
}

pub returns-in-Some : goal.returns-in-Some
returns-in-Some c = record {
  carries = record {
    reply = next-again c.args.office.now c.args.command.now.arch c.args.command.now.builder c.args.command.now.after c.in-Some.assignment (sym c.has_bad_request.ensures.value ∙ c.if-has_bad_request.false) c.in_ok-check_builds.ensures.ok (sym (c.is_ahead.ensures.value c.args.office.now (ap (λ (counts : Counts). counts.handed) c.counts-counts.ensures.value)) ∙ c.if-is_ahead.false) (sym c.in-Some.is ∙ c.in_ok-held.ensures.value)
        ∙ (λ i. (Ok (Again (sym c.counts-counts.ensures.value i).accepted c.in-Some.assignment), c.args.office.now));
    refused = tt;
    memory = tt;
    unchanged = tt;
  };
}
