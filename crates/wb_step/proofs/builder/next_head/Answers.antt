use Rattle.std.proofs.Common.{◌∙◌, ap, sym, option_map}
use Rattle.std.proofs.lemmas.Result.{IfOk-weaker}
use Rattle.std.specs.Map.Iter.{deref_pair}
use Rattle.wb_step.proofs.CarriesLemmas.{reaches-refused, reaches-returned, reaches-kept}
use Rattle.wb_step.proofs.NextLemmas.{head_step-QueueEmpty, head_step-assignment}
use Rattle.wb_step.proofs.AssignmentLemmas.{assignment_step-kept}
use Rattle.wb_step.proofs.StepLemmas.{with-known}
use Rattle.wb_step.proofs.builder.next_head.Goals as goal

pub returns-in_default : goal.returns-in_default
returns-in_default c = record {
  reaches = reaches-refused
      (head_step-QueueEmpty c.args.office.now c.args.arch.now c.args.builder.now (sym (ap (option_map deref_pair) c.in_default.is) ∙ c.head-found.ensures.value));
}

pub returns-in_err-given : goal.returns-in_err-given
returns-in_err-given c = record {
  reaches = reaches-returned c.from_residual.result c.from_residual.ensures.1
      (λ differs.
      head_step-assignment c.args.office.now c.args.arch.now c.args.builder.now (deref_pair (c.in-Some.key, c.in-Some.current)) (sym (ap (option_map deref_pair) c.in-Some.is) ∙ c.head-found.ensures.value)
      ∙ c.in_err-given.ensures.refused differs);
}

pub returns : goal.returns
returns c = record {
  reaches = reaches-kept (IfOk-weaker c.keep_assignment.result _ _ (λ _ is.
      head_step-assignment c.args.office.now c.args.arch.now c.args.builder.now (deref_pair (c.in-Some.key, c.in-Some.current)) (sym (ap (option_map deref_pair) c.in-Some.is) ∙ c.head-found.ensures.value)
      ∙ assignment_step-kept c.args.office.now _ c.args.builder.now (deref_pair (c.in-Some.key, c.in-Some.current)) _ _ _
      c.in_ok-given.ensures.ok c.in_ok-given.ensures.room c.in_ok-given.ensures.value c.in_ok-given.ensures.reply is.0 is.1)
      (with-known c.keep_assignment.result _ _ c.keep_assignment.ensures.reply c.keep_assignment.ensures.ok))
      c.keep_assignment.ensures.refused c.keep_assignment.ensures.unchanged;
}
