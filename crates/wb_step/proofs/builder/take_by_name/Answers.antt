use Rattle.std.proofs.Common.{◌∙◌}
use Rattle.std.proofs.lemmas.Result.{IfOk-weaker}
use Rattle.wb_step.specs.Outcomes.{assignment_step}
use Rattle.wb_step.proofs.CarriesLemmas.{reaches-returned, reaches-kept}
use Rattle.wb_step.proofs.SoughtLemmas.{sought-first, sought-found, sought-is}
use Rattle.wb_step.proofs.AssignmentLemmas.{assignment_step-kept}
use Rattle.wb_step.proofs.StepLemmas.{with-known}
use Rattle.wb_step.proofs.builder.take_by_name.Goals as goal

pub returns-in_err-check_builds : goal.returns-in_err-check_builds
returns-in_err-check_builds c = record {
  reaches = reaches-returned c.from_residual.result c.from_residual.ensures.1
      (λ differs. sought-first c.args.office.now c.args.arch.now c.args.source.now c.args.version.now (assignment_step c.args.office.now c.args.builder.now) _ _
      (c.in_err-check_builds.ensures.refused differs));
}

pub returns-in_err-current : goal.returns-in_err-current
returns-in_err-current c = record {
  reaches = reaches-returned c.from_residual-in_err-current.result c.from_residual-in_err-current.ensures.1
      (λ differs. sought-found c.args.office.now c.args.arch.now c.args.source.now c.args.version.now (assignment_step c.args.office.now c.args.builder.now) _ _
      c.in_ok-check_builds.ensures.ok (c.in_err-current.ensures.refused differs));
}

pub returns-in_err-given : goal.returns-in_err-given
returns-in_err-given c = record {
  reaches = reaches-returned c.from_residual-in_err-given.result c.from_residual-in_err-given.ensures.1
      (λ differs. sought-is c.args.office.now c.args.arch.now c.args.source.now c.args.version.now (assignment_step c.args.office.now c.args.builder.now) _ c.in_ok-current.current.now
      c.in_ok-check_builds.ensures.ok c.in_ok-current.ensures.value c.in_ok-current.ensures.ok ∙ c.in_err-given.ensures.refused differs);
}

pub returns : goal.returns
returns c = record {
  reaches = reaches-kept (IfOk-weaker c.keep_assignment.result _ _ (λ _ is.
      sought-is c.args.office.now c.args.arch.now c.args.source.now c.args.version.now (assignment_step c.args.office.now c.args.builder.now) _ c.in_ok-current.current.now
      c.in_ok-check_builds.ensures.ok c.in_ok-current.ensures.value c.in_ok-current.ensures.ok
      ∙ assignment_step-kept c.args.office.now _ c.args.builder.now ((c.args.arch.now, c.args.source.now), c.in_ok-current.current.now) _ _ _
      c.in_ok-given.ensures.ok c.in_ok-given.ensures.room c.in_ok-given.ensures.value c.in_ok-given.ensures.reply is.0 is.1)
      (with-known c.keep_assignment.result _ _ c.keep_assignment.ensures.reply c.keep_assignment.ensures.ok))
      c.keep_assignment.ensures.refused c.keep_assignment.ensures.unchanged;
}
