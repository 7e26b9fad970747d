use Rattle.std.proofs.Common.{◌∙◌, ap, sym}
use Rattle.std.proofs.lemmas.Int.{to_z-of_z}
use mir.Syntax.{w16}
use Rattle.std.proofs.lemmas.Result.{IfOk-weaker}
use Rattle.wb_states.specs.declared.record.Record.{Record}
use Rattle.wb_step.specs.Outcomes.{priority_step}
use Rattle.wb_step.proofs.CarriesLemmas.{reaches-refused, reaches-returned, reaches-kept}
use Rattle.wb_step.proofs.PriorityLemmas.{priority_step-Spent, priority_step-made}
use Rattle.wb_step.proofs.SoughtLemmas.{known-arch, sought-is}
use Rattle.wb_step.proofs.StepLemmas.{with-known}
use Rattle.wb_step.proofs.priority.prioritize.Goals as goal

pub returns-in_err-current : goal.returns-in_err-current
returns-in_err-current c = record {
  reaches = reaches-returned c.from_residual.result c.from_residual.ensures.1
      (λ differs. c.in_err-current.ensures.refused differs (λ entry. priority_step c.args.office.now entry c.args.build_priority));
}

pub returns-then-is_spent : goal.returns-then-is_spent
returns-then-is_spent c = record {
  reaches = reaches-refused
      (sought-is c.args.office.now c.args.arch.now c.args.source.now c.args.version.now (λ entry. priority_step c.args.office.now entry c.args.build_priority) _ c.in_ok-current.current.now (known-arch c.args.office.now c.args.arch.now c.in_ok-current.ensures.known)
      c.in_ok-current.ensures.value c.in_ok-current.ensures.ok
      ∙ priority_step-Spent c.args.office.now ((c.args.arch.now, c.args.source.now), c.in_ok-current.current.now) c.args.build_priority (sym c.is_spent.ensures.value ∙ c.if-is_spent.true));
}

pub returns : goal.returns
returns c = record {
  reaches = reaches-kept (IfOk-weaker c.keep_record.result _ _ (λ _ is.
      sought-is c.args.office.now c.args.arch.now c.args.source.now c.args.version.now (λ entry. priority_step c.args.office.now entry c.args.build_priority) _ c.in_ok-current.current.now (known-arch c.args.office.now c.args.arch.now c.in_ok-current.ensures.known)
      c.in_ok-current.ensures.value c.in_ok-current.ensures.ok
      ∙ priority_step-made c.args.office.now _ ((c.args.arch.now, c.args.source.now), c.in_ok-current.current.now) c.args.build_priority c.in_ok-made.made _
      (sym c.is_spent.ensures.value ∙ c.if-is_spent.false) (c.in_ok-made.ensures.value ∙ ap (λ (one : Record). ((c.args.arch.now, c.args.source.now), one)) c.in_ok-changed.ensures.value ∙ ap (λ value. ((c.args.arch.now, c.args.source.now), record c.in_ok-current.current.now { build_priority = value })) (to_z-of_z w16 c.args.build_priority c.ranges.build_priority)) is.0 is.1)
      (with-known c.keep_record.result _ _ c.keep_record.ensures.reply c.keep_record.ensures.ok))
      c.keep_record.ensures.refused c.keep_record.ensures.unchanged;
}
