use Rattle.std.proofs.Common.{◌∙◌}
use Rattle.std.proofs.lemmas.Result.{IfOk-weaker}
use Rattle.wb_step.specs.Outcomes.{move_step}
use Rattle.wb_step.proofs.CarriesLemmas.{reaches-returned, reaches-kept}
use Rattle.wb_step.proofs.SoughtLemmas.{known-arch, sought-is}
use Rattle.wb_step.proofs.MoveLemmas.{move_step-made}
use Rattle.wb_step.proofs.StepLemmas.{with-known}
use Rattle.wb_step.proofs.named.move_named.Goals as goal

pub returns-in_err-current : goal.returns-in_err-current
returns-in_err-current c = record {
  reaches = reaches-returned c.from_residual.result c.from_residual.ensures.1
      (λ differs. c.in_err-current.ensures.refused differs (λ entry. move_step c.args.office.now entry c.args.change));
}

pub returns-in_err-made : goal.returns-in_err-made
returns-in_err-made c = record {
  reaches = reaches-returned c.from_residual-in_err-made.result c.from_residual-in_err-made.ensures.1
      (λ differs. sought-is c.args.office.now c.args.arch.now c.args.source.now c.args.version.now (λ entry. move_step c.args.office.now entry c.args.change) _ c.in_ok-current.current.now (known-arch c.args.office.now c.args.arch.now c.in_ok-current.ensures.known)
      c.in_ok-current.ensures.value c.in_ok-current.ensures.ok ∙ c.in_err-made.ensures.refused differs);
}

pub returns : goal.returns
returns c = record {
  reaches = reaches-kept (IfOk-weaker c.keep_record.result _ _ (λ _ is.
      sought-is c.args.office.now c.args.arch.now c.args.source.now c.args.version.now (λ entry. move_step c.args.office.now entry c.args.change) _ c.in_ok-current.current.now (known-arch c.args.office.now c.args.arch.now c.in_ok-current.ensures.known)
      c.in_ok-current.ensures.value c.in_ok-current.ensures.ok
      ∙ move_step-made c.args.office.now _ ((c.args.arch.now, c.args.source.now), c.in_ok-current.current.now) c.args.change c.in_ok-made.made _
      c.in_ok-made.ensures.ok c.in_ok-made.ensures.room c.in_ok-made.ensures.value is.0 is.1)
      (with-known c.keep_record.result _ _ c.keep_record.ensures.reply c.keep_record.ensures.ok))
      c.keep_record.ensures.refused c.keep_record.ensures.unchanged;
}
