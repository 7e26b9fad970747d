use Rattle.std.proofs.Common.{◌+◌, ◌∙◌, ap, sym}
use Rattle.wb_states.specs.declared.reply.Reply.TheVariants.{Done}
use Rattle.wb_states.specs.Machine.{Machine}
use Rattle.wb_step.specs.Outcomes.{forget_step}
use Rattle.wb_step.specs.Step.{counted}
use Rattle.wb_step.proofs.CarriesLemmas.{reaches-failed, reaches-kept, reaches-refused, reaches-returned}
use Rattle.wb_step.proofs.ForgetLemmas.{forget_step-StillHeld, forget_step-Spent, forget_step-made}
use Rattle.wb_step.proofs.SoughtLemmas.{known-arch, sought-is}
use Rattle.wb_step.proofs.removal.forget_named.Goals as goal

pub returns-in_err-current : goal.returns-in_err-current
returns-in_err-current c = record {
  reaches = reaches-returned c.from_residual.result c.from_residual.ensures.1
      (λ differs. c.in_err-current.ensures.refused differs (forget_step c.args.office.now));
}

pub returns-then-is_some : goal.returns-then-is_some
returns-then-is_some c = record {
  reaches = reaches-refused
      (sought-is c.args.office.now c.args.arch.now c.args.source.now c.args.version.now (forget_step c.args.office.now)
      _ c.in_ok-current.current.now (known-arch c.args.office.now c.args.arch.now c.in_ok-current.ensures.known)
      c.in_ok-current.ensures.value c.in_ok-current.ensures.ok
      ∙ forget_step-StillHeld c.args.office.now ((c.args.arch.now, c.args.source.now), c.in_ok-current.current.now)
      (sym c.is_some.ensures ∙ c.if-is_some.true));
}

pub returns-then-is_spent : goal.returns-then-is_spent
returns-then-is_spent c = record {
  reaches = reaches-refused
      (sought-is c.args.office.now c.args.arch.now c.args.source.now c.args.version.now (forget_step c.args.office.now)
      _ c.in_ok-current.current.now (known-arch c.args.office.now c.args.arch.now c.in_ok-current.ensures.known)
      c.in_ok-current.ensures.value c.in_ok-current.ensures.ok
      ∙ forget_step-Spent c.args.office.now ((c.args.arch.now, c.args.source.now), c.in_ok-current.current.now)
      (sym c.is_some.ensures ∙ c.if-is_some.false) (sym c.is_spent.ensures.value ∙ c.if-is_spent.true));
}

pub returns-in_err-forget : goal.returns-in_err-forget
returns-in_err-forget c = record {
  reaches = reaches-failed c.from_residual-in_err-forget.result
      c.from_residual-in_err-forget.ensures.1 c.in_err-forget.ensures.err;
}

pub returns : goal.returns
returns c = record {
  reaches = reaches-kept
      (sought-is c.args.office.now c.args.arch.now c.args.source.now c.args.version.now (forget_step c.args.office.now)
      _ c.in_ok-current.current.now (known-arch c.args.office.now c.args.arch.now c.in_ok-current.ensures.known)
      c.in_ok-current.ensures.value c.in_ok-current.ensures.ok
      ∙ forget_step-made c.args.office.now _ ((c.args.arch.now, c.args.source.now), c.in_ok-current.current.now) _
      (sym c.is_some.ensures ∙ c.if-is_some.false) (sym c.is_spent.ensures.value ∙ c.if-is_spent.false)
      (c.accept_one.ensures.reply ∙ ap (λ (m : Machine). Done (m.accepted + 1)) c.in_ok-forget.ensures.ok)
      (c.accept_one.ensures.ok ∙ ap (λ (m : Machine). counted m m) c.in_ok-forget.ensures.ok))
      tt tt;
}
