use Rattle.std.proofs.Common.{◌∙◌, ap, sym, option_map}
use Rattle.std.proofs.lemmas.Result.{IfOk-weaker}
use Rattle.std.specs.Map.Iter.{deref_pair}
use Rattle.wb_states.specs.declared.moves.Move.TheVariants as to
use Rattle.wb_states.specs.Machine.{arch_words}
use Rattle.wb_step.specs.Outcomes.{move_step}
use Rattle.wb_step.proofs.CarriesLemmas.{reaches-memory, reaches-refused, reaches-returned, reaches-kept}
use Rattle.wb_step.proofs.HeldLemmas.{taken_step-NotHeld, taken_step-moves}
use Rattle.wb_step.proofs.MoveLemmas.{move_step-made}
use Rattle.wb_step.proofs.StepLemmas.{with-known}
use Rattle.wb_step.proofs.holder.wait_taken.Goals as goal

pub returns-in_default : goal.returns-in_default
returns-in_default c = record {
  reaches = reaches-refused
      (taken_step-NotHeld c.args.office.now c.args.take_number
      (λ entry. to.Waits c.args.relations (arch_words c.args.office.now entry.0.0))
      (sym (sym (ap (option_map deref_pair) c.in_default.is) ∙ c.by_take-found.ensures.value)));
}

pub returns-in_err-words : goal.returns-in_err-words
returns-in_err-words c = record { reaches = reaches-memory c.from_residual.result c.from_residual.ensures.1 }

pub returns-in_err-made : goal.returns-in_err-made
returns-in_err-made c = record {
  reaches = reaches-returned c.from_residual-in_err-made.result c.from_residual-in_err-made.ensures.1
      (λ differs. taken_step-moves c.args.office.now c.args.take_number
      (λ entry. to.Waits c.args.relations (arch_words c.args.office.now entry.0.0))
      (deref_pair (c.in-Some.key, c.in-Some.current))
      (sym (sym (ap (option_map deref_pair) c.in-Some.is) ∙ c.by_take-found.ensures.value))
      ∙ (λ i. move_step c.args.office.now (deref_pair (c.in-Some.key, c.in-Some.current))
      (to.Waits c.args.relations (sym c.in_ok-words.ensures.value i)))
      ∙ c.in_err-made.ensures.refused differs);
}

pub returns : goal.returns
returns c = record {
  reaches = reaches-kept (IfOk-weaker c.keep_record.result _ _ (λ _ is.
      taken_step-moves c.args.office.now c.args.take_number
      (λ entry. to.Waits c.args.relations (arch_words c.args.office.now entry.0.0))
      (deref_pair (c.in-Some.key, c.in-Some.current))
      (sym (sym (ap (option_map deref_pair) c.in-Some.is) ∙ c.by_take-found.ensures.value))
      ∙ (λ i. move_step c.args.office.now (deref_pair (c.in-Some.key, c.in-Some.current))
      (to.Waits c.args.relations (sym c.in_ok-words.ensures.value i)))
      ∙ move_step-made c.args.office.now _ (deref_pair (c.in-Some.key, c.in-Some.current))
      (to.Waits c.args.relations c.in_ok-words.words) c.in_ok-made.made _
      c.in_ok-made.ensures.ok c.in_ok-made.ensures.room c.in_ok-made.ensures.value is.0 is.1)
      (with-known c.keep_record.result _ _ c.keep_record.ensures.reply c.keep_record.ensures.ok))
      c.keep_record.ensures.refused c.keep_record.ensures.unchanged;
}
