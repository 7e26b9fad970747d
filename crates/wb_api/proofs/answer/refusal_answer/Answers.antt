-- The text of a plain refusal needs no memory.
use Rattle.std.proofs.Common.{rules, inr}
use Rattle.std.proofs.lemmas.Bool.{false_from_ne_true}
use Rattle.wb_api.specs.Encoding.{is_plain}
use Rattle.wb_api.proofs.answer.refusal_answer.Goals as goal

pub returns-in-Err : goal.returns-in-Err
returns-in-Err c = record {
  value = λ machine. inr (
    false_from_ne_true (is_plain c.args.refusal.now) (λ plain. let given = c.in-Err.ensures.plain plain in absurd (search rules)),
    c.memory_answer.ensures.value machine,
  );
}
