use Rattle.std.proofs.Common.{◌≡◌, ap, ◌∙◌, subst}
use Rattle.std.specs.Cow.{IsBorrowedStr}
use Rattle.wb_api.specs.Encoding.{is_plain, refusal_text}
use Rattle.wb_api.proofs.PlainLemmas.{refusal_text-Memory}
use Rattle.wb_api.proofs.refusal.refusal_json.Goals as goal

pub returns-in-Ok-clause-memory : goal.returns-in-Ok-clause-memory
returns-in-Ok-clause-memory c = λ h.
    let given = c.in-Ok.ensures.plain (ap is_plain h) in
    let same : given.0 ≡ c.in-Ok.text = cc given.1 in
    (subst IsBorrowedStr same given.2, c.in-Ok.ensures.value ∙ ap refusal_text h ∙ refusal_text-Memory)
