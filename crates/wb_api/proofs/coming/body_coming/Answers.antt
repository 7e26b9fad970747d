-- No head asks for so large a body that the end of the request is no number.
use Rattle.std.proofs.Common.{◌≡◌, ◌∙◌, ◌+◌, ◌≤◌, Ok, ap, arith}
use Rattle.std.proofs.Math.Nat.{min-eq_left}
use Rattle.wb_api.specs.Requests.{body_length, wanted_of_with}
use Rattle.wb_api.proofs.ComingLemmas.{wanted-limited}
use Rattle.wb_api.proofs.coming.body_coming.Goals as goal

pub returns-in-Ok-Body-clause-body : goal.returns-in-Ok-Body-clause-body
returns-in-Ok-Body-clause-body c = λ total head e at.
    let wants = c.in-Ok-Body.ensures.value c.args.count head at in
    let size : body_length (wanted_of_with c.args.service.now head) ≡ c.in-Ok-Body.length =
    ap body_length wants ∙ ap (λ w. body_length (Ok w)) c.in-Ok-Body.field-0-is in
    let limit = wanted-limited c.args.service.now head in
    let sum = c.args.count + c.in-Ok-Body.length in
    let fits : sum ≤ 18446744073709551615 = omega arith in
    let end : c.saturating_add.result ≡ sum = c.saturating_add.ensures ∙ min-eq_left fits in
    let last : c.saturating_add-in-Ok-Body.result ≡ sum = c.saturating_add-in-Ok-Body.ensures ∙ min-eq_left fits in
    let same : c.saturating_add-in-Ok-Body.result ≡ total = cc in
    (omega arith, omega arith, omega arith)
