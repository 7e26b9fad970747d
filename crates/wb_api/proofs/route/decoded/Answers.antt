use Rattle.std.proofs.Common.{◌∙◌, sym, ap, subst, Ok}
use Rattle.std.specs.Str.{IsUtf8}
use Rattle.wb_api.proofs.Utf8Lemmas.{decoded_text-bad, decoded_text-ok}
use Rattle.wb_api.proofs.route.decoded.Goals as goal

pub returns-in_ok-into_owned-in-Ok : goal.returns-in_ok-into_owned-in-Ok
returns-in_ok-into_owned-in-Ok c =
    let utf8 = subst IsUtf8 c.percent_decode.ensures.bytes c.in-Ok.ensures.ok_only_if_utf8 in
    let text = c.from.ensures ∙ c.in_ok-into_owned-in-Ok.ensures.ok ∙ c.in-Ok.ensures.value ∙ c.percent_decode.ensures.bytes in
    record { value = decoded_text-ok c.args.part.now utf8 ∙ sym (ap Ok text) }

pub returns-in-Err-Utf8 : goal.returns-in-Err-Utf8
returns-in-Err-Utf8 c =
    record { value = decoded_text-bad c.args.part.now (λ utf8. let none = c.in-Err-Utf8.ensures.utf8 (subst IsUtf8 (sym c.percent_decode.ensures.bytes) utf8) in cc (none, c.in-Err-Utf8.field-0-is)) }
