use Rattle.std.proofs.Common.{◌∙◌, ◌+◌, ◌<◌, ◌≤◌, ap, sym, arith}
use Rattle.std.proofs.lemmas.Int.Digits.{digits_value_more}
use Rattle.std.proofs.lemmas.List.{take_all}
use Rattle.std.proofs.lemmas.Str.Parse.{digits_value-take-le}
use Rattle.std.specs.Str.Parse.{digits_value}
use Rattle.wb_streams.specs.Fields.{body_limit}
use Rattle.std.specs.Prelude.{Ok}
use Rattle.wb_streams.proofs.FieldLemmas.{limited-large, limited-small}
use Rattle.wb_streams.proofs.NumberLemmas.{digit_at}
use Rattle.wb_streams.proofs.fields.limited.Goals as goal

pub returns-then-length-gt-BODY_LIMIT : goal.returns-then-length-gt-BODY_LIMIT
returns-then-length-gt-BODY_LIMIT c =
    let at = digit_at c.args.digits.now c.loop-digit.digit-index c.requires (omega arith) in
    let more = digits_value_more 10 c.args.digits.now c.loop-digit.digit-index (omega arith) in
    let most = digits_value-take-le 10 c.args.digits.now (c.loop-digit.digit-index + 1) (omega arith) in
    let large : body_limit < digits_value 10 c.args.digits.now = omega (arith, c.from.ensures) in
    record { value = sym (limited-large (digits_value 10 c.args.digits.now) large) }

pub loop-digit-preserved : goal.loop-digit-preserved
loop-digit-preserved c =
    let at = digit_at c.args.digits.now c.loop-digit.digit-index c.requires (omega arith) in
    let more = digits_value_more 10 c.args.digits.now c.loop-digit.digit-index (omega arith) in
    record { value = omega (arith, c.from.ensures); within = omega arith }

pub returns : goal.returns
returns c =
    let whole = ap (digits_value 10) (take_all c.loop-digit.digit-index c.args.digits.now (omega arith)) in
    let small : digits_value 10 c.args.digits.now ≤ body_limit = omega arith in
    record { value = ap Ok (c.loop-digit.invariant.value ∙ whole) ∙ sym (limited-small (digits_value 10 c.args.digits.now) small) }
