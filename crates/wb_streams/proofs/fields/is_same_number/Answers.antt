use Rattle.std.proofs.Common.{ap₂, nat_lt, length, ◌∙◌, ◌&&◌, ◌==◌, ◌≡◌, true, sym}
use Rattle.std.specs.Str.Parse.{digits_value}
use Rattle.std.specs.Str.{bytes_eq}
use Rattle.std.specs.Char.{is_ascii_digit}
use Rattle.std.specs.List.{list_all}
use Rattle.std.proofs.lemmas.Bool.{and_parts}
use Rattle.wb_streams.specs.Fields.{is_number, is_same_number, without_zeros}
use Rattle.wb_streams.proofs.NumberLemmas.{same_number}
use Rattle.wb_streams.proofs.fields.is_same_number.Goals as goal

pub returns : goal.returns
unfolding is_same_number
returns c =
    let one : is_number c.args.one.now ≡ true = sym c.if-not-is_number.ensures.value in
    let other : is_number c.args.other.now ≡ true = sym c.if-not-is_number-2.ensures.value in
    let digits_one = (and_parts (nat_lt 0 (length c.args.one.now)) (list_all is_ascii_digit c.args.one.now) one).1 in
    let digits_other = (and_parts (nat_lt 0 (length c.args.other.now)) (list_all is_ascii_digit c.args.other.now) other).1 in
    let same = same_number c.args.one.now c.args.other.now digits_one digits_other in
    let read : c.eq.result ≡ bytes_eq (without_zeros c.args.one.now) (without_zeros c.args.other.now) =
    c.eq.ensures ∙ ap₂ bytes_eq c.without_zeros.ensures.value c.without_zeros-2.ensures.value in
    record { value = read ∙ same ∙ sym (ap₂ (λ a b. (a && b) && (digits_value 10 c.args.one.now == digits_value 10 c.args.other.now)) one other) }
