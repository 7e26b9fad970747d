use Rattle.std.proofs.Common.{◌≡◌, length, false, get_or, arith, sym}
use Rattle.std.specs.Char.{is_ascii_digit}
use Rattle.std.proofs.lemmas.List.Sums.{prefix_len_is}
use Rattle.std.proofs.lemmas.Bool.Decides.{nat_tests}
use Rattle.deb_version.proofs.order.digits_len.Goals as goal

pub returns : goal.returns
returns c =
    sym (prefix_len_is is_ascii_digit c.args.part.now (length c.args.part.now) 0 (omega arith) (λ k h. c.loop-n.invariant k (omega arith)) (λ h. absurd (omega arith)))

pub returns-then-not-is_ascii_digit : goal.returns-then-not-is_ascii_digit
returns-then-not-is_ascii_digit c =
    let at : is_ascii_digit (get_or c.args.part.now c.loop-n.n 0) ≡ false = grind (arith, nat_tests) in
    sym (prefix_len_is is_ascii_digit c.args.part.now c.loop-n.n 0 (omega arith) c.loop-n.invariant (λ _. at))
