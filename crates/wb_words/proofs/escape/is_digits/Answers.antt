-- Each of the bytes is a digit, and there is one.
use Rattle.std.proofs.Common.{◌∙◌, sym, ap, rules, tests, arith, ◌&&◌, ◌≡◌, true, nat_lt, length}
use Rattle.std.proofs.lemmas.Iterator.{YieldsList-from_slice}
use Rattle.std.proofs.lemmas.Iterator.Search.{all_from_yields_List}
use Rattle.std.proofs.lemmas.Bool.Decides.{nat_tests}
use Rattle.std.specs.Char.{is_ascii_digit}
use Rattle.std.specs.List.{list_all}
use Rattle.wb_words.proofs.escape.is_digits.Goals as goal

pub returns-then-not-is_empty : goal.returns-then-not-is_empty
returns-then-not-is_empty c =
    let digits = all_from_yields_List is_ascii_digit _ _ c.all.result c.all.ensures.ran (YieldsList-from_slice c.args.text.now cc) (λ x b q k. search (rules, tests)) in
    let filled : nat_lt 0 (length c.args.text.now) ≡ true = grind (arith, nat_tests) in
    record { value = digits ∙ sym (ap (λ b. b && list_all is_ascii_digit c.args.text.now) filled) }
