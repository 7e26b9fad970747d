use Rattle.std.proofs.Common.{◌∙◌, ap, take, arith}
use Rattle.std.specs.List.{list_all}
use Rattle.std.specs.Char.{is_ascii_digit}
use Rattle.std.proofs.lemmas.List.Sums.{prefix_len-le-length}
use Rattle.deb_version.proofs.OrderLemmas.{all_digits}
use Rattle.deb_version.proofs.order.split_digits.Goals as goal

pub split_at-requires : goal.split_at-requires
split_at-requires c = omega (arith, c.digits_len.ensures, prefix_len-le-length is_ascii_digit c.args.part.now)

pub returns-clause-digits : goal.returns-clause-digits
returns-clause-digits c =
    ap (list_all is_ascii_digit) (c.split_at.ensures.front ∙ ap (λ n. take n c.args.part.now) c.digits_len.ensures)
    ∙ all_digits c.args.part.now
