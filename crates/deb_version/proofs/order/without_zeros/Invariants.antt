use Rattle.std.proofs.Common.{◌≡◌, length, true}
use Rattle.std.specs.List.{list_all}
use Rattle.std.specs.Char.{is_ascii_digit}
use Rattle.deb_version.specs.Syntax.{value_of}
use Rattle.deb_version.proofs.order.without_zeros.Given as goal

abbrev pub invariant-loop-rest : goal.invariant-loop-rest
invariant-loop-rest l =
    (value_of l.rest ≡ value_of l.digits) × (list_all is_ascii_digit l.digits ≡ true → list_all is_ascii_digit l.rest ≡ true)

abbrev pub decreases-loop-rest : goal.decreases-loop-rest
decreases-loop-rest l = length l.rest
