use Rattle.std.proofs.Common.{◌≡◌, ◌<◌, ℕ, true, get_or}
use Rattle.std.specs.Char.{is_ascii_digit}
use Rattle.deb_version.proofs.order.digits_len.Given as goal

abbrev pub invariant-loop-n : goal.invariant-loop-n
invariant-loop-n l =
    (k : ℕ) → k < l.n → is_ascii_digit (get_or l.part k 0) ≡ true
