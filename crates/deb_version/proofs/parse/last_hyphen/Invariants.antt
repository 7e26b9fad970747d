use Rattle.std.proofs.Common.{◌≡◌, ◌<◌, ◌≤◌, ℕ, length, false, get_or}
use Rattle.deb_version.specs.Syntax.{is_hyphen}
use Rattle.deb_version.proofs.parse.last_hyphen.Given as goal

abbrev pub invariant-loop-end : goal.invariant-loop-end
invariant-loop-end l =
    (l.end ≤ length l.rest) × ((k : ℕ) → l.end ≤ k → k < length l.rest → is_hyphen (get_or l.rest k 0) ≡ false)

abbrev pub decreases-loop-end : goal.decreases-loop-end
decreases-loop-end l = l.end
