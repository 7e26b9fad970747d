use Rattle.std.proofs.Common.{◌≡◌, ◌<◌, ℕ, true, get_or}
use Rattle.deb_relations.specs.Scanner.{test_of}
use Rattle.deb_relations.proofs.scanner.front_len.Given as goal

abbrev pub invariant-loop-n : goal.invariant-loop-n
invariant-loop-n l = (k : ℕ) → k < l.n → test_of l.class (get_or l.text k 0) ≡ true
