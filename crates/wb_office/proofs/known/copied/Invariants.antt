use Rattle.std.proofs.Common.{◌≡◌, ◌++◌, drop}
use Rattle.wb_office.proofs.known.copied.Given as goal

abbrev pub invariant-loop-name : goal.invariant-loop-name
invariant-loop-name l = l.copy.items ++ drop l.name-index l.archs ≡ l.archs
