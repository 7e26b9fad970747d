use Rattle.std.proofs.Common.{◌≡◌, ◌+◌, drop, map}
use Rattle.wb_keys.specs.KeyFile.{keys_after, keys_of}
use Rattle.wb_keys.proofs.keys.Keys.read.Given as goal

abbrev pub invariant-loop-line : goal.invariant-loop-line
invariant-loop-line l =
    (keys_of l.file ≡ keys_after l.keys l.number (map (λ line. line.now) (drop l.line-index l.line-items)))
    × (l.number ≡ l.line-index + 1)
