use Rattle.std.proofs.Common.{◌≡◌, drop}
use Rattle.wb_archive.specs.Readers.{has_repeated_arch}
use Rattle.wb_archive.proofs.merge_from.has_repeated_arch.Given as goal

abbrev pub invariant-loop-place : goal.invariant-loop-place
invariant-loop-place g l = has_repeated_arch (drop l.place l.lists) ≡ has_repeated_arch l.lists
