-- The changes so far are noted.
use Rattle.std.proofs.Common.{◌≡◌, map, take}
use Rattle.wb_journal.specs.Appended.{noted}
use Rattle.wb.proofs.journal.log_of.Given as goal

abbrev pub invariant-loop-of_arch : goal.invariant-loop-of_arch
invariant-loop-of_arch l = map (λ given. noted given.0) l.log.items ≡ map noted (take l.of_arch-index l.changes)
