-- The architectures so far are others, and nothing was appended.
use Rattle.std.proofs.Common.{◌≡◌, drop}
use Rattle.wb_journal.specs.Changes.{changes_of}
use Rattle.wb_journal.proofs.changes.push_known.Given as goal

abbrev pub invariant-loop-of_arch : goal.invariant-loop-of_arch
invariant-loop-of_arch l = record {
  same : l.out ≡ l.fn.out;
  left : changes_of (drop l.of_arch-index l.changes) l.arch ≡ changes_of l.changes l.arch;
}
