use Rattle.std.proofs.Common.{drop}
use Rattle.std.specs.BTreeSet.{contains}
use Rattle.deb_text.specs.Text.{text_cmp}
use Rattle.wb_archive.proofs.WaitedLemmas.{IsHalfWaited}
use Rattle.wb_archive.proofs.waited.names_of.Given as goal

abbrev pub invariant-loop-row : goal.invariant-loop-row
invariant-loop-row l = IsHalfWaited (contains text_cmp l.waited) l.rows (drop l.row-index l.rows)
