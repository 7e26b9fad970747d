use Rattle.std.proofs.Common.{◌≡◌, []}
use Rattle.std.specs.BTreeSet.{contains}
use Rattle.deb_control.specs.declared.fault.ControlFault.{ControlFault}
use Rattle.deb_text.specs.Text.{text_cmp}
use Rattle.wb_merge.specs.Scratch.{binary_rows_at}
use Rattle.wb_archive.specs.Fills.{binaries_wanted}
use Rattle.wb_archive.specs.Tables.{Tables, with_binaries}
use Rattle.wb_archive.proofs.FillLemmas.{IsHalfFilled, IsPlaced}
use Rattle.wb_archive.proofs.fill.fill_binaries.Given as goal

abbrev pub invariant-loop-passed : goal.invariant-loop-passed
invariant-loop-passed g l = record {
  follows : g.T.MergeTables.follows l.fn.tables l.tables;
  earlier : (fault : ControlFault) → g.R.ReadParagraphs.breaks l.list fault → g.R.ReadParagraphs.breaks l.fn.list fault;
  half : (at : Tables) → g.T.MergeTables.is_clean l.tables → g.T.MergeTables.holds l.fn.tables at
      → g.R.ReadParagraphs.passed l.fn.list ≡ 0 → at.now.binaries ≡ []
      → (filled : IsHalfFilled g.R.ReadParagraphs.may_stand_at (binary_rows_at l.arch)
      (binaries_wanted (contains text_cmp l.waited))
      (λ rows. g.T.MergeTables.holds l.tables (with_binaries rows at)) l.fn.list l.list (g.R.ReadParagraphs.passed l.list) l.passed)
      × IsPlaced (contains text_cmp l.waited) filled.done l.last l.placed;
}
