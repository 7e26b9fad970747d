use Rattle.std.proofs.Common.{◌≡◌, ◌+◌, []}
use Rattle.deb_control.specs.declared.fault.ControlFault.{ControlFault}
use Rattle.wb_merge.specs.Scratch.{source_row_at}
use Rattle.wb_archive.specs.Fills.{sources_wanted}
use Rattle.wb_archive.specs.Tables.{IsAfterSources, Tables, with_sources}
use Rattle.wb_archive.proofs.FillLemmas.{IsHalfFilled}
use Rattle.wb_archive.proofs.fill.fill_sources.Given as goal

abbrev pub invariant-loop-passed : goal.invariant-loop-passed
invariant-loop-passed g l = record {
  follows : g.T.MergeTables.follows l.fn.tables l.tables;
  earlier : (fault : ControlFault) → g.R.ReadParagraphs.breaks l.list fault → g.R.ReadParagraphs.breaks l.fn.list fault;
  half : (at : Tables) → g.T.MergeTables.is_clean l.tables → g.T.MergeTables.holds l.fn.tables at
      → g.R.ReadParagraphs.passed l.fn.list ≡ 0 → at.now.sources ≡ []
      → (filled : IsHalfFilled g.R.ReadParagraphs.may_stand_at source_row_at (sources_wanted l.archs)
      (λ rows. g.T.MergeTables.holds l.tables (with_sources rows at)) l.fn.list l.list
      (g.R.ReadParagraphs.passed l.list) l.passed)
      × IsAfterSources (l.passed + 1) (sources_wanted l.archs filled.done);
}
