use Rattle.std.proofs.Common.{◌≡◌, drop}
use Rattle.wb_archive.specs.Decides.{pairs_from, pairs_named}
use Rattle.wb_archive.specs.Tables.{Tables}
use Rattle.wb_archive.proofs.waits.available_of.Given as goal

abbrev pub invariant-loop-name : goal.invariant-loop-name
invariant-loop-name g l = record {
  follows : g.T.MergeTables.follows l.fn.tables l.tables;
  same : (at : Tables) → g.T.MergeTables.is_clean l.tables → g.T.MergeTables.holds l.fn.tables at → g.T.MergeTables.holds l.tables at;
  value : (at : Tables) → g.T.MergeTables.is_clean l.tables → g.T.MergeTables.holds l.fn.tables at
      → pairs_from at.now.binaries l.available (drop l.name-index l.names) ≡ pairs_named at.now.binaries l.names;
}
