use Rattle.std.proofs.Common.{drop}
use Rattle.wb_merge.specs.Changes.{NotesBetween}
use Rattle.wb_merge.specs.Steps.{AreWithin}
use Rattle.wb_archive.specs.Decides.{listing_at}
use Rattle.wb_archive.specs.Tables.{Tables, with_records}
use Rattle.wb_archive.proofs.DecideLemmas.{IsHalfDecided}
use Rattle.wb_archive.proofs.deciding.decide.Given as goal

abbrev pub invariant-loop-name : goal.invariant-loop-name
invariant-loop-name g l = record {
  follows : g.T.MergeTables.follows l.fn.tables l.tables;
  within : AreWithin l.name-index l.counts;
  half : (at : Tables) → g.T.MergeTables.is_clean l.tables → g.T.MergeTables.holds l.fn.tables at
      → IsHalfDecided (λ records. g.T.MergeTables.holds l.tables (with_records records at)
      × NotesBetween l.fn.changes l.changes at.now.machine.records records l.arch.name) at.now.machine.records l.arch.name (listing_at l.arch at.now) l.counts
      (drop l.name-index l.name-items);
}
