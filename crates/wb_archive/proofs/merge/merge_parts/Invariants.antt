use Rattle.std.proofs.Common.{◌≡◌, ℕ, List, [], None}
use Rattle.std.specs.List.{AllByRecursion}
use Rattle.deb_relations.specs.declared.arch.ArchWords.{ArchWords}
use Rattle.wb_states.specs.Machine.{Machine}
use Rattle.wb_merge.specs.Changes.{NotesChanges}
use Rattle.wb_archive.specs.Merges.{BreaksFor, IsGiven, IsPartUnread}
use Rattle.wb_archive.specs.Parts.{IsPartEnd}
use Rattle.wb_archive.specs.Sources.{AreAllKnown, HasSources}
use Rattle.wb_archive.specs.Tables.{Tables, with_records}
use Rattle.wb_archive.proofs.MergeLemmas.{IsHalfMerged}
use Rattle.wb_archive.proofs.merge.merge_parts.Given as goal

abbrev pub invariant-loop-part : goal.invariant-loop-part
invariant-loop-part g l = record {
  follows : g.T.MergeTables.follows l.fn.tables l.tables;
  kinds : AllByRecursion (λ reply. IsPartEnd reply.end) l.replies.items;
  half : (at : Tables) (machine : Machine) (text : List ℕ) (archs : List ArchWords) → g.T.MergeTables.is_clean l.tables → g.T.MergeTables.holds l.fn.tables at
      → at.saved ≡ None → at.now.binaries ≡ [] → AllByRecursion (IsPartUnread g.R.ReadParagraphs.may_stand_at machine) l.fn.parts.items
      → HasSources text archs at.now.sources l.bad → AreAllKnown archs l.fn.parts.items
      → IsHalfMerged g.R.ReadParagraphs.may_stand_at machine archs (IsGiven (BreaksFor g.R.ReadParagraphs.breaks l.fn.parts.items) machine text l.bad)
      (λ records. g.T.MergeTables.holds l.tables (with_records records at)
      × NotesChanges l.fn.notes l.notes at.now.machine.records records) l.fn.parts.items at.now.machine.records l.replies.items l.part-iterator.rest.items;
}
