use Rattle.std.proofs.Common.{◌≡◌, ◌+◌, ◌++◌, List, length}
use Rattle.std.specs.BTreeSet.{contains}
use Rattle.deb_text.specs.Text.{text_cmp}
use Rattle.wb_states.specs.declared.scratch.BinaryRow.{BinaryRow}
use Rattle.wb_archive.specs.Fills.{binaries_behind, last_behind, numbered}
use Rattle.wb_archive.specs.Tables.{IsAfterBinaries, Tables, with_binaries}
use Rattle.wb_archive.proofs.FillLemmas.{IsHalfKept}
use Rattle.wb_archive.proofs.fill.keep_binaries.Given as goal

abbrev pub invariant-loop-row : goal.invariant-loop-row
invariant-loop-row g l = record {
  follows : g.T.MergeTables.follows l.fn.tables l.tables;
  count : l.placed + length l.row-iterator.rest.items ≡ l.fn.placed + length l.fn.rows.items;
  last : last_behind (contains text_cmp l.waited) l.last (numbered l.placed l.row-iterator.rest.items)
      ≡ last_behind (contains text_cmp l.waited) l.fn.last (numbered l.fn.placed l.fn.rows.items);
  half : (at : Tables) → g.T.MergeTables.is_clean l.tables → g.T.MergeTables.holds l.fn.tables at
      → IsAfterBinaries (l.fn.placed + 1) at.now.binaries
      → (kept : List BinaryRow) × (g.T.MergeTables.holds l.tables (with_binaries kept at)
      × IsHalfKept (contains text_cmp l.waited) (at.now.binaries ++ binaries_behind (contains text_cmp l.waited)
      l.fn.last (numbered l.fn.placed l.fn.rows.items))
      l.last l.placed l.row-iterator.rest.items kept);
}
