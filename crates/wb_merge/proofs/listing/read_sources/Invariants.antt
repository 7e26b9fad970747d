use Rattle.std.proofs.Common.{◌≡◌, IsTrue}
use Rattle.std.specs.FinMap as finite
use Rattle.deb_text.specs.Text.{text_cmp}
use Rattle.wb_states.specs.declared.refusal.ListKind.TheVariants.{Sources}
use Rattle.wb_merge.specs.Rows.{source_paragraph, source_rows}
use Rattle.wb_merge.specs.Offers.{after_rows, with_listed, rows_at, number_of, HasPassed}
use Rattle.wb_merge.specs.Growth.{ahead_takes_memory, list_takes_memory}
use Rattle.wb_merge.proofs.listing.read_sources.Given as goal

abbrev pub invariant-loop-listed : goal.invariant-loop-listed
invariant-loop-listed l = record {
  stands : HasPassed l.paragraphs l.passed;
  goes : after_rows (with_listed l.arch) (finite.from_entries {R = text_cmp} l.listed.entries) (rows_at source_paragraph Sources l.paragraphs)
      ≡ after_rows (with_listed l.arch) finite.empty (source_rows l.sources);
  grown : IsTrue (ahead_takes_memory l.paragraphs.ahead) → IsTrue (list_takes_memory l.sources);
}

abbrev pub decreases-loop-listed : goal.decreases-loop-listed
decreases-loop-listed l = number_of l.paragraphs.ahead
