use Rattle.std.proofs.Common.{◌≡◌, IsTrue}
use Rattle.std.specs.FinMap as finite
use Rattle.deb_relations.specs.Satisfaction.{no_pairs}
use Rattle.deb_text.specs.Text.{text_cmp}
use Rattle.wb_states.specs.declared.refusal.ListKind.TheVariants.{Packages}
use Rattle.wb_merge.specs.Rows.{binary_paragraph, binary_rows}
use Rattle.wb_merge.specs.Offers.{after_rows, with_binary, rows_at, number_of, HasPassed}
use Rattle.wb_merge.specs.Growth.{ahead_takes_memory, list_takes_memory}
use Rattle.wb_merge.proofs.listing.read_packages.Given as goal

abbrev pub invariant-loop-available : goal.invariant-loop-available
invariant-loop-available l = record {
  stands : HasPassed l.paragraphs l.passed;
  goes : after_rows (with_binary l.arch) (finite.from_entries {R = text_cmp} l.built.entries, l.available) (rows_at binary_paragraph Packages l.paragraphs)
      ≡ after_rows (with_binary l.arch) (finite.empty, no_pairs) (binary_rows l.packages);
  grown : IsTrue (ahead_takes_memory l.paragraphs.ahead) → IsTrue (list_takes_memory l.packages);
}

abbrev pub decreases-loop-available : goal.decreases-loop-available
decreases-loop-available l = number_of l.paragraphs.ahead
