-- One step of a merge: the record of one source package, what became of it, and the counts with it.
use Rattle.std.specs.Prelude.{◌≡◌, ℕ, ◌+◌, ◌≤◌, Option, if◌then◌else◌}
use Rattle.std.specs.Ordering.{eq_by_cmp}
use Rattle.std.specs.FinMap as finite
pub use Rattle.wb_states.specs.Machine.{Key}
use Rattle.deb_text.specs.Text.{pair_cmp}
use Rattle.wb_states.specs.declared.record.Record.{Record}
use Rattle.wb_states.specs.declared.reply.MergeCounts.{MergeCounts}
use Rattle.wb_merge.specs.declared.merge.Change.{Change}
use Rattle.wb_merge.specs.declared.merge.Change.TheVariants.{Absent, Added, Changed, Kept, Removed}
use Rattle.wb_merge.specs.Merged.{Records}

-- the record at a key
abbrev pub record_at : Records → Key → Option Record
record_at records key = finite.get records key

-- the second records have this record, or none, at the key, and at all other keys what the first records have
unfoldable pub IsSetAt : Records → Key → Option Record → Records → Type 0
IsSetAt old key value new =
    (other : Key) → record_at new other ≡ (if eq_by_cmp pair_cmp key other then value else record_at old other)

-- the counts and one change more
abbrev pub counted : MergeCounts → Change → MergeCounts
counted counts Absent = counts
counted counts Added = record counts { added = counts.added + 1 }
counted counts Changed = record counts { changed = counts.changed + 1 }
counted counts Kept = record counts { kept = counts.kept + 1 }
counted counts Removed = record counts { removed = counts.removed + 1 }

-- counts of which none is above a number
pub record AreWithin (limit : ℕ) (counts : MergeCounts) : Type 0 where
  pub added : counts.added ≤ limit
  pub changed : counts.changed ≤ limit
  pub kept : counts.kept ≤ limit
  pub removed : counts.removed ≤ limit
