use Rattle.std.proofs.Common.{◌≡◌, map as each, vec_len}
use Rattle.wb_states.specs.Lookups.{entry_of}
use Rattle.wb_office.specs.Sought.{with_entries}
use Rattle.wb_office.proofs.named.part.add_rows.Given as goal

abbrev pub invariant-loop-row : goal.invariant-loop-row
invariant-loop-row l = with_entries l.store (each entry_of l.left.items) ≡ with_entries l.fn.store (each entry_of l.fn.rows.items)

abbrev pub decreases-loop-row : goal.decreases-loop-row
decreases-loop-row l = vec_len l.left
