use Rattle.std.proofs.Common.{◌≡◌, ◌++◌, drop, map as each, Ok}
use Rattle.wb_states.specs.Lookups.{entry_of}
use Rattle.wb_merge.specs.Changes.{NotesBetween}
use Rattle.wb_merge.specs.Reported.{rows_over, rows_reported, with_rows}
use Rattle.wb_store.specs.Finds.{Finds}
use Rattle.wb_office.proofs.reporting.find_rows.Given as goal

abbrev pub invariant-loop-source : goal.invariant-loop-source
invariant-loop-source g l =
    Finds g.S.Store (λ machine rows. (each entry_of rows.items ++ rows_over machine.records l.arch l.lines (drop l.source-index l.source-items)
    ≡ rows_reported machine.records l.arch l.lines)
    × NotesBetween l.fn.changes l.changes machine.records (with_rows machine.records (each entry_of rows.items)) l.arch) l.fn.store l.store (Ok l.rows)
