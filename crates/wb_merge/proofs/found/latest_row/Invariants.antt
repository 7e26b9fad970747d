use Rattle.std.proofs.Common.{◌≡◌, drop, filter, None}
use Rattle.std.specs.Option.{option_copied}
use Rattle.wb_merge.specs.Listing.{best_from, is_candidate}
use Rattle.wb_merge.specs.Scratch.{row_of_kept, version_row_cmp}
use Rattle.wb_merge.proofs.found.latest_row.Given as goal

abbrev pub invariant-loop-row : goal.invariant-loop-row
invariant-loop-row l =
    best_from version_row_cmp (option_copied l.best) (filter (λ row. is_candidate l.arch l.name (row_of_kept row)) (drop l.row-index l.rows))
    ≡ best_from version_row_cmp None (filter (λ row. is_candidate l.arch l.name (row_of_kept row)) l.rows)
