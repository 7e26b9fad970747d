use Rattle.std.proofs.Common.{◌≡◌, drop, filter, None}
use Rattle.std.specs.Option.{option_copied}
use Rattle.wb_merge.specs.Listing.{best_from}
use Rattle.wb_merge.specs.Scratch.{build_cmp, is_build_of}
use Rattle.wb_merge.proofs.found.latest_build.Given as goal

abbrev pub invariant-loop-row : goal.invariant-loop-row
invariant-loop-row l =
    best_from build_cmp (option_copied l.best) (filter (is_build_of l.name) (drop l.row-index l.rows))
    ≡ best_from build_cmp None (filter (is_build_of l.name) l.rows)
