use Rattle.std.proofs.Common.{◌≡◌, ◌++◌, map}
use Rattle.wb_merge.specs.Scratch.{provided_columns}
use Rattle.wb_merge.proofs.scratch.push_provided.Given as goal

abbrev pub invariant-loop-given : goal.invariant-loop-given
invariant-loop-given l =
    l.kept.items ++ map (provided_columns l.at l.row) l.given-iterator.rest.items
    ≡ l.fn.kept.items ++ map (provided_columns l.at l.row) l.fn.provided.items
