use Rattle.std.proofs.Common.{◌≡◌, ◌++◌, map}
use Rattle.wb_states.specs.declared.scratch.BinaryRow.{BinaryRow}
use Rattle.wb_store.proofs.packages.versions_of.Given as goal

abbrev pub invariant-loop-row : goal.invariant-loop-row
invariant-loop-row l =
    l.versions.items ++ map (λ (row : BinaryRow). row.version) l.row-iterator.rest.items ≡ map (λ
    (row : BinaryRow). row.version) l.fn.rows.items
