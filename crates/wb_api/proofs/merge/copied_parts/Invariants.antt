-- The parts that were copied, and those that the values name that are left, are those of all values.
use Rattle.std.proofs.Common.{◌≡◌, ◌++◌, drop, option_map}
use Rattle.serde_json.specs.View.{items_view}
use Rattle.wb_api.specs.Merges.{all_parts}
use Rattle.wb_api.proofs.merge.copied_parts.Given as goal

abbrev pub invariant-loop-value : goal.invariant-loop-value
invariant-loop-value l = option_map (λ parts. l.parts ++ parts) (all_parts (items_view (drop l.value-index l.values)))
    ≡ all_parts (items_view l.values)
