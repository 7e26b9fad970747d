-- Whether the values that are left name parts is whether all do.
use Rattle.std.proofs.Common.{◌≡◌, drop}
use Rattle.std.specs.Prelude.{is_some}
use Rattle.serde_json.specs.View.{items_view}
use Rattle.wb_api.specs.Merges.{all_parts}
use Rattle.wb_api.proofs.merge.are_parts.Given as goal

abbrev pub invariant-loop-value : goal.invariant-loop-value
invariant-loop-value l =
    is_some (all_parts (items_view (drop l.value-index l.values))) ≡ is_some (all_parts (items_view l.values))
