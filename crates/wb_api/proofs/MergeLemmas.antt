-- The parts of a merge that the values of an array name.
use Rattle.std.proofs.Common.{◌≡◌, refl, sym, ap, ◌∙◌, false, ◌==◌, List, [], ◌∷◌, length, Option, Some}
use Rattle.std.proofs.lemmas.Bool.{false≢true}
use Rattle.std.specs.Prelude.{option_and_then}
use Rattle.serde_json.specs.Data.{Items}
use Rattle.serde_json.specs.View.{items_view}
use Rattle.serde_json.specs.declared.value.Value.{Value}
use Rattle.wb_api.specs.Merges.{all_parts, some_parts}

-- one value or more
filled : (values : List Value) → (length values == 0) ≡ false
    → some_parts (items_view values) ≡ all_parts (items_view values)
filled [] none = absurd (false≢true (sym none))
filled (value ∷ values) none = refl

-- what an array of one value or more names is what its values name
pub some_parts_are : (values : List Value) (found : Option Items) → found ≡ Some (items_view values)
    → (length values == 0) ≡ false → all_parts (items_view values) ≡ option_and_then some_parts found
some_parts_are values found is none = sym (ap (option_and_then some_parts) is ∙ filled values none)
