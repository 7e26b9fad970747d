-- Lemmas on the answers that clients at their places have.
use Rattle.std.proofs.Common.{◌≡◌, ◌∙◌, inl, inr, subst, ℕ, List, Option, slice_get}
use Rattle.wb_serve.specs.declared.client.Client.{Client}
use Rattle.wb_serve.specs.Places.{AreNotGiven, IsNotGiven, given_by}

-- no answer came twice: none came
pub not_given-then : (old mid new : Option (List ℕ)) → IsNotGiven old mid → IsNotGiven mid new → IsNotGiven old new
not_given-then old mid new first (inl none) = inl none
not_given-then old mid new (inl none) (inr same) = inl (same ∙ none)
not_given-then old mid new (inr before) (inr same) = inr (same ∙ before)

pub are_not_given-then : (old mid new : List (Option Client)) → AreNotGiven old mid → AreNotGiven mid new
    → AreNotGiven old new
are_not_given-then old mid new first then = λ place. not_given-then (given_by (slice_get old place))
    (given_by (slice_get mid place)) (given_by (slice_get new place)) (first place) (then place)

-- nor did any come if the places were the same before
pub are_not_given-same : (old mid new : List (Option Client)) → mid ≡ old → AreNotGiven mid new → AreNotGiven old new
are_not_given-same old mid new same first = subst (λ places. AreNotGiven places new) same first
