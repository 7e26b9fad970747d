-- Small tests of lists, and lists in order.
use Rattle.std.specs.Prelude.{◌≡◌, ◌⊎◌, Bool, true, false, List, [], ◌∷◌, if◌then◌else◌, Option}
use Rattle.std.specs.declared.cmp.Ordering.{Ordering}
use Rattle.std.specs.Ordering.{is_lt}
use Rattle.std.specs.List.{slice_get}

-- whether a list has an item
abbrev pub is_nonempty : {X : Type 0} → List X → Bool
is_nonempty [] = false
is_nonempty (x ∷ xs) = true

-- whether the first item of a list passes a test
abbrev pub begins : {X : Type 0} → (X → Bool) → List X → Bool
begins test [] = false
begins test (x ∷ _) = test x

-- the first of a list, or none
abbrev pub first_of : {X : Type 0} → List X → Option X
first_of xs = slice_get xs 0

-- an item stands in a list
abbrev pub IsIn : {X : Type 0} → X → List X → Type 0
IsIn item [] = ⊥
IsIn item (x ∷ xs) = (item ≡ x) ⊎ IsIn item xs

-- a list with one more item, before the first item that is not below it
abbrev pub with_item : {X : Type 0} → (X → X → Ordering) → X → List X → List X
with_item cmp item [] = item ∷ []
with_item cmp item (x ∷ xs) = if is_lt (cmp x item) then x ∷ with_item cmp item xs else item ∷ x ∷ xs

-- the items of a list in ascending order
abbrev pub sorted_by : {X : Type 0} → (X → X → Ordering) → List X → List X
sorted_by cmp [] = []
sorted_by cmp (x ∷ xs) = with_item cmp x (sorted_by cmp xs)
