-- Rows of which each has to fit those before it.
use Rattle.std.proofs.Common.{◌≡◌, ◌⊎◌, inl, inr, Bool, true, false, ◌||◌, List, [], ◌∷◌, ◌++◌, append_assoc, append-nil, map, filter, cond, refl, sym, ap, subst, ◌∙◌}
use Rattle.std.specs.List.{AllByRecursion, list_any}
use Rattle.sqlite.specs.Order.{Row}
use Rattle.wb_states.specs.declared.store_fault.StoreFault.{StoreFault}
use Rattle.wb_states.specs.declared.store_fault.StoreFault.TheVariants.{Memory}
use Rattle.wb_states.specs.declared.store_fault.Table.{Table}
use Rattle.wb_store.specs.Checks.{AllAfter, AreBadAfter, HoldsEach, IsRowOf}

module _ {X : Type 0} (Fits : List X → X → Type 0) where
  -- one more that fits
  pub all_after-append : (before xs : List X) (x : X) → AllAfter Fits before xs → Fits (before ++ xs) x → AllAfter Fits before (xs ++ x ∷ [])
  all_after-append before [] x all fit = (subst (λ l. Fits l x) (append-nil before) fit, tt)
  all_after-append before (y ∷ ys) x all fit =
      (all.0, all_after-append (before ++ y ∷ []) ys x all.1 (subst (λ l. Fits l x) (sym (append_assoc before (y ∷ []) ys)) fit))

module _ {X : Type 0} (columns : X → Row) (Fits : List X → X → Type 0) (same : (one other : List X) (x y : X) → Fits one x → Fits other y → columns x ≡ columns y → x ≡ y) where
  one_after : (done before xs : List X) (row : Row) (rest : List Row) → map columns before ++ row ∷ rest ≡ map columns xs → AllAfter Fits done before → AllAfter Fits done xs
      → IsRowOf columns (Fits (done ++ before)) row
  one_after done [] [] row rest is good all = cc
  one_after done [] (x ∷ xs) row rest is good all = (x, subst (λ l. Fits l x) (sym (append-nil done)) all.0, let first : row ≡ columns x = cc in first)
  one_after done (b ∷ before) [] row rest is good all = cc
  one_after done (b ∷ before) (x ∷ xs) row rest is good all =
      let first : columns x ≡ columns b = cc in
      let more : map columns before ++ row ∷ rest ≡ map columns xs = cc in
      let one : x ≡ b = same done done x b all.0 good.0 first in
      let found = one_after (done ++ x ∷ []) before xs row rest more (subst (λ y. AllAfter Fits (done ++ y ∷ []) before) (sym one) good.1) all.1 in
      let joined : (done ++ x ∷ []) ++ before ≡ done ++ b ∷ before = append_assoc done (x ∷ []) before ∙ ap (λ y. done ++ y ∷ before) one in
      subst (λ l. IsRowOf columns (Fits l) row) joined found

  -- where each fits those before it only memory can run out
  pub only_memory_after : (table : Table) (rows : List Row) (fault : StoreFault) → HoldsEach columns Fits rows → AreBadAfter table columns Fits rows fault → fault ≡ Memory
  only_memory_after table rows fault holds (inl memory) = memory
  only_memory_after table rows fault (xs, is, all) (inr (place, damaged, bad)) =
      absurd (bad.bad (one_after [] bad.before xs bad.row bad.rest (sym bad.all ∙ is) bad.good all))

-- lists whose columns are the same are one, where those that pass are told apart by their columns
pub map_injective_on : {X Y : Type 0} (f : X → Y) (P : X → Type 0) → ((x y : X) → P x → P y → f x ≡ f y → x ≡ y) → (xs ys : List X) → AllByRecursion P xs → AllByRecursion P ys → map f xs ≡ map f ys → xs ≡ ys
map_injective_on f P same [] [] all too is = refl
map_injective_on f P same [] (y ∷ ys) all too is = absurd (cc)
map_injective_on f P same (x ∷ xs) [] all too is = absurd (cc)
map_injective_on f P same (x ∷ xs) (y ∷ ys) all too is =
    let first : f x ≡ f y = cc in
    let rest : map f xs ≡ map f ys = cc in
    let one : x ≡ y = same x y all.0 too.0 first in
    let more : xs ≡ ys = map_injective_on f P same xs ys all.1 too.1 rest in
    cc

-- ---- at most one of a list passes a test

cut : {X : Type 0} (p : X → Bool) (before : List X) (x : X) (xs : List X) → p x ≡ true → filter p (before ++ x ∷ xs) ≡ [] → ⊥
cut p [] x xs is none = let there : x ∷ filter p xs ≡ [] = sym (ap (λ b. cond b (x ∷ filter p xs) (filter p xs)) is) ∙ none in cc
cut p (b ∷ before) x xs is none =
    elim (p b) as (λ r. cond r (b ∷ filter p (before ++ x ∷ xs)) (filter p (before ++ x ∷ xs)) ≡ [] → ⊥) [
      | true ↦ λ some. cc
      | false ↦ λ rest. cut p before x xs is rest
    ] none

-- none before one that passes, if at most one does
pub none_before : {X : Type 0} (p : X → Bool) (before : List X) (x : X) (xs : List X) → p x ≡ true → (filter p (before ++ x ∷ xs) ≡ []) ⊎ ((e : X) × (filter p (before ++ x ∷ xs) ≡ e ∷ []))
    → list_any p before ≡ false
none_before p [] x xs is few = refl
none_before {X} p (b ∷ before) x xs is few =
    elim (p b) as (λ r. (cond r (b ∷ filter p (before ++ x ∷ xs)) (filter p (before ++ x ∷ xs)) ≡ []) ⊎ ((e : X) × (cond r (b ∷ filter p (before ++ x ∷ xs)) (filter p (before ++ x ∷ xs)) ≡ e ∷ []))
    → (r || list_any p before) ≡ false) [
      | true ↦ λ more. absurd (elim more [ inl none ↦ (cc) | inr (e, one) ↦ cut p before x xs is (let rest : filter p (before ++ x ∷ xs) ≡ [] = cc in rest) ])
      | false ↦ λ rest. none_before p before x xs is rest
    ] few
