-- The best of a list is its first greatest, and nothing else is.
use Rattle.std.proofs.Common.{◌≡◌, ◌≢◌, Bool, true, false, cond, List, [], ◌∷◌, ◌++◌, Option, Some, None, IfSome, refl, sym, ap, subst, ◌∙◌, ◌⊎◌, inl, inr}
use Rattle.std.specs.List.{AllByRecursion}
use Rattle.std.specs.declared.cmp.Ordering.{Ordering}
use Rattle.std.specs.declared.cmp.Ordering.TheVariants.{Less, Equal, Greater}
use Rattle.std.specs.Ordering.{is_gt, ordering_reverse}
use Rattle.std.specs.Cmp.{IsTotalOrder, then_total, on_total, nat_cmp_total}
use Rattle.deb_version.specs.OrderLaws.{version_cmp_total}
use Rattle.wb_merge.specs.Listing.{IsFirstGreatest, IsGreatest, better, best_from, listed_cmp, built_cmp}

not-gt : (r : Ordering) → r ≢ Greater → is_gt r ≡ false
not-gt Less n = refl
not-gt Equal n = refl
not-gt Greater n = absurd (n refl)

gt-not : (r : Ordering) → is_gt r ≡ false → r ≢ Greater
gt-not r e g = clash (sym (ap is_gt g) ∙ e) where
  clash : true ≡ false → ⊥
  clash h = cc

gt-is : (r : Ordering) → is_gt r ≡ true → r ≡ Greater
gt-is Less e = cc
gt-is Equal e = cc
gt-is Greater e = refl

module _ {X : Type 0} {R : X → X → Ordering} (total : IsTotalOrder R) where
  turned : (x y : X) → R y x ≡ Greater → R x y ≡ Less
  turned x y e = total.antisymm x y ∙ ap ordering_reverse e

  turned_back : (x y : X) → R y x ≡ Less → R x y ≡ Greater
  turned_back x y e = total.antisymm x y ∙ ap ordering_reverse e

  -- an item that is not greater than one which is less than a third
  below : (r : Ordering) (x y z : X) → R x y ≡ r → r ≢ Greater → R y z ≡ Less → R x z ≡ Less
  below Less x y z e n h = total.trans x y z e h
  below Equal x y z e n h = total.congr x y z e ∙ h
  below Greater x y z e n h = absurd (n refl)

  -- what the best of one and a list is: the one, or the first greatest of the list
  abbrev Goes : X → List X → Option X → Type 0
  Goes best items found =
      ((found ≡ Some best) × AllByRecursion (λ other. R other best ≢ Greater) items)
      ⊎ ((item : X) × (found ≡ Some item) × IsFirstGreatest R items item × (R best item ≡ Less))

  goes-greater : (best next : X) (items : List X) (found : Option X) → R next best ≡ Greater → Goes next items found → Goes best (next ∷ items) found
  goes-greater best next items found g (inl stays) =
      inr (next, stays.0, record { before = []; behind = items; stands = refl; greater = tt; not_less = stays.1 }, turned best next g)
  goes-greater best next items found g (inr (item, is, first, less)) =
      inr (
        item,
        is,
        record { before = next ∷ first.before; behind = first.behind; stands = ap (λ (xs : List X). next ∷ xs) first.stands; greater = (less, first.greater); not_less = first.not_less },
        total.trans best next item (turned best next g) less,
      )

  goes-other : (best next : X) (items : List X) (found : Option X) → R next best ≢ Greater → Goes best items found → Goes best (next ∷ items) found
  goes-other best next items found n (inl stays) = inl (stays.0, (n, stays.1))
  goes-other best next items found n (inr (item, is, first, less)) =
      inr (item, is, record { before = next ∷ first.before; behind = first.behind; stands = ap (λ (xs : List X). next ∷ xs) first.stands; greater = (below (R next best) next best item refl n less, first.greater); not_less = first.not_less }, less)

  goes-next : (g : Bool) (best next : X) (items : List X) → is_gt (R next best) ≡ g
      → Goes (cond g next best) items (best_from R (Some (cond g next best)) items) → Goes best (next ∷ items) (best_from R (Some (cond g next best)) items)
  goes-next true best next items e h = goes-greater best next items _ (gt-is (R next best) e) h
  goes-next false best next items e h = goes-other best next items _ (gt-not (R next best) e) h

  goes : (best : X) (items : List X) → Goes best items (best_from R (Some best) items)
  goes best [] = inl (refl, tt)
  goes best (next ∷ items) = goes-next (is_gt (R next best)) best next items refl (goes (cond (is_gt (R next best)) next best) items)

  is-greatest : (x : X) (items : List X) (found : Option X) → Goes x items found → IsGreatest R (x ∷ items) found
  is-greatest x items found (inl stays) = subst (IsGreatest R (x ∷ items)) (sym stays.0)
      (record { before = []; behind = items; stands = refl; greater = tt; not_less = stays.1 })
  is-greatest x items found (inr (item, is, first, less)) = subst (IsGreatest R (x ∷ items)) (sym is)
      (record { before = x ∷ first.before; behind = first.behind; stands = ap (λ (xs : List X). x ∷ xs) first.stands; greater = (less, first.greater); not_less = first.not_less })

  pub best-is : (items : List X) → IsGreatest R items (best_from R None items)
  best-is [] = refl
  best-is (x ∷ items) = is-greatest x items (best_from R (Some x) items) (goes x items)

  -- ---- nothing else is

  better-next : (best : Option X) (item : X) → IfSome best (λ other. R other item ≡ Less) → better R best item ≡ item
  better-next None item less = refl
  better-next (Some best) item less = rw (turned_back item best less) refl

  better-less : (best : Option X) (next item : X) → IfSome best (λ other. R other item ≡ Less) → R next item ≡ Less → R (better R best next) item ≡ Less
  better-less None next item less e = e
  better-less (Some best) next item less e = one (is_gt (R next best)) where
    one : (g : Bool) → R (cond g next best) item ≡ Less
    one true = e
    one false = less

  stays : (item : X) (behind : List X) → AllByRecursion (λ other. R other item ≢ Greater) behind → best_from R (Some item) behind ≡ Some item
  stays item [] all = refl
  stays item (next ∷ behind) all = rw (not-gt (R next item) all.0) (stays item behind all.1)

  passed : (best : Option X) (item : X) (before behind : List X) → IfSome best (λ other. R other item ≡ Less) → AllByRecursion (λ other. R other item ≡ Less) before
      → best_from R best (before ++ item ∷ behind) ≡ best_from R (Some item) behind
  passed best item [] behind less all = ap (λ x. best_from R (Some x) behind) (better-next best item less)
  passed best item (next ∷ before) behind less all = passed (Some (better R best next)) item before behind (better-less best next item less all.0) all.1

  pub best-only : (items : List X) (found : Option X) → IsGreatest R items found → found ≡ best_from R None items
  best-only items None e = sym (ap (best_from R None) e)
  best-only items (Some item) first =
      sym (ap (best_from R None) first.stands ∙ passed None item first.before first.behind tt first.greater ∙ stays item first.behind first.not_less)

-- ---- the orders of what is listed and of what is built

pub listed_cmp_total : IsTotalOrder listed_cmp
listed_cmp_total = on_total (λ listed. listed.version) version_cmp_total

pub built_cmp_total : IsTotalOrder built_cmp
built_cmp_total = then_total (on_total (λ built. built.version) version_cmp_total) (on_total (λ built. built.number) nat_cmp_total)
