-- The order of the queue is the order of ranks, and of names where these are equal.
use Rattle.std.proofs.Common.{◌≡◌, ℕ, ◌+◌, ◌*◌, ◌<◌, ◌≤◌, ℤ, pos, ◌-ℤ◌, ◌<ℤ◌, ◌≤ℤ◌, neg_ℤ, nat_abs, Bool, true, false, cond, not, List, bytes_eq, refl, sym, ap, ◌∙◌, arith}
use Rattle.std.specs.declared.cmp.Ordering.{Ordering}
use Rattle.std.specs.declared.cmp.Ordering.TheVariants.{Less, Equal, Greater}
use Rattle.std.specs.Ordering.{nat_cmp, int_cmp, bool_cmp, ordering_then}
use Rattle.std.specs.Cmp.{nat_cmp_is, int_ranked}
use Rattle.std.specs.List.{position_or_len}
use Rattle.std.proofs.lemmas.Cmp.{ranked}
use Rattle.std.proofs.lemmas.Int.{ints}
use Rattle.std.proofs.lemmas.List.Sums.{prefix_len-le-length}
use Rattle.deb_text.specs.Text.{text_cmp}
use Rattle.wb_states.specs.declared.record.Record.{Record}
use Rattle.wb_states.specs.Limits.{is_build_priority}
use Rattle.wb_states.specs.Record.{IsWellFormed}
use Rattle.wb_states.specs.Queue.{below_greatest, newness, place_cmp, place_of, priorities, rank_of, sections, without_area}

-- an order and then another one, whose answer is that of two numbers
then-is : (x y a b m n : ℕ) → (x < y → m < n) → (x ≡ y → a < b → m < n) → (x ≡ y → a ≡ b → m ≡ n) → (x ≡ y → b < a → n < m) → (y < x → n < m)
    → ordering_then (nat_cmp x y) (nat_cmp a b) ≡ nat_cmp m n
then-is x y a b m n below first same last above =
    (elim (nat_cmp x y) as (λ r. r ≡ nat_cmp x y → ordering_then r (nat_cmp a b) ≡ nat_cmp m n) [
      | Less ↦ λ e. nat_cmp_is m n Less (below (ranked x y Less e))
      | Equal ↦ λ e. within (ranked x y Equal e) (nat_cmp a b) refl
      | Greater ↦ λ e. nat_cmp_is m n Greater (above (ranked x y Greater e))
    ]) refl
  where
    within : x ≡ y → (r : Ordering) → r ≡ nat_cmp a b → r ≡ nat_cmp m n
    within tie Less e = nat_cmp_is m n Less (first tie (ranked a b Less e))
    within tie Equal e = nat_cmp_is m n Equal (same tie (ranked a b Equal e))
    within tie Greater e = nat_cmp_is m n Greater (last tie (ranked a b Greater e))

then-in-turn : (one other last : Ordering) → ordering_then one (ordering_then other last) ≡ ordering_then (ordering_then one other) last
then-in-turn Less other last = refl
then-in-turn Equal other last = refl
then-in-turn Greater other last = refl

-- ---- the four parts of a rank

module _ (one other : Record) where
  by_newness : bool_cmp (not one.earlier) (not other.earlier) ≡ nat_cmp (newness one) (newness other)
  by_newness = compared one.earlier other.earlier where
    compared : (a b : Bool) → bool_cmp (not a) (not b) ≡ nat_cmp (cond a 0 1) (cond b 0 1)
    compared false false = refl
    compared false true = refl
    compared true false = refl
    compared true true = refl

within-limit : (value : ℤ) → is_build_priority value ≡ true → (neg_ℤ (pos 1000) ≤ℤ value) × (value ≤ℤ pos 1000)
within-limit value is = (grind (arith, ints), grind (arith, ints))

-- a greater build priority is less far from the greatest one
by_build_priority : (b c : ℤ) → b ≤ℤ pos 1000 → c ≤ℤ pos 1000 → int_cmp c b ≡ nat_cmp (nat_abs (pos 1000 -ℤ b)) (nat_abs (pos 1000 -ℤ c))
by_build_priority b c h k =
    (elim (int_cmp c b) as (λ r. r ≡ int_cmp c b → r ≡ nat_cmp (nat_abs (pos 1000 -ℤ b)) (nat_abs (pos 1000 -ℤ c))) [
      | Less ↦ λ e. let less : c <ℤ b = int_ranked c b Less e in nat_cmp_is (below b) (below c) Less (omega (arith, ints))
      | Equal ↦ λ e. let tie : c ≡ b = int_ranked c b Equal e in nat_cmp_is (below b) (below c) Equal (ap below (sym tie))
      | Greater ↦ λ e. let greater : b <ℤ c = int_ranked c b Greater e in nat_cmp_is (below b) (below c) Greater (omega (arith, ints))
    ]) refl
  where
    below : ℤ → ℕ
    below value = nat_abs (pos 1000 -ℤ value)

-- ---- the order of ranks

-- the place of a record's priority, and that of its section
abbrev priority : Record → ℕ
priority current = position_or_len (bytes_eq current.priority) priorities

abbrev section : Record → ℕ
section current = position_or_len (bytes_eq (without_area current.section)) sections

priority-most : (current : Record) → priority current ≤ 5
priority-most current = prefix_len-le-length (λ x. not (bytes_eq current.priority x)) priorities

section-most : (current : Record) → section current ≤ 28
section-most current = prefix_len-le-length (λ x. not (bytes_eq (without_area current.section) x)) sections

one-at-most : (earlier : Bool) → cond earlier 0 1 ≤ 1
one-at-most true = omega arith
one-at-most false = omega arith

-- the parts of one rank after those of another: how far the build priority is from the greatest one, newness, priority
-- and section
ranks-in-turn : (b n p s c m q t : ℕ) → n ≤ 1 → m ≤ 1 → p ≤ 5 → q ≤ 5 → s ≤ 28 → t ≤ 28
    → ordering_then (nat_cmp b c) (ordering_then (nat_cmp n m) (ordering_then (nat_cmp p q) (nat_cmp s t)))
    ≡ nat_cmp (b * 348 + (n * 6 + p) * 29 + s) (c * 348 + (m * 6 + q) * 29 + t)
ranks-in-turn b n p s c m q t n-most m-most p-most q-most s-most t-most =
    ap (λ r. ordering_then (nat_cmp b c) (ordering_then (nat_cmp n m) r)) by-section
    ∙ ap (ordering_then (nat_cmp b c)) by-priority ∙ by-all
  where
    by-section : ordering_then (nat_cmp p q) (nat_cmp s t) ≡ nat_cmp (p * 29 + s) (q * 29 + t)
    by-section = then-is p q s t (p * 29 + s) (q * 29 + t) (λ l. omega arith) (λ e l. omega arith) (λ e f. omega arith) (λ e l. omega arith) (λ l. omega arith)

    by-priority : ordering_then (nat_cmp n m) (nat_cmp (p * 29 + s) (q * 29 + t)) ≡ nat_cmp ((n * 6 + p) * 29 + s) ((m * 6 + q) * 29 + t)
    by-priority = then-is n m (p * 29 + s) (q * 29 + t) ((n * 6 + p) * 29 + s) ((m * 6 + q) * 29 + t) (λ l. omega arith) (λ e l. omega arith) (λ e f. omega arith) (λ e l. omega arith) (λ l. omega arith)

    by-all : ordering_then (nat_cmp b c) (nat_cmp ((n * 6 + p) * 29 + s) ((m * 6 + q) * 29 + t)) ≡ nat_cmp (b * 348 + (n * 6 + p) * 29 + s) (c * 348 + (m * 6 + q) * 29 + t)
    by-all = then-is b c ((n * 6 + p) * 29 + s) ((m * 6 + q) * 29 + t) (b * 348 + (n * 6 + p) * 29 + s) (c * 348 + (m * 6 + q) * 29 + t) (λ l. omega arith) (λ e l. omega arith) (λ e f. omega arith) (λ e l. omega arith) (λ l. omega arith)

pub rank-order : (one other : Record) (name another : List ℕ) → IsWellFormed one → IsWellFormed other
    → place_cmp (place_of one name) (place_of other another) ≡ ordering_then (nat_cmp (rank_of one) (rank_of other)) (text_cmp name another)
rank-order one other name another well also =
    ap (λ r. ordering_then r (ordering_then newer (ordering_then prior (ordering_then placed names))))
    (by_build_priority one.build_priority other.build_priority (within-limit one.build_priority well.build_priority).1 (within-limit other.build_priority also.build_priority).1)
    ∙ ap (λ r. ordering_then below (ordering_then r (ordering_then prior (ordering_then placed names)))) (by_newness one other)
    ∙ ap (λ r. ordering_then below (ordering_then fresh r)) (then-in-turn prior placed names)
    ∙ ap (ordering_then below) (then-in-turn fresh (ordering_then prior placed) names)
    ∙ then-in-turn below (ordering_then fresh (ordering_then prior placed)) names
    ∙ ap (λ r. ordering_then r names)
    (ranks-in-turn (below_greatest one) (newness one) (priority one) (section one) (below_greatest other) (newness other) (priority other) (section other)
    (one-at-most one.earlier) (one-at-most other.earlier) (priority-most one) (priority-most other) (section-most one) (section-most other))
  where
    below : Ordering
    below = nat_cmp (below_greatest one) (below_greatest other)

    newer : Ordering
    newer = bool_cmp (not one.earlier) (not other.earlier)

    fresh : Ordering
    fresh = nat_cmp (newness one) (newness other)

    prior : Ordering
    prior = nat_cmp (priority one) (priority other)

    placed : Ordering
    placed = nat_cmp (section one) (section other)

    names : Ordering
    names = text_cmp name another

pub rank-limit : (one : Record) → IsWellFormed one → rank_of one ≤ 696347
rank-limit one well =
    let range = within-limit one.build_priority well.build_priority in
    let below : below_greatest one ≤ 2000 = omega (arith, ints) in
    let fresh = one-at-most one.earlier in
    let prior = priority-most one in
    let placed = section-most one in
    omega arith
