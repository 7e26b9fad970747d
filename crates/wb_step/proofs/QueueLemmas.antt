-- The head of a queue, as a scan finds it, and what is true of it.
use Rattle.std.proofs.Common.{◌≡◌, ℕ, Bool, true, false, List, [], ◌∷◌, refl, sym, ap, subst, ◌∙◌, Option, Some, None, IfSome, T, if◌then◌else◌, filter, bytes_eq, ◌&&◌}
use denote.Enum.Bare.{sameb}
use Rattle.std.specs.declared.cmp.Ordering.{Ordering}
use Rattle.std.specs.declared.cmp.Ordering.TheVariants.{Less, Equal, Greater}
use Rattle.std.specs.Ordering.{is_lt, ordering_reverse}
use Rattle.std.specs.Cmp.{IsTotalOrder}
use Rattle.std.specs.FinMap as finite
use Rattle.wb_states.specs.declared.state.State.{State}
use Rattle.wb_states.specs.declared.state.State.TheVariants.{NeedsBuild, Building, Built, Uploaded, Installed, DepWait, BdUninstallable, Failed, NotForUs, BuildAttempted}
use Rattle.wb_states.specs.contracts.state.State.{the_type}
use Rattle.wb_states.specs.State.{is_needs_build}
use Rattle.wb_states.specs.Machine.{Machine}
use Rattle.wb_states.specs.Queue.{Entry, Place, place_of, place_cmp, entry_cmp, is_waiting, queue_of, head_of}
use Rattle.deb_text.specs.Lists.{first_of, sorted_by, with_item}
use Rattle.wb_states.proofs.QueueLemmas.{entry_cmp_total, head_of-waits}

-- the sooner of a first and an item, where the first stays at a tie
abbrev pub sooner : {X : Type 0} → (X → X → Ordering) → X → Option X → X
sooner R first None = first
sooner R first (Some x) = if is_lt (R x first) then x else first

-- the soonest item of a list and of what was found before it
abbrev pub scan : {X : Type 0} → (X → X → Ordering) → Option X → List X → Option X
scan R best [] = best
scan R None (x ∷ xs) = scan R (Some x) xs
scan R (Some best) (x ∷ xs) = scan R (Some (sooner R best (Some x))) xs

less : (r : Ordering) → is_lt r ≡ true → r ≡ Less
less Less h = refl
less Equal h = absurd (subst T (sym h) tt)
less Greater h = absurd (subst T (sym h) tt)

module _ {X : Type 0} {R : X → X → Ordering} (o : IsTotalOrder R) where
  -- what is less than a lesser is less
  less-less : (b x y : X) → is_lt (R x b) ≡ true → is_lt (R y x) ≡ true → is_lt (R y b) ≡ true
  less-less b x y p q = ap is_lt (o.trans y x b (less _ q) (less _ p))

  not-less : (b x y : X) → is_lt (R x b) ≡ false → is_lt (R y x) ≡ false → is_lt (R y b) ≡ false
  not-less b x y p q =
      elim (R y x) as (λ r. R y x ≡ r → is_lt r ≡ false → is_lt (R y b) ≡ false) [
        | Less ↦ λ e h. absurd (subst T h tt)
        | Equal ↦ λ e h. ap is_lt (o.congr y x b e) ∙ p
        | Greater ↦ λ e h. elim (R y b) as (λ s. R y b ≡ s → is_lt s ≡ false) [
          | Less ↦ λ f. absurd (subst T (sym (ap is_lt (o.trans x y b (o.antisymm x y ∙ ap ordering_reverse e) f)) ∙ p) tt)
          | Equal ↦ λ f. refl
          | Greater ↦ λ f. refl
        ] refl
      ] refl q

  joined : (b x : X) (f : Option X) → sooner R (sooner R b (Some x)) f ≡ sooner R b (Some (sooner R x f))
  joined b x None = refl
  joined b x (Some y) =
      elim (is_lt (R x b)) as (λ p. is_lt (R x b) ≡ p → sooner R (if p then x else b) (Some y) ≡ sooner R b (Some (sooner R x (Some y)))) [
        | true ↦ λ p. elim (is_lt (R y x)) as (λ q. is_lt (R y x) ≡ q → (if q then y else x) ≡ sooner R b (Some (if q then y else x))) [
          | true ↦ λ q. ap (λ t. if t then y else b) (sym (less-less b x y p q))
          | false ↦ λ q. ap (λ t. if t then x else b) (sym p)
        ] refl
        | false ↦ λ p. elim (is_lt (R y x)) as (λ q. is_lt (R y x) ≡ q → sooner R b (Some y) ≡ sooner R b (Some (if q then y else x))) [
          | true ↦ λ q. refl
          | false ↦ λ q. ap (λ t. if t then y else b) (not-less b x y p q) ∙ ap (λ t. if t then x else b) (sym p)
        ] refl
      ] refl

  first_of-with_item : (x : X) (ys : List X) → first_of (with_item R x ys) ≡ Some (sooner R x (first_of ys))
  first_of-with_item x [] = refl
  first_of-with_item x (y ∷ ys) = elim (is_lt (R y x)) as (λ b. first_of (if b then y ∷ with_item R x ys else x ∷ y ∷ ys) ≡ Some (if b then y else x)) [ true ↦ refl | false ↦ refl ]

  scan-some : (b : X) (xs : List X) → scan R (Some b) xs ≡ Some (sooner R b (first_of (sorted_by R xs)))
  scan-some b [] = refl
  scan-some b (x ∷ xs) =
      scan-some (sooner R b (Some x)) xs ∙ ap Some (joined b x (first_of (sorted_by R xs)))
      ∙ ap (λ f. Some (sooner R b f)) (sym (first_of-with_item x (sorted_by R xs)))

  -- a scan finds the first of the sorted list
  pub scan-all : (xs : List X) → scan R None xs ≡ first_of (sorted_by R xs)
  scan-all [] = refl
  scan-all (x ∷ xs) = scan-some x xs ∙ sym (first_of-with_item x (sorted_by R xs))

-- one step of a scan of the items that a test keeps
module _ {X : Type 0} (R : X → X → Ordering) (keeps : X → Bool) (best : Option X) (x : X) (items rest : List X) (all : Option X) (at : items ≡ x ∷ rest)
    (scanned : scan R best (filter keeps items) ≡ all) where
  -- an item that the test drops
  pub scan-drops : keeps x ≡ false → scan R best (filter keeps rest) ≡ all
  scan-drops h =
      sym (ap (λ xs. scan R best (filter keeps xs)) at ∙ ap (λ b. scan R best (if b then x ∷ filter keeps rest else filter keeps rest)) h) ∙ scanned

  kept : keeps x ≡ true → scan R best (x ∷ filter keeps rest) ≡ all
  kept h =
      sym (ap (λ xs. scan R best (filter keeps xs)) at ∙ ap (λ b. scan R best (if b then x ∷ filter keeps rest else filter keeps rest)) h) ∙ scanned

  -- the first item that the test keeps
  pub scan-starts : keeps x ≡ true → best ≡ None → scan R (Some x) (filter keeps rest) ≡ all
  scan-starts h none = sym (ap (λ found. scan R found (x ∷ filter keeps rest)) none) ∙ kept h

  against : (b : X) (is_less : Bool) → keeps x ≡ true → best ≡ Some b → is_lt (R x b) ≡ is_less → scan R (Some (if is_less then x else b)) (filter keeps rest) ≡ all
  against b is_less h some less =
      sym (ap (λ found. scan R found (x ∷ filter keeps rest)) some ∙ ap (λ t. scan R (Some (if t then x else b)) (filter keeps rest)) less) ∙ kept h

  -- an item that is sooner than the one found before
  pub scan-takes : (b : X) → keeps x ≡ true → best ≡ Some b → is_lt (R x b) ≡ true → scan R (Some x) (filter keeps rest) ≡ all
  scan-takes b = against b true

  -- an item that is not
  pub scan-stays : (b : X) → keeps x ≡ true → best ≡ Some b → is_lt (R x b) ≡ false → scan R best (filter keeps rest) ≡ all
  scan-stays b h some less = ap (λ found. scan R found (filter keeps rest)) some ∙ against b false h some less

same-is_needs_build : (state : State) → sameb the_type state NeedsBuild ≡ is_needs_build state
same-is_needs_build NeedsBuild = refl
same-is_needs_build Building = refl
same-is_needs_build Built = refl
same-is_needs_build Uploaded = refl
same-is_needs_build Installed = refl
same-is_needs_build DepWait = refl
same-is_needs_build BdUninstallable = refl
same-is_needs_build Failed = refl
same-is_needs_build NotForUs = refl
same-is_needs_build BuildAttempted = refl

and-false : (b : Bool) → (b && false) ≡ false
and-false true = refl
and-false false = refl

-- what the two tests of a record say of whether it waits
module _ (arch : List ℕ) (entry : Entry) where
  pub waits-both : true ≡ bytes_eq entry.0.0 arch → true ≡ sameb the_type entry.1.state NeedsBuild → is_waiting arch entry ≡ true
  waits-both p q = ap (λ b. b && is_needs_build entry.1.state) (sym p) ∙ sym (same-is_needs_build entry.1.state) ∙ sym q

  pub waits-not-arch : bytes_eq entry.0.0 arch ≡ false → is_waiting arch entry ≡ false
  waits-not-arch p = ap (λ b. b && is_needs_build entry.1.state) p

  pub waits-not-state : sameb the_type entry.1.state NeedsBuild ≡ false → is_waiting arch entry ≡ false
  waits-not-state q = ap (λ b. bytes_eq entry.0.0 arch && b) (sym (same-is_needs_build entry.1.state) ∙ q) ∙ and-false (bytes_eq entry.0.0 arch)

-- the comparison of the places of two entries
pub entry_cmp-by_places : (a b : Entry) (p q : Place) (s t : List ℕ) (result : Bool) → p ≡ place_of a.1 s → s ≡ a.0.1 → q ≡ place_of b.1 t → t ≡ b.0.1
    → result ≡ is_lt (place_cmp p q) → is_lt (entry_cmp a b) ≡ result
entry_cmp-by_places a b p q s t result e f g h l =
    let first : p ≡ place_of a.1 a.0.1 = e ∙ ap (place_of a.1) f in
    let second : q ≡ place_of b.1 b.0.1 = g ∙ ap (place_of b.1) h in
    sym (l ∙ (λ i. is_lt (place_cmp (first i) (second i))))

-- the scan of an architecture's waiting records finds the head of its queue
pub scan-head : (machine : Machine) (arch : List ℕ) → scan entry_cmp None (filter (is_waiting arch) (finite.entries machine.records)) ≡ head_of machine arch
unfolding head_of queue_of
scan-head machine arch = scan-all entry_cmp_total (filter (is_waiting arch) (finite.entries machine.records))

-- what is true of an entry at the head: it is of the architecture, it waits, and the records have it at its name
abbrev pub Heads : Machine → List ℕ → Entry → Type 0
Heads machine arch entry =
    (entry.0.0 ≡ arch) × ((entry.1.state ≡ NeedsBuild) × (finite.get machine.records (arch, entry.0.1) ≡ Some entry.1))

pub head-heads : (machine : Machine) (arch : List ℕ) → IfSome (head_of machine arch) (Heads machine arch)
head-heads machine arch = found (head_of machine arch) refl where
  found : (head : Option Entry) → head_of machine arch ≡ head → IfSome head (Heads machine arch)
  found None is = tt
  found (Some entry) is =
      let waits = head_of-waits machine arch entry is in
      (waits.1, (waits.2, ap (λ a. finite.get machine.records (a, entry.0.1)) (sym waits.1) ∙ waits.0))

-- the same of what is found to be the head
pub found-heads : (machine : Machine) (arch : List ℕ) (found : Option Entry) → found ≡ head_of machine arch
    → IfSome found (Heads machine arch)
found-heads machine arch found is =
    let P : Option Entry → Type 0 = λ head. IfSome head (Heads machine arch) in
    subst P (sym is) (head-heads machine arch)
