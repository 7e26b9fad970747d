-- A take number finds its record, and what a builder holds ascends by take number.
use Rattle.std.proofs.Common.{◌≡◌, ◌≢◌, ◌↔◌, ℕ, ◌<◌, ◌≤◌, Bool, true, false, cond, ◌&&◌, List, [], ◌∷◌, filter, Option, Some, None, is_some, unwrap_or, IfSome, bytes_eq, nat_eq, nat_lt, inl, inr, refl, sym, ap, subst, ◌∙◌, arith}
use Rattle.std.specs.List.{AllByRecursion, find}
use Rattle.std.specs.List.Sorted.{IsStrictlySortedBy}
use Rattle.std.specs.declared.cmp.Ordering.TheVariants.{Less, Equal, Greater}
use Rattle.std.specs.Ordering.{is_lt}
use Rattle.std.specs.Cmp.{on_total}
use Rattle.std.specs.FinMap as finite
use Rattle.std.proofs.lemmas.Bool.{eqb-true, eq-eqb, and_from}
use Rattle.std.proofs.lemmas.Bool.Decides.{nat_tests}
use Rattle.std.proofs.lemmas.Cmp.{ranked, nat_cmp_total}
use Rattle.std.proofs.lemmas.Slice.Eq.{bytes_eq-Decides}
use Rattle.wb_states.specs.declared.record.Record.{Record}
use Rattle.wb_states.specs.declared.state.State.{State}
use Rattle.wb_states.specs.declared.state.State.TheVariants.{NeedsBuild, Building, Built, Uploaded, Installed, DepWait, BdUninstallable, Failed, NotForUs, BuildAttempted}
use Rattle.wb_states.specs.State.{code_of}
use Rattle.wb_states.specs.Machine.{Machine, HasDistinctTakes, IsConsistent, IsRecord}
use Rattle.wb_states.specs.Holds.{is_taken_as, taken_as, is_held_by, take_of, take_cmp, held_of, is_building_after, building_after, IsBuildingAfter}
use Rattle.deb_text.specs.Options.{has_value}
use Rattle.wb_states.specs.Queue.{Entry}
use Rattle.deb_text.specs.Lists.{IsIn, with_item, sorted_by}
use Rattle.deb_text.proofs.KeyLemmas.{pair_cmp_total}
use Rattle.wb_states.proofs.QueueLemmas.{IsIn-entries}
use Rattle.deb_text.proofs.SortedLemmas.{Apart, apart-filter, first_of-is, first_of-some, IsIn-filter, IsIn-sorted_by, sorted-sorted_by}

-- ---- what stands under a take number

value-is : (take_number : ℕ) (take : Option ℕ) → has_value (nat_eq take_number) take ≡ true ↔ (take ≡ Some take_number)
value-is take_number None = (λ h. absurd cc, λ h. absurd cc)
value-is take_number (Some other) =
    (λ h. ap Some (sym (eqb-true take_number other h)), λ h. eq-eqb take_number other (sym (same other take_number h)))
  where
    same : (x y : ℕ) → Some x ≡ Some y → x ≡ y
    same x y e = cc

-- a record that is kept, and has the take number
abbrev IsTaken : Machine → ℕ → Entry → Type 0
IsTaken machine take_number entry = (finite.get machine.records entry.0 ≡ Some entry.1) × (entry.1.take ≡ Some take_number)

taken-in : (machine : Machine) (take_number : ℕ) (entry : Entry)
    → IsIn entry (filter (is_taken_as take_number) (finite.entries machine.records)) ↔ IsTaken machine take_number entry
taken-in machine take_number entry =
    let kept = IsIn-filter (is_taken_as take_number) entry (finite.entries machine.records) in
    let there = IsIn-entries machine entry in
    let named = value-is take_number entry.1.take in
    (λ h. (there.0 (kept.0 h).0, named.0 (kept.0 h).1), λ h. kept.1 (there.1 h.0, named.1 h.1))

pub taken_as-is : (machine : Machine) (take_number : ℕ) (entry : Entry) → taken_as machine take_number ≡ Some entry → IsTaken machine take_number entry
unfolding taken_as
taken_as-is machine take_number entry is =
    (taken-in machine take_number entry).0 (first_of-is (filter (is_taken_as take_number) (finite.entries machine.records)) entry is)

pub taken_as-only : (machine : Machine) (take_number : ℕ) (entry : Entry) → HasDistinctTakes machine → IsTaken machine take_number entry
    → taken_as machine take_number ≡ Some entry
unfolding taken_as
taken_as-only machine take_number entry distinct taken =
    let found = first_of-some (filter (is_taken_as take_number) (finite.entries machine.records)) entry ((taken-in machine take_number entry).1 taken) in
    let first = found.0 in
    let other = (taken-in machine take_number first).0 (first_of-is (filter (is_taken_as take_number) (finite.entries machine.records)) first found.1) in
    let key : first.0 ≡ entry.0 = distinct first.0 entry.0 first.1 entry.1 take_number other.0 taken.0 other.1 taken.1 in
    let value : first.1 ≡ entry.1 = same first.1 entry.1 (sym other.0 ∙ ap (finite.get machine.records) key ∙ taken.0) in
    found.1 ∙ (λ i. Some (key i, value i))
  where
    same : (x y : Record) → Some x ≡ Some y → x ≡ y
    same x y e = cc

pub taken_as-none : (machine : Machine) (take_number : ℕ) (entry : Entry) → taken_as machine take_number ≡ None
    → finite.get machine.records entry.0 ≡ Some entry.1 → entry.1.take ≢ Some take_number
unfolding taken_as
taken_as-none machine take_number entry none kept is =
    let found = first_of-some (filter (is_taken_as take_number) (finite.entries machine.records)) entry ((taken-in machine take_number entry).1 (kept, is)) in
    apart found.0 (sym none ∙ found.1)
  where
    apart : (x : Entry) → None ≡ Some x → ⊥
    apart x e = cc

-- ---- what a builder holds

pub text-is : (builder : List ℕ) (holder : Option (List ℕ)) → has_value (bytes_eq builder) holder ≡ true ↔ (holder ≡ Some builder)
text-is builder None = (λ h. absurd cc, λ h. absurd cc)
text-is builder (Some other) =
    let same = bytes_eq-Decides builder other in
    (λ h. ap Some (sym (same.0 h)), λ h. same.1 (sym (only other builder h)))
  where
    only : (x y : List ℕ) → Some x ≡ Some y → x ≡ y
    only x y e = cc

pub held_of-in : (machine : Machine) (builder : List ℕ) (entry : Entry)
    → IsIn entry (held_of machine builder) ↔ ((finite.get machine.records entry.0 ≡ Some entry.1) × (entry.1.holder ≡ Some builder))
unfolding held_of
held_of-in machine builder entry =
    let sorted = IsIn-sorted_by take_cmp entry (filter (is_held_by builder) (finite.entries machine.records)) in
    let kept = IsIn-filter (is_held_by builder) entry (finite.entries machine.records) in
    let there = IsIn-entries machine entry in
    let held = text-is builder entry.1.holder in
    (λ h. let here = kept.0 (sorted.0 h) in (there.0 here.0, held.0 here.1), λ h. sorted.1 (kept.1 (there.1 h.0, held.1 h.1)))

-- a value that is there
some-of : {X : Type 0} (o : Option X) → is_some o ≡ true → (x : X) × (o ≡ Some x)
some-of None is = absurd cc
some-of (Some x) is = (x, refl)

-- a kept record that has a holder has a take number
held-taken : (machine : Machine) → IsConsistent machine → (entry : Entry) (builder : List ℕ) → finite.get machine.records entry.0 ≡ Some entry.1
    → entry.1.holder ≡ Some builder → (take_number : ℕ) × (entry.1.take ≡ Some take_number)
held-taken machine sound entry builder kept holder =
    let well : IsRecord machine entry.0.0 entry.0.1 entry.1 = subst (λ o. IfSome o (IsRecord machine entry.0.0 entry.0.1)) kept (sound.records entry.0.0 entry.0.1) in
    some-of entry.1.take (well.fields.state.taken ∙ sym well.fields.state.held ∙ ap is_some holder)

tied-takes : (m n : ℕ) (one other : Option ℕ) → one ≡ Some m → other ≡ Some n → unwrap_or one 0 ≡ unwrap_or other 0 → m ≡ n
tied-takes m n one other p q e = ap (λ (o : Option ℕ). unwrap_or o 0) (sym p) ∙ e ∙ ap (λ (o : Option ℕ). unwrap_or o 0) q

held-apart : (machine : Machine) → IsConsistent machine → (builder : List ℕ) → Apart take_cmp (filter (is_held_by builder) (finite.entries machine.records))
held-apart machine sound builder =
    apart-filter pair_cmp_total take_cmp (is_held_by builder) (finite.entries machine.records) (finite.entries_sorted machine.records)
    (λ x y in_x in_y held_x held_y tie.
    let kept_x = (IsIn-entries machine x).0 in_x in
    let kept_y = (IsIn-entries machine y).0 in_y in
    let take_x = held-taken machine sound x builder kept_x ((text-is builder x.1.holder).0 held_x) in
    let take_y = held-taken machine sound y builder kept_y ((text-is builder y.1.holder).0 held_y) in
    let same : take_of y ≡ take_of x = ranked (take_of y) (take_of x) Equal (sym tie) in
    let number : take_y.0 ≡ take_x.0 = tied-takes take_y.0 take_x.0 y.1.take x.1.take take_y.1 take_x.1 same in
    sound.takes y.0 x.0 y.1 x.1 take_x.0 kept_y kept_x (take_y.1 ∙ ap Some number) take_x.1)

pub sorted-held_of : (machine : Machine) (builder : List ℕ) → IsConsistent machine → IsStrictlySortedBy take_cmp (held_of machine builder)
unfolding held_of
sorted-held_of machine builder sound =
    sorted-sorted_by take_cmp (on_total take_of nat_cmp_total) (filter (is_held_by builder) (finite.entries machine.records)) (held-apart machine sound builder)

-- ---- the least that passes a test

-- no take number stands behind a greater one
abbrev IsRising : List Entry → Type 0
IsRising [] = Unit {0}
IsRising (x ∷ xs) = AllByRecursion (λ (z : Entry). take_of x ≤ take_of z) xs × IsRising xs

all-with_item : (P : Entry → Type 0) (item : Entry) (xs : List Entry) → P item → AllByRecursion P xs → AllByRecursion P (with_item take_cmp item xs)
all-with_item P item [] here all = (here, tt)
all-with_item P item (x ∷ xs) here all =
    elim (is_lt (take_cmp x item)) as (λ b. AllByRecursion P (cond b (x ∷ with_item take_cmp item xs) (item ∷ x ∷ xs))) [
      | true ↦ (all.0, all-with_item P item xs here all.1)
      | false ↦ (here, all)
    ]

all-below : (low high : ℕ) (xs : List Entry) → low ≤ high → AllByRecursion (λ (z : Entry). high ≤ take_of z) xs → AllByRecursion (λ (z : Entry). low ≤ take_of z) xs
all-below low high [] le all = tt
all-below low high (x ∷ xs) le all =
    let first : high ≤ take_of x = all.0 in
    (omega arith, all-below low high xs le all.1)

rising-with_item : (item : Entry) (xs : List Entry) → IsRising xs → IsRising (with_item take_cmp item xs)
rising-with_item item [] rising = (tt, tt)
rising-with_item item (x ∷ xs) rising =
    elim (take_cmp x item) as (λ r. take_cmp x item ≡ r → IsRising (cond (is_lt r) (x ∷ with_item take_cmp item xs) (item ∷ x ∷ xs))) [
      | Less ↦ λ e.
          let less : take_of x < take_of item = ranked (take_of x) (take_of item) Less (sym e) in
          (all-with_item (λ (z : Entry). take_of x ≤ take_of z) item xs (omega arith) rising.0, rising-with_item item xs rising.1)
      | Equal ↦ λ e.
          let same : take_of x ≡ take_of item = ranked (take_of x) (take_of item) Equal (sym e) in
          let le : take_of item ≤ take_of x = omega arith in
          ((le, all-below (take_of item) (take_of x) xs le rising.0), rising)
      | Greater ↦ λ e.
          let greater : take_of item < take_of x = ranked (take_of x) (take_of item) Greater (sym e) in
          let le : take_of item ≤ take_of x = omega arith in
          ((le, all-below (take_of item) (take_of x) xs le rising.0), rising)
    ] refl

rising-sorted_by : (xs : List Entry) → IsRising (sorted_by take_cmp xs)
rising-sorted_by [] = tt
rising-sorted_by (x ∷ xs) = rising-with_item x (sorted_by take_cmp xs) (rising-sorted_by xs)

rising-held_of : (machine : Machine) (builder : List ℕ) → IsRising (held_of machine builder)
unfolding held_of
rising-held_of machine builder = rising-sorted_by (filter (is_held_by builder) (finite.entries machine.records))

opposite : true ≡ false → ⊥
opposite e = cc

find-is : {X : Type 0} (p : X → Bool) (xs : List X) (x : X) → find p xs ≡ Some x → IsIn x xs × (p x ≡ true)
find-is p [] x is = absurd cc
find-is {X} p (y ∷ ys) x is =
    (elim (p y) as (λ b. p y ≡ b → cond b (Some y) (find p ys) ≡ Some x → IsIn x (y ∷ ys) × (p x ≡ true)) [
      | true ↦ λ passes found. let same : x ≡ y = only x y (sym found) in (inl same, ap p same ∙ passes)
      | false ↦ λ _ found. let later = find-is p ys x found in (inr later.0, later.1)
    ]) refl is
  where
    only : (x y : X) → Some x ≡ Some y → x ≡ y
    only x y e = cc

find-none : {X : Type 0} (p : X → Bool) (xs : List X) (x : X) → find p xs ≡ None → IsIn x xs → p x ≡ true → ⊥
find-none p [] x none within passes = within
find-none {X} p (y ∷ ys) x none within passes =
    (elim (p y) as (λ b. p y ≡ b → cond b (Some y) (find p ys) ≡ None → ⊥) [
      | true ↦ λ _ none. some y none
      | false ↦ λ fails none. elim within [
        | inl is ↦ opposite (sym passes ∙ ap p is ∙ fails)
        | inr later ↦ find-none p ys x none later passes
      ]
    ]) refl none
  where
    some : (x : X) → Some x ≡ None → ⊥
    some x e = cc

all-at : (P : Entry → Type 0) (xs : List Entry) (x : Entry) → AllByRecursion P xs → IsIn x xs → P x
all-at P [] x all within = absurd within
all-at P (y ∷ ys) x all within = elim within [ inl is ↦ subst P (sym is) all.0 | inr later ↦ all-at P ys x all.1 later ]

find-least : (p : Entry → Bool) (xs : List Entry) (x other : Entry) → IsRising xs → find p xs ≡ Some x → IsIn other xs → p other ≡ true → take_of x ≤ take_of other
find-least p [] x other rising is within passes = absurd within
find-least p (y ∷ ys) x other rising is within passes =
    (elim (p y) as (λ b. p y ≡ b → cond b (Some y) (find p ys) ≡ Some x → take_of x ≤ take_of other) [
      | true ↦ λ _ found.
          let same : take_of y ≡ take_of x = ap take_of (only y x found) in
          elim within [
            | inl here ↦ let at : take_of other ≡ take_of y = ap take_of here in omega arith
            | inr later ↦ let le : take_of y ≤ take_of other = all-at (λ (z : Entry). take_of y ≤ take_of z) ys other rising.0 later in omega arith
          ]
      | false ↦ λ fails found. elim within [
        | inl here ↦ absurd (opposite (sym passes ∙ ap p here ∙ fails))
        | inr later ↦ find-least p ys x other rising.1 found later passes
      ]
    ]) refl is
  where
    only : (x y : Entry) → Some x ≡ Some y → x ≡ y
    only x y e = cc

-- ---- what a builder builds on an architecture

building-is : (state : State) → nat_eq (code_of state) (code_of Building) ≡ true ↔ (state ≡ Building)
building-is Building = (λ _. refl, λ _. refl)
building-is NeedsBuild = (λ h. absurd cc, λ h. absurd cc)
building-is Built = (λ h. absurd cc, λ h. absurd cc)
building-is Uploaded = (λ h. absurd cc, λ h. absurd cc)
building-is Installed = (λ h. absurd cc, λ h. absurd cc)
building-is DepWait = (λ h. absurd cc, λ h. absurd cc)
building-is BdUninstallable = (λ h. absurd cc, λ h. absurd cc)
building-is Failed = (λ h. absurd cc, λ h. absurd cc)
building-is NotForUs = (λ h. absurd cc, λ h. absurd cc)
building-is BuildAttempted = (λ h. absurd cc, λ h. absurd cc)

split : (a b : Bool) → (a && b) ≡ true → (a ≡ true) × (b ≡ true)
split true b h = (refl, h)
split false b h = absurd cc

after-is : (m n : ℕ) → nat_lt m n ≡ true → m < n
after-is m n h = grind (arith, nat_tests)

after-test : (m n : ℕ) → m < n → nat_lt m n ≡ true
after-test m n h = grind (arith, nat_tests)

module _ (machine : Machine) (arch builder : List ℕ) (after : ℕ) where
  building-from : (entry : Entry) → IsIn entry (held_of machine builder) → is_building_after arch after entry ≡ true → IsBuildingAfter machine arch builder after entry
  building-from entry within passes =
      let held = (held_of-in machine builder entry).0 within in
      let first = split _ _ passes in
      let second = split _ _ first.1 in
      record {
        kept = held.0;
        on_arch = (bytes_eq-Decides entry.0.0 arch).0 first.0;
        holder = held.1;
        state = (building-is entry.1.state).0 second.0;
        later = after-is after (take_of entry) second.1;
      }

  building-in : (entry : Entry) → IsBuildingAfter machine arch builder after entry → IsIn entry (held_of machine builder) × (is_building_after arch after entry ≡ true)
  building-in entry h = (
    (held_of-in machine builder entry).1 (h.kept, h.holder),
    and_from _ _ ((bytes_eq-Decides entry.0.0 arch).1 h.on_arch) (and_from _ _ ((building-is entry.1.state).1 h.state) (after-test after (take_of entry) h.later)),
  )

  pub building_after-is : (entry : Entry) → building_after machine arch builder after ≡ Some entry → IsBuildingAfter machine arch builder after entry
  unfolding building_after
  building_after-is entry is =
      let found = find-is (is_building_after arch after) (held_of machine builder) entry is in
      building-from entry found.0 found.1

  pub building_after-least : (entry other : Entry) → building_after machine arch builder after ≡ Some entry
      → IsBuildingAfter machine arch builder after other → take_of entry ≤ take_of other
  unfolding building_after
  building_after-least entry other is h =
      let there = building-in other h in
      find-least (is_building_after arch after) (held_of machine builder) entry other (rising-held_of machine builder) is there.0 there.1

  pub building_after-none : (other : Entry) → building_after machine arch builder after ≡ None → IsBuildingAfter machine arch builder after other → ⊥
  unfolding building_after
  building_after-none other none h =
      let there = building-in other h in
      find-none (is_building_after arch after) (held_of machine builder) other none there.0 there.1
