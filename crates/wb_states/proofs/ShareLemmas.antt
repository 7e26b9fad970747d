-- The states share out the records of an architecture, and the builders those that are held.
use Rattle.std.proofs.Common.{◌≡◌, ◌↔◌, inl, inr, ℕ, ◌+◌, Bool, true, false, ◌&&◌, ◌||◌, cond, List, [], ◌∷◌, ◌++◌}
use Rattle.std.proofs.Common.{length, filter, nat_eq, bytes_eq, Option, None, Some, is_some, IfSome, IsTrue, refl, sym}
use Rattle.std.proofs.Common.{ap, subst, ◌∙◌, arith, IsPermutation}
use Rattle.std.specs.List.{AllByRecursion, IsDistinct, flat_map, list_any}
use Rattle.std.specs.FinMap as map
use Rattle.std.specs.FinSet as set
use Rattle.std.specs.Ordering.{is_lt}
use Rattle.std.specs.declared.cmp.Ordering.{Ordering}
use Rattle.std.proofs.lemmas.Bool.{eqb-true, eq-eqb}
use Rattle.std.proofs.lemmas.List.{length-append}
use Rattle.std.proofs.lemmas.Slice.Eq.{bytes_eq-Decides}
use Rattle.std.proofs.lemmas.List.Sorted.{IsPermutation-refl, IsPermutation-sym, IsPermutation-cons}
use Rattle.std.proofs.lemmas.List.Sorted.{IsPermutation-trans, IsPermutation-middle, IsPermutation-append}
use Rattle.std.proofs.lemmas.List.Sorted.{IsPermutation-append_right, length_permutation}
use Rattle.deb_text.specs.Lists.{IsIn, sorted_by, with_item}
use Rattle.deb_text.specs.Options.{has_value}
use Rattle.deb_text.proofs.SortedLemmas.{IsIn-filter}
use Rattle.wb_states.specs.declared.state.State.{State}
use Rattle.wb_states.specs.declared.state.State.TheVariants.{NeedsBuild, Building, Built, Uploaded, Installed, DepWait}
use Rattle.wb_states.specs.declared.state.State.TheVariants.{BdUninstallable, Failed, NotForUs, BuildAttempted}
use Rattle.wb_states.specs.State.{code_of, is_held, is_needs_build, states}
use Rattle.wb_states.specs.Holds.{held_of, is_held_by, take_cmp}
use Rattle.wb_states.specs.Machine.{Machine, IsConsistent, IsRecord}
use Rattle.wb_states.specs.Queue.{Entry, entry_cmp, is_waiting, queue_of}
use Rattle.wb_states.specs.Lookups.{counts_of, is_in, is_of, number_in, rows_in, rows_of, total_of}
use Rattle.wb_states.proofs.CodeLemmas.{code_of-differ}
use Rattle.wb_states.proofs.HoldLemmas.{text-is}
use Rattle.wb_states.proofs.QueueLemmas.{IsIn-entries}

-- ---- lists that share out another one

module _ {X : Type 0} (p q : X → Bool) where
  -- what passes two tests, one after the other
  filter-both : (xs : List X) → filter (λ x. p x && q x) xs ≡ filter q (filter p xs)
  filter-both [] = refl
  filter-both (x ∷ xs) =
      let both : List X = filter (λ x. p x && q x) xs in
      elim (p x) as (λ b. cond (b && q x) (x ∷ both) both ≡ filter q (cond b (x ∷ filter p xs) (filter p xs))) [
        | true ↦ elim (q x) as (λ c. cond c (x ∷ both) both ≡ cond c (x ∷ filter q (filter p xs))
            (filter q (filter p xs))) [
              | true ↦ ap (λ l. x ∷ l) (filter-both xs)
              | false ↦ filter-both xs
            ]
        | false ↦ filter-both xs
      ]

  -- what passes one of two tests that nothing passes both of
  filter-either : ((x : X) → p x ≡ true → q x ≡ false) → (xs : List X)
      → IsPermutation (filter (λ x. p x || q x) xs) (filter p xs ++ filter q xs)
  filter-either apart [] = IsPermutation-refl []
  filter-either apart (x ∷ xs) =
      let any : List X = filter (λ x. p x || q x) xs in
      (elim (p x) as (λ b. p x ≡ b → IsPermutation (cond (b || q x) (x ∷ any) any)
      (cond b (x ∷ filter p xs) (filter p xs) ++ cond (q x) (x ∷ filter q xs) (filter q xs))) [
        | true ↦ λ is. subst (λ c. IsPermutation (x ∷ any)
            ((x ∷ filter p xs) ++ cond c (x ∷ filter q xs) (filter q xs))) (sym (apart x is))
            (IsPermutation-cons x _ _ (filter-either apart xs))
        | false ↦ λ is. elim (q x) as (λ c. IsPermutation (cond c (x ∷ any) any)
            (filter p xs ++ cond c (x ∷ filter q xs) (filter q xs))) [
              | true ↦ IsPermutation-trans _ _ _ (IsPermutation-cons x _ _ (filter-either apart xs))
                  (IsPermutation-sym _ _ (IsPermutation-middle (filter p xs) x (filter q xs)))
              | false ↦ filter-either apart xs
            ]
      ]) refl

filter-every : {X : Type 0} (p : X → Bool) → ((x : X) → p x ≡ true) → (xs : List X) → filter p xs ≡ xs
filter-every p every [] = refl
filter-every p every (x ∷ xs) = ap (λ b. cond b (x ∷ filter p xs) (filter p xs)) (every x)
    ∙ ap (λ l. x ∷ l) (filter-every p every xs)

filter-no : {X : Type 0} (xs : List X) → filter (λ x. false) xs ≡ []
filter-no [] = refl
filter-no (x ∷ xs) = filter-no xs

-- tests that nothing passes two of
abbrev pub AreApart : {X Y : Type 0} → (Y → X → Bool) → List Y → Type 0
AreApart test [] = Unit {0}
AreApart {X} test (y ∷ ys) = ((x : X) → test y x ≡ true → list_any (λ other. test other x) ys ≡ false)
    × AreApart test ys

-- such tests share out what passes one of them
pub shared : {X Y : Type 0} (test : Y → X → Bool) (ys : List Y) → AreApart test ys → (xs : List X)
    → IsPermutation (filter (λ x. list_any (λ y. test y x) ys) xs) (flat_map (λ y. filter (test y) xs) ys)
shared test [] apart xs = subst (λ l. IsPermutation l []) (sym (filter-no xs)) (IsPermutation-refl [])
shared test (y ∷ ys) apart xs =
    IsPermutation-trans _ _ _ (filter-either (test y) (λ x. list_any (λ other. test other x) ys) apart.0 xs)
    (IsPermutation-append_right (filter (test y) xs) _ _ (shared test ys apart.1 xs))

-- ---- sorted lists, and how long lists are

module _ {X : Type 0} (cmp : X → X → Ordering) where
  IsPermutation-with_item : (x : X) (xs : List X) → IsPermutation (with_item cmp x xs) (x ∷ xs)
  IsPermutation-with_item x [] = IsPermutation-refl (x ∷ [])
  IsPermutation-with_item x (y ∷ ys) =
      elim (is_lt (cmp y x)) as (λ b. IsPermutation (cond b (y ∷ with_item cmp x ys) (x ∷ y ∷ ys)) (x ∷ y ∷ ys)) [
        | true ↦ IsPermutation-trans _ _ _ (IsPermutation-cons y _ _ (IsPermutation-with_item x ys))
            (IsPermutation-middle (y ∷ []) x ys)
        | false ↦ IsPermutation-refl _
      ]

  pub IsPermutation-sorted_by : (xs : List X) → IsPermutation (sorted_by cmp xs) xs
  IsPermutation-sorted_by [] = IsPermutation-refl []
  IsPermutation-sorted_by (x ∷ xs) = IsPermutation-trans _ _ _ (IsPermutation-with_item x (sorted_by cmp xs))
      (IsPermutation-cons x _ _ (IsPermutation-sorted_by xs))

-- the numbers of some things together
abbrev summed : {X : Type 0} → (X → ℕ) → List X → ℕ
summed f [] = 0
summed f (x ∷ xs) = f x + summed f xs

length-flat_map : {X Y : Type 0} (f : X → List Y) (xs : List X) → length (flat_map f xs) ≡ summed (λ x. length (f x)) xs
length-flat_map f [] = refl
length-flat_map f (x ∷ xs) = length-append (f x) (flat_map f xs) ∙ ap (λ n. length (f x) + n) (length-flat_map f xs)

-- ---- the states

abbrev has_state : State → Entry → Bool
has_state state entry = nat_eq (code_of entry.1.state) (code_of state)

has_state-is : (state : State) (entry : Entry) → has_state state entry ≡ true ↔ (entry.1.state ≡ state)
has_state-is state entry = (
  λ h. code_of-differ entry.1.state state (eqb-true (code_of entry.1.state) (code_of state) h),
  λ is. eq-eqb
      (code_of entry.1.state) (code_of state) (ap code_of is),
)

-- a record in a state is in none of these others
apart_from : (state : State) (others : List State)
    → list_any (λ other. nat_eq (code_of state) (code_of other)) others ≡ false
    → (entry : Entry) → has_state state entry ≡ true → list_any (λ other. has_state other entry) others ≡ false
apart_from state others none entry is =
    ap (λ (s : State). list_any (λ other. nat_eq (code_of s) (code_of other)) others) ((has_state-is state entry).0 is)
    ∙ none

abbrev HaveOwnCodes : List State → Type 0
HaveOwnCodes [] = Unit {0}
HaveOwnCodes (state ∷ others) = (list_any (λ other. nat_eq (code_of state) (code_of other)) others ≡ false)
    × HaveOwnCodes others

all_apart : (all : List State) → HaveOwnCodes all → AreApart has_state all
all_apart [] own = tt
all_apart (state ∷ others) own = (apart_from state others own.0, all_apart others own.1)

states_apart : AreApart has_state states
states_apart = all_apart states (refl, (refl, (refl, (refl, (refl, (refl, (refl, (refl, (refl, (refl, tt))))))))))

is_one : (state : State) → list_any (λ other. nat_eq (code_of state) (code_of other)) states ≡ true
is_one NeedsBuild = refl
is_one Building = refl
is_one Built = refl
is_one Uploaded = refl
is_one Installed = refl
is_one DepWait = refl
is_one BdUninstallable = refl
is_one Failed = refl
is_one NotForUs = refl
is_one BuildAttempted = refl

waits_code : (state : State) → is_needs_build state ≡ nat_eq (code_of state) 0
waits_code NeedsBuild = refl
waits_code Building = refl
waits_code Built = refl
waits_code Uploaded = refl
waits_code Installed = refl
waits_code DepWait = refl
waits_code BdUninstallable = refl
waits_code Failed = refl
waits_code NotForUs = refl
waits_code BuildAttempted = refl

-- what waits is what is in Needs-Build
waits_in : (arch : List ℕ) (entry : Entry) → is_waiting arch entry ≡ is_in arch NeedsBuild entry
waits_in arch entry = ap (λ b. bytes_eq entry.0.0 arch && b) (waits_code entry.1.state)

module _ (machine : Machine) (arch : List ℕ) where
  -- the records in a state are those of the architecture that are in it
  rows_in-of : (state : State) → rows_in machine arch state ≡ filter (has_state state) (rows_of machine arch)
  unfolding rows_in rows_of
  rows_in-of state = filter-both (is_of arch) (has_state state) (map.entries machine.records)

  pub IsIn-rows_in : (state : State) (entry : Entry)
      → IsIn entry (rows_in machine arch state) ↔ (IsIn entry (rows_of machine arch) × (entry.1.state ≡ state))
  IsIn-rows_in state entry =
      let kept = IsIn-filter (has_state state) entry (rows_of machine arch) in
      let same = has_state-is state entry in (
        λ h. let here = kept.0 (subst (IsIn entry) (rows_in-of state) h) in (here.0, same.0 here.1),
        λ h. subst (IsIn entry) (sym (rows_in-of state)) (kept.1 (h.0, same.1 h.1)),
      )

  -- the records of an architecture, state by state
  pub shared_by_state : IsPermutation (rows_of machine arch) (flat_map (rows_in machine arch) states)
  shared_by_state =
      subst (λ l. IsPermutation l (flat_map (rows_in machine arch) states))
      (filter-every (λ entry. list_any (λ state. has_state state entry) states) (λ entry. is_one entry.1.state)
      (rows_of machine arch))
      (subst (IsPermutation (filter (λ entry. list_any (λ state. has_state state entry) states) (rows_of machine arch)))
      (λ i. flat_map (λ state. sym (rows_in-of state) i) states)
      (shared has_state states states_apart (rows_of machine arch)))

  -- the queue has the records in Needs-Build, in another order
  pub queue_of-rows_in : IsPermutation (rows_in machine arch NeedsBuild) (queue_of machine arch)
  unfolding queue_of rows_in
  queue_of-rows_in =
      subst (λ l. IsPermutation l (sorted_by entry_cmp (filter (is_waiting arch) (map.entries machine.records))))
      (λ i. filter (λ entry. waits_in arch entry i) (map.entries machine.records))
      (IsPermutation-sym _ _ (IsPermutation-sorted_by entry_cmp
      (filter (is_waiting arch) (map.entries machine.records))))

  pub number_in-rows_in : (state : State) → number_in machine arch state ≡ length (rows_in machine arch state)
  unfolding number_in rows_in
  number_in-rows_in state = refl

  -- the numbers of records in the states add up
  pub total_of-counts_of : total_of (counts_of machine arch) ≡ length (rows_of machine arch)
  unfolding counts_of
  total_of-counts_of =
      let all : length (flat_map (rows_in machine arch) states) ≡ length (rows_of machine arch) = length_permutation
      (rows_of machine arch) (flat_map (rows_in machine arch) states) shared_by_state in
      let each : length (flat_map (rows_in machine arch) states) ≡ summed (λ state. length (rows_in machine arch state))
      states = length-flat_map (rows_in machine arch) states in
      let numbers : summed (λ state. number_in machine arch state) states ≡ summed
      (λ state. length (rows_in machine arch state)) states = λ i. summed (λ state. number_in-rows_in state i)
      states in
      omega (arith, all, each, numbers)

-- ---- the builders

-- a text is no other
turned : (one other : List ℕ) → bytes_eq one other ≡ false → bytes_eq other one ≡ false
turned one other apart =
    let first = bytes_eq-Decides one other in
    let second = bytes_eq-Decides other one in
    (elim (bytes_eq other one) as (λ b. bytes_eq other one ≡ b → b ≡ false) [
      | true ↦ λ is. absurd (opposite (sym (first.1 (sym (second.0 is))) ∙ apart))
      | false ↦ λ is. refl
    ]) refl
  where
    opposite : true ≡ false → ⊥
    opposite e = cc

-- what one builder holds is held by no other
no_other : (builder : List ℕ) (others : List (List ℕ)) (holder : Option (List ℕ)) → holder ≡ Some builder
    → AllByRecursion (λ other. bytes_eq builder other ≡ false) others
    → list_any (λ other. has_value (bytes_eq other) holder) others ≡ false
no_other builder [] holder is apart = refl
no_other builder (other ∷ others) holder is apart =
    let here : has_value (bytes_eq other) holder ≡ false = ap (has_value (bytes_eq other)) is
    ∙ turned builder other apart.0 in
    ap (λ b. b || list_any (λ another. has_value (bytes_eq another) holder) others) here
    ∙ no_other builder others holder is apart.1

builders_apart : (builders : List (List ℕ)) → IsDistinct bytes_eq builders → AreApart is_held_by builders
unfolding IsDistinct
builders_apart [] distinct = tt
builders_apart (builder ∷ others) distinct = (
  λ entry is. no_other builder others entry.1.holder ((text-is builder entry.1.holder).0 is) distinct.0,
  builders_apart others distinct.1,
)

none_holds : (builders : List (List ℕ)) (holder : Option (List ℕ)) → holder ≡ None
    → list_any (λ builder. has_value (bytes_eq builder) holder) builders ≡ false
none_holds [] holder is = refl
none_holds (builder ∷ builders) holder is =
    ap (λ b. b || list_any (λ another. has_value (bytes_eq another) holder) builders)
    (ap (has_value (bytes_eq builder)) is) ∙ none_holds builders holder is

one_holds : (builder : List ℕ) (builders : List (List ℕ)) (holder : Option (List ℕ)) → holder ≡ Some builder
    → IsIn builder builders → list_any (λ one. has_value (bytes_eq one) holder) builders ≡ true
one_holds builder [] holder is within = absurd within
one_holds builder (one ∷ builders) holder is (inl same) =
    ap (λ b. b || list_any (λ another. has_value (bytes_eq another) holder) builders)
    ((text-is one holder).1 (is ∙ ap Some same))
one_holds builder (one ∷ builders) holder is (inr later) =
    (elim (has_value (bytes_eq one) holder) as (λ b. (b || list_any (λ another. has_value (bytes_eq another) holder)
    builders) ≡ true) [
      | true ↦ refl
      | false ↦ one_holds builder builders holder is later
    ])

filter-same_in : {X : Type 0} (p q : X → Bool) (xs : List X) → ((x : X) → IsIn x xs → p x ≡ q x)
    → filter p xs ≡ filter q xs
filter-same_in p q [] same = refl
filter-same_in p q (x ∷ xs) same =
    ap (λ b. cond b (x ∷ filter p xs) (filter p xs)) (same x (inl refl))
    ∙ ap (λ l. cond (q x) (x ∷ l) l) (filter-same_in p q xs (λ y within. same y (inr within)))

each_permuted : {X Y : Type 0} (f g : Y → List X) → ((y : Y) → IsPermutation (f y) (g y)) → (ys : List Y)
    → IsPermutation (flat_map f ys) (flat_map g ys)
each_permuted f g same [] = IsPermutation-refl []
each_permuted f g same (y ∷ ys) = IsPermutation-append (f y) (g y) (flat_map f ys) (flat_map g ys) (same y)
    (each_permuted f g same ys)

module _ (machine : Machine) (sound : IsConsistent machine) (builders : List (List ℕ))
    (all : (builder arch : List ℕ) → IsTrue (set.contains machine.builders (builder, arch)) → IsIn builder builders)
  where
    -- a record is held exactly if one of the builders holds it
    is_held-one : (entry : Entry) → IsIn entry (map.entries machine.records)
        → list_any (λ builder. is_held_by builder entry) builders ≡ is_held entry.1.state
    is_held-one entry within = by_holder entry.1.holder refl
      where
        is : IsRecord machine entry.0.0 entry.0.1 entry.1
        is = subst (λ found. IfSome found (IsRecord machine entry.0.0 entry.0.1))
            ((IsIn-entries machine entry).0 within)
            (sound.records entry.0.0 entry.0.1)

        by_holder : (holder : Option (List ℕ)) → entry.1.holder ≡ holder
            → list_any (λ builder. is_held_by builder entry) builders ≡ is_held entry.1.state
        by_holder None none = none_holds builders entry.1.holder none ∙ ap is_some (sym none) ∙ is.fields.state.held
        by_holder (Some builder) some =
            let known : IsTrue (set.contains machine.builders (builder, entry.0.0)) = subst
            (λ o. IfSome o (λ b. IsTrue (set.contains machine.builders (b, entry.0.0)))) some is.holder in
            one_holds builder builders entry.1.holder some (all builder entry.0.0 known) ∙ ap is_some (sym some)
            ∙ is.fields.state.held

    -- the held records, builder by builder
    pub shared_by_builder : IsDistinct bytes_eq builders
        → IsPermutation (filter (λ entry. is_held entry.1.state) (map.entries machine.records))
        (flat_map (held_of machine) builders)
    unfolding held_of
    shared_by_builder distinct =
        IsPermutation-trans _ _ _
        (subst (λ l. IsPermutation l (flat_map (λ builder. filter (is_held_by builder) (map.entries machine.records))
        builders))
        (filter-same_in (λ entry. list_any (λ builder. is_held_by builder entry) builders)
        (λ entry. is_held entry.1.state) (map.entries machine.records) is_held-one)
        (shared is_held_by builders (builders_apart builders distinct) (map.entries machine.records)))
        (each_permuted (λ builder. filter (is_held_by builder) (map.entries machine.records)) (held_of machine)
        (λ builder. IsPermutation-sym _ _ (IsPermutation-sorted_by take_cmp
        (filter (is_held_by builder) (map.entries machine.records)))) builders)
