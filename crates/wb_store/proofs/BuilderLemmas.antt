-- The builders of the office and the architectures for which they were added, as queries answer them.
use Rattle.std.proofs.Common.{◌≡◌, ◌⊎◌, inl, inr, ℕ, Bool, true, false, ◌&&◌, ◌||◌, List, [], ◌∷◌, map, filter, refl, sym, ap, ap₂, subst, ◌∙◌, Less, Equal, is_eq, bytes_eq}
use Rattle.std.specs.List.{AllByRecursion, list_any}
use Rattle.std.specs.Cmp.{IsTotalOrder}
use Rattle.std.specs.FinMap as finite
use Rattle.std.specs.FinMap.{IsAntisymmetric}
use Rattle.std.specs.FinSet as set
use Rattle.std.specs.Ordering.{eq_by_cmp}
use Rattle.std.specs.declared.cmp.Ordering.{Ordering}
use Rattle.std.proofs.lemmas.Cmp.{tied_itself}
use Rattle.std.proofs.lemmas.Slice.Eq.{bytes_eq-Decides}
use Rattle.sqlite.specs.Effect.{Database}
use Rattle.sqlite.specs.declared.types.Value.TheVariants.{Text}
use Rattle.sqlite.specs.Order.{Row}
use Rattle.sqlite_trees.specs.Tree.{IsAscending}
use Rattle.sqlite_keyed.proofs.ListLemmas.{ascending-filter, ascending-map, filter-map, filter_same, IsPermutation-same}
use Rattle.deb_text.specs.Lists.{is_nonempty}
use Rattle.deb_text.specs.Lists.{IsIn}
use Rattle.deb_text.specs.Text.{text_cmp, pair_cmp}
use Rattle.deb_text.proofs.KeyLemmas.{text_cmp_total, text_cmp-same, pair_cmp_total, pair_cmp-same, eq_by_cmp-same}
use Rattle.deb_text.proofs.SortedLemmas.{IsIn-filter}
use Rattle.wb_sql.specs.Queries.{Answers}
use Rattle.wb_sql.specs.Among.{rows_in}
use Rattle.wb_sql.specs.OfficeStatements as sql
use Rattle.wb_sql.specs.Tables as tables
use Rattle.wb_states.specs.Machine.{Key, Machine, IsConsistent, archs_of, builder_pairs}
use Rattle.wb_states.proofs.PairLemmas.{any_in, as_map, get-as_map, listed-pair, marked, pair-listed}
use Rattle.wb_rows.specs.Cells.{builder_cells}
use Rattle.wb_rows.proofs.CellsLemmas.{builder_cells-same}
use Rattle.wb_store.specs.Merging.{Scratch}
use Rattle.wb_store.specs.Stands.{StandsWith}
use Rattle.wb_store.specs.Lookups.{ArePairs, HaveArchs, IsReadablePair}
use Rattle.wb_store.proofs.EqualLemmas.{are_equal, and_true, equal-Text}
use Rattle.wb_store.proofs.FormLemmas.{kept_pair_readable}
use Rattle.wb_store.proofs.LookupLemmas.{key_params, key_test, second_less, text_order}
use Rattle.wb_store.proofs.OrderLemmas.{all_from_in, ascending_with, entries_ascend, entry_at, few_at, few_mapped, filter_at, kept_pass, map_injective}
use Rattle.wb_store.proofs.TableLemmas.{SkipsRowid, IsBefore, passes, few_answer, rising_answer, whole_fits}

-- ---- lists with the same items

in_all : {X : Type 0} (P : X → Type 0) (xs : List X) → AllByRecursion P xs → (x : X) → IsIn x xs → P x
in_all P [] all x within = absurd within
in_all P (y ∷ xs) all x (inl is) = subst P (sym is) all.0
in_all P (y ∷ xs) all x (inr later) = in_all P xs all.1 x later

module _ {X : Type 0} (R : X → X → Type 0) (apart : (x y : X) → R x y → R y x → ⊥) where
  heads_same : (x y : X) (xs ys : List X) → AllByRecursion (R x) xs → AllByRecursion (R y) ys → IsIn x (y ∷ ys) → IsIn y (x ∷ xs) → x ≡ y
  heads_same x y xs ys below also (inl is) there = is
  heads_same x y xs ys below also (inr later) (inl is) = sym is
  heads_same x y xs ys below also (inr later) (inr late) = absurd (apart x y (in_all (R x) xs below y late) (in_all (R y) ys also x later))

  tails_same : (x y : X) (xs ys : List X) → x ≡ y → AllByRecursion (R x) xs → ((z : X) → IsIn z (x ∷ xs) → IsIn z (y ∷ ys)) → (z : X) → IsIn z xs → IsIn z ys
  tails_same x y xs ys same below inside z within = go (inside z (inr within))
    where
      go : IsIn z (y ∷ ys) → IsIn z ys
      go (inl is) = let less : R x z = in_all (R x) xs below z within in let itself : R x x = subst (R x) (is ∙ sym same) less in absurd (apart x x itself itself)
      go (inr later) = later

  -- lists that ascend and have the same items are one
  same_ascending : (xs ys : List X) → IsAscending R xs → IsAscending R ys → ((z : X) → IsIn z xs → IsIn z ys) → ((z : X) → IsIn z ys → IsIn z xs) → xs ≡ ys
  same_ascending [] [] up also inside back = refl
  same_ascending [] (y ∷ ys) up also inside back = absurd (back y (inl refl))
  same_ascending (x ∷ xs) [] up also inside back = absurd (inside x (inl refl))
  same_ascending (x ∷ xs) (y ∷ ys) up also inside back =
      let same : x ≡ y = heads_same x y xs ys up.0 also.0 (inside x (inl refl)) (back y (inl refl)) in
      ap₂ ◌∷◌ same (same_ascending xs ys up.1 also.1 (tails_same x y xs ys same up.0 inside) (tails_same y x ys xs (sym same) also.0 back))

map_in : {X Y : Type 0} (f : X → Y) (x : X) (xs : List X) → IsIn x xs → IsIn (f x) (map f xs)
map_in f x [] within = absurd within
map_in f x (y ∷ xs) (inl is) = inl (ap f is)
map_in f x (y ∷ xs) (inr later) = inr (map_in f x xs later)

in_map : {X Y : Type 0} (f : X → Y) (y : Y) (xs : List X) → IsIn y (map f xs) → (x : X) × IsIn x xs × (y ≡ f x)
in_map f y [] within = absurd within
in_map f y (x ∷ xs) (inl is) = (x, inl refl, is)
in_map f y (x ∷ xs) (inr later) = let found = in_map f y xs later in (found.0, inr found.1, found.2)

-- ---- the queries

abbrev pair_passes : Key → Key → Bool
pair_passes key pair = passes sql.pair_of_builder (key_params key) (builder_cells pair)

pair_test : (key pair : Key) → pair_passes key pair ≡ eq_by_cmp pair_cmp key pair
pair_test key pair =
    ap₂ ◌&&◌ (equal-Text pair.0 key.0) (and_true (are_equal (Text pair.1) (Text key.1)) ∙ equal-Text pair.1 key.1) ∙ key_test key pair

-- a pair of this builder
abbrev is_of : List ℕ → Key → Bool
is_of builder pair = bytes_eq pair.0 builder

builder_passes : (builder : List ℕ) (pair : Key) → passes sql.pairs_of_builder (Text builder ∷ []) (builder_cells pair) ≡ is_of builder pair
builder_passes builder pair = and_true (are_equal (Text pair.0) (Text builder)) ∙ equal-Text pair.0 builder

skips_pair : (params : Row) → SkipsRowid sql.pair_of_builder params
skips_pair params [] = (refl, refl)
skips_pair params (x ∷ row) = (refl, refl)

skips_builder : (params : Row) → SkipsRowid sql.pairs_of_builder params
skips_builder params [] = (refl, refl)
skips_builder params (x ∷ row) = (refl, refl)

module _ (machine : Machine) where
  abbrev pairs : List Key
  pairs = builder_pairs machine

  pairs_ascend : IsAscending (λ a b. pair_cmp a b ≡ Less) pairs
  pairs_ascend =
      ascending-map (λ (a b : Key). pair_cmp a b ≡ Less) (λ (e : Key × Unit {0}). e.0) (finite.entries (as_map machine.builders))
      (entries_ascend pair_cmp (finite.entries (as_map machine.builders)) (finite.entries_sorted (as_map machine.builders)))

  pair_in : (pair : Key) → IsIn pair pairs → set.contains machine.builders pair ≡ true
  pair_in pair within = listed-pair machine pair within

  in_pairs : (pair : Key) → set.contains machine.builders pair ≡ true → IsIn pair pairs
  in_pairs pair there = pair-listed machine pair there

  pub pairs_readable : IsConsistent machine → AllByRecursion IsReadablePair pairs
  pairs_readable sound = all_from_in IsReadablePair pairs (λ pair within. kept_pair_readable machine sound pair (pair_in pair within))

  -- the pairs of a builder ascend by their architectures
  second_ascends : (builder : List ℕ) → IsAscending (λ a b. text_cmp a.1 b.1 ≡ Less) (filter (is_of builder) pairs)
  second_ascends builder =
      ascending_with (λ pair. is_of builder pair ≡ true) (λ a b. pair_cmp a b ≡ Less) _ follows (filter (is_of builder) pairs) (kept_pass (is_of builder) pairs)
      (ascending-filter (λ (a b : Key). pair_cmp a b ≡ Less) (is_of builder) pairs pairs_ascend)
    where
      follows : (a b : Key) → is_of builder a ≡ true → is_of builder b ≡ true → pair_cmp a b ≡ Less → text_cmp a.1 b.1 ≡ Less
      follows a b is_a is_b less = second_less a b ((bytes_eq-Decides a.0 builder).0 is_a ∙ sym ((bytes_eq-Decides b.0 builder).0 is_b)) less

  abbrev is_added : List ℕ → List ℕ → Bool
  is_added builder arch = set.contains machine.builders (builder, arch)

  text_apart : (x y : List ℕ) → text_cmp x y ≡ Less → text_cmp y x ≡ Less → ⊥
  text_apart x y less more =
      let itself : text_cmp x x ≡ Less = text_cmp_total.trans x y x less more in
      let tie : text_cmp x x ≡ Equal = tied_itself text_cmp_total x in
      let absurd_order : Less ≡ Equal = sym itself ∙ tie in
      cc

  -- the architectures of the pairs of a builder
  seconds_are : IsConsistent machine → (builder : List ℕ) → map (λ (pair : Key). pair.1) (filter (is_of builder) pairs) ≡ archs_of machine builder
  seconds_are sound builder =
      same_ascending (λ a b. text_cmp a b ≡ Less) text_apart _ _
      (ascending-map (λ a b. text_cmp a b ≡ Less) (λ (pair : Key). pair.1) (filter (is_of builder) pairs) (second_ascends builder))
      (ascending-filter (λ a b. text_cmp a b ≡ Less) (is_added builder) (finite.keys machine.archs)
      (ascending-map (λ a b. text_cmp a b ≡ Less) (λ e. e.0) (finite.entries machine.archs) (entries_ascend text_cmp (finite.entries machine.archs) (finite.entries_sorted machine.archs))))
      there back
    where
      there : (arch : List ℕ) → IsIn arch (map (λ (pair : Key). pair.1) (filter (is_of builder) pairs)) → IsIn arch (archs_of machine builder)
      there arch within =
          let found = in_map (λ (pair : Key). pair.1) arch (filter (is_of builder) pairs) within in
          let kept = (IsIn-filter (is_of builder) found.0 pairs).0 found.1 in
          let same : found.0 ≡ (builder, arch) = λ i. ((bytes_eq-Decides found.0.0 builder).0 kept.1 i, sym found.2 i) in
          let added : set.contains machine.builders (builder, arch) ≡ true = subst (λ pair. set.contains machine.builders pair ≡ true) same (pair_in found.0 kept.0) in
          let known : finite.contains_key machine.archs arch ≡ true = (sound.builders builder arch added).known in
          (IsIn-filter (is_added builder) arch (finite.keys machine.archs)).1
          (any_in text_cmp_total text_cmp-same arch (finite.keys machine.archs) (sym (finite.contains_key-keys machine.archs arch) ∙ known), added)

      back : (arch : List ℕ) → IsIn arch (archs_of machine builder) → IsIn arch (map (λ (pair : Key). pair.1) (filter (is_of builder) pairs))
      back arch within =
          let added = ((IsIn-filter (is_added builder) arch (finite.keys machine.archs)).0 within).1 in
          map_in (λ (pair : Key). pair.1) (builder, arch) (filter (is_of builder) pairs)
          ((IsIn-filter (is_of builder) (builder, arch) pairs).1 (in_pairs (builder, arch) added, (bytes_eq-Decides builder builder).1 refl))

-- the columns of a pair, where there is one
one_there : (key : Key) (b : Bool) (rows : List Row) → rows ≡ map builder_cells (map (λ (e : Key × Unit {0}). e.0) (entry_at key (marked b))) → is_nonempty rows ≡ b
one_there key true rows is = ap is_nonempty is
one_there key false rows is = ap is_nonempty is

module _ (machine : Machine) {scratch : Scratch} (db : Database) (stands : StandsWith machine scratch db) (answer : List Row) where
  abbrev kept : List Key
  kept = builder_pairs machine

  abbrev entries : List (Key × Unit {0})
  entries = finite.entries (as_map machine.builders)

  pair_chosen : (key : Key) → filter (pair_passes key) kept ≡ map (λ (e : Key × Unit {0}). e.0) (entry_at key (marked (set.contains machine.builders key)))
  pair_chosen key =
      filter_same (pair_passes key) (eq_by_cmp pair_cmp key) (pair_test key) kept ∙ filter-map (eq_by_cmp pair_cmp key) (λ (e : Key × Unit {0}). e.0) entries
      ∙ ap (map (λ (e : Key × Unit {0}). e.0))
      (filter_at pair_cmp pair_cmp_total pair_cmp-same key entries (finite.entries_sorted (as_map machine.builders))
      ∙ ap (entry_at key) (sym (finite.get-entries (as_map machine.builders) key) ∙ get-as_map pair_cmp_total machine.builders key))

  module _ {params : Row} where
    -- a builder and an architecture, if the builder was added for it
    pub pair_found : (key : Key) → params ≡ key_params key → Answers sql.pair_of_builder params (rows_in db tables.builder) answer → is_nonempty answer ≡ set.contains machine.builders key
    pair_found key given a =
        one_there key (set.contains machine.builders key) answer
        (few_answer builder_cells sql.pair_of_builder (key_params key) (skips_pair (key_params key)) (λ x. refl) refl kept (rows_in db tables.builder) answer stands.builders
        (subst (λ p. Answers sql.pair_of_builder p (rows_in db tables.builder) answer) given a)
        (subst (λ (l : List Key). (l ≡ []) ⊎ ((x : Key) × (l ≡ x ∷ []))) (sym (pair_chosen key))
        (few_mapped (λ (e : Key × Unit {0}). e.0) (entry_at key (marked (set.contains machine.builders key))) (few_at key (marked (set.contains machine.builders key))))) refl
        ∙ ap (map builder_cells) (pair_chosen key))

    -- the architectures that are read from the rows of a builder
    pub archs_found : IsConsistent machine → (builder : List ℕ) (archs : List (List ℕ)) → params ≡ Text builder ∷ [] → Answers sql.pairs_of_builder params (rows_in db tables.builder) answer → HaveArchs answer archs
        → archs ≡ archs_of machine builder
    archs_found sound builder archs given a have =
        let ascends = second_ascends machine builder in
        let up : IsAscending (λ x y. IsBefore sql.pairs_of_builder (Text builder ∷ []) (builder_cells x) (builder_cells y)) (filter (is_of builder) kept) =
        ascending_with (λ pair. Unit {0}) (λ a b. text_cmp a.1 b.1 ≡ Less) _ (λ a b here there less. text_order a.1 b.1 ∙ less) (filter (is_of builder) kept)
        (all_from_in (λ pair. Unit {0}) (filter (is_of builder) kept) (λ pair within. tt)) ascends in
        let is : answer ≡ map builder_cells (filter (is_of builder) kept) =
        rising_answer builder_cells sql.pairs_of_builder (Text builder ∷ []) (skips_builder (Text builder ∷ [])) (λ x. refl) refl kept (rows_in db tables.builder) answer stands.builders
        (subst (λ p. Answers sql.pairs_of_builder p (rows_in db tables.builder) answer) given a)
        (filter (is_of builder) kept) up (IsPermutation-same _ _ (filter_same (is_of builder) _ (λ pair. sym (builder_passes builder pair)) kept)) refl in
        let same : have.0 ≡ filter (is_of builder) kept = map_injective builder_cells builder_cells-same have.0 _ (sym have.1 ∙ is) in
        have.2 ∙ ap (map (λ (pair : Key). pair.1)) same ∙ seconds_are machine sound builder

    -- its rows are those of builders, if the office is consistent
    pub builder_readable : IsConsistent machine → Answers sql.pairs_of_builder params (rows_in db tables.builder) answer → ArePairs answer
    builder_readable sound a =
        whole_fits builder_cells sql.pairs_of_builder params (skips_builder params) (λ x. refl) refl kept (rows_in db tables.builder) answer stands.builders a IsReadablePair (pairs_readable machine sound) refl
