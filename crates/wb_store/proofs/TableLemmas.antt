-- What a query on one table answers of the things whose columns the table holds.
use Rattle.std.proofs.Common.{◌≡◌, ◌⊎◌, pos, Bool, List, [], ◌∷◌, map, filter, take, refl, sym, ap, ap₂, subst, ◌∙◌, Less, IsPermutation}
use Rattle.std.specs.List.{AllByRecursion, list_all}
use Rattle.std.proofs.lemmas.List.Elements.{recursion_from_All, All-from_recursion}
use Rattle.std.proofs.lemmas.List.Sorted.{All-permutation, IsPermutation-trans}
use Rattle.sqlite.specs.declared.types.Value.TheVariants.{Null, Int}
use Rattle.sqlite.specs.Order.{Row}
use Rattle.sqlite.specs.Term.{holds, lit}
use Rattle.sqlite.specs.Query.{Output, output, output_cmp}
use Rattle.sqlite_trees.specs.Tree.{IsAscending}
use Rattle.sqlite_keyed.proofs.ListLemmas.{map-map, filter-map, IsPermutation-filter, ascending-map, all-filter, all_map}
use Rattle.wb_sql.specs.Rows.{cells, cells_of}
use Rattle.wb_sql.specs.Queries.{TableQuery, query_of, outputs, Answers}
use Rattle.wb_sql.proofs.AnswerLemmas.{whole_answer, first_answer, rising_order}
use Rattle.wb_sql.proofs.SetLemmas.{IsPermutation-map}
use Rattle.wb_sql.specs.OfficeStatements.{no_limit, none_skipped}
use Rattle.wb_store.specs.Stands.{HoldsRows}
use Rattle.wb_store.specs.Lookups.{AreRowsOf}
use Rattle.wb_store.proofs.OrderLemmas.{few_permuted, few_mapped, take_one-map}

-- the columns pass the tests of a query
abbrev pub passes : TableQuery → Row → Row → Bool
passes q params columns = list_all (holds (params ∷ (Null ∷ columns) ∷ [])) q.filter

-- what a query is sorted by and shows of the columns
abbrev pub shows : TableQuery → Row → Row → Output
shows q params columns = output (query_of q) (params ∷ (Null ∷ columns) ∷ [])

-- a query reads the columns of a row, and not its rowid
abbrev pub SkipsRowid : TableQuery → Row → Type 0
SkipsRowid q params =
    (row : Row) → (list_all (holds (params ∷ row ∷ [])) q.filter ≡ passes q params (cells row)) × (output (query_of q) (params ∷ row ∷ []) ≡ shows q params (cells row))

outputs_of_cells : (q : TableQuery) (params : Row) (rows : List Row) → SkipsRowid q params → outputs q params rows ≡ map (shows q params) (filter (passes q params) (cells_of rows))
outputs_of_cells q params rows skips =
    let by_cells : outputs q params rows ≡ map (λ row. shows q params (cells row)) (filter (λ row. passes q params (cells row)) rows) =
    λ i. map (λ row. (skips row).1 i) (filter (λ row. (skips row).0 i) rows) in
    by_cells ∙ sym (map-map (shows q params) cells (filter (λ row. passes q params (cells row)) rows))
    ∙ ap (map (shows q params)) (sym (filter-map (passes q params) cells rows))

-- the order of a query puts one row's columns before another's
abbrev pub IsBefore : TableQuery → Row → Row → Row → Type 0
IsBefore q params one other = output_cmp (query_of q) (shows q params one) (shows q params other) ≡ Less

module _ {X : Type 0} (columns : X → Row) (Fits : X → Type 0) where
  -- an output shows the columns of one that fits
  abbrev IsOf : Output → Type 0
  IsOf o = (x : X) × Fits x × (o.1 ≡ columns x)

  fitting_outputs : (os : List Output) → AllByRecursion IsOf os → AreRowsOf columns Fits (map (λ (o : Output). o.1) os)
  fitting_outputs [] all = ([], tt, refl)
  fitting_outputs (o ∷ os) all = let rest = fitting_outputs os all.1 in (all.0.0 ∷ rest.0, (all.0.1, rest.1), ap₂ ◌∷◌ all.0.2 rest.2)

  first_fits : (rows : List Row) → AreRowsOf columns Fits rows → AreRowsOf columns Fits (take 1 rows)
  first_fits [] all = ([], tt, refl)
  first_fits (row ∷ rows) ([], fit, is) = absurd cc
  first_fits (row ∷ rows) (x ∷ xs, fit, is) = (x ∷ [], (fit.0, tt), let same : row ≡ columns x = cc in ap (λ (r : Row). r ∷ []) same)

-- what a query is sorted by and shows, of those of a table that pass its tests, in the order of the table
outputs_same : {X : Type 0} (columns : X → Row) (q : TableQuery) (params : Row) → SkipsRowid q params → (xs : List X) (rows : List Row) → HoldsRows (map columns xs) rows
    → IsPermutation (map (λ x. shows q params (columns x)) (filter (λ x. passes q params (columns x)) xs)) (outputs q params rows)
outputs_same {X} columns q params skips xs rows held =
    let chosen : List X = filter (λ x. passes q params (columns x)) xs in
    let left : map (shows q params) (filter (passes q params) (map columns xs)) ≡ map (λ x. shows q params (columns x)) chosen =
    ap (map (shows q params)) (filter-map (passes q params) columns xs) ∙ map-map (shows q params) columns chosen in
    let same = IsPermutation-map (shows q params) _ _ (IsPermutation-filter (passes q params) (map columns xs) (cells_of rows) held.same) in
    subst (IsPermutation (map (λ x. shows q params (columns x)) chosen)) (sym (outputs_of_cells q params rows skips))
    (subst (λ l. IsPermutation l (map (shows q params) (filter (passes q params) (cells_of rows)))) left same)

-- an answer without LIMIT has what is shown of each that passes the tests, in some order
pub answer_same : {X : Type 0} (columns : X → Row) (q : TableQuery) (params : Row) → SkipsRowid q params → q.offset ≡ none_skipped → q.limit ≡ no_limit → (xs : List X) (rows answer : List Row)
    → HoldsRows (map columns xs) rows → Answers q params rows answer → IsPermutation (map (λ x. (shows q params (columns x)).1) (filter (λ x. passes q params (columns x)) xs)) answer
answer_same {X} columns q params skips from_start unlimited xs rows answer held a =
    let chosen : List X = filter (λ x. passes q params (columns x)) xs in
    let same = IsPermutation-map (λ (o : Output). o.1) _ _ (IsPermutation-trans _ _ _ (outputs_same columns q params skips xs rows held) a.same) in
    subst (IsPermutation (map (λ x. (shows q params (columns x)).1) chosen)) (sym (whole_answer q params rows answer a from_start unlimited))
    (subst (λ l. IsPermutation l (map (λ (o : Output). o.1) a.ordered)) (map-map (λ (o : Output). o.1) (λ x. shows q params (columns x)) chosen) same)

-- an answer without LIMIT shows those that are chosen, if they ascend in the query's order
pub rising_shown : {X : Type 0} (columns : X → Row) (q : TableQuery)
    (params : Row) → SkipsRowid q params → q.offset ≡ none_skipped → q.limit ≡ no_limit → (xs : List X)
    (rows answer : List Row)
    → HoldsRows (map columns xs) rows → Answers q params rows answer → (chosen : List X) → IsAscending
    (λ x y. IsBefore q params (columns x) (columns y)) chosen
    → IsPermutation chosen (filter (λ x. passes q params (columns x)) xs) → answer ≡ map (λ x. (shows q params
    (columns x)).1) chosen
rising_shown {X} columns q params skips from_start unlimited xs rows answer held a chosen up same =
    let output_of : X → Output = λ x. shows q params (columns x) in
    let ordered : a.ordered ≡ map output_of chosen =
    rising_order q params rows answer a from_start (map output_of chosen) (ascending-map (λ x y. output_cmp
    (query_of q) x y ≡ Less) output_of chosen up)
    (IsPermutation-trans _ _ _ (IsPermutation-map output_of chosen (filter (λ x. passes q params
    (columns x)) xs) same) (outputs_same columns q params skips xs rows held)) in
    whole_answer q params rows answer a from_start unlimited ∙ ap (map (λ (o : Output). o.1)) ordered ∙ map-map (λ
    (o : Output). o.1) output_of chosen

-- a query on a table that holds the columns of these, and shows all columns
module _ {X : Type 0} (columns : X → Row) (q : TableQuery) (params : Row) (skips : SkipsRowid q params) (all_shown : (x : X) → (shows q params (columns x)).1 ≡ columns x)
    (from_start : q.offset ≡ none_skipped) (xs : List X) (rows answer : List Row) (held : HoldsRows (map columns xs) rows) (a : Answers q params rows answer) where
  abbrev output_of : X → Output
  output_of x = shows q params (columns x)

  abbrev chosen_of : List X
  chosen_of = filter (λ x. passes q params (columns x)) xs

  same_outputs : IsPermutation (map output_of chosen_of) (outputs q params rows)
  same_outputs = outputs_same columns q params skips xs rows held

  in_some_order : IsPermutation (map output_of chosen_of) a.ordered
  in_some_order = IsPermutation-trans _ _ _ same_outputs a.same

  shown_of : (chosen : List X) → a.ordered ≡ map output_of chosen → map (λ (o : Output). o.1) a.ordered ≡ map columns chosen
  shown_of chosen is = ap (map (λ (o : Output). o.1)) is ∙ map-map (λ (o : Output). o.1) output_of chosen ∙ (λ i. map (λ x. all_shown x i) chosen)

  -- the answer, if at most one is chosen
  pub few_answer : (chosen_of ≡ []) ⊎ ((x : X) × (chosen_of ≡ x ∷ [])) → q.limit ≡ no_limit → answer ≡ map columns chosen_of
  few_answer few unlimited =
      whole_answer q params rows answer a from_start unlimited ∙ shown_of chosen_of (few_permuted (map output_of chosen_of) a.ordered (few_mapped output_of chosen_of few) in_some_order)

  module _ (chosen : List X) (up : IsAscending (λ x y. IsBefore q params (columns x) (columns y)) chosen) (same : IsPermutation chosen chosen_of) where
    rising_chosen : a.ordered ≡ map output_of chosen
    rising_chosen =
        rising_order q params rows answer a from_start (map output_of chosen) (ascending-map (λ x y. output_cmp (query_of q) x y ≡ Less) output_of chosen up)
        (IsPermutation-trans _ _ _ (IsPermutation-map output_of chosen chosen_of same) same_outputs)

    -- the answer, if those that are chosen ascend in the query's order
    pub rising_answer : q.limit ≡ no_limit → answer ≡ map columns chosen
    rising_answer unlimited = whole_answer q params rows answer a from_start unlimited ∙ shown_of chosen rising_chosen

    -- the same with LIMIT 1
    pub rising_first : q.limit ≡ lit (Int (pos 1)) → answer ≡ map columns (take 1 chosen)
    rising_first one = first_answer q params rows answer a from_start one ∙ ap (take 1) (shown_of chosen rising_chosen) ∙ take_one-map columns chosen

  module _ (Fits : X → Type 0) (fit : AllByRecursion Fits xs) where
    ordered_fit : AreRowsOf columns Fits (map (λ (o : Output). o.1) a.ordered)
    ordered_fit =
        let all : AllByRecursion (IsOf columns Fits) (map output_of chosen_of) =
        all_map (IsOf columns Fits) output_of chosen_of (each chosen_of (all-filter Fits (λ x. passes q params (columns x)) xs fit)) in
        fitting_outputs columns Fits a.ordered (recursion_from_All (IsOf columns Fits) a.ordered (All-permutation (IsOf columns Fits) _ a.ordered in_some_order (All-from_recursion (IsOf columns Fits) _ all)))
      where
        each : (ys : List X) → AllByRecursion Fits ys → AllByRecursion (λ y. IsOf columns Fits (output_of y)) ys
        each [] all = tt
        each (y ∷ ys) all = ((y, all.0, all_shown y), each ys all.1)

    -- the rows of the answer are of some that fit, if all do
    pub whole_fits : q.limit ≡ no_limit → AreRowsOf columns Fits answer
    whole_fits unlimited = subst (AreRowsOf columns Fits) (sym (whole_answer q params rows answer a from_start unlimited)) ordered_fit

    pub first_fits_too : q.limit ≡ lit (Int (pos 1)) → AreRowsOf columns Fits answer
    first_fits_too one = subst (AreRowsOf columns Fits) (sym (first_answer q params rows answer a from_start one)) (first_fits columns Fits _ ordered_fit)
