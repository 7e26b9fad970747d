-- The rows of builders that an opening reads, and what those of a consistent office are.
use Rattle.std.proofs.Common.{◌≡◌, inl, inr, ℕ, Bool, true, false, ◌||◌, List, [], ◌∷◌, map, Result, Vec, refl, sym, ap, ap₂, subst, ◌∙◌, Less}
use Rattle.std.specs.List.{list_any}
use Rattle.std.specs.FinMap as finite
use Rattle.std.specs.FinSet as set
use Rattle.std.specs.Cmp.{IsTotalOrder}
use Rattle.std.specs.Ordering.{eq_by_cmp, is_eq, ordering_then}
use Rattle.std.specs.declared.cmp.Ordering.{Ordering}
use Rattle.std.proofs.lemmas.Cmp.{tied_itself}
use Rattle.sqlite.specs.Effect.{Database}
use Rattle.sqlite.specs.Held.{Held, state}
use Rattle.sqlite.specs.Order.{Row}
use Rattle.sqlite_trees.specs.Tree.{IsAscending}
use Rattle.sqlite_trees.specs.declared.store.Store.{Ghosts}
use Rattle.sqlite_keyed.proofs.ListLemmas.{all_of, ascending-map, ascending_weaker, filter_all, IsPermutation-same}
use Rattle.sqlite_value.proofs.OrderLemmas.{value_cmp-Text}
use Rattle.wb_sql.specs.Queries.{Answers}
use Rattle.wb_sql.specs.Among.{rows_in}
use Rattle.wb_sql.specs.OfficeStatements as sql
use Rattle.wb_sql.specs.Tables as tables
use Rattle.deb_text.specs.Lists.{IsIn}
use Rattle.deb_text.specs.Text.{text_cmp, pair_cmp}
use Rattle.deb_text.proofs.KeyLemmas.{pair_cmp_total}
use Rattle.wb_states.specs.declared.arch.OsCpu.{OsCpu}
use Rattle.wb_states.specs.declared.store_fault.StoreFault.{StoreFault}
use Rattle.wb_states.specs.declared.store_fault.Table.TheVariants.{Builder}
use Rattle.wb_states.specs.Machine.{Key, Machine, IsConsistent, builder_pairs}
use Rattle.wb_rows.specs.Cells.{builder_cells}
use Rattle.wb_rows.specs.Reading.{IsNoBuilder}
use Rattle.wb_rows.proofs.CellsLemmas.{builder_cells-same}
use Rattle.wb_store.specs.Lookups.{ArePairs, AreRowsOf, IsReadablePair}
use Rattle.wb_store.specs.Checks.{AreBadRows, HoldsBuilders, IsFormedBuilder, IsRowOf, PassesWith, Tests, has_arch}
use Rattle.wb_store.specs.Stands.{HasBuildersOf}
use Rattle.wb_store.specs.Queries as ask
use Rattle.wb_store.proofs.ArchLemmas.{name_test}
use Rattle.wb_store.proofs.BuilderLemmas.{pairs_readable}
use Rattle.wb_store.proofs.FormLemmas.{arch_known, arch_utf8, builder_utf8}
use Rattle.wb_store.proofs.LookupLemmas.{text_order}
use Rattle.wb_states.proofs.PairLemmas.{as_map, contains-keys}
use Rattle.wb_store.proofs.CheckLemmas.{only_memory, passes_from}
use Rattle.wb_store.proofs.OrderLemmas.{all_from_in, entries_ascend, map_injective}
use Rattle.wb_store.proofs.TableLemmas.{SkipsRowid, IsBefore, rising_answer, whole_fits}

-- a row that is that of no builder is that of none with its form
pub no_formed_builder : (archs : List (List ℕ × OsCpu)) (row : Row) → IsNoBuilder row → ¬ IsRowOf builder_cells (IsFormedBuilder archs) row
no_formed_builder archs row none (pair, fit, is) = none pair (builder_utf8 pair.0 fit.name) (arch_utf8 pair.1 fit.arch) is

-- ---- membership

any-map : {X Y : Type 0} (p : Y → Bool) (f : X → Y) (xs : List X) → list_any p (map f xs) ≡ list_any (λ x. p (f x)) xs
any-map p f [] = refl
any-map p f (x ∷ xs) = ap (λ b. p (f x) || b) (any-map p f xs)

-- an architecture is one of those of the state
pub known_arch : (machine : Machine) (name : List ℕ) → has_arch (finite.entries machine.archs) name ≡ finite.contains_key machine.archs name
known_arch machine name =
    (λ i. list_any (λ (arch : List ℕ × OsCpu). name_test name arch.0 i) (finite.entries machine.archs))
    ∙ sym (any-map (eq_by_cmp text_cmp name) (λ (arch : List ℕ × OsCpu). arch.0) (finite.entries machine.archs)) ∙ sym (finite.contains_key-keys machine.archs name)

or_true : (a b : Bool) → b ≡ true → (a || b) ≡ true
or_true true b is = refl
or_true false b is = is

any_from_in : {K : Type 0} {R : K → K → Ordering} → IsTotalOrder R → (q : K) (xs : List K) → IsIn q xs → list_any (eq_by_cmp R q) xs ≡ true
any_from_in {R} o q [] within = absurd within
any_from_in {R} o q (x ∷ xs) (inl is) = ap (λ b. b || list_any (eq_by_cmp R q) xs) (ap (eq_by_cmp R q) (sym is) ∙ ap is_eq (tied_itself o q))
any_from_in {R} o q (x ∷ xs) (inr later) = or_true (eq_by_cmp R q x) (list_any (eq_by_cmp R q) xs) (any_from_in o q xs later)

-- ---- the builders of a state

pairs_ascend : (machine : Machine) → IsAscending (λ (a b : Key). pair_cmp a b ≡ Less) (builder_pairs machine)
pairs_ascend machine =
    ascending-map (λ (a b : Key). pair_cmp a b ≡ Less) (λ e. e.0) (finite.entries (as_map machine.builders))
    (entries_ascend pair_cmp (finite.entries (as_map machine.builders)) (finite.entries_sorted (as_map machine.builders)))

kept_builder_formed : (machine : Machine) → IsConsistent machine → (pair : Key) → IsIn pair (builder_pairs machine) → IsFormedBuilder (finite.entries machine.archs) pair
kept_builder_formed machine sound pair within =
    let there : set.contains machine.builders pair ≡ true = contains-keys pair_cmp_total machine.builders pair ∙ any_from_in pair_cmp_total pair (builder_pairs machine) within in
    let is = sound.builders pair.0 pair.1 there in
    record { name = is.name; arch = arch_known machine sound pair.1 is.known; known = known_arch machine pair.1 ∙ is.known }

skips_pairs : (params : Row) → SkipsRowid sql.all_builders params
skips_pairs params [] = (refl, refl)
skips_pairs params (x ∷ row) = (refl, refl)

module _ (machine : Machine) (db : Database) (has : HasBuildersOf machine db) (answer : List Row) (a : Answers sql.all_builders [] (rows_in db tables.builder) answer) where
  abbrev pairs : List Key
  pairs = builder_pairs machine

  ascend : IsAscending (λ x y. IsBefore sql.all_builders [] (builder_cells x) (builder_cells y)) pairs
  ascend =
      ascending_weaker (λ (x y : Key). pair_cmp x y ≡ Less) (λ x y. IsBefore sql.all_builders [] (builder_cells x) (builder_cells y))
      (λ x y less. ap₂ ordering_then (value_cmp-Text x.0 y.0) (text_order x.1 y.1) ∙ less) pairs (pairs_ascend machine)

  -- the answer has the row of each builder
  pub builders_answer : answer ≡ map builder_cells pairs
  builders_answer =
      rising_answer builder_cells sql.all_builders [] (skips_pairs []) (λ x. refl) refl pairs (rows_in db tables.builder) answer has a pairs ascend
      (IsPermutation-same _ _ (sym (filter_all (λ x. true) pairs (all_of (λ x. true ≡ true) (λ x. refl) pairs)))) refl

  -- the builders that are read from the answer
  pub builders_found : (made : List Key) → answer ≡ map builder_cells made → made ≡ pairs
  builders_found made is = map_injective builder_cells builder_cells-same made pairs (sym is ∙ builders_answer)

  -- the answer has rows of builders alone, if the office is consistent
  pub builders_readable : IsConsistent machine → ArePairs answer
  builders_readable sound =
      whole_fits builder_cells sql.all_builders [] (skips_pairs []) (λ x. refl) refl pairs
      (rows_in db tables.builder) answer has a IsReadablePair
      (pairs_readable machine sound) refl

  builders_formed : IsConsistent machine → (archs : List (List ℕ × OsCpu)) → archs ≡ finite.entries machine.archs → AreRowsOf builder_cells (IsFormedBuilder archs) answer
  builders_formed sound archs is = subst (λ l. AreRowsOf builder_cells (IsFormedBuilder l) answer) (sym is)
      (whole_fits builder_cells sql.all_builders [] (skips_pairs []) (λ x. refl) refl pairs (rows_in db tables.builder) answer has a (IsFormedBuilder (finite.entries machine.archs))
      (all_from_in (IsFormedBuilder (finite.entries machine.archs)) pairs (kept_builder_formed machine sound)) refl)

-- what the test of the builders says of an office
pub builders_pass : {S : Type 0} {g : Ghosts S} {old new : Held S} {X : Type 0} (archs : List (List ℕ × OsCpu)) (r : Result (Vec Key X) StoreFault)
    → Tests g ask.Builders (λ rows pairs. HoldsBuilders archs rows pairs.items) (AreBadRows Builder builder_cells (IsFormedBuilder archs)) old new r
    → PassesWith g ask.Builders HasBuildersOf (λ machine. archs ≡ finite.entries machine.archs) (λ machine pairs. pairs.items ≡ builder_pairs machine) old new r
builders_pass {g} {old} archs r tests =
    passes_from r tests (λ machine has rows a made holds. builders_found machine (state g old).now has rows a made.items holds.same)
    (λ machine sound has given rows a fault bad.
    only_memory builder_cells (IsFormedBuilder archs) Builder rows fault (builders_formed machine (state g old).now has rows a sound archs given) bad)
