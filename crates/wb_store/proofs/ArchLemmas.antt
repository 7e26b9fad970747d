-- The architectures of the office, as a query answers them.
use Rattle.std.proofs.Common.{◌≡◌, ℕ, true, List, [], ◌∷◌, map, filter, refl, sym, ap, subst, ◌∙◌, ◌⊎◌, Option, None, Some, option_map, Less, is_eq, bytes_eq}
use Rattle.std.specs.FinMap as finite
use Rattle.std.specs.Ordering.{eq_by_cmp}
use Rattle.std.proofs.lemmas.Bool.Decides.{same_from_decides}
use Rattle.std.proofs.lemmas.Cmp.{tied_itself}
use Rattle.std.proofs.lemmas.Slice.Eq.{bytes_eq-Decides}
use Rattle.sqlite.specs.Effect.{Database}
use Rattle.sqlite.specs.declared.types.Value.TheVariants.{Text}
use Rattle.sqlite.specs.Order.{Row}
use Rattle.sqlite_trees.specs.Tree.{IsAscending}
use Rattle.sqlite_keyed.proofs.ListLemmas.{all_of, ascending_weaker, filter_all, filter_same, IsPermutation-same}
use Rattle.wb_sql.specs.Queries.{Answers}
use Rattle.wb_sql.specs.Among.{rows_in}
use Rattle.wb_sql.specs.OfficeStatements as sql
use Rattle.wb_sql.specs.Tables as tables
use Rattle.deb_text.specs.Lists.{first_of}
use Rattle.deb_text.specs.Text.{text_cmp}
use Rattle.deb_text.proofs.KeyLemmas.{text_cmp_total, text_cmp-same, eq_by_cmp-same}
use Rattle.wb_states.specs.declared.arch.OsCpu.{OsCpu}
use Rattle.wb_states.specs.Machine.{Machine, IsArch, IsConsistent}
use Rattle.wb_rows.specs.Cells.{arch_cells}
use Rattle.wb_rows.proofs.CellsLemmas.{arch_cells-same}
use Rattle.wb_store.specs.Merging.{Scratch}
use Rattle.wb_store.specs.Stands.{HasArchsOf, StandsWith}
use Rattle.wb_store.specs.Lookups.{AreArchs, AreRowsOf, FirstWords, IsReadableArch}
use Rattle.wb_store.proofs.EqualLemmas.{are_equal, and_true, equal-Text}
use Rattle.wb_store.proofs.FormLemmas.{kept_arch_formed, kept_arch_readable}
use Rattle.wb_store.proofs.LookupLemmas.{text_order}
use Rattle.wb_store.proofs.OrderLemmas.{all_from_in, entries_ascend, entry_at, few_at, filter_at, map_injective}
use Rattle.wb_store.proofs.TableLemmas.{SkipsRowid, IsBefore, passes, few_answer, rising_answer, whole_fits}

-- ---- an architecture by its name

-- one test of two names is the other
pub name_test : (name other : List ℕ) → bytes_eq other name ≡ eq_by_cmp text_cmp name other
name_test name other =
    let same = bytes_eq-Decides other name in
    same_from_decides {P = name ≡ other} (bytes_eq other name) (eq_by_cmp text_cmp name other) (λ h. sym (same.0 h), λ e. same.1 (sym e))
    (eq_by_cmp-same text_cmp-same name other, λ e. subst (λ k. eq_by_cmp text_cmp name k ≡ true) e (ap is_eq (tied_itself text_cmp_total name)))

-- the words of an architecture at a name
words_at : (name : List ℕ) (found : Option OsCpu) → option_map (λ (arch : List ℕ × OsCpu). arch.1) (first_of (entry_at name found)) ≡ found
words_at name None = refl
words_at name (Some words) = refl

name_passes : (name : List ℕ) (arch : List ℕ × OsCpu) → passes sql.arch_of_name (Text name ∷ []) (arch_cells arch) ≡ eq_by_cmp text_cmp name arch.0
name_passes name arch = and_true (are_equal (Text arch.0) (Text name)) ∙ equal-Text arch.0 name ∙ name_test name arch.0

skips_name : (params : Row) → SkipsRowid sql.arch_of_name params
skips_name params [] = (refl, refl)
skips_name params (x ∷ row) = (refl, refl)

module _ (machine : Machine) {scratch : Scratch} (db : Database) (stands : StandsWith machine scratch db) (answer : List Row) where
  abbrev known : List (List ℕ × OsCpu)
  known = finite.entries machine.archs

  module _ {params : Row} where
    -- the words that are read from the answer, for one name
    pub words_found : (name : List ℕ) (found : Option OsCpu) → params ≡ Text name ∷ [] → Answers sql.arch_of_name params (rows_in db tables.arch) answer → FirstWords answer found
        → found ≡ finite.get machine.archs name
    words_found name found given a first =
        let chosen : filter (λ (arch : List ℕ × OsCpu). passes sql.arch_of_name (Text name ∷ []) (arch_cells arch)) known ≡ entry_at name (finite.get machine.archs name) =
        filter_same (λ (arch : List ℕ × OsCpu). passes sql.arch_of_name (Text name ∷ []) (arch_cells arch)) _ (name_passes name) known
        ∙ filter_at text_cmp text_cmp_total text_cmp-same name known (finite.entries_sorted machine.archs) ∙ ap (entry_at name) (sym (finite.get-entries machine.archs name)) in
        let is : answer ≡ map arch_cells (entry_at name (finite.get machine.archs name)) =
        few_answer arch_cells sql.arch_of_name (Text name ∷ []) (skips_name (Text name ∷ [])) (λ x. refl) refl known (rows_in db tables.arch) answer stands.archs
        (subst (λ p. Answers sql.arch_of_name p (rows_in db tables.arch) answer) given a)
        (subst (λ (l : List (List ℕ × OsCpu)). (l ≡ []) ⊎ ((x : List ℕ × OsCpu) × (l ≡ x ∷ []))) (sym chosen) (few_at name (finite.get machine.archs name))) refl
        ∙ ap (map arch_cells) chosen in
        let same : first.0 ≡ entry_at name (finite.get machine.archs name) = map_injective arch_cells arch_cells-same first.0 _ (sym first.1 ∙ is) in
        first.2 ∙ ap (λ archs. option_map (λ (arch : List ℕ × OsCpu). arch.1) (first_of archs)) same ∙ words_at name (finite.get machine.archs name)

    -- its rows are those of architectures, if the office is consistent
    pub name_readable : IsConsistent machine → Answers sql.arch_of_name params (rows_in db tables.arch) answer → AreArchs answer
    name_readable sound a =
        whole_fits arch_cells sql.arch_of_name params (skips_name params) (λ x. refl) refl known (rows_in db tables.arch) answer stands.archs a IsReadableArch
        (all_from_in IsReadableArch known (kept_arch_readable machine sound)) refl

-- ---- all architectures

skips_archs : (params : Row) → SkipsRowid sql.all_archs params
skips_archs params [] = (refl, refl)
skips_archs params (x ∷ row) = (refl, refl)

module _ (machine : Machine) (db : Database) (has : HasArchsOf machine db) (answer : List Row) (a : Answers sql.all_archs [] (rows_in db tables.arch) answer) where
  abbrev archs : List (List ℕ × OsCpu)
  archs = finite.entries machine.archs

  ascend : IsAscending (λ x y. IsBefore sql.all_archs [] (arch_cells x) (arch_cells y)) archs
  ascend =
      ascending_weaker (λ (x y : List ℕ × OsCpu). text_cmp x.0 y.0 ≡ Less) (λ x y. IsBefore sql.all_archs [] (arch_cells x) (arch_cells y)) (λ x y less. text_order x.0 y.0 ∙ less) archs
      (entries_ascend text_cmp archs (finite.entries_sorted machine.archs))

  -- the answer has the row of each architecture
  pub archs_answer : answer ≡ map arch_cells archs
  archs_answer =
      rising_answer arch_cells sql.all_archs [] (skips_archs []) (λ x. refl) refl archs (rows_in db tables.arch) answer has a archs ascend
      (IsPermutation-same _ _ (sym (filter_all (λ x. true) archs (all_of (λ x. true ≡ true) (λ x. refl) archs)))) refl

  -- the architectures that are read from the answer
  pub archs_found : (made : List (List ℕ × OsCpu)) → answer ≡ map arch_cells made → made ≡ archs
  archs_found made is = map_injective arch_cells arch_cells-same made archs (sym is ∙ archs_answer)

  -- the answer has rows of architectures alone, if the office is consistent
  pub archs_readable : IsConsistent machine → AreArchs answer
  archs_readable sound =
      whole_fits arch_cells sql.all_archs [] (skips_archs []) (λ x. refl) refl archs (rows_in db tables.arch) answer has a IsReadableArch
      (all_from_in IsReadableArch archs (kept_arch_readable machine sound)) refl

  -- and of architectures with their forms
  pub archs_formed : IsConsistent machine → AreRowsOf arch_cells (λ (x : List ℕ × OsCpu). IsArch x.0 x.1) answer
  archs_formed sound =
      whole_fits arch_cells sql.all_archs [] (skips_archs []) (λ x. refl) refl archs (rows_in db tables.arch) answer has a (λ x. IsArch x.0 x.1)
      (all_from_in (λ x. IsArch x.0 x.1) archs (kept_arch_formed machine sound)) refl
