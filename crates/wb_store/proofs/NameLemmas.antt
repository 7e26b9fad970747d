-- The names of the source packages of a merge, each once, as their query answers them.
use Rattle.std.proofs.Common.{◌≡◌, ℕ, ◌+◌, ◌<◌, bytes_eq, false, List, [], ◌∷◌, length, map, refl, sym, ap, ap₂, subst, ◌∙◌, arith, Ordering, Less, Equal, Greater, is_lt, IsPermutation}
use Rattle.std.specs.Prelude.{IsUtf8}
use Rattle.std.specs.List.{All, AllByRecursion, dedup}
use Rattle.std.specs.List.Sorted.{IsSorted}
use Rattle.std.specs.Cmp.{IsEquivalence}
use Rattle.std.specs.Ordering.{eq_by_cmp, ordering_then}
use Rattle.std.proofs.lemmas.List.{get_or-map, length-map}
use Rattle.std.proofs.lemmas.List.Elements.{All-from_recursion, recursion_from_All}
use Rattle.std.proofs.lemmas.List.Kept.{Contains-dedup, Contains-from_dedup, IsStrictlySortedBy-dedup}
use Rattle.std.proofs.lemmas.List.Sorted.{All-permutation, Contains-permutation, IsPermutation-map, IsPermutation-sym}
use Rattle.std.proofs.lemmas.Slice.Eq.{bytes_eq-Decides}
use Rattle.sqlite.specs.Effect.{Database}
use Rattle.sqlite.specs.Order.{Row, column}
use Rattle.sqlite.specs.Query.{Output, output, output_cmp}
use Rattle.sqlite.specs.declared.types.Value.{Value}
use Rattle.sqlite.specs.declared.types.Value.TheVariants.{Null, Int, Real, Text, Blob}
use Rattle.sqlite_value.specs.Order.{value_cmp}
use Rattle.sqlite_value.proofs.OrderLemmas.{value_cmp-Text}
use Rattle.sqlite_keyed.proofs.ListLemmas.{map-map}
use Rattle.deb_text.specs.Text.{text_cmp}
use Rattle.deb_text.proofs.KeyLemmas.{text_cmp_total}
use Rattle.wb_merge.proofs.NameLemmas.{bytes_eq-turned}
use Rattle.wb_sql.specs.Among.{rows_in}
use Rattle.wb_sql.specs.Queries.{query_of, outputs, Answers}
use Rattle.wb_sql.specs.ScratchStatements as sql
use Rattle.wb_sql.specs.Tables as tables
use Rattle.wb_sql.proofs.AnswerLemmas.{whole_answer}
use Rattle.wb_states.specs.declared.scratch.SourceRow.{SourceRow}
use Rattle.wb_states.specs.Machine.{Machine}
use Rattle.wb_rows.specs.Scratch.{IsReadableSource, name_cells}
use Rattle.wb_store.specs.Lookups.{AreRowsOf}
use Rattle.wb_store.specs.Merging.{ListsNames, Scratch, stored_source}
use Rattle.wb_store.specs.ScratchLookups.{AreNames, AreReadable, DistinctNames}
use Rattle.wb_store.specs.Stands.{StandsWith}
use Rattle.wb_store.proofs.ArchLemmas.{name_test}

-- the bytes of a text
abbrev text_in : Value → List ℕ
text_in (Text t) = t
text_in Null = []
text_in (Int n) = []
text_in (Real x) = []
text_in (Blob b) = []

-- the name in a row of the answer
abbrev name_in : Row → List ℕ
name_in row = text_in (column row 0)

names_back : (names : List (List ℕ)) → map name_in (map name_cells names) ≡ names
names_back [] = refl
names_back (name ∷ names) = ap (λ l. name ∷ l) (names_back names)

abbrev out : SourceRow → Output
out row = output (query_of sql.source_names) ([] ∷ stored_source row ∷ [])

outputs_are : (sources : List SourceRow) → outputs sql.source_names [] (map stored_source sources) ≡ map out sources
outputs_are [] = refl
outputs_are (row ∷ sources) = ap (λ l. out row ∷ l) (outputs_are sources)

-- an output is that of a source package
abbrev IsOf : Output → Type 0
IsOf o = (row : SourceRow) × (o ≡ out row)

each_of : (sources : List SourceRow) → AllByRecursion IsOf (map out sources)
each_of [] = tt
each_of (row ∷ sources) = ((row, refl), each_of sources)

not_less : (r s : Ordering) → is_lt (ordering_then r s) ≡ false → is_lt r ≡ false
not_less Less s h = h
not_less Equal s h = refl
not_less Greater s h = refl

-- two outputs in order have their names in order
names_follow : (a b : Output) → IsOf a → IsOf b → is_lt (output_cmp (query_of sql.source_names) b a) ≡ false → is_lt (text_cmp (name_in b.1) (name_in a.1)) ≡ false
names_follow a b is_a is_b follows =
    let there : is_lt (output_cmp (query_of sql.source_names) (out is_b.0) (out is_a.0)) ≡ false =
    subst (λ o. is_lt (output_cmp (query_of sql.source_names) o (out is_a.0)) ≡ false) is_b.1 (subst (λ o. is_lt (output_cmp (query_of sql.source_names) b o) ≡ false) is_a.1 follows) in
    let texts : is_lt (text_cmp is_b.0.name is_a.0.name) ≡ false = ap is_lt (sym (value_cmp-Text is_b.0.name is_a.0.name)) ∙ not_less (value_cmp (Text is_b.0.name) (Text is_a.0.name)) _ there in
    subst (λ o. is_lt (text_cmp (name_in o.1) (name_in a.1)) ≡ false) (sym is_b.1) (subst (λ o. is_lt (text_cmp is_b.0.name (name_in o.1)) ≡ false) (sym is_a.1) texts)

module _ (sources : List SourceRow) (ordered : List Output) (same : IsPermutation (map out sources) ordered) (sorted : IsSorted (output_cmp (query_of sql.source_names)) ordered) where
  abbrev names : List (List ℕ)
  names = map (λ (o : Output). name_in o.1) ordered

  all_of : All IsOf ordered
  all_of = All-permutation IsOf (map out sources) ordered same (All-from_recursion IsOf (map out sources) (each_of sources))

  names_sorted : IsSorted text_cmp names
  names_sorted k d above within =
      let some : Output = output (query_of sql.source_names) ([] ∷ [] ∷ []) in
      let next : k + 1 < length ordered = omega (arith, within, length-map ordered (λ (o : Output). name_in o.1)) in
      let here : k < length ordered = omega (arith, next) in
      ap₂ (λ a b. is_lt (text_cmp a b)) (get_or-map (λ (o : Output). name_in o.1) ordered (k + 1) some d next) (get_or-map (λ (o : Output). name_in o.1) ordered k some d here)
      ∙ names_follow _ _ (all_of k some here) (all_of (k + 1) some next) (sorted k some above next)

  names_same : IsPermutation (map (λ (row : SourceRow). row.name) sources) names
  names_same = subst (λ l. IsPermutation l names) (map-map (λ (o : Output). name_in o.1) out sources) (IsPermutation-map (λ (o : Output). name_in o.1) (map out sources) ordered same)

-- an output shows a name in UTF-8
abbrev IsNamed : Output → Type 0
IsNamed o = (name : List ℕ) × IsUtf8 name × (o.1 ≡ name_cells name)

each_named : (sources : List SourceRow) → AllByRecursion IsReadableSource sources → AllByRecursion IsNamed (map out sources)
each_named [] all = tt
each_named (row ∷ sources) all = ((row.name, all.0.name, refl), each_named sources all.1)

named_outputs : (os : List Output) → AllByRecursion IsNamed os → AreRowsOf name_cells IsUtf8 (map (λ (o : Output). o.1) os)
named_outputs [] all = ([], tt, refl)
named_outputs (o ∷ os) all = let rest = named_outputs os all.1 in (all.0.0 ∷ rest.0, (all.0.1, rest.1), ap₂ ◌∷◌ all.0.2 rest.2)

pub bytes_eq_equiv : IsEquivalence bytes_eq
bytes_eq_equiv = record {
  refl = λ x. (bytes_eq-Decides x x).1 refl;
  symm = bytes_eq-turned;
  congr = λ x y z e. ap (λ w. bytes_eq w z) ((bytes_eq-Decides x y).0 e);
}

pub ties : (x y : List ℕ) → bytes_eq x y ≡ eq_by_cmp text_cmp x y
ties x y = bytes_eq-turned x y ∙ name_test x y

module _ {machine : Machine} {scratch : Scratch} (db : Database) (stands : StandsWith machine scratch db) (answer : List Row) (a : Answers sql.source_names [] (rows_in db tables.scratch_source) answer) where
  same_outputs : IsPermutation (map out scratch.sources) a.ordered
  same_outputs = subst (λ l. IsPermutation l a.ordered) (ap (outputs sql.source_names []) stands.sources ∙ outputs_are scratch.sources) a.same

  answer_is : answer ≡ map (λ (o : Output). o.1) a.ordered
  answer_is = whole_answer sql.source_names [] (rows_in db tables.scratch_source) answer a refl refl

  -- the names that are read of the answer, without those that come again, are those of the source packages, each once and in order
  pub names_found : (found : List (List ℕ)) → DistinctNames answer found → ListsNames scratch.sources found
  names_found found distinct =
      let listed : distinct.0 ≡ names scratch.sources a.ordered same_outputs a.sorted =
      sym (names_back distinct.0) ∙ ap (map name_in) (sym distinct.1 ∙ answer_is) ∙ map-map name_in (λ (o : Output). o.1) a.ordered in
      let is : found ≡ dedup bytes_eq (names scratch.sources a.ordered same_outputs a.sorted) = distinct.2 ∙ ap (dedup bytes_eq) listed in
      subst (ListsNames scratch.sources) (sym is) (record {
        ascending = IsStrictlySortedBy-dedup text_cmp_total ties (names scratch.sources a.ordered same_outputs a.sorted) (names_sorted scratch.sources a.ordered same_outputs a.sorted);
        listed = λ name. (
          λ within. Contains-permutation _ _ name (IsPermutation-sym _ _ (names_same scratch.sources a.ordered same_outputs a.sorted)) (Contains-from_dedup bytes_eq _ name within),
          λ within. Contains-dedup bytes_eq_equiv (λ x y e. (bytes_eq-Decides x y).0 e) _ name (Contains-permutation _ _ name (names_same scratch.sources a.ordered same_outputs a.sorted) within),
        );
      })

  -- it can be read, if the rows of the merge can
  pub names_readable : AreReadable scratch → AreNames answer
  names_readable readable =
      subst (AreRowsOf name_cells IsUtf8) (sym answer_is)
      (named_outputs a.ordered (recursion_from_All IsNamed a.ordered (All-permutation IsNamed (map out scratch.sources) a.ordered same_outputs (All-from_recursion IsNamed (map out scratch.sources) (each_named scratch.sources readable.sources)))))
