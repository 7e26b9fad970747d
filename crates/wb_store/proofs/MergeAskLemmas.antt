-- What a merge looks up in a transaction of the office, and where it adds a row, as a merge says it.
use Rattle.std.proofs.Common.{◌≡◌, ◌≢◌, ℕ, ◌<◌, Bool, true, false, ◌&&◌, ◌||◌, cond, inl, inr, List, [], ◌∷◌, ◌++◌, map, filter, bytes_eq, nat_eq, Less, refl, sym, ap, ap₂, subst, ◌∙◌, arith}
use Rattle.std.specs.List.{AllByRecursion, list_any}
use Rattle.std.specs.List.Sorted.{IsStrictlySortedBy}
use Rattle.std.specs.FinMap as finite
use Rattle.std.specs.Ordering.{nat_cmp, is_eq, is_lt}
use Rattle.std.proofs.lemmas.Slice.Eq.{bytes_eq-Decides}
use Rattle.std.proofs.lemmas.Map.Views.{Contains-from_any, list_any-from_Contains}
use Rattle.sqlite_keyed.proofs.ListLemmas.{filter_same}
use Rattle.deb_text.specs.Lists.{IsIn, with_item}
use Rattle.deb_text.specs.Text.{text_cmp}
use Rattle.deb_text.proofs.SortedLemmas.{IsIn-filter}
use Rattle.wb_states.specs.declared.keyed.KeyedRecord.{KeyedRecord}
use Rattle.wb_states.specs.declared.scratch.BinaryRow.{BinaryRow}
use Rattle.wb_states.specs.declared.scratch.SourceRow.{SourceRow}
use Rattle.wb_states.specs.declared.state.State.{State}
use Rattle.wb_states.specs.declared.state.State.TheVariants.{DepWait}
use Rattle.wb_states.specs.Lookups.{entry_of, is_in, rows_in}
use Rattle.wb_states.specs.Machine.{Machine}
use Rattle.wb_states.specs.Queue.{Entry}
use Rattle.wb_states.specs.State.{code_of, is_dep_wait}
use Rattle.wb_states.proofs.QueueLemmas.{IsIn-entries}
use Rattle.wb_merge.specs.Scratch.{versions_in}
use Rattle.wb_archive.specs.Tables.{AreApart, AreNamesOf, HaveWaiting}
use Rattle.wb_store.specs.Merging.{ListsNames}
use Rattle.wb_store.proofs.NameLemmas.{bytes_eq_equiv, ties}
use Rattle.wb_store.proofs.PlaceLemmas.{less_of}

-- ---- rows of a name

-- the rows of a name, by either order of the test
pub turned_rows : {X : Type 0} (name_of : X → List ℕ) (name : List ℕ) (rows : List X) → filter (λ row. bytes_eq (name_of row) name) rows ≡ filter (λ row. bytes_eq name (name_of row)) rows
turned_rows name_of name rows = filter_same (λ row. bytes_eq (name_of row) name) (λ row. bytes_eq name (name_of row)) (λ row. bytes_eq_equiv.symm (name_of row) name) rows

pub versions_named : (name : List ℕ) (rows : List BinaryRow) → map (λ (row : BinaryRow). row.version) (filter (λ row. bytes_eq row.name name) rows) ≡ versions_in rows name
unfolding versions_in
versions_named name rows = ap (map (λ (row : BinaryRow). row.version)) (turned_rows (λ (row : BinaryRow). row.name) name rows)

-- ---- the names of the source packages

-- of names that rise none stands twice
names_apart : (names : List (List ℕ)) → IsStrictlySortedBy text_cmp names → AreApart names
unfolding IsStrictlySortedBy
names_apart [] up = tt
names_apart (name ∷ names) up = (apart names up.0, names_apart names up.1)
  where
    differ : (other : List ℕ) → text_cmp name other ≡ Less → bytes_eq name other ≡ false
    differ other less = ties name other ∙ ap is_eq less

    apart : (others : List (List ℕ)) → AllByRecursion (λ other. text_cmp name other ≡ Less) others → list_any (bytes_eq name) others ≡ false
    apart [] above = refl
    apart (other ∷ others) above = ap₂ ◌||◌ (differ other above.0) (apart others above.1)

named_among : (name : List ℕ) (rows : List SourceRow) → list_any (bytes_eq name) (map (λ (row : SourceRow). row.name) rows) ≡ list_any (λ (row : SourceRow). bytes_eq name row.name) rows
named_among name [] = refl
named_among name (row ∷ rows) = ap (λ b. bytes_eq name row.name || b) (named_among name rows)

exact : (x y : List ℕ) → bytes_eq x y ≡ true → x ≡ y
exact x y = (bytes_eq-Decides x y).0

same_any : (a b : Bool) → (a ≡ true → b ≡ true) → (b ≡ true → a ≡ true) → a ≡ b
same_any true true there back = refl
same_any true false there back = sym (there refl)
same_any false true there back = back refl
same_any false false there back = refl

pub names_listed : (rows : List SourceRow) (names : List (List ℕ)) → ListsNames rows names → AreNamesOf rows names
names_listed rows names listed = record {
  apart = names_apart names listed.ascending;
  all = λ name.
      same_any (list_any (bytes_eq name) names) (list_any (bytes_eq name) (map (λ (row : SourceRow). row.name) rows))
      (λ there. list_any-from_Contains bytes_eq_equiv name _ ((listed.listed name).0 (Contains-from_any exact name names there)))
      (λ there. list_any-from_Contains bytes_eq_equiv name names ((listed.listed name).1 (Contains-from_any exact name _ there)))
      ∙ named_among name rows;
}

-- ---- the records of an architecture

in_mapped : (entry : Entry) (rows : List KeyedRecord) → IsIn entry (map entry_of rows) → IsIn entry.1 (map (λ row. row.current) rows)
in_mapped entry [] there = there
in_mapped entry (row ∷ rows) (inl is) = inl (ap (λ (e : Entry). e.1) is)
in_mapped entry (row ∷ rows) (inr later) = inr (in_mapped entry rows later)

waits_in : (state : State) → is_dep_wait state ≡ true → nat_eq (code_of state) (code_of DepWait) ≡ true
waits_in DepWait is = refl
waits_in state is = absurd cc

pub records_waiting : (machine : Machine) (arch : List ℕ) (rows : List KeyedRecord) → map entry_of rows ≡ rows_in machine arch DepWait → HaveWaiting machine.records arch rows
unfolding rows_in
records_waiting machine arch rows are name current there waits =
    let entry : Entry = ((arch, name), current) in
    in_mapped entry rows (subst (IsIn entry) (sym are) ((IsIn-filter (is_in arch DepWait) entry (finite.entries machine.records)).1
    ((IsIn-entries machine entry).1 there, ap₂ ◌&&◌ (bytes_eq_equiv.refl arch) (waits_in current.state waits))))

-- ---- a row after all others

module _ {X : Type 0} (seq : X → ℕ) (x : X) where
  pub added_last : (xs : List X) → AllByRecursion (λ y. seq y < seq x) xs → with_item (λ a b. nat_cmp (seq a) (seq b)) x xs ≡ xs ++ x ∷ []
  added_last [] below = refl
  added_last (y ∷ ys) below = ap (λ o. cond (is_lt o) (y ∷ with_item (λ a b. nat_cmp (seq a) (seq b)) x ys) (x ∷ y ∷ ys)) (less_of (seq y) (seq x) below.0) ∙ ap (λ l. y ∷ l) (added_last ys below.1)

  pub new_last : (xs : List X) → AllByRecursion (λ y. seq y < seq x) xs → AllByRecursion (λ y. seq y ≢ seq x) xs
  new_last [] below = tt
  new_last (y ∷ ys) below = (λ same. omega (arith, below.0, same), new_last ys below.1)
