-- The states that rows show, and how many of them are one state.
use Rattle.std.proofs.Common.{◌≡◌, ◌++◌, inl, inr, ℕ, Bool, List, [], ◌∷◌, length, map, filter, nat_eq, refl, sym, ap, ap₂, subst, ◌∙◌, IsPermutation}
use Rattle.std.specs.Prelude.{unwrap_or, find}
use Rattle.std.specs.List.{AllByRecursion}
use Rattle.std.proofs.lemmas.List.{length-map}
use Rattle.std.proofs.lemmas.List.Elements.{recursion_from_All, All-from_recursion}
use Rattle.std.proofs.lemmas.List.Sorted.{All-permutation, IsPermutation-map, length_permutation}
use Rattle.sqlite.specs.Order.{Row, column}
use Rattle.sqlite.specs.Query.{as_count}
use Rattle.sqlite_keyed.proofs.ListLemmas.{filter-map, IsPermutation-filter}
use Rattle.wb_rows.specs.Cells.{state_cells}
use Rattle.wb_states.specs.declared.state.State.{State}
use Rattle.wb_states.specs.declared.state.State.TheVariants.{NeedsBuild, Building, Built, Uploaded, Installed, DepWait, BdUninstallable, Failed, NotForUs, BuildAttempted}
use Rattle.wb_states.specs.declared.store_fault.StoreFault.{StoreFault}
use Rattle.wb_states.specs.declared.store_fault.Table.{Table}
use Rattle.wb_states.specs.Lookups.{number_in, rows_of}
use Rattle.wb_states.specs.Machine.{Machine}
use Rattle.wb_states.specs.Queue.{Entry}
use Rattle.wb_states.specs.State.{code_of, states}
use Rattle.wb_store.specs.Faults.{IsUnfit}
use Rattle.wb_store.specs.Lookups.{AreStates, HasState}
use Rattle.wb_store.proofs.CountLemmas.{among}

-- ---- rows of states

-- a row of rows that are those of states is that of a state
one_of_rows : (before : List Row) (row : Row) (rest : List Row) → AreStates (before ++ row ∷ rest) → HasState row
one_of_rows [] row rest ([], is) = cc
one_of_rows [] row rest (state ∷ more, is) = (state, let same : row ≡ state_cells state = cc in same)
one_of_rows (first ∷ before) row rest ([], is) = cc
one_of_rows (first ∷ before) row rest (state ∷ more, is) = one_of_rows before row rest (more, let same : before ++ row ∷ rest ≡ map state_cells more = cc in same)

-- why one row is not read, as why all are not
pub state_fault : (table : Table) (before : List Row) (row : Row) (rest left all : List Row) (fault : StoreFault) → before ++ left ≡ all → left ≡ row ∷ rest
    → IsUnfit table (HasState row) fault → IsUnfit table (AreStates all) fault
state_fault table before row rest left all fault whole next (inl memory) = inl memory
state_fault table before row rest left all fault whole next (inr unfit) =
    inr (unfit.0, λ are. unfit.1 (one_of_rows before row rest (subst AreStates (sym whole ∙ ap (λ l. before ++ l) next) are)))

-- the states of rows that each show one
gathered : (rows : List Row) → AllByRecursion HasState rows → AreStates rows
gathered [] all = ([], refl)
gathered (row ∷ rows) all = let rest = gathered rows all.1 in (all.0.0 ∷ rest.0, ap₂ ◌∷◌ all.0.1 rest.1)

each_has : (entries : List Entry) → AllByRecursion HasState (map (λ (entry : Entry). state_cells entry.1.state) entries)
each_has [] = tt
each_has (entry ∷ entries) = ((entry.1.state, refl), each_has entries)

-- rows that show the states of records are those of states
pub are_states : (entries : List Entry) (rows : List Row) → IsPermutation (map (λ (entry : Entry). state_cells entry.1.state) entries) rows → AreStates rows
are_states entries rows same = gathered rows (recursion_from_All HasState rows (All-permutation HasState _ rows same (All-from_recursion HasState _ (each_has entries))))

-- ---- the state that a row shows

abbrev shown : Row → State
shown row = unwrap_or (find (λ state. nat_eq (unwrap_or (as_count (column row 0)) 0) (code_of state)) states) NeedsBuild

shown-cells : (state : State) → shown (state_cells state) ≡ state
shown-cells NeedsBuild = refl
shown-cells Building = refl
shown-cells Built = refl
shown-cells Uploaded = refl
shown-cells Installed = refl
shown-cells DepWait = refl
shown-cells BdUninstallable = refl
shown-cells Failed = refl
shown-cells NotForUs = refl
shown-cells BuildAttempted = refl

each_shown : (all : List State) → map shown (map state_cells all) ≡ all
each_shown [] = refl
each_shown (state ∷ all) = ap₂ ◌∷◌ (shown-cells state) (each_shown all)

each_shown_of : (entries : List Entry) → map shown (map (λ (entry : Entry). state_cells entry.1.state) entries) ≡ map (λ (entry : Entry). entry.1.state) entries
each_shown_of [] = refl
each_shown_of (entry ∷ entries) = ap₂ ◌∷◌ (shown-cells entry.1.state) (each_shown_of entries)

-- states whose rows show those of records are these
pub states_found : (entries : List Entry) (all : List State) → IsPermutation (map (λ (entry : Entry). state_cells entry.1.state) entries) (map state_cells all)
    → IsPermutation (map (λ (entry : Entry). entry.1.state) entries) all
states_found entries all same =
    subst (IsPermutation (map (λ (entry : Entry). entry.1.state) entries)) (each_shown all)
    (subst (λ l. IsPermutation l (map shown (map state_cells all))) (each_shown_of entries) (IsPermutation-map shown _ _ same))

-- ---- how many are one state

abbrev is_state : State → State → Bool
is_state state one = nat_eq (code_of one) (code_of state)

-- how many records of an architecture are in a state, by their states in any order
pub numbers : (machine : Machine) (arch : List ℕ) (state : State) (all : List State) → IsPermutation (map (λ (entry : Entry). entry.1.state) (rows_of machine arch)) all
    → length (filter (is_state state) all) ≡ number_in machine arch state
numbers machine arch state all same =
    length_permutation _ _ (IsPermutation-filter (is_state state) _ all same)
    ∙ ap length (filter-map (is_state state) (λ (entry : Entry). entry.1.state) (rows_of machine arch))
    ∙ length-map (filter (λ (entry : Entry). is_state state entry.1.state) (rows_of machine arch)) (λ (entry : Entry). entry.1.state)
    ∙ among machine arch state
