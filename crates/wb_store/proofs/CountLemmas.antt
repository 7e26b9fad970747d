-- How many records of an architecture are in each state, counted among its records.
use Rattle.std.proofs.Common.{◌≡◌, true, false, cond, Bool, ◌&&◌, ℕ, suc, List, [], ◌∷◌, length, filter, nat_eq, Result, Ok, Err, refl, sym, ap, subst}
use Rattle.std.specs.FinMap as finite
use Rattle.sqlite_trees.specs.declared.store.Store.{Ghosts}
use Rattle.sqlite.specs.Held.{Held}
use Rattle.wb_states.specs.declared.state.State.{State}
use Rattle.wb_states.specs.declared.store_fault.StoreFault.{StoreFault}
use Rattle.wb_states.specs.Lookups.{is_in, is_of, number_in, rows_of}
use Rattle.wb_states.specs.Machine.{Machine}
use Rattle.wb_states.specs.Queue.{Entry}
use Rattle.wb_states.specs.State.{code_of}
use Rattle.wb_store.specs.Calls.{LooksUp}
use Rattle.wb_store.specs.Queries.{OfficeQuery}

-- whether a record is in the state
abbrev has_state : State → Entry → Bool
has_state state entry = nat_eq (code_of entry.1.state) (code_of state)

-- the records of an architecture in a state, found one after the other
within : (arch : List ℕ) (state : State) (entries : List Entry)
    → length (filter (has_state state) (filter (is_of arch) entries)) ≡ length (filter (is_in arch state) entries)
within arch state [] = refl
within arch state (entry ∷ entries) =
    let mine = filter (is_of arch) entries in
    let both = filter (is_in arch state) entries in
    elim (is_of arch entry) as (λ b. length (filter (has_state state) (cond b (entry ∷ mine) mine)) ≡ length (cond (b && has_state state entry) (entry ∷ both) both)) [
      | true ↦ elim (has_state state entry) as (λ c. length (cond c (entry ∷ filter (has_state state) mine) (filter (has_state state) mine)) ≡ length (cond c (entry ∷ both) both)) [
        | true ↦ ap suc (within arch state entries)
        | false ↦ within arch state entries
      ]
      | false ↦ within arch state entries
    ]

-- how many of the records of an architecture are in a state
pub among : (machine : Machine) (arch : List ℕ) (state : State) → length (filter (has_state state) (rows_of machine arch)) ≡ number_in machine arch state
unfolding rows_of number_in
among machine arch state = within arch state (finite.entries machine.records)

-- what follows from the answer of a look-up is looked up too
pub looks_up_as : {S A B : Type 0} {g : Ghosts S} {query : OfficeQuery} {Before : Machine → A → Type 0} {After : Machine → B → Type 0} {old new : Held S} {x : A} (y : B)
    → LooksUp g query Before old new (Ok x) → ((machine : Machine) → Before machine x → After machine y) → LooksUp g query After old new (Ok y)
looks_up_as y looked follows = record {
  value = λ clean machine scratch stands. follows machine (looked.value clean machine scratch stands);
  same = looked.same;
  err = λ clean has. tt;
  survives = looked.survives;
}

-- a look-up that failed answers nothing else
pub looks_up_failed : {S A B : Type 0} {g : Ghosts S} {query : OfficeQuery} {Before : Machine → A → Type 0} {After : Machine → B → Type 0} {old new : Held S} {fault : StoreFault}
    {r : Result B StoreFault} → r ≡ Err fault → LooksUp g query Before old new (Err fault) → LooksUp g query After old new r
looks_up_failed {g = g} {query} {After = After} {old} {new} {fault} is looked = subst (LooksUp g query After old new) (sym is) (record {
  value = λ clean. tt;
  same = λ clean has. tt;
  err = looked.err;
  survives = looked.survives;
})
