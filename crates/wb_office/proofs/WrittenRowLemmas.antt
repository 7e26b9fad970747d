-- Rows that are written to the tables or taken out one after another.
use Rattle.std.proofs.Common.{◌≡◌, ◌∙◌, ℕ, ◌+◌, zero, suc, inl, inr, ◌<◌, ◌≤◌, List, [], ◌∷◌, map as each, length}
use Rattle.std.proofs.Common.{get_or, drop, drop-cons, Result, Ok, Err, Bool, true, false, cond, bytes_eq, sym, ap}
use Rattle.std.proofs.Common.{refl, subst, arith}
use Rattle.std.proofs.lemmas.List.{drop_all}
use Rattle.std.specs.FinMap as map
use Rattle.std.specs.FinSet as set
use Rattle.std.specs.Prelude.{⊤}
use Rattle.sqlite_trees.specs.declared.store.Store.{Ghosts}
use Rattle.sqlite.specs.Held.{Held}
use Rattle.deb_text.specs.Lists.{IsIn}
use Rattle.wb_states.specs.declared.store_fault.StoreFault.{StoreFault}
use Rattle.wb_states.specs.Machine.{Key, Machine}
use Rattle.wb_states.specs.Queue.{Entry}
use Rattle.wb_states.specs.declared.keyed.KeyedRecord.{KeyedRecord}
use Rattle.wb_states.specs.Lookups.{entry_of}
use Rattle.wb_store.specs.Calls.{Changes}
use Rattle.wb_store.specs.Writes as write
use Rattle.wb_store.specs.Writes.{OfficeWrite}
use Rattle.wb_merge.specs.Reported.{with_rows}
use Rattle.wb_merge.proofs.NameLemmas.{bytes_eq-is}
use Rattle.wb_office.specs.RowWrites.{PutsOne, TakesOut, without_names, without_pair, without_pairs}
use Rattle.wb_office.specs.Turns.{ChangesInTurn}
use Rattle.wb_office.proofs.TurnLemmas.{one_change, then_changes, no_change, failed_alike}

pub left_of : {X : Type 0} (xs : List X) (at : ℕ) (x : X) → at < length xs → x ≡ get_or xs at x → drop at xs ≡ x ∷ drop (at + 1) xs
left_of xs at x within is = drop-cons xs at x within ∙ (λ i. sym is i ∷ drop (one_after at i) xs)
  where
    one_after : (n : ℕ) → suc n ≡ n + 1
    one_after n = omega arith

pub in_place : {X Y : Type 0} (f : X → Y) (xs : List X) (at : ℕ) (x : X) → at < length xs → x ≡ get_or xs at x → IsIn (f x) (each f xs)
in_place f [] at x within is = absurd (omega (arith, within))
in_place f (y ∷ xs) zero x within is = inl (ap f is)
in_place f (y ∷ xs) (suc at) x within is = inr (in_place f xs at x (omega (arith, within)) is)

-- an office with these records
abbrev pub having : List Entry → Machine → Machine
having entries machine = record machine { records = with_rows machine.records entries }

module _ {S : Type 0} (g : Ghosts S) {Why : StoreFault → Type 0} (rows : List KeyedRecord) (at : ℕ) where
  pub put_next : {old mid : Held S} (row : KeyedRecord) (x : Unit {0}) → at < length rows → row ≡ get_or rows at row
      → Changes g (write.PutsRecord (entry_of row)) (λ _. ⊤) (λ machine. record machine { records = map.insert machine.records (row.arch, row.source) row.current }) old mid (Ok x)
      → (new : Held S) (r : Result (Unit {0}) StoreFault) → ChangesInTurn g (PutsOne (each entry_of rows)) Why (having (each entry_of (drop (at + 1) rows))) mid new r
      → ChangesInTurn g (PutsOne (each entry_of rows)) Why (having (each entry_of (drop at rows))) old new r
  put_next {old = old} row x within is made new r later =
      subst (λ (rest : List KeyedRecord). ChangesInTurn g (PutsOne (each entry_of rows)) Why (having (each entry_of rest)) old new r) (sym (left_of rows at row within is))
      (then_changes g x r (one_change g (Ok x) (in_place entry_of rows at row within is) made) later)

  pub put_all : (held : Held S) → length rows ≤ at → ChangesInTurn g (PutsOne (each entry_of rows)) Why (having (each entry_of (drop at rows))) held held (Ok (tt {0}))
  put_all held past =
      subst (λ (rest : List KeyedRecord). ChangesInTurn g (PutsOne (each entry_of rows)) Why (having (each entry_of rest)) held held (Ok (tt {0}))) (sym (drop_all at rows past)) (no_change g (tt {0}))

-- what is in its place is in the list
pub in_list : {X : Type 0} (xs : List X) (at : ℕ) (x : X) → at < length xs → x ≡ get_or xs at x → IsIn x xs
in_list [] at x within is = absurd (omega (arith, within))
in_list (y ∷ xs) zero x within is = inl is
in_list (y ∷ xs) (suc at) x within is = inr (in_list xs at x (omega (arith, within)) is)

-- an office without the records of these source packages of the architecture
abbrev pub lacking : List ℕ → List (List ℕ) → Machine → Machine
lacking arch names machine = record machine { records = without_names arch names machine.records }

module _ {S : Type 0} (g : Ghosts S) (arch : List ℕ) (pairs : List Key) (names : List (List ℕ)) (at : ℕ) where
  -- one more of these records is taken out
  pub remove_next : {old mid : Held S} (name : List ℕ) (x : Unit {0}) → at < length names → name ≡ get_or names at name
      → Changes g (write.RemovesRecord (arch, name)) (λ _. ⊤) (λ machine. record machine { records = map.remove machine.records (arch, name) }) old mid (Ok x)
      → (new : Held S) (r : Result (Unit {0}) StoreFault) → ChangesInTurn g (TakesOut arch names pairs) (λ _. ⊥) (lacking arch (drop (at + 1) names)) mid new r
      → ChangesInTurn g (TakesOut arch names pairs) (λ _. ⊥) (lacking arch (drop at names)) old new r
  remove_next {old = old} name x within is made new r later =
      subst (λ (rest : List (List ℕ)). ChangesInTurn g (TakesOut arch names pairs) (λ _. ⊥) (lacking arch rest) old new r) (sym (left_of names at name within is))
      (then_changes g x r (one_change g (Ok x) (refl, in_list names at name within is) made) later)

  pub remove_all : (held : Held S) → length names ≤ at → ChangesInTurn g (TakesOut arch names pairs) (λ _. ⊥) (lacking arch (drop at names)) held held (Ok (tt {0}))
  remove_all held past =
      subst (λ (rest : List (List ℕ)). ChangesInTurn g (TakesOut arch names pairs) (λ _. ⊥) (lacking arch rest) held held (Ok (tt {0}))) (sym (drop_all at names past)) (no_change g (tt {0}))

-- an office without those of these pairs that are of the architecture
abbrev pub leaving : List ℕ → List Key → Machine → Machine
leaving arch pairs machine = record machine { builders = without_pairs arch pairs machine.builders }

module _ {S : Type 0} (g : Ghosts S) (arch : List ℕ) (names : List (List ℕ)) (pairs : List Key) (at : ℕ) where
  -- one more of these pairs is taken out
  pub leave_next : {old mid : Held S} (pair : Key) (x : Unit {0}) → at < length pairs → pair ≡ get_or pairs at pair
      → ChangesInTurn g (TakesOut arch names pairs) (λ _. ⊥)
      (λ machine. record machine { builders = without_pair arch pair machine.builders }) old mid (Ok x)
      → (new : Held S) (r : Result (Unit {0}) StoreFault)
      → ChangesInTurn g (TakesOut arch names pairs) (λ _. ⊥) (leaving arch (drop (at + 1) pairs)) mid new r
      → ChangesInTurn g (TakesOut arch names pairs) (λ _. ⊥) (leaving arch (drop at pairs)) old new r
  leave_next {old = old} pair x within is made new r later =
      subst (λ (rest : List Key). ChangesInTurn g (TakesOut arch names pairs) (λ _. ⊥) (leaving arch rest) old new r)
      (sym (left_of pairs at pair within is))
      (then_changes g x r made later)

  pub leave_all : (held : Held S) → length pairs ≤ at
      → ChangesInTurn g (TakesOut arch names pairs) (λ _. ⊥) (leaving arch (drop at pairs)) held held (Ok (tt {0}))
  leave_all held past =
      subst (λ (rest : List Key). ChangesInTurn g (TakesOut arch names pairs) (λ _. ⊥) (leaving arch rest) held held
      (Ok (tt {0}))) (sym (drop_all at pairs past)) (no_change g (tt {0}))

module _ {S : Type 0} (g : Ghosts S) (arch : List ℕ) (names : List (List ℕ)) (pairs : List Key) (pair : Key) where
  -- a pair of another architecture stays
  pub pair_stays : {held : Held S} (x : Unit {0}) → bytes_eq pair.1 arch ≡ false
      → ChangesInTurn g (TakesOut arch names pairs) (λ _. ⊥)
      (λ machine. record machine { builders = without_pair arch pair machine.builders }) held held (Ok x)
  pair_stays {held = held} x other =
      subst (λ (b : Bool). ChangesInTurn g (TakesOut arch names pairs) (λ _. ⊥)
      (λ machine. record machine { builders = cond b (set.remove machine.builders pair) machine.builders }) held
      held (Ok x))
      (sym other) (no_change g x)

  -- one of this architecture is taken out
  pub pair_goes : {old new : Held S} (r : Result (Unit {0}) StoreFault) → bytes_eq pair.1 arch ≡ true → IsIn pair pairs
      → Changes g (write.RemovesBuilder pair) (λ _. ⊤) (λ machine.
      record machine { builders = set.remove machine.builders pair }) old new r
      → ChangesInTurn g (TakesOut arch names pairs) (λ _. ⊥)
      (λ machine. record machine { builders = without_pair arch pair machine.builders }) old new r
  pair_goes {old = old} {new = new} r same within made =
      subst (λ (b : Bool). ChangesInTurn g (TakesOut arch names pairs) (λ _. ⊥)
      (λ machine. record machine { builders = cond b (set.remove machine.builders pair) machine.builders }) old new
      r)
      (sym same) (one_change g r (within, bytes_eq-is pair.1 arch same) made)

-- a change of the tables that failed, as one of several
pub fails_among : {S A : Type 0} (g : Ghosts S) {write : OfficeWrite} {Is : OfficeWrite → Type 0} {Why : StoreFault → Type 0} {after other : Machine → Machine} {old new : Held S} (e : StoreFault) → Is write
    → Changes {A = A} g write (λ _. ⊤) after old new (Err e) → ChangesInTurn {A = A} g Is Why other old new (Err e)
fails_among g e is made = failed_alike g e (one_change g (Err e) is made)
