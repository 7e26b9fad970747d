-- The names for which records wait, one record after another.
use Rattle.std.proofs.Common.{◌≡◌, ◌⊎◌, ℕ, ◌+◌, suc, ◌<◌, ◌≤◌, get_or, drop, drop-cons, Bool, true, false, cond, ◌||◌, List, ◌∷◌, length, map, bytes_eq, refl, sym, ap, subst, ◌∙◌, inl, inr, arith}
use Rattle.std.specs.BTreeSet.{BTreeSet, contains, Updates}
use Rattle.std.proofs.lemmas.List.{drop_all}
use Rattle.std.proofs.lemmas.Map.Text.{is_eq-slice_cmp}
use Rattle.deb_relations.specs.Satisfaction.{is_among}
use Rattle.deb_text.specs.Lists.{IsIn}
use Rattle.deb_text.specs.Text.{text_cmp}
use Rattle.wb_states.specs.declared.keyed.KeyedRecord.{KeyedRecord}
use Rattle.wb_states.specs.declared.record.Record.{Record}
use Rattle.wb_archive.specs.Waited.{AreWaitedFor}

-- a name more in the set, and a name less to be added
pub waited-step : (old new : BTreeSet (List ℕ)) (name added : List ℕ) (names : List (List ℕ)) (at : ℕ) (all : Bool) → at < length names → name ≡ get_or names at name
    → added ≡ name → Updates text_cmp old new added true → (other : List ℕ)
    → (is_among other (drop at names) || contains text_cmp old other) ≡ all
    → (is_among other (drop (at + 1) names) || contains text_cmp new other) ≡ all
waited-step old new name added names at all lt is same updates other half =
    let left : drop at names ≡ name ∷ drop (at + 1) names = drop-cons names at name lt ∙ (λ i. sym is i ∷ drop (one_after at i) names) in
    let is_new : contains text_cmp new other ≡ cond (bytes_eq name other) true (contains text_cmp old other) =
    updates.0 other ∙ ap (λ b. cond b true (contains text_cmp old other)) (is_eq-slice_cmp added other ∙ ap (λ (n : List ℕ). bytes_eq n other) same) in
    ap (λ b. is_among other (drop (at + 1) names) || b) is_new
    ∙ turn (is_among other (drop (at + 1) names)) (bytes_eq name other) (contains text_cmp old other)
    ∙ ap (λ l. is_among other l || contains text_cmp old other) (sym left)
    ∙ half
  where
    one_after : (n : ℕ) → suc n ≡ n + 1
    one_after n = omega arith

    turn : (later here was : Bool) → (later || cond here true was) ≡ ((here || later) || was)
    turn true true was = refl
    turn true false was = refl
    turn false true was = refl
    turn false false was = refl

-- the names of those records that are not left are waited for
abbrev pub IsHalfWaited : (List ℕ → Bool) → List KeyedRecord → List KeyedRecord → Type 0
IsHalfWaited waited rows left =
    (current : Record) → IsIn current (map (λ (row : KeyedRecord). row.current) rows) → AreWaitedFor waited current.waits ⊎ IsIn current (map (λ (row : KeyedRecord). row.current) left)

pub rows-step : (old new : List ℕ → Bool) (row : KeyedRecord) (rows : List KeyedRecord) (at : ℕ) → at < length rows → row ≡ get_or rows at row
    → ((name : List ℕ) → old name ≡ true → new name ≡ true) → AreWaitedFor new row.current.waits
    → IsHalfWaited old rows (drop at rows) → IsHalfWaited new rows (drop (at + 1) rows)
rows-step old new row rows at lt is more here half current there = go (half current there) where
  one_after : (n : ℕ) → suc n ≡ n + 1
  one_after n = omega arith

  left : drop at rows ≡ row ∷ drop (at + 1) rows
  left = drop-cons rows at row lt ∙ (λ i. sym is i ∷ drop (one_after at i) rows)

  at_head : IsIn current (map (λ (row : KeyedRecord). row.current) (row ∷ drop (at + 1) rows))
      → AreWaitedFor new current.waits ⊎ IsIn current (map (λ (row : KeyedRecord). row.current) (drop (at + 1) rows))
  at_head (inl e) = inl (subst (λ (r : Record). AreWaitedFor new r.waits) (sym e) here)
  at_head (inr later) = inr later

  go : AreWaitedFor old current.waits ⊎ IsIn current (map (λ (row : KeyedRecord). row.current) (drop at rows))
      → AreWaitedFor new current.waits ⊎ IsIn current (map (λ (row : KeyedRecord). row.current) (drop (at + 1) rows))
  go (inl waited) = inl (λ groups name read among. more name (waited groups name read among))
  go (inr later) = at_head (subst (λ (l : List KeyedRecord). IsIn current (map (λ (row : KeyedRecord). row.current) l)) left later)

pub rows-done : (waited : List ℕ → Bool) (rows : List KeyedRecord) (at : ℕ) → length rows ≤ at → IsHalfWaited waited rows (drop at rows)
    → (current : Record) → IsIn current (map (λ (row : KeyedRecord). row.current) rows) → AreWaitedFor waited current.waits
rows-done waited rows at le half current there = go (half current there) where
  go : AreWaitedFor waited current.waits ⊎ IsIn current (map (λ (row : KeyedRecord). row.current) (drop at rows)) → AreWaitedFor waited current.waits
  go (inl is) = is
  go (inr later) = absurd (subst (λ (l : List KeyedRecord). IsIn current (map (λ (row : KeyedRecord). row.current) l)) (drop_all at rows le) later)
