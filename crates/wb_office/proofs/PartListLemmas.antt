-- The parts of a merge, as lists that are to be read.
use Rattle.std.proofs.Common.{◌≡◌, ◌∙◌, sym, ap, subst, ℕ, ◌+◌, ◌<◌, ◌≤◌, true, false, cond, List, [], ◌∷◌, ◌++◌}
use Rattle.std.proofs.Common.{length, drop, get_or, Some, None, bytes_eq, append_assoc, append-nil}
use Rattle.std.proofs.lemmas.List.{drop_all}
use Rattle.std.specs.List.{AllZip}
use Rattle.std.specs.FinMap as map
use Rattle.std.specs.FinMap.Entries.{find}
use Rattle.deb_text.specs.Text.{text_cmp}
use Rattle.wb_states.specs.declared.arch.OsCpu.{OsCpu}
use Rattle.wb_states.specs.Machine.{Machine}
use Rattle.wb_store.proofs.NameLemmas.{ties}
use Rattle.wb_office.proofs.WrittenRowLemmas.{left_of}

-- the words of a name that is not the next
pub words_next : (arch : List ℕ) (archs : List (List ℕ × OsCpu)) (at : ℕ) (entry : List ℕ × OsCpu) → at < length archs → entry ≡ get_or archs at entry → bytes_eq arch entry.0 ≡ false
    → find text_cmp arch (drop at archs) ≡ find text_cmp arch archs → find text_cmp arch (drop (at + 1) archs) ≡ find text_cmp arch archs
words_next arch archs at entry within is other before =
    sym (ap (find text_cmp arch) (left_of archs at entry within is) ∙ ap (λ b. cond b (Some entry.1) (find text_cmp arch (drop (at + 1) archs))) (sym (ties arch entry.0) ∙ other)) ∙ before

-- the words of a name that is the next
pub words_here : (arch : List ℕ) (archs : List (List ℕ × OsCpu)) (at : ℕ) (entry : List ℕ × OsCpu) → at < length archs → entry ≡ get_or archs at entry → bytes_eq arch entry.0 ≡ true
    → find text_cmp arch (drop at archs) ≡ find text_cmp arch archs → (machine : Machine) → archs ≡ map.entries machine.archs → Some entry.1 ≡ map.get machine.archs arch
words_here arch archs at entry within is same before machine are =
    sym (ap (find text_cmp arch) (left_of archs at entry within is) ∙ ap (λ b. cond b (Some entry.1) (find text_cmp arch (drop (at + 1) archs))) (sym (ties arch entry.0) ∙ same))
    ∙ before ∙ ap (find text_cmp arch) are ∙ sym (map.get-entries machine.archs arch)

-- a name that none has has no words
pub words_none : (arch : List ℕ) (archs : List (List ℕ × OsCpu)) (at : ℕ) → length archs ≤ at → find text_cmp arch (drop at archs) ≡ find text_cmp arch archs
    → (machine : Machine) → archs ≡ map.entries machine.archs → None ≡ map.get machine.archs arch
words_none arch archs at past before machine are =
    sym (ap (find text_cmp arch) (drop_all at archs past)) ∙ before ∙ ap (find text_cmp arch) are ∙ sym (map.get-entries machine.archs arch)

module _ {X Y : Type 0} (P : X → Y → Type 0) (ys : List Y) where
  -- what more, one for each that is left, makes of the whole
  abbrev pub GoesOn : List X → ℕ → Type 0
  GoesOn xs at = (more : List X) → AllZip P more (drop at ys) → AllZip P (xs ++ more) ys

  -- one more
  pub goes_on : (xs new : List X) (at : ℕ) (x : X) (y : Y) → at < length ys → y ≡ get_or ys at y → P x y → new ≡ xs ++ x ∷ [] → GoesOn xs at → GoesOn new (at + 1)
  goes_on xs new at x y within is one made before more rest =
      subst (λ l. AllZip P l ys) (sym (ap (λ l. l ++ more) made ∙ append_assoc xs (x ∷ []) more))
      (before (x ∷ more) (subst (AllZip P (x ∷ more)) (sym (left_of ys at y within is)) (one, rest)))

  -- no more is left
  pub goes_on_to_end : (xs : List X) (at : ℕ) → length ys ≤ at → GoesOn xs at → AllZip P xs ys
  goes_on_to_end xs at past before =
      subst (λ l. AllZip P l ys) (append-nil xs) (before [] (subst (AllZip P []) (sym (drop_all at ys past)) tt))

module _ {X Y : Type 0} (P : Y → X → Type 0) (ys : List Y) where
  -- what more, one for each that is still to come, makes of the whole
  abbrev pub GoesOnFor : List X → List Y → Type 0
  GoesOnFor xs rest = (more : List X) → AllZip P rest more → AllZip P ys (xs ++ more)

  -- none was made yet
  pub goes_on_from : (xs : List X) (rest : List Y) → xs ≡ [] → rest ≡ ys → GoesOnFor xs rest
  goes_on_from xs rest none all more zip = subst (λ l. AllZip P ys (l ++ more)) (sym none) (subst (λ l. AllZip P l more) all zip)

  -- one more
  pub goes_on_with : (xs new : List X) (rest later : List Y) (y : Y) (x : X) → rest ≡ y ∷ later → P y x → new ≡ xs ++ x ∷ [] → GoesOnFor xs rest → GoesOnFor new later
  goes_on_with xs new rest later y x is one made before more zip =
      subst (AllZip P ys) (sym (ap (λ l. l ++ more) made ∙ append_assoc xs (x ∷ []) more))
      (before (x ∷ more) (subst (λ l. AllZip P l (x ∷ more)) (sym is) (one, zip)))

  -- no more is to come
  pub goes_on_for_all : (xs : List X) (rest : List Y) → rest ≡ [] → GoesOnFor xs rest → AllZip P ys xs
  goes_on_for_all xs rest none before = subst (AllZip P ys) (append-nil xs) (before [] (subst (λ l. AllZip P l []) (sym none) tt))
