-- An assignment for the head of a queue takes the first of the queue, and leaves the rest in its order.
use Rattle.std.proofs.Common.{◌≡◌, ℕ, ◌+◌, ◌⊎◌, ◌↔◌, true, false, cond, List, [], ◌∷◌, inl, inr, Option, Some, Ok, refl, sym, ap, subst, ◌∙◌}
use Rattle.std.specs.List.{AllByRecursion}
use Rattle.std.specs.List.Sorted.{IsStrictlySortedBy}
use Rattle.std.specs.declared.cmp.Ordering.{Ordering}
use Rattle.std.specs.declared.cmp.Ordering.TheVariants.{Less, Equal}
use Rattle.std.specs.Ordering.{eq_by_cmp, is_eq}
use Rattle.std.specs.Cmp.{IsTotalOrder, on_total}
use Rattle.std.proofs.lemmas.Cmp.{tied_itself}
use Rattle.std.specs.FinMap as map
use Rattle.wb_states.specs.Forms.{Next}
use Rattle.wb_states.specs.declared.moves.Move.TheVariants as to
use Rattle.wb_states.specs.declared.record.Record.{Record}
use Rattle.wb_states.specs.declared.reply.Assignment.{Assignment}
use Rattle.wb_states.specs.declared.reply.Reply.TheVariants.{Job}
use Rattle.wb_states.specs.declared.state.State.TheVariants.{Building, NeedsBuild}
use Rattle.wb_states.specs.Machine.{Machine}
use Rattle.deb_text.specs.Text.{pair_cmp}
use Rattle.wb_states.specs.Moves.{record_after_move}
use Rattle.wb_states.specs.Queue.{Entry, IsWaitingAt, entry_cmp, head_of, place_cmp_total, place_of, queue_of}
use Rattle.deb_text.specs.Lists.{IsIn, first_of}
use Rattle.deb_text.proofs.KeyLemmas.{pair_cmp_total, pair_cmp-same, eq_by_cmp-same}
use Rattle.wb_states.proofs.QueueLemmas.{IsIn-queue_of, head_of-waits, sorted-queue_of}
use Rattle.wb_merge.specs.Merged.{Records}
use Rattle.wb_step.specs.Step.{step}
use Rattle.wb_step.proofs.FrameLemmas.{insert-other}
use Rattle.wb_step.proofs.RetryLemmas.{handed_to, assigned-is}

-- ---- lists in strictly ascending order

all-in : {X : Type 0} (P : X → Type 0) (xs : List X) → AllByRecursion P xs → (x : X) → IsIn x xs → P x
all-in P [] all x within = absurd within
all-in P (y ∷ ys) all x within = elim within [ inl is ↦ subst P (sym is) all.0 | inr later ↦ all-in P ys all.1 x later ]

module _ {X : Type 0} (cmp : X → X → Ordering) (total : IsTotalOrder cmp) where
  -- nothing is below itself
  below-itself : (x : X) → cmp x x ≡ Less → ⊥
  below-itself x less = clash (sym less ∙ tied_itself total x) where
    clash : Less ≡ Equal → ⊥
    clash e = cc

  -- of two items one alone is below the other
  below-both : (x y : X) → cmp x y ≡ Less → cmp y x ≡ Less → ⊥
  below-both x y one other = below-itself x (total.trans x y x one other)

  -- the first of a list does not stand in the rest
  first-apart : (x : X) (xs : List X) → IsStrictlySortedBy cmp (x ∷ xs) → IsIn x xs → ⊥
  unfolding IsStrictlySortedBy
  first-apart x xs sorted within = below-itself x (all-in (λ z. cmp x z ≡ Less) xs sorted.0 x within)

  -- lists with the same items are one list
  sorted-same : (xs ys : List X) → IsStrictlySortedBy cmp xs → IsStrictlySortedBy cmp ys → ((x : X) → IsIn x xs ↔ IsIn x ys) → xs ≡ ys
  unfolding IsStrictlySortedBy
  sorted-same [] [] one other same = refl
  sorted-same [] (y ∷ ys) one other same = absurd ((same y).1 (inl refl))
  sorted-same (x ∷ xs) [] one other same = absurd ((same x).0 (inl refl))
  sorted-same (x ∷ xs) (y ∷ ys) one other same =
      let first : x ≡ y = elim ((same x).0 (inl refl)) [
        | inl is ↦ is
        | inr later ↦ elim ((same y).1 (inl refl)) [
          | inl is ↦ sym is
          | inr behind ↦ absurd (below-both x y (all-in (λ z. cmp x z ≡ Less) xs one.0 y behind) (all-in (λ z. cmp y z ≡ Less) ys other.0 x later))
        ]
      ] in
      let rest : xs ≡ ys = sorted-same xs ys one.1 other.1 (λ z. (
        λ within. elim ((same z).0 (inr within)) [
          | inl is ↦ absurd (first-apart x xs one (subst (λ w. IsIn w xs) (is ∙ sym first) within))
          | inr later ↦ later
        ],
        λ within. elim ((same z).1 (inr within)) [
          | inl is ↦ absurd (first-apart y ys other (subst (λ w. IsIn w ys) (is ∙ first) within))
          | inr later ↦ later
        ],
      )) in
      λ i. first i ∷ rest i

-- ---- the queue behind its head

-- what is found after an insertion is the new value at its key, and else what was there
insert-found : (records : Records) (key other : List ℕ × List ℕ) (put current : Record) → map.get (map.insert records key put) other ≡ Some current
    → ((other ≡ key) × (current ≡ put)) ⊎ ((other ≡ key → ⊥) × (map.get records other ≡ Some current))
insert-found records key other put current is =
    (elim (eq_by_cmp pair_cmp other key) as (λ b. eq_by_cmp pair_cmp other key ≡ b → cond b (Some put) (map.get records other) ≡ Some current
    → ((other ≡ key) × (current ≡ put)) ⊎ ((other ≡ key → ⊥) × (map.get records other ≡ Some current))) [
      | true ↦ λ tie found. inl (eq_by_cmp-same pair_cmp-same other key tie, only current put found)
      | false ↦ λ apart found. inr ((λ same. clash (sym (ap (λ k. eq_by_cmp pair_cmp k key) same ∙ ap is_eq (tied_itself pair_cmp_total key)) ∙ apart)), found)
    ]) refl (sym (map.get-insert pair_cmp_total records key put other) ∙ is)
  where
    only : (x y : Record) → Some y ≡ Some x → x ≡ y
    only x y e = cc

    clash : true ≡ false → ⊥
    clash e = cc

-- the head of a queue, and the rest of it
head-rest : (machine : Machine) (arch : List ℕ) (entry : Entry) → head_of machine arch ≡ Some entry → (rest : List Entry) × (queue_of machine arch ≡ entry ∷ rest)
unfolding head_of
head-rest machine arch entry is = parts (queue_of machine arch) is where
  parts : (items : List Entry) → first_of items ≡ Some entry → (rest : List Entry) × (items ≡ entry ∷ rest)
  parts [] e = cc
  parts (x ∷ items) e = let same : x ≡ entry = cc in (items, ap (λ one. one ∷ items) same)

-- what was taken waits no more, and what waits otherwise waits as before
rest-waits : (machine : Machine) (arch builder : List ℕ) (entry : Entry) (rest : List Entry) → queue_of machine arch ≡ entry ∷ rest → head_of machine arch ≡ Some entry
    → (other : Entry) → IsIn other rest ↔ IsWaitingAt (handed_to machine builder entry) arch other
unfolding handed_to record_after_move
rest-waits machine arch builder entry rest is head other = (there, back) where
  put : Record
  put = record_after_move (to.Take builder (machine.handed + 1)) entry.1

  sorted : IsStrictlySortedBy entry_cmp (entry ∷ rest)
  sorted = subst (IsStrictlySortedBy entry_cmp) is (sorted-queue_of machine arch)

  only : (x y : Record) → Some x ≡ Some y → x ≡ y
  only x y e = cc

  there : IsIn other rest → IsWaitingAt (handed_to machine builder entry) arch other
  there within =
      let known = (IsIn-queue_of machine arch other).0 (subst (IsIn other) (sym is) (inr within)) in
      let front = head_of-waits machine arch entry head in
      let apart : (other.0 ≡ entry.0 → ⊥) = λ same.
      let record_is : other.1 ≡ entry.1 = only other.1 entry.1 (sym known.0 ∙ ap (map.get machine.records) same ∙ front.0) in
      let all : other ≡ entry = λ i. (same i, record_is i) in
      first-apart entry_cmp (on_total (λ (e : Entry). place_of e.1 e.0.1) place_cmp_total) entry rest sorted (subst (λ e. IsIn e rest) all within) in
      (insert-other machine.records entry.0 other.0 put apart ∙ known.0, known.1, known.2)

  building : Building ≡ NeedsBuild → ⊥
  building e = cc

  back : IsWaitingAt (handed_to machine builder entry) arch other → IsIn other rest
  back known = elim (insert-found machine.records entry.0 other.0 put other.1 known.0) [
    | inl new ↦ absurd (building (sym (ap (λ (r : Record). r.state) new.1) ∙ known.2))
    | inr old ↦
        let within : IsIn other (entry ∷ rest) = subst (IsIn other) is ((IsIn-queue_of machine arch other).1 (old.1, known.1, known.2)) in
        elim within [
          | inl same ↦ absurd (old.0 (ap (λ (e : Entry). e.0) same))
          | inr later ↦ later
        ]
  ]

tail-sorted : (entry : Entry) (rest : List Entry) → IsStrictlySortedBy entry_cmp (entry ∷ rest) → IsStrictlySortedBy entry_cmp rest
unfolding IsStrictlySortedBy
tail-sorted entry rest sorted = sorted.1

pub next-head-rest : (machine : Machine) (arch builder : List ℕ) (after : Option ℕ) (accepted : ℕ) (given : Assignment)
    → (step machine (Next arch builder after)).0 ≡ Ok (Job accepted given)
    → (current : Record) × (queue_of machine arch ≡ ((arch, given.source), current) ∷ queue_of (step machine (Next arch builder after)).1 arch)
next-head-rest machine arch builder after accepted given is =
    let assigned = assigned-is machine arch builder after accepted given is in
    let entry : Entry = assigned.entry in
    let new : Machine = handed_to machine builder entry in
    let parts = head-rest machine arch entry assigned.head in
    let rest : List Entry = parts.0 in
    let at : queue_of machine arch ≡ entry ∷ rest = parts.1 in
    let total = on_total (λ (e : Entry). place_of e.1 e.0.1) place_cmp_total in
    let waits : (other : Entry) → IsIn other rest ↔ IsWaitingAt new arch other = rest-waits machine arch builder entry rest at assigned.head in
    let same : rest ≡ queue_of new arch = sorted-same entry_cmp total rest (queue_of new arch)
    (tail-sorted entry rest (subst (IsStrictlySortedBy entry_cmp) at (sorted-queue_of machine arch))) (sorted-queue_of new arch)
    (λ other. (λ within. (IsIn-queue_of new arch other).1 ((waits other).0 within), λ within. (waits other).1 ((IsIn-queue_of new arch other).0 within))) in
    let value = assigned.value in
    let after_is = assigned.new in
    let arch_is : entry.0.0 ≡ arch = (head_of-waits machine arch entry assigned.head).1 in
    let source_is : given.source ≡ entry.0.1 = ap (λ (g : Assignment). g.source) value in
    (entry.1, at ∙ (λ i. ((arch_is i, sym source_is i), entry.1) ∷ (same ∙ ap (λ (m : Machine). queue_of m arch) (sym after_is)) i))
