-- The queue has each record that waits once, in strictly ascending order.
use Rattle.std.proofs.Common.{◌≡◌, ◌≢◌, ℕ, List, [], ◌∷◌, refl, sym, ap, ◌∙◌, Bool, true, false, ◌&&◌, ◌↔◌, inl, inr, T, Some, None, filter, bytes_eq}
use Rattle.std.specs.List.{AllByRecursion}
use Rattle.std.specs.List.Sorted.{IsStrictlySortedBy}
use Rattle.std.specs.declared.cmp.Ordering.TheVariants.{Less, Equal, Greater}
use Rattle.std.specs.Ordering.{ordering_reverse, ordering_then, nat_cmp, int_cmp, bool_cmp}
use Rattle.std.specs.Cmp.{IsTotalOrder, on_total}
use Rattle.std.proofs.lemmas.Cmp.{tied_itself}
use Rattle.std.proofs.lemmas.Slice.Eq.{bytes_eq-Decides}
use Rattle.std.specs.FinMap as map
use Rattle.std.specs.FinMap.Entries.{find, is_sorted}
use Rattle.wb_states.specs.declared.state.State.{State}
use Rattle.wb_states.specs.declared.state.State.TheVariants.{NeedsBuild, Building, Built, Uploaded, Installed, DepWait, BdUninstallable, Failed, NotForUs, BuildAttempted}
use Rattle.wb_states.specs.declared.record.Record.{Record}
use Rattle.wb_states.specs.State.{is_needs_build}
use Rattle.deb_text.specs.Text.{text_cmp, pair_cmp}
use Rattle.wb_states.specs.Machine.{Machine}
use Rattle.wb_states.specs.Queue.{Place, Entry, entry_cmp, is_waiting, queue_of, head_of, IsWaitingAt, place_of, place_cmp, place_cmp_total}
use Rattle.deb_text.specs.Lists.{first_of, IsIn}
use Rattle.deb_text.proofs.KeyLemmas.{pair_cmp_total, pair_cmp-same, text_cmp-same, then-Equal}
use Rattle.deb_text.proofs.SortedLemmas.{IsIn-sorted_by, IsIn-filter, IsIn-find, Apart, sorted-sorted_by, apart-filter, first_of-is, first_of-some}

-- the entries of the office's records are the records at their keys
pub IsIn-entries : (machine : Machine) (entry : Entry) → IsIn entry (map.entries machine.records) ↔ (map.get machine.records entry.0 ≡ Some entry.1)
IsIn-entries machine entry =
    let found = IsIn-find pair_cmp_total pair_cmp-same entry (map.entries machine.records) (map.entries_sorted machine.records) in
    let at : map.get machine.records entry.0 ≡ find pair_cmp entry.0 (map.entries machine.records) = map.get-entries machine.records entry.0 in
    (λ within. at ∙ found.0 within, λ is. found.1 (sym at ∙ is))

pub is_needs_build-is : (state : State) → is_needs_build state ≡ true ↔ (state ≡ NeedsBuild)
is_needs_build-is NeedsBuild = (λ _. refl, λ _. refl)
is_needs_build-is Building = (λ h. cc, λ h. cc)
is_needs_build-is Built = (λ h. cc, λ h. cc)
is_needs_build-is Uploaded = (λ h. cc, λ h. cc)
is_needs_build-is Installed = (λ h. cc, λ h. cc)
is_needs_build-is DepWait = (λ h. cc, λ h. cc)
is_needs_build-is BdUninstallable = (λ h. cc, λ h. cc)
is_needs_build-is Failed = (λ h. cc, λ h. cc)
is_needs_build-is NotForUs = (λ h. cc, λ h. cc)
is_needs_build-is BuildAttempted = (λ h. cc, λ h. cc)

-- the records that wait are those that the filter keeps
is_waiting-is : (arch : List ℕ) (entry : Entry) → (is_waiting arch entry ≡ true) ↔ ((entry.0.0 ≡ arch) × (entry.1.state ≡ NeedsBuild))
is_waiting-is arch entry =
    let state = is_needs_build-is entry.1.state in
    let name = bytes_eq-Decides entry.0.0 arch in (
      λ h. let parts = split (bytes_eq entry.0.0 arch) (is_needs_build entry.1.state) h in (name.0 parts.0, state.0 parts.1),
      λ h. both (bytes_eq entry.0.0 arch) (is_needs_build entry.1.state) (name.1 h.0) (state.1 h.1),
    )
  where
    split : (a b : Bool) → (a && b) ≡ true → (a ≡ true) × (b ≡ true)
    split true b h = (refl, h)
    split false b h = (h, cc)

    both : (a b : Bool) → a ≡ true → b ≡ true → (a && b) ≡ true
    both true b p q = q
    both false b p q = p

pub IsIn-queue_of : (machine : Machine) (arch : List ℕ) (entry : Entry) → IsIn entry (queue_of machine arch) ↔ IsWaitingAt machine arch entry
unfolding queue_of
IsIn-queue_of machine arch entry =
    let sorted = IsIn-sorted_by entry_cmp entry (filter (is_waiting arch) (map.entries machine.records)) in
    let kept = IsIn-filter (is_waiting arch) entry (map.entries machine.records) in
    let found = IsIn-entries machine entry in
    let waits = is_waiting-is arch entry in (
      λ h. let here = kept.0 (sorted.0 h) in let why = waits.0 here.1 in (found.0 here.0, why.0, why.1),
      λ h. sorted.1 (kept.1 (found.1 h.0, waits.1 (h.1, h.2))),
    )

-- two places that tie have one name
pub place_cmp-names : (one other : Record) (name another : List ℕ) → place_cmp (place_of one name) (place_of other another) ≡ Equal → name ≡ another
place_cmp-names one other name another tie =
    let p : Place = place_of one name in
    let q : Place = place_of other another in
    let by_name = text_cmp p.name q.name in
    let by_section = nat_cmp p.section q.section in
    let by_priority = nat_cmp p.priority q.priority in
    let by_newness = bool_cmp p.is_new q.is_new in
    let rest = (then-Equal (int_cmp q.build_priority p.build_priority) (ordering_then by_newness (ordering_then by_priority (ordering_then by_section by_name))) tie).1 in
    let later = (then-Equal by_newness (ordering_then by_priority (ordering_then by_section by_name)) rest).1 in
    let last = (then-Equal by_priority (ordering_then by_section by_name) later).1 in
    text_cmp-same name another (then-Equal by_section by_name last).1

-- the records of one architecture have places that differ
waiting_apart : (arch : List ℕ) (es : List Entry) → T (is_sorted pair_cmp es) → Apart entry_cmp (filter (is_waiting arch) es)
waiting_apart arch es h =
    apart-filter pair_cmp_total entry_cmp (is_waiting arch) es h (λ x y _ _ waits_x waits_y tie.
    let name : y.0.1 ≡ x.0.1 = place_cmp-names y.1 x.1 y.0.1 x.0.1 tie in
    let arch_is : y.0.0 ≡ x.0.0 = ((is_waiting-is arch y).0 waits_y).0 ∙ sym ((is_waiting-is arch x).0 waits_x).0 in
    λ i. (arch_is i, name i))

pub entry_cmp_total : IsTotalOrder entry_cmp
entry_cmp_total = on_total (λ entry. place_of entry.1 entry.0.1) place_cmp_total

pub sorted-queue_of : (machine : Machine) (arch : List ℕ) → IsStrictlySortedBy entry_cmp (queue_of machine arch)
unfolding queue_of
sorted-queue_of machine arch =
    sorted-sorted_by entry_cmp entry_cmp_total (filter (is_waiting arch) (map.entries machine.records))
    (waiting_apart arch (map.entries machine.records) (map.entries_sorted machine.records))

-- ---- the head of the queue

-- the head of the queue is a record that waits
pub head_of-waits : (machine : Machine) (arch : List ℕ) (entry : Entry) → head_of machine arch ≡ Some entry → IsWaitingAt machine arch entry
unfolding head_of
head_of-waits machine arch entry is = (IsIn-queue_of machine arch entry).0 (first_of-is (queue_of machine arch) entry is)

-- no record that waits stands before the first of a queue
first-least : (entry other : Entry) (entries : List Entry) → IsStrictlySortedBy entry_cmp entries → first_of entries ≡ Some entry → IsIn other entries → entry_cmp other entry ≢ Less
unfolding IsStrictlySortedBy
first-least entry other [] sorted is within less = within
first-least entry other (x ∷ xs) sorted is within less =
    let same : x ≡ entry = cc in
    elim within [
      | inl here ↦ itself (sym (ap (λ e. entry_cmp e entry) (here ∙ same) ∙ tied_itself entry_cmp_total entry) ∙ less)
      | inr later ↦
          let behind : entry_cmp entry other ≡ Less = ap (λ e. entry_cmp e other) (sym same) ∙ all-less x other xs sorted.0 later in
          turned (sym (entry_cmp_total.antisymm entry other ∙ ap ordering_reverse less) ∙ behind)
    ]
  where
    itself : Equal ≡ Less → ⊥
    itself e = cc

    turned : Greater ≡ Less → ⊥
    turned e = cc

    all-less : (first other : Entry) (entries : List Entry) → AllByRecursion (λ z. entry_cmp first z ≡ Less) entries → IsIn other entries → entry_cmp first other ≡ Less
    all-less first other [] all within = absurd within
    all-less first other (x ∷ xs) all within = elim within [
      | inl here ↦ ap (entry_cmp first) here ∙ all.0
      | inr later ↦ all-less first other xs all.1 later
    ]

pub head_of-first : (machine : Machine) (arch : List ℕ) (entry other : Entry) → head_of machine arch ≡ Some entry → IsWaitingAt machine arch other → entry_cmp other entry ≢ Less
unfolding head_of
head_of-first machine arch entry other is waits =
    first-least entry other (queue_of machine arch) (sorted-queue_of machine arch) is ((IsIn-queue_of machine arch other).1 waits)

pub head_of-none : (machine : Machine) (arch : List ℕ) (other : Entry) → head_of machine arch ≡ None → IsWaitingAt machine arch other → ⊥
unfolding head_of
head_of-none machine arch other none waits =
    let found = first_of-some (queue_of machine arch) other ((IsIn-queue_of machine arch other).1 waits) in
    apart found.0 (sym none ∙ found.1)
  where
    apart : (x : Entry) → None ≡ Some x → ⊥
    apart x e = cc
