-- A part of an office that has all that a command names answers as the whole.
use Rattle.std.proofs.Common.{◌≡◌, ◌≢◌, ◌∙◌, refl, sym, ap, subst, arith, ℕ, ◌≤◌, Bool, true, false, IsTrue, List, Option, Some, None, IfSome}
use Rattle.std.specs.Prelude.{option_and_then, unwrap_or, ◌<◌, []}
use Rattle.deb_text.specs.Text.{text_cmp}
use Rattle.wb_states.specs.Limits.{count_limit}
use Rattle.std.specs.FinMap as map
use Rattle.std.specs.declared.cmp.Ordering.{Ordering}
use Rattle.std.specs.declared.cmp.Ordering.TheVariants.{Less, Equal, Greater}
use Rattle.std.specs.Ordering.{ordering_reverse}
use Rattle.wb_states.specs.declared.command.Command.{Command}
use Rattle.wb_states.specs.declared.command.Next.{Next}
use Rattle.wb_states.specs.declared.arch.OsCpu.{OsCpu}
use Rattle.wb_states.specs.declared.record.Record.{Record}
use Rattle.wb_states.specs.Holds.{taken_as, take_of, building_after, IsBuildingAfter}
use Rattle.wb_states.specs.Machine.{Machine, Key, IsArch, IsRecord, IsConsistent, HasDistinctTakes, AreWaits, arch_words, with_words}
use Rattle.wb_states.specs.Queue.{Entry, entry_cmp, head_of}
use Rattle.wb_states.proofs.HoldLemmas.{taken_as-is, taken_as-only, taken_as-none, building_after-is, building_after-least, building_after-none}
use Rattle.wb_states.proofs.QueueLemmas.{place_cmp-names, entry_cmp_total, head_of-waits, head_of-first, head_of-none}
use Rattle.wb_step.specs.Locality.{LooksAlike, IsKept, IsPartOf, HasAllNamed}
use Rattle.wb_step.specs.Targets.{next_named}

pub at_some : {X : Type 0} (P : X → Type 0) (found : Option X) (x : X) → found ≡ Some x → IfSome found P → P x
at_some P found x is h = subst (λ o. IfSome o P) is h

not_there : {X : Type 0} (x : X) → None ≢ Some x
not_there x e = cc

pub same_value : {X : Type 0} (x y : X) → Some x ≡ Some y → x ≡ y
same_value x y e = cc

-- what is found in a part is what is found in the whole, if the part has that, and what it finds is found in the whole
found_alike : (part whole : Option Entry) → ((entry : Entry) → part ≡ Some entry → whole ≡ Some entry) → ((entry : Entry) → whole ≡ Some entry → part ≢ None) → part ≡ whole
found_alike None None up down = refl
found_alike (Some entry) whole up down = sym (up entry refl)
found_alike None (Some entry) up down = absurd (down entry refl refl)

pub same_test : (a b : Bool) → (IsTrue a → IsTrue b) → (IsTrue b → IsTrue a) → a ≡ b
same_test true b up down = sym (up refl)
same_test false true up down = down refl
same_test false false up down = refl

-- two records at one key are one
pub one_at : (machine : Machine) (one other : Entry) → IsKept machine one → IsKept machine other → one.0 ≡ other.0 → one ≡ other
one_at machine one other kept there key =
    let current : one.1 ≡ other.1 = same_value one.1 other.1 (sym kept ∙ ap (map.get machine.records) key ∙ there) in
    λ i. (key i, current i)

tied : (r : Ordering) → r ≢ Less → ordering_reverse r ≢ Less → r ≡ Equal
tied Less first second = absurd (first refl)
tied Equal first second = refl
tied Greater first second = absurd (second refl)

module _ (part whole : Machine) (within : IsPartOf part whole) where
  pub same_source_named : (key : Key) → IfSome (map.get whole.records key) (λ current. IsKept part (key, current)) → map.get part.records key ≡ map.get whole.records key
  same_source_named key has = by_cases (map.get part.records key) (map.get whole.records key) refl refl
    where
      by_cases : (here there : Option Record) → map.get part.records key ≡ here → map.get whole.records key ≡ there → map.get part.records key ≡ map.get whole.records key
      by_cases (Some current) there here_is there_is = here_is ∙ sym (within.records (key, current) here_is)
      by_cases None None here_is there_is = here_is ∙ sym there_is
      by_cases None (Some current) here_is there_is = at_some (λ current. IsKept part (key, current)) _ current there_is has ∙ sym there_is

  same_taken : HasDistinctTakes whole → (take_number : ℕ) → IfSome (taken_as whole take_number) (IsKept part) → taken_as part take_number ≡ taken_as whole take_number
  same_taken distinct take_number has =
      found_alike (taken_as part take_number) (taken_as whole take_number)
      (λ entry is. let taken = taken_as-is part take_number entry is in taken_as-only whole take_number entry distinct (within.records entry taken.0, taken.1))
      (λ entry is none. taken_as-none part take_number entry none (at_some (IsKept part) _ entry is has) (taken_as-is whole take_number entry is).1)

  same_head : (arch : List ℕ) → IfSome (head_of whole arch) (IsKept part) → head_of part arch ≡ head_of whole arch
  same_head arch has =
      found_alike (head_of part arch) (head_of whole arch) (λ entry is. by_cases entry is (head_of whole arch) refl)
      (λ entry is none. let waits = head_of-waits whole arch entry is in head_of-none part arch entry none (at_some (IsKept part) _ entry is has, waits.1, waits.2))
    where
      by_cases : (entry : Entry) → head_of part arch ≡ Some entry → (found : Option Entry) → head_of whole arch ≡ found → head_of whole arch ≡ Some entry
      by_cases entry is None none =
          let waits = head_of-waits part arch entry is in absurd (head_of-none whole arch entry none (within.records entry waits.0, waits.1, waits.2))
      by_cases entry is (Some first) found =
          let waits = head_of-waits part arch entry is in
          let first_waits = head_of-waits whole arch first found in
          let kept = at_some (IsKept part) _ first found has in
          let not_before = head_of-first part arch entry first is (kept, first_waits.1, first_waits.2) in
          let not_after = head_of-first whole arch first entry found (within.records entry waits.0, waits.1, waits.2) in
          let tie : entry_cmp first entry ≡ Equal = tied (entry_cmp first entry) not_before (subst (λ r. r ≢ Less) (entry_cmp_total.antisymm entry first) not_after) in
          let name : first.0.1 ≡ entry.0.1 = place_cmp-names first.1 entry.1 first.0.1 entry.0.1 tie in
          let key : first.0 ≡ entry.0 = λ i. ((first_waits.1 ∙ sym waits.1) i, name i) in
          found ∙ ap (λ e. Some e) (one_at part first entry kept waits.0 key)

  same_building : HasDistinctTakes whole → (arch builder : List ℕ) (after : ℕ) → IfSome (building_after whole arch builder after) (IsKept part)
      → building_after part arch builder after ≡ building_after whole arch builder after
  same_building distinct arch builder after has =
      found_alike (building_after part arch builder after) (building_after whole arch builder after) (λ entry is. by_cases entry is (building_after whole arch builder after) refl)
      (λ entry is none. building_after-none part arch builder after entry none (here entry (building_after-is whole arch builder after entry is) (at_some (IsKept part) _ entry is has)))
    where
      here : (entry : Entry) → IsBuildingAfter whole arch builder after entry → IsKept part entry → IsBuildingAfter part arch builder after entry
      here entry h kept = record { kept = kept; on_arch = h.on_arch; holder = h.holder; state = h.state; later = h.later }

      there : (entry : Entry) → IsBuildingAfter part arch builder after entry → IsBuildingAfter whole arch builder after entry
      there entry h = record { kept = within.records entry h.kept; on_arch = h.on_arch; holder = h.holder; state = h.state; later = h.later }

      by_cases : (entry : Entry) → building_after part arch builder after ≡ Some entry → (found : Option Entry) → building_after whole arch builder after ≡ found
          → building_after whole arch builder after ≡ Some entry
      by_cases entry is None none = absurd (building_after-none whole arch builder after entry none (there entry (building_after-is part arch builder after entry is)))
      by_cases entry is (Some first) found =
          let h = building_after-is part arch builder after entry is in
          let w = building_after-is whole arch builder after first found in
          let kept = at_some (IsKept part) _ first found has in
          let low = building_after-least part arch builder after entry first is (here first w kept) in
          let high = building_after-least whole arch builder after first entry found (there entry h) in
          let number : take_of first ≡ take_of entry = omega (arith, low, high) in
          found ∙ ap (λ e. Some e) (one_at part first entry kept h.kept (one_number first entry w (there entry h) number))
        where
          taken_under : (e : Entry) → IsBuildingAfter whole arch builder after e → e.1.take ≡ Some (take_of e)
          taken_under e h = under e.1.take h.later
            where
              under : (number : Option ℕ) → after < unwrap_or number 0 → number ≡ Some (unwrap_or number 0)
              under (Some n) later = refl
              under None later = absurd (omega (arith, later))

          one_number : (one other : Entry) → IsBuildingAfter whole arch builder after one → IsBuildingAfter whole arch builder after other → take_of one ≡ take_of other → one.0 ≡ other.0
          one_number one other p q number = distinct one.0 other.0 one.1 other.1 (take_of one) p.kept q.kept (taken_under one p) (taken_under other q ∙ ap (λ n. Some n) (sym number))

  pub part_consistent : IsConsistent whole → IsConsistent part
  unfolding arch_words
  part_consistent whole_is = record {
    archs = λ name. subst (λ (archs : map.FinMap text_cmp OsCpu). IfSome (map.get archs name) (IsArch name)) (sym within.archs) (whole_is.archs name);
    builders = λ name arch there. let h = whole_is.builders name arch (within.builders name arch there) in
        record { name = h.name; known = subst (λ (archs : map.FinMap text_cmp OsCpu). IsTrue (map.contains_key archs arch)) (sym within.archs) h.known };
    records = λ arch source. by_cases arch source (map.get part.records (arch, source)) refl;
    takes = λ one other first second number here there p q. whole_is.takes one other first second number (within.records (one, first) here) (within.records (other, second) there) p q;
    handed = subst (λ n. n ≤ count_limit) (sym within.handed) whole_is.handed;
    accepted = subst (λ n. n ≤ count_limit) (sym within.accepted) whole_is.accepted;
  }
    where
      by_cases : (arch source : List ℕ) (found : Option Record) → map.get part.records (arch, source) ≡ found → IfSome (map.get part.records (arch, source)) (IsRecord part arch source)
      by_cases arch source None none = subst (λ o. IfSome o (IsRecord part arch source)) (sym none) tt
      by_cases arch source (Some current) is =
          let h = at_some (IsRecord whole arch source) _ current (within.records ((arch, source), current) is) (whole_is.records arch source) in
          subst (λ o. IfSome o (IsRecord part arch source)) (sym is) (record {
            name = h.name;
            known = subst (λ (archs : map.FinMap text_cmp OsCpu). IsTrue (map.contains_key archs arch)) (sym within.archs) h.known;
            fields = h.fields;
            holder = within.holders ((arch, source), current) is;
            waits = subst (λ words. AreWaits words current.waits) (λ i. with_words arch (unwrap_or (map.get (sym within.archs i) arch) (record { os = []; cpu = [] }))) h.waits;
            given = subst (λ n. IfSome current.take (λ take_number. (1 ≤ take_number) × (take_number ≤ n))) (sym within.handed) h.given;
          })

  pub part_alike : (command : Command) → IsConsistent whole → HasAllNamed command part whole → LooksAlike command part whole
  part_alike command whole_is has = record {
    handed = within.handed;
    accepted = within.accepted;
    archs = within.archs;
    builder = λ name arch is. same_test _ _ (within.builders name arch) (has.builder name arch is);
    source = λ key is. same_source_named key (has.source key is);
    taken = λ number is. same_taken whole_is.takes number (has.taken number is);
    head = λ next is. same_head next.arch (has.head next is);
    again = same_again (next_named command) has.again;
    there = has.there;
    held = has.held;
    single = has.single;
  }
    where
      same_after : (arch builder : List ℕ) (after : Option ℕ) → IfSome (option_and_then (building_after whole arch builder) after) (IsKept part)
          → option_and_then (building_after part arch builder) after ≡ option_and_then (building_after whole arch builder) after
      same_after arch builder None kept = refl
      same_after arch builder (Some after) kept = same_building whole_is.takes arch builder after kept

      same_again : (next : Option Next) → IfSome (option_and_then (λ (n : Next). option_and_then (building_after whole n.arch n.builder) n.after) next) (IsKept part)
          → option_and_then (λ (n : Next). option_and_then (building_after part n.arch n.builder) n.after) next
          ≡ option_and_then (λ (n : Next). option_and_then (building_after whole n.arch n.builder) n.after) next
      same_again None kept = refl
      same_again (Some n) kept = same_after n.arch n.builder n.after kept
