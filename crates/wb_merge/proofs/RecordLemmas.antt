-- Records that a test finds equal are equal, and one record more or less in a map.
use Rattle.std.proofs.Common.{◌≡◌, ◌↔◌, ℕ, Bool, true, false, cond, ◌&&◌, refl, sym, ap, ◌∙◌, Option, Some, None, bytes_eq, nat_eq}
use Rattle.std.proofs.lemmas.Bool.{and_parts, eq-eqb, eqb-true}
use Rattle.std.specs.Ordering.{eq_by_cmp}
use Rattle.std.specs.Cmp.{booleans_Decides, signed_Decides, eq_by_cmp_equiv}
use Rattle.std.specs.Option.{option_eq}
use Rattle.std.proofs.lemmas.Cmp.{nat_list_eq_equiv}
use Rattle.std.specs.FinMap as finite
use Rattle.wb_states.specs.declared.record.Record.{Record}
use Rattle.wb_states.specs.declared.state.State.{State}
use Rattle.wb_states.specs.State.{code_of}
use Rattle.deb_text.specs.Text.{pair_cmp}
use Rattle.wb_states.proofs.CodeLemmas.{code_of-differ}
use Rattle.deb_text.proofs.KeyLemmas.{pair_cmp_total}
use Rattle.wb_merge.specs.Merged.{Records, has_same_source, has_same_place, has_same_texts, is_same_record, change_of}
use Rattle.wb_merge.specs.declared.merge.Change.TheVariants.{Kept, Changed}
use Rattle.wb_merge.specs.Steps.{Key, IsSetAt}
use Rattle.wb_merge.proofs.NameLemmas.{bytes_eq-is, pair-is}

-- ---- one record more or less

-- records without the one of a key
pub set-removed : (records : Records) (key : Key) → IsSetAt records key None (finite.remove records key)
unfolding IsSetAt
set-removed records key other =
    finite.get-remove pair_cmp_total records key other
    ∙ ap (λ b. cond b None (finite.get records other)) ((eq_by_cmp_equiv pair_cmp_total).symm other key)

-- records with this one at a key
pub set-inserted : (records : Records) (key : Key) (value : Record) → IsSetAt records key (Some value) (finite.insert records key value)
unfolding IsSetAt
set-inserted records key value other =
    finite.get-insert pair_cmp_total records key value other
    ∙ ap (λ b. cond b (Some value) (finite.get records other)) ((eq_by_cmp_equiv pair_cmp_total).symm other key)

-- ---- records that are equal

same-option : {X : Type 0} (test : X → X → Bool) → ((x y : X) → test x y ≡ true → x ≡ y) → (x y : Option X) → option_eq test x y ≡ true → x ≡ y
same-option test is None None e = refl
same-option test is None (Some y) e = absurd cc
same-option test is (Some x) None e = absurd cc
same-option test is (Some x) (Some y) e = ap Some (is x y e)

-- states of one number are equal
same-state : (one other : State) → nat_eq (code_of one) (code_of other) ≡ true → one ≡ other
same-state one other e = code_of-differ one other (eqb-true (code_of one) (code_of other) e)

pub same-record : (one other : Record) → is_same_record one other ≡ true → one ≡ other
unfolding is_same_record has_same_source has_same_place has_same_texts
same-record one other e =
    let groups = and_parts _ _ e in
    let source = and_parts _ _ groups.0 in
    let source_1 = and_parts _ _ source.1 in
    let source_2 = and_parts _ _ source_1.1 in
    let source_3 = and_parts _ _ source_2.1 in
    let others = and_parts _ _ groups.1 in
    let place = and_parts _ _ others.0 in
    let place_1 = and_parts _ _ place.1 in
    let place_2 = and_parts _ _ place_1.1 in
    let texts = and_parts _ _ others.1 in
    let texts_1 = and_parts _ _ texts.1 in
    let texts_2 = and_parts _ _ texts_1.1 in
    λ i. record {
      state = same-state one.state other.state place.0 i;
      version = bytes_eq-is one.version other.version source.0 i;
      priority = bytes_eq-is one.priority other.priority source_1.0 i;
      section = bytes_eq-is one.section other.section source_2.0 i;
      earlier = (booleans_Decides one.earlier other.earlier).0 source_3.0 i;
      number = eqb-true one.number other.number source_3.1 i;
      holder = same-option bytes_eq bytes_eq-is one.holder other.holder place_1.0 i;
      take = same-option nat_eq eqb-true one.take other.take place_2.0 i;
      waits = bytes_eq-is one.waits other.waits texts.0 i;
      depends = same-option bytes_eq bytes_eq-is one.depends other.depends texts_1.0 i;
      note = bytes_eq-is one.note other.note texts_2.0 i;
      message = bytes_eq-is one.message other.message texts_2.1 i;
      build_priority = (signed_Decides one.build_priority other.build_priority).0 place_2.1 i;
    }

option-itself : {X : Type 0} (test : X → X → Bool) → ((x : X) → test x x ≡ true) → (o : Option X) → option_eq test o o ≡ true
option-itself test itself None = refl
option-itself test itself (Some x) = itself x

number-itself : (n : ℕ) → nat_eq n n ≡ true
number-itself n = eq-eqb n n refl

record-itself : (current : Record) → is_same_record current current ≡ true
unfolding is_same_record has_same_source has_same_place has_same_texts
record-itself current = λ i.
    (nat_list_eq_equiv.refl current.version i && (nat_list_eq_equiv.refl current.priority i
    && (nat_list_eq_equiv.refl current.section i && ((booleans_Decides current.earlier current.earlier).1 refl i && number-itself current.number i))))
    && ((number-itself (code_of current.state) i && (option-itself bytes_eq nat_list_eq_equiv.refl current.holder i
    && (option-itself nat_eq number-itself current.take i && (signed_Decides current.build_priority current.build_priority).1 refl i)))
    && (nat_list_eq_equiv.refl current.waits i && (option-itself bytes_eq nat_list_eq_equiv.refl current.depends i
    && (nat_list_eq_equiv.refl current.note i && nat_list_eq_equiv.refl current.message i))))

pub same-record-is : (one other : Record) → is_same_record one other ≡ true ↔ (one ≡ other)
same-record-is one other =
    (same-record one other, λ e. ap (is_same_record one) (sym e) ∙ record-itself one)

-- a record that is kept is the one that was there
pub kept-record : (old : Option Record) (new : Record) → change_of old (Some new) ≡ Kept → old ≡ Some new
kept-record None new e = absurd cc
kept-record (Some old) new e =
    elim (is_same_record old new) as (λ b. is_same_record old new ≡ b → cond b Kept Changed ≡ Kept → Some old ≡ Some new) [
      | true ↦ λ is _. ap Some (same-record old new is)
      | false ↦ λ _ e. absurd cc
    ] refl e

pub set-kept : (records : Records) (key : Key) (new : Record) → change_of (finite.get records key) (Some new) ≡ Kept → IsSetAt records key (Some new) records
unfolding IsSetAt
set-kept records key new e other =
    elim (eq_by_cmp pair_cmp key other) as (λ b. eq_by_cmp pair_cmp key other ≡ b → finite.get records other ≡ cond b (Some new) (finite.get records other)) [
      | true ↦ λ t. ap (finite.get records) (sym (pair-is key other t)) ∙ kept-record (finite.get records key) new e
      | false ↦ λ _. refl
    ] refl
