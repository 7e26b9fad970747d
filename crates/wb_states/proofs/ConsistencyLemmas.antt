-- The invariant of the office holds of the empty office, and of one with an architecture, a builder or a record more.
use Rattle.std.proofs.Common.{◌≡◌, ℕ, ◌+◌, ◌<◌, ◌≤◌, ◌⊎◌, inl, inr, unwrap_or, [], Bool, true, false, ◌||◌, Option, Some, None, IsTrue, IfSome, is_some, refl, sym, ap, subst, ◌∙◌, List, arith, cond}
use Rattle.std.specs.declared.cmp.Ordering.{Ordering}
use Rattle.std.specs.Ordering.{eq_by_cmp}
use Rattle.std.specs.Cmp.{IsTotalOrder}
use Rattle.std.specs.FinMap as map
use Rattle.std.specs.FinSet as set
use Rattle.std.proofs.lemmas.Bool.{or_right}
use Rattle.wb_states.specs.declared.arch.OsCpu.{OsCpu}
use Rattle.wb_states.specs.declared.record.Record.{Record}
use Rattle.wb_states.specs.Limits.{count_limit}
use Rattle.wb_states.specs.Machine.{Machine, empty_office, arch_words, with_words, AreWaits, IsArch, IsBuilder, IsRecord, HasDistinctTakes, IsConsistent}
use Rattle.deb_text.specs.Text.{pair_cmp, text_cmp}
use Rattle.deb_relations.specs.declared.arch.ArchWords.{ArchWords}
use Rattle.deb_text.proofs.KeyLemmas.{text_cmp_total, text_cmp-same, pair_cmp_total, pair_cmp-same, eq_by_cmp-same, insert_all}

-- the office with nothing in it but its counts
pub consistent-empty : (handed accepted : ℕ) → handed ≤ count_limit → accepted ≤ count_limit
    → IsConsistent (record empty_office { handed = handed; accepted = accepted })
unfolding empty_office
consistent-empty handed accepted given room = record {
  archs = λ name. rw (map.get-empty text_cmp name) tt;
  builders = λ builder arch h. absurd (no (sym (set.contains-empty pair_cmp (builder, arch)) ∙ h));
  records = λ arch source. rw (map.get-empty pair_cmp (arch, source)) tt;
  takes = λ one other first second take_number is _ _ _. absurd (none first (sym (map.get-empty pair_cmp one) ∙ is));
  handed = given;
  accepted = room;
}
  where
    no : false ≡ true → ⊥
    no e = cc

    none : (first : Record) → None ≡ Some first → ⊥
    none first e = cc

pub IsConsistent-empty_office : IsConsistent empty_office
unfolding empty_office
IsConsistent-empty_office = consistent-empty 0 0 (omega arith) (omega arith)

-- what the new state has of the old one: its architectures with their words, its builders, and its take numbers
pub record Keeps (old new : Machine) : Type 0 where
  pub archs : (arch : List ℕ) → IsTrue (map.contains_key old.archs arch) → IsTrue (map.contains_key new.archs arch)
  pub words : (arch : List ℕ) → IsTrue (map.contains_key old.archs arch) → arch_words new arch ≡ arch_words old arch
  pub builders : (pair : List ℕ × List ℕ) → IsTrue (set.contains old.builders pair) → IsTrue (set.contains new.builders pair)
  pub handed : old.handed ≤ new.handed

pub IsRecord-kept : (old new : Machine) → Keeps old new → (arch source : List ℕ) (current : Record) → IsRecord old arch source current → IsRecord new arch source current
IsRecord-kept old new keeps arch source current is = record {
  name = is.name;
  known = keeps.archs arch is.known;
  fields = is.fields;
  holder = held current.holder is.holder;
  waits = subst (λ (w : ArchWords). AreWaits w current.waits) (sym (keeps.words arch is.known)) is.waits;
  given = given current.take is.given;
}
  where
    held : (holder : Option (List ℕ)) → IfSome holder (λ builder. IsTrue (set.contains old.builders (builder, arch))) → IfSome holder (λ builder. IsTrue (set.contains new.builders (builder, arch)))
    held None h = tt
    held (Some builder) h = keeps.builders (builder, arch) h

    given : (taken : Option ℕ) → IfSome taken (λ n. (1 ≤ n) × (n ≤ old.handed)) → IfSome taken (λ n. (1 ≤ n) × (n ≤ new.handed))
    given None h = tt
    given (Some n) h = let up = keeps.handed in (h.0, omega arith)

pub records_kept : (old new : Machine) → Keeps old new → (found : Option Record) (arch source : List ℕ) → IfSome found (IsRecord old arch source) → IfSome found (IsRecord new arch source)
records_kept old new keeps None arch source h = tt
records_kept old new keeps (Some current) arch source h = IsRecord-kept old new keeps arch source current h

-- a key that was there is there after an insertion
pub contains_key-insert : {K V : Type 0} {R : K → K → Ordering} → IsTotalOrder R → (m : map.FinMap R V) (k : K) (v : V) (q : K)
    → IsTrue (map.contains_key m q) → IsTrue (map.contains_key (map.insert m k v) q)
contains_key-insert {V = V} {R = R} total m k v q h = ap is_some (map.get-insert total m k v q) ∙ there (eq_by_cmp R q k) (map.get m q) h where
  there : (b : Bool) (found : Option V) → is_some found ≡ true → is_some (cond b (Some v) found) ≡ true
  there true found h = refl
  there false found h = h

-- an item that was there is there after an insertion
pub contains-insert : {K : Type 0} {R : K → K → Ordering} → IsTotalOrder R → (s : set.FinSet R) (k q : K) → IsTrue (set.contains s q) → IsTrue (set.contains (set.insert s k) q)
contains-insert {R = R} total s k q h = set.contains-insert total s k q ∙ or_right (eq_by_cmp R q k) (set.contains s q) h

-- an architecture more, which was not there, leaves the others as they were
others-kept : (archs : map.FinMap text_cmp OsCpu) (arch : List ℕ) (words : OsCpu) → map.contains_key archs arch ≡ false
    → (other : List ℕ) → IsTrue (map.contains_key archs other) → map.get (map.insert archs arch words) other ≡ map.get archs other
others-kept archs arch words absent other known =
    map.get-insert text_cmp_total archs arch words other
    ∙ (elim (eq_by_cmp text_cmp other arch) as (λ b. eq_by_cmp text_cmp other arch ≡ b → cond b (Some words) (map.get archs other) ≡ map.get archs other) [
      | true ↦ λ tie. absurd (clash (sym known ∙ ap (map.contains_key archs) (eq_by_cmp-same text_cmp-same other arch tie) ∙ absent))
      | false ↦ λ _. refl
    ]) refl
  where
    clash : true ≡ false → ⊥
    clash e = cc

pub with_arch : (machine : Machine) (arch : List ℕ) (words : OsCpu) → IsConsistent machine → IsArch arch words → map.contains_key machine.archs arch ≡ false
    → machine.accepted < count_limit → IsConsistent (record machine { archs = map.insert machine.archs arch words; accepted = machine.accepted + 1 })
unfolding arch_words
with_arch machine arch words old is absent room =
    let new : Machine = record machine { archs = map.insert machine.archs arch words; accepted = machine.accepted + 1 } in
    let keeps : Keeps machine new = record {
      archs = λ a. contains_key-insert text_cmp_total machine.archs arch words a;
      words = λ a h. ap (λ (found : Option OsCpu). with_words a (unwrap_or found (record { os = []; cpu = [] }))) (others-kept machine.archs arch words absent a h);
      builders = λ pair h. h;
      handed = omega arith;
    } in
    record {
      archs = insert_all text_cmp_total text_cmp-same IsArch machine.archs arch words is old.archs;
      builders = λ b a h. let had = old.builders b a h in record { name = had.name; known = keeps.archs a had.known };
      records = λ a s. records_kept machine new keeps (map.get machine.records (a, s)) a s (old.records a s);
      takes = old.takes;
      handed = old.handed;
      accepted = omega arith;
    }

pub with_builder : (machine : Machine) (builder arch : List ℕ) → IsConsistent machine → IsBuilder machine builder arch → machine.accepted < count_limit
    → IsConsistent (record machine { builders = set.insert machine.builders (builder, arch); accepted = machine.accepted + 1 })
unfolding arch_words
with_builder machine builder arch old is room =
    let new : Machine = record machine { builders = set.insert machine.builders (builder, arch); accepted = machine.accepted + 1 } in
    let keeps : Keeps machine new = record {
      archs = λ a h. h;
      words = λ a h. refl;
      builders = λ pair. contains-insert pair_cmp_total machine.builders (builder, arch) pair;
      handed = omega arith;
    } in
    record {
      archs = old.archs;
      builders = λ b a h.
          let either : (eq_by_cmp pair_cmp (b, a) (builder, arch) || set.contains machine.builders (b, a)) ≡ true =
          sym (set.contains-insert pair_cmp_total machine.builders (builder, arch) (b, a)) ∙ h in
          let had = known b a (eq_by_cmp pair_cmp (b, a) (builder, arch)) refl (set.contains machine.builders (b, a)) refl either in
          record { name = had.name; known = had.known };
      records = λ a s. records_kept machine new keeps (map.get machine.records (a, s)) a s (old.records a s);
      takes = old.takes;
      handed = old.handed;
      accepted = omega arith;
    }
  where
    same : (p : List ℕ × List ℕ) → p ≡ (builder, arch) → IsBuilder machine p.0 p.1
    same p e = let F : List ℕ × List ℕ → Type 0 = λ q. IsBuilder machine q.0 q.1 in subst F (sym e) is

    known : (b a : List ℕ) (tie : Bool) → eq_by_cmp pair_cmp (b, a) (builder, arch) ≡ tie → (had : Bool) → set.contains machine.builders (b, a) ≡ had
        → (tie || had) ≡ true → IsBuilder machine b a
    known b a true e had f h = same (b, a) (eq_by_cmp-same pair_cmp-same (b, a) (builder, arch) e)
    known b a false e had f h = old.builders b a (f ∙ h)

-- a take number is one that was never given, or that of the record at the key
abbrev pub IsFreshOrKept : Machine → List ℕ × List ℕ → ℕ → Type 0
IsFreshOrKept machine key take_number =
    (machine.handed < take_number) ⊎ ((old : Record) × ((map.get machine.records key ≡ Some old) × (old.take ≡ Some take_number)))

-- a record that is put at a key
pub with_record : (machine : Machine) (key : List ℕ × List ℕ) (current : Record) (handed : ℕ)
    → IsConsistent machine
    → IsRecord (record machine { handed = handed }) key.0 key.1 current
    → IfSome current.take (IsFreshOrKept machine key)
    → machine.handed ≤ handed → handed ≤ count_limit → machine.accepted < count_limit
    → IsConsistent (record machine { records = map.insert machine.records key current; handed = handed; accepted = machine.accepted + 1 })
unfolding arch_words
with_record machine key current handed old is fresh up within room =
    let new : Machine = record machine { records = map.insert machine.records key current; handed = handed; accepted = machine.accepted + 1 } in
    let keeps : Keeps machine new = record { archs = λ a h. h; words = λ a h. refl; builders = λ pair h. h; handed = up } in
    let here : IsRecord new key.0 key.1 current =
    record { name = is.name; known = is.known; fields = is.fields; holder = is.holder; waits = is.waits; given = is.given } in
    record {
      archs = old.archs;
      builders = λ b a h. let had = old.builders b a h in record { name = had.name; known = had.known };
      records = λ a s. insert_all pair_cmp_total pair_cmp-same (λ q found. IsRecord new q.0 q.1 found) machine.records key current here
          (λ q. records_kept machine new keeps (map.get machine.records q) q.0 q.1 (old.records q.0 q.1)) (a, s);
      takes = λ one other first second take_number at_one at_other of_first of_second.
          apart one other first second take_number
          (eq_by_cmp pair_cmp one key) refl (eq_by_cmp pair_cmp other key) refl
          (sym (map.get-insert pair_cmp_total machine.records key current one) ∙ at_one)
          (sym (map.get-insert pair_cmp_total machine.records key current other) ∙ at_other)
          of_first of_second;
      handed = within;
      accepted = omega arith;
    }
  where
    only : (x y : Record) → Some x ≡ Some y → x ≡ y
    only x y e = cc

    -- a record that was there and has the take number of the one that is put is the one in its place
    same_place : (other : List ℕ × List ℕ) (found given : Record) (take_number : ℕ) → map.get machine.records other ≡ Some found → found.take ≡ Some take_number
        → current ≡ given → given.take ≡ Some take_number → other ≡ key
    same_place other found given take_number at of same of_given =
        let had : IfSome (Some found) (IsRecord machine other.0 other.1) = subst (λ r. IfSome r (IsRecord machine other.0 other.1)) at (old.records other.0 other.1) in
        let low : IfSome (Some take_number) (λ n. (1 ≤ n) × (n ≤ machine.handed)) = subst (λ t. IfSome t (λ n. (1 ≤ n) × (n ≤ machine.handed))) of had.given in
        let high : IfSome (Some take_number) (IsFreshOrKept machine key) = subst (λ t. IfSome t (IsFreshOrKept machine key)) (ap (λ (r : Record). r.take) same ∙ of_given) fresh in
        (elim high as (λ _. other ≡ key) [
          | inl above ↦ absurd (omega (arith, low.1, above))
          | inr kept ↦ old.takes other key found kept.0 take_number at kept.1.0 of kept.1.1
        ])

    apart : (one other : List ℕ × List ℕ) (first second : Record) (take_number : ℕ)
        (tie : Bool) → eq_by_cmp pair_cmp one key ≡ tie → (tie' : Bool) → eq_by_cmp pair_cmp other key ≡ tie'
        → cond tie (Some current) (map.get machine.records one) ≡ Some first → cond tie' (Some current) (map.get machine.records other) ≡ Some second
        → first.take ≡ Some take_number → second.take ≡ Some take_number → one ≡ other
    apart one other first second take_number true e true f at_one at_other of_first of_second =
        eq_by_cmp-same pair_cmp-same one key e ∙ sym (eq_by_cmp-same pair_cmp-same other key f)
    apart one other first second take_number true e false f at_one at_other of_first of_second =
        eq_by_cmp-same pair_cmp-same one key e ∙ sym (same_place other second first take_number at_other of_second (only current first at_one) of_first)
    apart one other first second take_number false e true f at_one at_other of_first of_second =
        same_place one first second take_number at_one of_first (only current second at_other) of_second ∙ sym (eq_by_cmp-same pair_cmp-same other key f)
    apart one other first second take_number false e false f at_one at_other of_first of_second =
        old.takes one other first second take_number at_one at_other of_first of_second

-- the records are others, of which each has its form, and the take number of the one in its place
pub with_records : (machine : Machine) (records : map.FinMap pair_cmp Record) → IsConsistent machine
    → ((key : List ℕ × List ℕ) → IfSome (map.get records key) (IsRecord machine key.0 key.1))
    → HasDistinctTakes (record machine { records = records })
    → machine.accepted < count_limit → IsConsistent (record machine { records = records; accepted = machine.accepted + 1 })
unfolding arch_words
with_records machine records old is apart room =
    let new : Machine = record machine { records = records; accepted = machine.accepted + 1 } in
    let keeps : Keeps machine new = record { archs = λ a h. h; words = λ a h. refl; builders = λ pair h. h; handed = omega arith } in
    record {
      archs = old.archs;
      builders = λ b a h. let had = old.builders b a h in record { name = had.name; known = had.known };
      records = λ a s. records_kept machine new keeps (map.get records (a, s)) a s (is (a, s));
      takes = apart;
      handed = old.handed;
      accepted = omega arith;
    }

-- the counts alone are raised
pub with_counts : (machine : Machine) (handed : ℕ) → IsConsistent machine → machine.handed ≤ handed → handed ≤ count_limit → machine.accepted < count_limit
    → IsConsistent (record machine { handed = handed; accepted = machine.accepted + 1 })
unfolding arch_words
with_counts machine handed old up within room =
    let new : Machine = record machine { handed = handed; accepted = machine.accepted + 1 } in
    let keeps : Keeps machine new = record { archs = λ a h. h; words = λ a h. refl; builders = λ pair h. h; handed = up } in
    record {
      archs = old.archs;
      builders = λ b a h. let had = old.builders b a h in record { name = had.name; known = had.known };
      records = λ a s. records_kept machine new keeps (map.get machine.records (a, s)) a s (old.records a s);
      takes = old.takes;
      handed = within;
      accepted = omega arith;
    }
