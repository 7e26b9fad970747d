-- What stays where an architecture, a builder or a record is taken away, and that the office keeps its invariant.
use Rattle.std.proofs.Common.{◌≡◌, ℕ, ◌+◌, ◌<◌, ◌≤◌, Bool, true, false, cond, not, ◌&&◌, ◌||◌, inl, inr, List, [], ◌∷◌}
use Rattle.std.proofs.Common.{Option, Some, None, IsTrue, IfSome, is_some, refl, sym, ap, subst, ◌∙◌, bytes_eq}
use Rattle.std.proofs.Common.{unwrap_or, arith}
use Rattle.std.proofs.lemmas.Bool.{and_parts}
use Rattle.std.proofs.lemmas.Slice.Eq.{bytes_eq-Decides}
use Rattle.std.specs.declared.cmp.Ordering.{Ordering}
use Rattle.std.specs.Cmp.{IsTotalOrder}
use Rattle.std.specs.FinMap as map
use Rattle.std.specs.FinMap.{IsAntisymmetric}
use Rattle.std.specs.FinSet as set
use Rattle.std.specs.List.{list_any}
use Rattle.std.specs.Ordering.{eq_by_cmp}
use Rattle.deb_relations.specs.declared.arch.ArchWords.{ArchWords}
use Rattle.deb_text.specs.Lists.{IsIn}
use Rattle.deb_text.specs.Options.{has_value}
use Rattle.deb_text.specs.Text.{pair_cmp, text_cmp}
use Rattle.deb_text.proofs.KeyLemmas.{text_cmp_total, text_cmp-same, pair_cmp_total, pair_cmp-same, eq_by_cmp-same}
use Rattle.deb_text.proofs.SortedLemmas.{IsIn-find}
use Rattle.wb_states.specs.declared.arch.OsCpu.{OsCpu}
use Rattle.wb_states.specs.declared.command.Forget.{Forget}
use Rattle.wb_states.specs.declared.command.RemoveArch.{RemoveArch}
use Rattle.wb_states.specs.declared.command.RemoveBuilder.{RemoveBuilder}
use Rattle.wb_states.specs.declared.record.Record.{Record}
use Rattle.wb_states.specs.Limits.{count_limit}
use Rattle.wb_states.specs.Machine.{Machine, Key, AreWaits, IsArch, IsConsistent, IsRecord, arch_words, with_words}
use Rattle.wb_states.specs.Queue.{Entry}
use Rattle.wb_states.proofs.ConsistencyLemmas.{with_records}
use Rattle.wb_step.specs.Arguments.{Removal, OfArch, OfBuilder, OfPackage}
use Rattle.wb_step.specs.Checks.{is_held, is_held_on}
use Rattle.wb_step.specs.Step.{after_removing, counted}

clash : true ≡ false → ⊥
clash e = cc

and_kept : (a b : Bool) → a ≡ true → b ≡ true → (a && b) ≡ true
and_kept true true one other = refl
and_kept true false one other = other
and_kept false b one other = one

-- ---- what stays in a map

-- what is so of each value is so of each that stays where a key goes
pub remove_all : {K X : Type 0} {R : K → K → Ordering} → IsTotalOrder R
    → (P : K → X → Type 0) (m : map.FinMap R X) (k : K)
    → ((q : K) → IfSome (map.get m q) (P q)) → (q : K) → IfSome (map.get (map.remove m k) q) (P q)
remove_all {R = R} total P m k old q = rw (map.get-remove total m k q) (stays (eq_by_cmp R q k)) where
  stays : (b : Bool) → IfSome (cond b None (map.get m q)) (P q)
  stays true = tt
  stays false = old q

-- and where only the keys stay that pass a test
pub retain_all : {K X : Type 0} {R : K → K → Ordering} → IsAntisymmetric R
    → (P : K → X → Type 0) (m : map.FinMap R X) (p : K → Bool)
    → ((q : K) → IfSome (map.get m q) (P q)) → (q : K) → IfSome (map.get (map.retain_keys m p) q) (P q)
retain_all same P m p old q = rw (map.get-retain_keys m p q (λ x tie. ap p (sym (same q x tie)))) (stays (p q)) where
  stays : (b : Bool) → IfSome (cond b (map.get m q) None) (P q)
  stays true = old q
  stays false = tt

-- a value that stays was there, and its key passes the test
retained : {K X : Type 0} {R : K → K → Ordering} → IsAntisymmetric R
    → (m : map.FinMap R X) (p : K → Bool) (q : K) (x : X)
    → map.get (map.retain_keys m p) q ≡ Some x → (map.get m q ≡ Some x) × (p q ≡ true)
retained {X = X} same m p q x is = at (p q) refl (sym (map.get-retain_keys m p q (λ y tie. ap p (sym (same q y tie))))
    ∙ is) where
      none : {Y : Type 0} → None ≡ Some x → Y
      none e = cc

      at : (b : Bool) → p q ≡ b → cond b (map.get m q) None ≡ Some x → (map.get m q ≡ Some x) × (p q ≡ true)
      at true passes there = (there, passes)
      at false fails there = none there

remained : {K X : Type 0} {R : K → K → Ordering} → IsTotalOrder R → (m : map.FinMap R X) (k q : K) (x : X)
    → map.get (map.remove m k) q ≡ Some x → map.get m q ≡ Some x
remained {R = R} total m k q x is = at (eq_by_cmp R q k) (sym (map.get-remove total m k q) ∙ is) where
  at : (b : Bool) → cond b None (map.get m q) ≡ Some x → map.get m q ≡ Some x
  at true e = cc
  at false e = e

-- another key keeps its value where one goes
pub remove-other : {K X : Type 0} {R : K → K → Ordering} → IsTotalOrder R → IsAntisymmetric R
    → (m : map.FinMap R X) (k q : K) → (q ≡ k → ⊥)
    → map.get (map.remove m k) q ≡ map.get m q
remove-other {R = R} total same m k q apart =
    map.get-remove total m k q
    ∙ (elim (eq_by_cmp R q k) as (λ b. eq_by_cmp R q k ≡ b → cond b None (map.get m q) ≡ map.get m q) [
      | true ↦ λ tie. absurd (apart (eq_by_cmp-same same q k tie))
      | false ↦ λ _. refl
    ]) refl

-- ---- names that differ

itself : (name : List ℕ) → bytes_eq name name ≡ true
itself name = (bytes_eq-Decides name name).1 refl

-- a name that passes is not the one that goes
differs : (a name : List ℕ) → not (bytes_eq a name) ≡ true → a ≡ name → ⊥
differs a name passes same = at (bytes_eq a name) (ap (λ x. bytes_eq x name) same ∙ itself name) passes where
  at : (b : Bool) → b ≡ true → not b ≡ true → ⊥
  at true is other = cc
  at false is other = cc

-- the records of another architecture stay
pub retain-other : (records : map.FinMap pair_cmp Record) (name : List ℕ) (key : Key) → (key.0 ≡ name → ⊥)
    → map.get (map.retain_keys records (λ k. not (bytes_eq k.0 name))) key ≡ map.get records key
retain-other records name key apart =
    map.get-retain_keys records (λ k. not (bytes_eq k.0 name)) key
    (λ x tie. ap (λ (k : Key). not (bytes_eq k.0 name)) (sym (pair_cmp-same key x tie)))
    ∙ (elim (bytes_eq key.0 name) as (λ b. bytes_eq key.0 name ≡ b
    → cond (not b) (map.get records key) None ≡ map.get records key) [
      | true ↦ λ same. absurd (apart ((bytes_eq-Decides key.0 name).0 same))
      | false ↦ λ _. refl
    ]) refl

-- ---- what nobody holds

-- where none passes, one of them does not
none_in : {X : Type 0} (p : X → Bool) (xs : List X) (x : X) → list_any p xs ≡ false → IsIn x xs → p x ≡ true → ⊥
none_in p [] x none within passes = within
none_in p (y ∷ xs) x none (inl same) passes = at (p y) (list_any p xs) none (ap p (sym same) ∙ passes) where
  at : (a b : Bool) → (a || b) ≡ false → a ≡ true → ⊥
  at true b e is = cc
  at false b e is = cc
none_in p (y ∷ xs) x none (inr later) passes = none_in p xs x (rest (p y) (list_any p xs) none) later passes where
  rest : (a b : Bool) → (a || b) ≡ false → b ≡ false
  rest true b e = cc
  rest false b e = e

-- ---- the invariant

forgetting-keeps : (machine : Machine) (fields : Forget) → IsConsistent machine → machine.accepted < count_limit
    → IsConsistent (counted machine (after_removing machine (OfPackage fields)))
forgetting-keeps machine fields old room =
    with_records machine (map.remove machine.records (fields.arch, fields.source)) old
    (remove_all pair_cmp_total (λ key. IsRecord machine key.0 key.1) machine.records (fields.arch, fields.source)
    (λ key. old.records key.0 key.1))
    (λ one other first second take_number is also taken given.
    old.takes one other first second take_number (remained pair_cmp_total machine.records (fields.arch, fields.source)
    one first is)
    (remained pair_cmp_total machine.records (fields.arch, fields.source) other second also) taken given)
    room

-- a builder goes from an architecture of which it holds no record
leaving-keeps : (machine : Machine) (fields : RemoveBuilder) → IsConsistent machine
    → is_held machine (OfBuilder fields) ≡ false
    → machine.accepted < count_limit → IsConsistent (counted machine (after_removing machine (OfBuilder fields)))
unfolding arch_words
leaving-keeps machine fields old unheld room = record {
  archs = old.archs;
  builders = λ builder arch there.
      let both = and_parts (not (eq_by_cmp pair_cmp (builder, arch) (fields.name, fields.arch)))
      (set.contains machine.builders (builder, arch))
      (sym (set.contains-remove pair_cmp_total machine.builders (fields.name, fields.arch) (builder, arch)) ∙ there) in
      let had = old.builders builder arch both.1 in
      record { name = had.name; known = had.known };
  records = λ arch source. at arch source (map.get machine.records (arch, source)) refl (old.records arch source);
  takes = old.takes;
  handed = old.handed;
  accepted = omega arith;
}
  where
    left : set.FinSet pair_cmp
    left = set.remove machine.builders (fields.name, fields.arch)

    -- the pair of a holder is another
    other : (arch source : List ℕ) (current : Record) (builder : List ℕ)
        → map.get machine.records (arch, source) ≡ Some current
        → current.holder ≡ Some builder → ◌≡◌ {A = Key} (builder, arch) (fields.name, fields.arch) → ⊥
    other arch source current builder is holds same =
        let entry : Entry = ((arch, source), current) in
        none_in (is_held_on fields.arch fields.name) (map.entries machine.records) entry unheld
        ((IsIn-find pair_cmp_total pair_cmp-same entry (map.entries machine.records)
        (map.entries_sorted machine.records)).1
        (sym (map.get-entries machine.records (arch, source)) ∙ is))
        (and_kept (bytes_eq arch fields.arch) (has_value (bytes_eq fields.name) current.holder)
        (ap (λ (pair : Key). bytes_eq pair.1 fields.arch) same ∙ itself fields.arch)
        (ap (has_value (bytes_eq fields.name)) (holds ∙ ap (λ (pair : Key). Some pair.0) same) ∙ itself fields.name))

    there : (arch source : List ℕ) (current : Record) → map.get machine.records (arch, source) ≡ Some current
        → (holder : Option (List ℕ)) → current.holder ≡ holder
        → IfSome holder (λ builder. IsTrue (set.contains machine.builders (builder, arch)))
        → IfSome holder (λ builder. IsTrue (set.contains left (builder, arch)))
    there arch source current is None holds had = tt
    there arch source current is (Some builder) holds had =
        set.contains-remove pair_cmp_total machine.builders (fields.name, fields.arch) (builder, arch)
        ∙ ap (λ b. b && set.contains machine.builders (builder, arch))
        (apart (eq_by_cmp pair_cmp (builder, arch) (fields.name, fields.arch)) refl) ∙ had
      where
        apart : (b : Bool) → eq_by_cmp pair_cmp (builder, arch) (fields.name, fields.arch) ≡ b
            → not (eq_by_cmp pair_cmp (builder, arch) (fields.name, fields.arch)) ≡ true
        apart true tie = absurd (other arch source current builder is holds
            (eq_by_cmp-same pair_cmp-same (builder, arch) (fields.name, fields.arch) tie))
        apart false tie = ap not tie

    at : (arch source : List ℕ) (found : Option Record) → map.get machine.records (arch, source) ≡ found
        → IfSome found (IsRecord machine arch source)
        → IfSome (map.get machine.records (arch, source)) (IsRecord
        (counted machine (after_removing machine (OfBuilder fields))) arch source)
    at arch source None is had = rw is tt
    at arch source (Some current) is had =
        rw is (record {
          name = had.name;
          known = had.known;
          fields = had.fields;
          holder = there arch source current is current.holder refl had.holder;
          waits = had.waits;
          given = had.given;
        })

-- an architecture goes with all that it has
clearing-keeps : (machine : Machine) (fields : RemoveArch) → IsConsistent machine → machine.accepted < count_limit
    → IsConsistent (counted machine (after_removing machine (OfArch fields)))
unfolding arch_words
clearing-keeps machine fields old room = record {
  archs = remove_all text_cmp_total IsArch machine.archs fields.name old.archs;
  builders = λ builder arch there.
      let both = and_parts (set.contains machine.builders (builder, arch)) (not (bytes_eq arch fields.name))
      (sym (kept builder arch) ∙ there) in
      let had = old.builders builder arch both.0 in
      record { name = had.name; known = ap is_some (same_words arch both.1) ∙ had.known };
  records = λ arch source. at arch source (map.get (after_removing machine (OfArch fields)).records (arch, source))
      refl;
  takes = λ one other first second take_number is also taken given.
      old.takes one other first second take_number (retained pair_cmp-same machine.records stays one first is).0
      (retained pair_cmp-same machine.records stays other second also).0 taken given;
  handed = old.handed;
  accepted = omega arith;
}
  where
    stays : Key → Bool
    stays key = not (bytes_eq key.0 fields.name)

    kept : (builder arch : List ℕ) → set.contains (after_removing machine (OfArch fields)).builders (builder, arch)
        ≡ (set.contains machine.builders (builder, arch) && not (bytes_eq arch fields.name))
    kept builder arch =
        set.contains-retain machine.builders (λ pair. not (bytes_eq pair.1 fields.name)) (builder, arch)
        (λ x tie. ap (λ (pair : Key). not (bytes_eq pair.1 fields.name)) (sym (pair_cmp-same (builder, arch) x tie)))

    same_words : (arch : List ℕ) → not (bytes_eq arch fields.name) ≡ true
        → map.get (map.remove machine.archs fields.name) arch ≡ map.get machine.archs arch
    same_words arch passes = remove-other text_cmp_total text_cmp-same machine.archs fields.name arch
        (differs arch fields.name passes)

    at : (arch source : List ℕ) (found : Option Record)
        → map.get (after_removing machine (OfArch fields)).records (arch, source) ≡ found
        → IfSome (map.get (after_removing machine (OfArch fields)).records (arch, source))
        (IsRecord (counted machine (after_removing machine (OfArch fields))) arch source)
    at arch source None is = rw is tt
    at arch source (Some current) is =
        let was = retained pair_cmp-same machine.records stays (arch, source) current is in
        let had : IfSome (Some current) (IsRecord machine arch source) = subst
        (λ r. IfSome r (IsRecord machine arch source)) was.0 (old.records arch source) in
        rw is (record {
          name = had.name;
          known = ap is_some (same_words arch was.1) ∙ had.known;
          fields = had.fields;
          holder = holds current.holder had.holder;
          waits = subst (λ (words : ArchWords). AreWaits words current.waits)
              (ap (λ (found : Option OsCpu). with_words arch (unwrap_or found (record { os = []; cpu = [] })))
              (sym (same_words arch was.1))) had.waits;
          given = had.given;
        })
      where
        passes : not (bytes_eq arch fields.name) ≡ true
        passes = (retained pair_cmp-same machine.records stays (arch, source) current is).1

        holds : (holder : Option (List ℕ)) → IfSome holder (λ builder.
            IsTrue (set.contains machine.builders (builder, arch)))
            → IfSome holder (λ builder. IsTrue (set.contains (after_removing machine (OfArch fields)).builders
            (builder, arch)))
        holds None h = tt
        holds (Some builder) h = kept builder arch ∙ and_kept _ _ h passes

-- the office keeps its invariant where something goes that nobody holds
pub removing-keeps : (machine : Machine) (removed : Removal) → IsConsistent machine → is_held machine removed ≡ false
    → machine.accepted < count_limit → IsConsistent (counted machine (after_removing machine removed))
removing-keeps machine (OfArch fields) old unheld room = clearing-keeps machine fields old room
removing-keeps machine (OfBuilder fields) old unheld room = leaving-keeps machine fields old unheld room
removing-keeps machine (OfPackage fields) old unheld room = forgetting-keeps machine fields old room

-- ---- the records

-- what is so of each record is so of each that stays
pub removing_all : (P : Key → Record → Type 0) (machine : Machine) (removed : Removal)
    → ((key : Key) → IfSome (map.get machine.records key) (P key))
    → (key : Key) → IfSome (map.get (after_removing machine removed).records key) (P key)
removing_all P machine (OfArch fields) old = retain_all pair_cmp-same P machine.records
    (λ key. not (bytes_eq key.0 fields.name)) old
removing_all P machine (OfBuilder fields) old = old
removing_all P machine (OfPackage fields) old = remove_all pair_cmp_total P machine.records (fields.arch, fields.source)
    old
