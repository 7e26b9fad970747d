-- The entries of std's ordered maps and sets, as finite maps and sets.
use Rattle.std.proofs.Common.{◌≡◌, ℕ, Bool, true, false, cond, not, List, map, refl, sym, ap, ◌∙◌, ◌||◌, ◌&&◌}
use Rattle.std.specs.declared.cmp.Ordering.{Ordering}
use Rattle.std.specs.Cmp.{IsTotalOrder, eq_by_cmp_equiv}
use Rattle.std.specs.Cmp.Lexicographic.{nat_list_cmp_total}
use Rattle.std.proofs.lemmas.Map.Lookups.{exact_bytes}
use Rattle.std.specs.List.{list_any}
use Rattle.std.specs.List.Sorted.{IsStrictlySortedBy}
use Rattle.std.specs.BTreeMap.{is_at}
use Rattle.std.specs.FinMap as finite
use Rattle.std.specs.FinSet as set
use Rattle.wb_step.specs.declared.office_part.OfficePart.TheInside.{Inside}
use Rattle.wb_step.specs.contracts.office_part.OfficePart.{the_view}
use Rattle.deb_text.specs.Text.{text_cmp, pair_cmp}
use Rattle.wb_states.specs.declared.record.Record.{Record}
use Rattle.wb_states.specs.declared.arch.OsCpu.{OsCpu}
use Rattle.wb_states.specs.Machine.{Machine}
use Rattle.deb_text.proofs.KeyLemmas.{pair_cmp_total, pair_cmp-same}
use Rattle.deb_text.proofs.MapLemmas.{entries-kept}

-- the state with other records
abbrev pub with_records : Machine → finite.FinMap pair_cmp Record → Machine
with_records machine records = record machine { records = records }

-- the state with other architectures
abbrev pub with_archs : Machine → finite.FinMap text_cmp OsCpu → Machine
with_archs machine archs = record machine { archs = archs }

-- the state with other builders
abbrev pub with_builders : Machine → set.FinSet pair_cmp → Machine
with_builders machine builders = record machine { builders = builders }

or-cond : (a b : Bool) → cond a true b ≡ (a || b)
or-cond true b = refl
or-cond false b = refl

module _ {K : Type 0} {R : K → K → Ordering} (o : IsTotalOrder R) (same : finite.IsAntisymmetric R) where
  -- keys that differ at one key alone make sets that differ there alone
  pub one-added : (ks js : List K) (k : K)
      → ((q : K) → list_any (is_at (R q)) js ≡ cond (is_at (R k) q) true (list_any (is_at (R q)) ks))
      → set.from_list {R = R} js ≡ set.insert (set.from_list ks) k
  one-added ks js k h = set.same_set o same _ _ (λ q.
      set.contains-from_list o js q ∙ h q ∙ ap (λ b. cond b true (list_any (is_at (R q)) ks)) ((eq_by_cmp_equiv o).symm k q)
      ∙ or-cond (is_at (R q) k) (list_any (is_at (R q)) ks)
      ∙ sym (set.contains-insert o (set.from_list ks) k q ∙ ap (λ b. is_at (R q) k || b) (set.contains-from_list o ks q)))

and-cond : (a b : Bool) → cond a false b ≡ (not a && b)
and-cond true b = refl
and-cond false b = refl

module _ {K : Type 0} {R : K → K → Ordering} (o : IsTotalOrder R) (same : finite.IsAntisymmetric R) where
  -- keys that lack one key alone make the set that lacks it
  pub one-gone : (ks js : List K) (k : K)
      → ((q : K) → list_any (is_at (R q)) js ≡ cond (is_at (R k) q) false (list_any (is_at (R q)) ks))
      → set.from_list {R = R} js ≡ set.remove (set.from_list ks) k
  one-gone ks js k h = set.same_set o same _ _ (λ q.
      set.contains-from_list o js q ∙ h q ∙ ap (λ b. cond b false (list_any (is_at (R q)) ks))
      ((eq_by_cmp_equiv o).symm k q)
      ∙ and-cond (is_at (R q) k) (list_any (is_at (R q)) ks)
      ∙ sym (set.contains-remove o (set.from_list ks) k q
      ∙ ap (λ b. not (is_at (R q) k) && b) (set.contains-from_list o ks q)))

-- what an iteration over the records gives
pub records-iterated : (inside : Inside) (machine : Machine) → the_view inside ≡ machine → IsStrictlySortedBy pair_cmp (map (λ e. e.0) inside.records.entries)
    → (items : List ((List ℕ × List ℕ) × Record)) → items ≡ inside.records.entries → items ≡ finite.entries machine.records
records-iterated inside machine e h items i =
    i ∙ sym (entries-kept pair_cmp_total pair_cmp-same inside.records.entries h) ∙ ap (λ m. finite.entries m.records) e

-- what an iteration over the architectures gives
pub archs-iterated : (inside : Inside) (machine : Machine) → the_view inside ≡ machine → IsStrictlySortedBy text_cmp (map (λ e. e.0) inside.archs.entries)
    → (items : List (List ℕ × OsCpu)) → items ≡ inside.archs.entries → items ≡ finite.entries machine.archs
archs-iterated inside machine e h items i =
    i ∙ sym (entries-kept nat_list_cmp_total exact_bytes inside.archs.entries h) ∙ ap (λ m. finite.entries m.archs) e
