-- A state is consistent whose tables have good rows.
use Rattle.std.proofs.Common.{◌≡◌, inl, inr, ℕ, true, false, ◌&&◌, ◌||◌, List, [], ◌∷◌, Option, None, Some, IfSome, bytes_eq, refl, sym, subst, ◌∙◌}
use Rattle.std.specs.List.{AllByRecursion}
use Rattle.std.specs.FinMap as finite
use Rattle.std.specs.FinSet as set
use Rattle.std.proofs.lemmas.Bool.{and_parts}
use Rattle.std.proofs.lemmas.Slice.Eq.{bytes_eq-Decides}
use Rattle.sqlite.specs.Effect.{Database}
use Rattle.deb_text.specs.Lists.{IsIn}
use Rattle.deb_text.proofs.KeyLemmas.{text_cmp_total, text_cmp-same}
use Rattle.deb_text.proofs.SortedLemmas.{IsIn-find}
use Rattle.wb_states.specs.declared.arch.OsCpu.{OsCpu}
use Rattle.wb_states.specs.Machine.{Key, Machine, IsArch, IsBuilder, IsConsistent, builder_pairs}
use Rattle.wb_store.specs.Checks.{AreKept, HasGoodRows, IsFormedArch, IsFormedBuilder, has_pair, HasGoodRowsIn}
use Rattle.wb_store.specs.declared.format.Format.{Format}
use Rattle.wb_store.specs.declared.format.Format.TheVariants.{One, Two}
use Rattle.wb_store.specs.Schemas.{AreKeptIn}
use Rattle.wb_store.specs.Stands.{HasArchsOf, HasBuildersOf, HasCountsOf, HasRecordsOf, StandsFor, StandsForFirst}
use Rattle.wb_store.proofs.ArchLemmas.{archs_found}
use Rattle.wb_store.proofs.FoundLemmas.{counts_in_format}
use Rattle.wb_store.proofs.OpeningBuilderLemmas.{builders_found, known_arch}
use Rattle.wb_store.proofs.OpeningCountLemmas.{counts_are, counts_within}
use Rattle.wb_store.proofs.OpeningRecordLemmas.{all_kept, pair_is, records_good}

all_in : {X : Type 0} (P : X → Type 0) (xs : List X) (x : X) → AllByRecursion P xs → IsIn x xs → P x
all_in P [] x all within = absurd within
all_in P (y ∷ ys) x all (inl here) = subst P (sym here) all.0
all_in P (y ∷ ys) x all (inr later) = all_in P ys x all.1 later

one_pair : (P : Key → Type 0) (pairs : List Key) (pair : Key) → AllByRecursion P pairs → has_pair pairs pair ≡ true → P pair
one_pair P [] pair all there = cc
one_pair P (other ∷ pairs) pair all there =
    elim (bytes_eq other.0 pair.0 && bytes_eq other.1 pair.1) as (λ b. (bytes_eq other.0 pair.0 && bytes_eq other.1 pair.1) ≡ b → (b || has_pair pairs pair) ≡ true → P pair) [
      | true ↦ λ test found.
          let parts = and_parts (bytes_eq other.0 pair.0) (bytes_eq other.1 pair.1) test in
          let first = (bytes_eq-Decides other.0 pair.0).0 parts.0 in
          let second = (bytes_eq-Decides other.1 pair.1).0 parts.1 in
          let same : other ≡ pair = λ i. (first i, second i) in subst P same all.0
      | false ↦ λ test later. one_pair P pairs pair all.1 later
    ] refl there

module _ (machine : Machine) where
  kept_arch : AllByRecursion IsFormedArch (finite.entries machine.archs) → (name : List ℕ) (found : Option OsCpu) → finite.get machine.archs name ≡ found → IfSome found (IsArch name)
  kept_arch all name None is = tt
  kept_arch all name (Some words) is =
      let within = (IsIn-find text_cmp_total text_cmp-same (name, words) (finite.entries machine.archs) (finite.entries_sorted machine.archs)).1 (sym (finite.get-entries machine.archs name) ∙ is) in
      all_in IsFormedArch (finite.entries machine.archs) (name, words) all within

  kept_builder : AllByRecursion (IsFormedBuilder (finite.entries machine.archs)) (builder_pairs machine) → (builder arch : List ℕ) → set.contains machine.builders (builder, arch) ≡ true
      → IsBuilder machine builder arch
  kept_builder all builder arch there =
      let is = one_pair (IsFormedBuilder (finite.entries machine.archs)) (builder_pairs machine) (builder, arch) all (sym (pair_is machine (builder, arch)) ∙ there) in
      record { name = is.name; known = sym (known_arch machine arch) ∙ is.known }

  -- a state is consistent, if the tables that hold it in a format have good rows
  pub good_rows_in : (format : Format) (db : Database) → HasCountsOf format machine db → HasArchsOf machine db → HasBuildersOf machine db → HasRecordsOf format machine db × AreKeptIn format machine
      → HasGoodRowsIn format db → IsConsistent machine
  good_rows_in format db has_counts has_archs has_builders has_records good =
      let counts = good.counts_held in
      let archs = good.archs_held in
      let builders = good.builders_held in
      let records = good.records_held in
      let told = counts_in_format format machine db has_counts counts.0 counts.1 in
      let numbers = counts_are format counts.0 machine.handed machine.accepted good.counts told counts.2 in
      let within = counts_within format counts.0 machine.handed machine.accepted good.counts told counts.2 in
      let known = archs_found machine db has_archs archs.0 archs.1 good.archs archs.2.same in
      let added = builders_found machine db has_builders builders.0 builders.1 good.builders builders.2.same in
      let given : AreKept good.archs good.builders good.counts.handed machine = record { archs_are = known; builders_are = added; handed_is = numbers.0 } in
      let kept = records_good format machine db has_records records.0 records.1 good.archs good.builders good.counts.handed records.2 given in
      record {
        archs = λ name. kept_arch (subst (AllByRecursion IsFormedArch) known archs.2.fit) name (finite.get machine.archs name) refl;
        builders = kept_builder (subst (λ l. AllByRecursion (IsFormedBuilder l) (builder_pairs machine)) known (subst (AllByRecursion (IsFormedBuilder good.archs)) added builders.2.fit));
        records = kept.records;
        takes = kept.takes;
        handed = within.0;
        accepted = within.1;
      }

  -- so it is in the second schema
  pub good_rows_consistent : (db : Database) → StandsFor machine db → HasGoodRows db → IsConsistent machine
  good_rows_consistent db stands = good_rows_in Two db stands.counts stands.archs stands.builders (stands.records, all_kept machine)

  -- and in the first
  pub good_first_consistent : (db : Database) → StandsForFirst machine db → HasGoodRowsIn One db → IsConsistent machine
  good_first_consistent db stands = good_rows_in One db stands.counts stands.archs stands.builders (stands.records, stands.kept)
