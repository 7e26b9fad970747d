-- A merge never brings a record back to an earlier version or a lower number.
use Rattle.std.proofs.Common.{◌≡◌, ◌≢◌, ℕ, pos, ◌≤◌, Bool, true, false, cond, ◌||◌, List, refl, sym, ap, subst, ◌∙◌, Option, Some, None, is_some, bytes_eq, nat_le, arith}
use Rattle.std.specs.declared.cmp.Ordering.{Ordering}
use Rattle.std.specs.declared.cmp.Ordering.TheVariants.{Less, Equal, Greater}
use Rattle.std.specs.Ordering.{ordering_reverse, match_ordering}
use Rattle.std.proofs.lemmas.Bool.Decides.{nat_tests}
use Rattle.std.proofs.lemmas.Cmp.{tied_itself}
use Rattle.std.proofs.lemmas.Cmp.{nat_list_eq_equiv}
use Rattle.std.specs.FinMap as finite
use Rattle.deb_version.specs.Order.{version_cmp}
use Rattle.deb_version.specs.OrderLaws.{version_cmp_total}
use Rattle.deb_relations.specs.Satisfaction.{Pairs}
use Rattle.wb_states.specs.declared.record.Record.{Record}
use Rattle.wb_states.specs.declared.state.State.{State}
use Rattle.wb_states.specs.declared.state.State.TheVariants.{NeedsBuild, Building, Built as IsBuilt, Uploaded, Installed, NotForUs}
use Rattle.wb_states.specs.State.{is_held, is_not_for_us, is_installed, is_dep_wait}
use Rattle.wb_merge.specs.declared.listing.Listed.{Listed}
use Rattle.wb_merge.specs.declared.listing.Built.{Built}
use Rattle.wb_merge.specs.Listing.{ArchiveListing}
use Rattle.wb_merge.specs.Merge.{record_after, covers, built_number, are_waits_met, relisted, new_record, newer_record, same_record, same_state, newer_state, listed_record, ends_hold, HasSameHold}
use Rattle.wb_merge.specs.Merged.{Records, record_after_at, merged, BecomesAt}
use Rattle.wb_merge.specs.Steps.{Key}
use Rattle.wb_merge.proofs.MergeLemmas.{merged-get}

-- ---- what a merge makes of a record at a key: it stays, or it is brought in line with its listing

module _ (old : Records) (arch : List ℕ) (listing : ArchiveListing) (key : Key) (current new : Record) (h : BecomesAt old arch listing key current new) where
  abbrev built_there : Option Built
  built_there = finite.get listing.built key.1

  by_case : (P : Record → Type 0) → P current
      → ((listed : Listed) → finite.get listing.listed key.1 ≡ Some listed → P (listed_record listed built_there listing.available current))
      → (is_of : Bool) (found : Option Listed) → finite.get listing.listed key.1 ≡ found
      → cond is_of (record_after (Some current) found built_there listing.available) (Some current) ≡ Some new → P new
  by_case P stays merges false found e is =
      let same : current ≡ new = cc in
      subst P same stays
  by_case P stays merges true None e is = absurd cc
  by_case P stays merges true (Some listed) e is =
      let same : listed_record listed built_there listing.available current ≡ new = cc in
      subst P same (merges listed e)

  pub at-becomes : (P : Record → Type 0) → P current
      → ((listed : Listed) → finite.get listing.listed key.1 ≡ Some listed → P (listed_record listed built_there listing.available current)) → P new
  unfolding record_after_at
  at-becomes P stays merges =
      by_case P stays merges (bytes_eq key.0 arch) (finite.get listing.listed key.1) refl
      (ap (λ (o : Option Record). cond (bytes_eq key.0 arch) (record_after o (finite.get listing.listed key.1) built_there listing.available) o) (sym h.was)
      ∙ sym (merged-get old arch listing key) ∙ h.is)

  by_listed : (P : Record → Type 0)
      → ((listed : Listed) → finite.get listing.listed key.1 ≡ Some listed → P (listed_record listed built_there listing.available current))
      → (found : Option Listed) → finite.get listing.listed key.1 ≡ found
      → record_after (Some current) found built_there listing.available ≡ Some new → P new
  by_listed P merges None e is = absurd cc
  by_listed P merges (Some listed) e is =
      let same : listed_record listed built_there listing.available current ≡ new = cc in
      subst P same (merges listed e)

  -- at a key of the architecture no record stays unlooked at
  pub at-listed : (P : Record → Type 0) → key.0 ≡ arch
      → ((listed : Listed) → finite.get listing.listed key.1 ≡ Some listed → P (listed_record listed built_there listing.available current)) → P new
  unfolding record_after_at
  at-listed P here merges =
      let same : bytes_eq key.0 arch ≡ true = ap (bytes_eq key.0) (sym here) ∙ nat_list_eq_equiv.refl key.0 in
      by_listed P merges (finite.get listing.listed key.1) refl
      (ap (λ (b : Bool). cond b (record_after (Some current) (finite.get listing.listed key.1) built_there listing.available) (Some current)) (sym same)
      ∙ ap (λ (o : Option Record). cond (bytes_eq key.0 arch) (record_after o (finite.get listing.listed key.1) built_there listing.available) o) (sym h.was)
      ∙ sym (merged-get old arch listing key) ∙ h.is)

-- ---- what a merge makes of a source package that has no record

module _ (old : Records) (arch : List ℕ) (listing : ArchiveListing) (key : Key) (new : Record) where
  by_new : (P : Record → Type 0) → ((listed : Listed) → P (new_record listed (finite.get listing.built key.1)))
      → (is_of : Bool) (found : Option Listed)
      → cond is_of (record_after None found (finite.get listing.built key.1) listing.available) None ≡ Some new → P new
  by_new P starts false found is = absurd cc
  by_new P starts true None is = absurd cc
  by_new P starts true (Some listed) is =
      let same : new_record listed (finite.get listing.built key.1) ≡ new = cc in
      subst P same (starts listed)

  pub at-starts : (P : Record → Type 0) → finite.get old key ≡ None → finite.get (merged old arch listing) key ≡ Some new
      → ((listed : Listed) → P (new_record listed (finite.get listing.built key.1))) → P new
  unfolding record_after_at
  at-starts P none is starts =
      by_new P starts (bytes_eq key.0 arch) (finite.get listing.listed key.1)
      (ap (λ (o : Option Record). cond (bytes_eq key.0 arch) (record_after o (finite.get listing.listed key.1) (finite.get listing.built key.1) listing.available) o) (sym none)
      ∙ sym (merged-get old arch listing key) ∙ is)

pub build_priority-new : (listed : Listed) (built : Option Built) → (new_record listed built).build_priority ≡ pos 0
unfolding new_record relisted
build_priority-new listed built = refl

-- ---- versions

pub not_back : Equal ≡ Less → ⊥
not_back e = cc

later-not_back : Greater ≡ Less → ⊥
later-not_back e = cc

turned : (one other : List ℕ) (r : Ordering) → version_cmp one other ≡ r → version_cmp other one ≡ ordering_reverse r
turned one other r e = version_cmp_total.antisymm other one ∙ ap ordering_reverse e

pub version_itself : (version : List ℕ) → version_cmp version version ≡ Equal
version_itself version = tied_itself version_cmp_total version

-- ---- numbers

number-covered : (built : Option Built) (version : List ℕ) (number : ℕ) → covers built version number ≡ true → number ≤ built_number built version number
number-covered None version number e = absurd cc
number-covered (Some built) version number e =
    elim (version_cmp built.version version) as (λ r. match_ordering r false (nat_le number built.number) true ≡ true → number ≤ match_ordering r number built.number number) [
      | Less ↦ λ e. omega arith
      | Equal ↦ λ e. grind (arith, nat_tests)
      | Greater ↦ λ e. omega arith
    ] e

number-same : (for_us is_covered : Bool) (built : Option Built) (version : List ℕ) (number : ℕ) → covers built version number ≡ is_covered
    → number ≤ cond for_us number (cond is_covered (built_number built version number) number)
number-same true is_covered built version number e = omega arith
number-same false true built version number e = number-covered built version number e
number-same false false built version number e = omega arith

-- ---- a record that is brought in line

module _ (listed : Listed) (built : Option Built) (available : Pairs) (current : Record) where
  abbrev made_by : Ordering → Record
  made_by r = match_ordering r (newer_record listed built current) (same_record listed built available current) current

  version-by : (r : Ordering) → version_cmp current.version listed.version ≡ r → version_cmp (made_by r).version current.version ≢ Less
  unfolding newer_record same_record relisted
  version-by Less e is = later-not_back (sym (turned current.version listed.version Less e) ∙ is)
  version-by Equal e is = not_back (sym (version_itself current.version) ∙ is)
  version-by Greater e is = not_back (sym (version_itself current.version) ∙ is)

  pub version-forward : version_cmp (listed_record listed built available current).version current.version ≢ Less
  unfolding listed_record
  version-forward = version-by (version_cmp current.version listed.version) refl

  number-by : (r : Ordering) → version_cmp current.version listed.version ≡ r → version_cmp (made_by r).version current.version ≡ Equal → current.number ≤ (made_by r).number
  unfolding newer_record same_record relisted
  number-by Less e is = absurd (apart (sym (turned current.version listed.version Less e) ∙ is)) where
    apart : Greater ≡ Equal → ⊥
    apart e = cc
  number-by Equal e is = number-same (is_not_for_us current.state) (covers built listed.version current.number) built listed.version current.number refl
  number-by Greater e is = omega arith

  pub number-forward : version_cmp (listed_record listed built available current).version current.version ≡ Equal → current.number ≤ (listed_record listed built available current).number
  unfolding listed_record
  number-forward = number-by (version_cmp current.version listed.version) refl

  earlier-by : (r : Ordering) → current.earlier ≡ true → (made_by r).earlier ≡ true
  unfolding newer_record same_record relisted
  earlier-by Less is = ap (λ b. b || (is_some built || is_installed (newer_state listed built current))) is
  earlier-by Equal is = ap (λ b. b || (is_some built || is_installed (same_state listed built available current))) is
  earlier-by Greater is = is

  pub earlier-forward : current.earlier ≡ true → (listed_record listed built available current).earlier ≡ true
  unfolding listed_record
  earlier-forward = earlier-by (version_cmp current.version listed.version)

  not_for_us-by : (r : Ordering) → current.state ≡ NotForUs → (made_by r).state ≡ NotForUs
  unfolding newer_record same_record relisted
  not_for_us-by Less is = rw is refl
  not_for_us-by Equal is = rw is refl
  not_for_us-by Greater is = is

  pub not_for_us-forward : current.state ≡ NotForUs → (listed_record listed built available current).state ≡ NotForUs
  unfolding listed_record
  not_for_us-forward = not_for_us-by (version_cmp current.version listed.version)

  build_priority-by : (r : Ordering) → (made_by r).build_priority ≡ current.build_priority
  unfolding newer_record same_record relisted
  build_priority-by Less = refl
  build_priority-by Equal = refl
  build_priority-by Greater = refl

  pub build_priority-kept : (listed_record listed built available current).build_priority ≡ current.build_priority
  unfolding listed_record
  build_priority-kept = build_priority-by (version_cmp current.version listed.version)

  -- the state of a held record that is not covered
  held-state : (state : State) → is_held state ≡ true
      → cond (is_not_for_us state) NotForUs (cond (is_installed state) NeedsBuild (cond (is_dep_wait state) (cond (are_waits_met available current.waits) NeedsBuild state) state)) ≡ state
  held-state Building is = refl
  held-state IsBuilt is = refl
  held-state Uploaded is = refl
  held-state _ is = absurd cc

  same_state-held : is_held current.state ≡ true → covers built listed.version current.number ≡ false → same_state listed built available current ≡ current.state
  same_state-held held lasts =
      ap (λ b. cond (is_not_for_us current.state) NotForUs (cond b Installed (cond (is_installed current.state) NeedsBuild
      (cond (is_dep_wait current.state) (cond (are_waits_met available current.waits) NeedsBuild current.state) current.state)))) lasts
      ∙ held-state current.state held

  hold-by : (r : Ordering) → is_held current.state ≡ true → match_ordering r true (covers built listed.version current.number) false ≡ false → HasSameHold current (made_by r)
  unfolding newer_record same_record relisted
  hold-by Less held lasts = absurd cc
  hold-by Equal held lasts =
      let state = same_state-held held lasts in
      record {
        state = state;
        holder = ap (λ s. cond (is_held s) current.holder None) state ∙ ap (λ b. cond b current.holder None) held;
        take = ap (λ s. cond (is_held s) current.take None) state ∙ ap (λ b. cond b current.take None) held;
      }
  hold-by Greater held lasts = record { state = refl; holder = refl; take = refl }

  pub hold-forward : is_held current.state ≡ true → ends_hold listed built current ≡ false → HasSameHold current (listed_record listed built available current)
  unfolding listed_record
  hold-forward = hold-by (version_cmp current.version listed.version)

  -- a record of an earlier version than is listed is held by nobody afterwards
  newer-free : (for_us is_covered : Bool) → is_held (cond for_us NotForUs (cond is_covered Installed NeedsBuild)) ≡ false
  newer-free true is_covered = refl
  newer-free false true = refl
  newer-free false false = refl

  -- nor is one that is covered
  covered-free : (for_us : Bool) (state : State) → is_held (cond for_us NotForUs (cond true Installed state)) ≡ false
  covered-free true state = refl
  covered-free false state = refl

  ended-by : (r : Ordering) → match_ordering r true (covers built listed.version current.number) false ≡ true → is_held (made_by r).state ≡ false
  unfolding newer_record same_record relisted
  ended-by Less ends = newer-free (is_not_for_us current.state) (covers built listed.version 0)
  ended-by Equal ends =
      ap (λ b. is_held (cond (is_not_for_us current.state) NotForUs (cond b Installed (cond (is_installed current.state) NeedsBuild
      (cond (is_dep_wait current.state) (cond (are_waits_met available current.waits) NeedsBuild current.state) current.state))))) ends
      ∙ covered-free (is_not_for_us current.state) NeedsBuild
  ended-by Greater ends = absurd cc

  pub hold-ended : ends_hold listed built current ≡ true → is_held (listed_record listed built available current).state ≡ false
  unfolding listed_record
  hold-ended = ended-by (version_cmp current.version listed.version)
