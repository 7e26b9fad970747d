-- A merge of the listing that was merged before changes nothing.
use Rattle.std.proofs.Common.{◌≡◌, ℕ, Bool, true, false, cond, ◌||◌, List, [], refl, sym, ap, ◌∙◌, Option, Some, None, is_some, bytes_eq, nat_le, arith}
use Rattle.std.specs.declared.cmp.Ordering.TheVariants.{Less, Equal, Greater}
use Rattle.std.specs.Ordering.{match_ordering}
use Rattle.std.proofs.lemmas.Bool.{le-leb}
use Rattle.std.proofs.lemmas.Cmp.{tied_itself}
use Rattle.std.specs.FinMap as finite
use Rattle.deb_version.specs.Order.{version_cmp}
use Rattle.deb_version.specs.OrderLaws.{version_cmp_total}
use Rattle.deb_relations.specs.Satisfaction.{Pairs}
use Rattle.wb_states.specs.declared.record.Record.{Record}
use Rattle.wb_states.specs.declared.state.State.{State}
use Rattle.wb_states.specs.declared.state.State.TheVariants.{NeedsBuild, Building, Built as IsBuilt, Uploaded, Installed, DepWait, BdUninstallable, Failed, NotForUs, BuildAttempted}
use Rattle.wb_states.specs.State.{is_dep_wait, is_installed, is_not_for_us}
use Rattle.deb_text.proofs.KeyLemmas.{pair_cmp_total, pair_cmp-same}
use Rattle.wb_merge.specs.declared.listing.Listed.{Listed}
use Rattle.wb_merge.specs.declared.listing.Built.{Built}
use Rattle.wb_merge.specs.Listing.{ArchiveListing}
use Rattle.wb_merge.specs.Merge.{record_after, covers, built_number, are_waits_met, relisted, blank_record, new_record, newer_record, same_record, listed_record}
use Rattle.wb_merge.specs.Merged.{Records, record_after_at, merged}
use Rattle.wb_merge.specs.Steps.{Key}
use Rattle.wb_merge.proofs.MergeLemmas.{merged-get}

-- ---- a record that is in line with its listing

or-twice : (a b : Bool) → ((a || b) || b) ≡ (a || b)
or-twice true b = refl
or-twice false true = refl
or-twice false false = refl

abbrev with_earlier : Record → Bool → Record
with_earlier current earlier = record current { earlier = earlier }

relisted-twice : (state : State) (number : ℕ) (listed : Listed) (built : Option Built) (current : Record)
    → relisted state number listed built (relisted state number listed built current) ≡ relisted state number listed built current
unfolding relisted
relisted-twice NeedsBuild number listed built current =
    ap (with_earlier (relisted NeedsBuild number listed built current)) (or-twice current.earlier (is_some built || false))
relisted-twice Building number listed built current =
    ap (with_earlier (relisted Building number listed built current)) (or-twice current.earlier (is_some built || false))
relisted-twice IsBuilt number listed built current =
    ap (with_earlier (relisted IsBuilt number listed built current)) (or-twice current.earlier (is_some built || false))
relisted-twice Uploaded number listed built current =
    ap (with_earlier (relisted Uploaded number listed built current)) (or-twice current.earlier (is_some built || false))
relisted-twice Installed number listed built current =
    ap (with_earlier (relisted Installed number listed built current)) (or-twice current.earlier (is_some built || true))
relisted-twice DepWait number listed built current =
    ap (with_earlier (relisted DepWait number listed built current)) (or-twice current.earlier (is_some built || false))
relisted-twice BdUninstallable number listed built current =
    ap (with_earlier (relisted BdUninstallable number listed built current)) (or-twice current.earlier (is_some built || false))
relisted-twice Failed number listed built current =
    ap (with_earlier (relisted Failed number listed built current)) (or-twice current.earlier (is_some built || false))
relisted-twice NotForUs number listed built current =
    ap (with_earlier (relisted NotForUs number listed built current)) (or-twice current.earlier (is_some built || false))
relisted-twice BuildAttempted number listed built current =
    ap (with_earlier (relisted BuildAttempted number listed built current)) (or-twice current.earlier (is_some built || false))

-- ---- what is covered stays covered

covers-number : (built : Option Built) (version : List ℕ) (number : ℕ) → covers built version number ≡ true
    → covers built version (built_number built version number) ≡ true
covers-number None version number e = absurd cc
covers-number (Some built) version number e =
    elim (version_cmp built.version version) as (λ r. match_ordering r false (nat_le number built.number) true ≡ true
    → match_ordering r false (nat_le (match_ordering r number built.number number) built.number) true ≡ true) [
      | Less ↦ λ e. e
      | Equal ↦ λ e. le-leb built.number built.number (omega arith)
      | Greater ↦ λ e. refl
    ] e

number-twice : (built : Option Built) (version : List ℕ) (number : ℕ)
    → built_number built version (built_number built version number) ≡ built_number built version number
number-twice None version number = refl
number-twice (Some built) version number =
    elim (version_cmp built.version version) as (λ r. match_ordering r (match_ordering r number built.number number) built.number (match_ordering r number built.number number)
    ≡ match_ordering r number built.number number) [
      | Less ↦ refl
      | Equal ↦ refl
      | Greater ↦ refl
    ]

-- ---- the state and the number of a record in the version that is listed

-- the state, by the state before, whether it is covered, and whether its waits are met
abbrev pub state_by : State → Bool → Bool → State
state_by state is_covered is_met =
    cond (is_not_for_us state) NotForUs
    (cond is_covered Installed
    (cond (is_installed state) NeedsBuild
    (cond (is_dep_wait state) (cond is_met NeedsBuild state) state)))

-- the number, by the state before, whether it is covered, the number that covers it, and the number before
abbrev pub number_by : State → Bool → ℕ → ℕ → ℕ
number_by state is_covered covering number = cond (is_not_for_us state) number (cond is_covered covering number)

abbrev pub later_number_of : Option Built → List ℕ → State → Bool → ℕ → ℕ
later_number_of built version state is_covered number = number_by state is_covered (built_number built version number) number

module _ (built : Option Built) (available : Pairs) (version : List ℕ) where
  abbrev later_number : State → Bool → ℕ → ℕ
  later_number = later_number_of built version

  abbrev later_waits : State → List ℕ → List ℕ
  later_waits state waits = cond (is_dep_wait state) waits []

  covered_state : (number : ℕ) → covers built version number ≡ true
      → cond (covers built version (built_number built version number)) Installed NeedsBuild ≡ Installed
  covered_state number e = ap (λ b. cond b Installed NeedsBuild) (covers-number built version number e)

  open_state : (state : State) (number : ℕ) → covers built version number ≡ false → cond (covers built version number) Installed state ≡ state
  open_state state number e = ap (λ b. cond b Installed state) e

  state-twice : (state : State) (number : ℕ) (waits : List ℕ) (is_covered is_met : Bool)
      → covers built version number ≡ is_covered → are_waits_met available waits ≡ is_met
      → state_by (state_by state is_covered is_met) (covers built version (later_number state is_covered number))
      (are_waits_met available (later_waits (state_by state is_covered is_met) waits)) ≡ state_by state is_covered is_met
  state-twice NotForUs number waits is_covered is_met e f = refl
  state-twice NeedsBuild number waits true is_met e f = covered_state number e
  state-twice NeedsBuild number waits false is_met e f = open_state NeedsBuild number e
  state-twice Building number waits true is_met e f = covered_state number e
  state-twice Building number waits false is_met e f = open_state Building number e
  state-twice IsBuilt number waits true is_met e f = covered_state number e
  state-twice IsBuilt number waits false is_met e f = open_state IsBuilt number e
  state-twice Uploaded number waits true is_met e f = covered_state number e
  state-twice Uploaded number waits false is_met e f = open_state Uploaded number e
  state-twice Installed number waits true is_met e f = covered_state number e
  state-twice Installed number waits false is_met e f = open_state NeedsBuild number e
  state-twice DepWait number waits true is_met e f = covered_state number e
  state-twice DepWait number waits false true e f = open_state NeedsBuild number e
  state-twice DepWait number waits false false e f = λ i. cond (e i) Installed (cond (f i) NeedsBuild DepWait)
  state-twice BdUninstallable number waits true is_met e f = covered_state number e
  state-twice BdUninstallable number waits false is_met e f = open_state BdUninstallable number e
  state-twice Failed number waits true is_met e f = covered_state number e
  state-twice Failed number waits false is_met e f = open_state Failed number e
  state-twice BuildAttempted number waits true is_met e f = covered_state number e
  state-twice BuildAttempted number waits false is_met e f = open_state BuildAttempted number e

  covered_number : (number : ℕ) → covers built version number ≡ true
      → cond (covers built version (built_number built version number)) (built_number built version (built_number built version number)) (built_number built version number)
      ≡ built_number built version number
  covered_number number e =
      ap (λ b. cond b (built_number built version (built_number built version number)) (built_number built version number)) (covers-number built version number e)
      ∙ number-twice built version number

  open_number : (number : ℕ) → covers built version number ≡ false → cond (covers built version number) (built_number built version number) number ≡ number
  open_number number e = ap (λ b. cond b (built_number built version number) number) e

  numbers-twice : (state : State) (number : ℕ) (is_covered is_met : Bool) → covers built version number ≡ is_covered
      → number_by (state_by state is_covered is_met) (covers built version (later_number state is_covered number))
      (built_number built version (later_number state is_covered number)) (later_number state is_covered number)
      ≡ later_number state is_covered number
  numbers-twice NotForUs number is_covered is_met e = refl
  numbers-twice NeedsBuild number true is_met e = covered_number number e
  numbers-twice NeedsBuild number false is_met e = open_number number e
  numbers-twice Building number true is_met e = covered_number number e
  numbers-twice Building number false is_met e = open_number number e
  numbers-twice IsBuilt number true is_met e = covered_number number e
  numbers-twice IsBuilt number false is_met e = open_number number e
  numbers-twice Uploaded number true is_met e = covered_number number e
  numbers-twice Uploaded number false is_met e = open_number number e
  numbers-twice Installed number true is_met e = covered_number number e
  numbers-twice Installed number false is_met e = open_number number e
  numbers-twice DepWait number true is_met e = covered_number number e
  numbers-twice DepWait number false true e = open_number number e
  numbers-twice DepWait number false false e = open_number number e
  numbers-twice BdUninstallable number true is_met e = covered_number number e
  numbers-twice BdUninstallable number false is_met e = open_number number e
  numbers-twice Failed number true is_met e = covered_number number e
  numbers-twice Failed number false is_met e = open_number number e
  numbers-twice BuildAttempted number true is_met e = covered_number number e
  numbers-twice BuildAttempted number false is_met e = open_number number e

-- ---- a record after a merge

module _ (listed : Listed) (built : Option Built) (available : Pairs) where
  -- what a merge makes of a record, by a state, a number and the record
  abbrev made : State → ℕ → Record → Record
  made state number current =
      relisted (state_by state (covers built listed.version number) (are_waits_met available current.waits))
      (later_number_of built listed.version state (covers built listed.version number) number) listed built current

  made-twice : (state : State) (number : ℕ) (current : Record) → same_record listed built available (made state number current) ≡ made state number current
  unfolding same_record relisted
  made-twice state number current =
      (λ i. relisted
      (state-twice built available listed.version state number current.waits (covers built listed.version number) (are_waits_met available current.waits) refl refl i)
      (numbers-twice built available listed.version state number (covers built listed.version number) (are_waits_met available current.waits) refl i)
      listed built (made state number current))
      ∙ relisted-twice
      (state_by state (covers built listed.version number) (are_waits_met available current.waits))
      (later_number_of built listed.version state (covers built listed.version number) number) listed built current

  new-twice : same_record listed built available (new_record listed built) ≡ new_record listed built
  unfolding new_record
  new-twice = made-twice NeedsBuild 0 (blank_record listed.version)

  -- a record of the listed version is brought in line with the listing as one of an equal version
  tied : (current : Record) → version_cmp current.version listed.version ≡ Equal → listed_record listed built available current ≡ same_record listed built available current
  unfolding listed_record
  tied current e = ap (λ r. match_ordering r (newer_record listed built current) (same_record listed built available current) current) e

  -- a record of which all that an earlier version had is cleared
  abbrev as_listed : Record → Record
  as_listed current = record current { version = listed.version; message = []; holder = None; take = None }

  abbrev newer_by : Bool → Record → Record
  newer_by stays current =
      relisted (cond stays NotForUs (cond (covers built listed.version 0) Installed NeedsBuild))
      (cond stays 0 (cond (covers built listed.version 0) (built_number built listed.version 0) 0)) listed built (as_listed current)

  newer-twice : (current : Record) → same_record listed built available (newer_record listed built current) ≡ newer_record listed built current
  unfolding newer_record
  newer-twice current =
      elim (is_not_for_us current.state) as (λ b. same_record listed built available (newer_by b current) ≡ newer_by b current) [
        | true ↦ made-twice NotForUs 0 (as_listed current)
        | false ↦ made-twice NeedsBuild 0 (as_listed current)
      ]

  listed-twice : (current : Record) → listed_record listed built available (listed_record listed built available current) ≡ listed_record listed built available current
  unfolding listed_record newer_record same_record relisted
  listed-twice current =
      elim (version_cmp current.version listed.version) as (λ r. version_cmp current.version listed.version ≡ r
      → listed_record listed built available (match_ordering r (newer_record listed built current) (same_record listed built available current) current)
      ≡ match_ordering r (newer_record listed built current) (same_record listed built available current) current) [
        | Less ↦ λ e. tied (newer_record listed built current) (tied_itself version_cmp_total listed.version) ∙ newer-twice current
        | Equal ↦ λ e. tied (same_record listed built available current) e ∙ made-twice current.state current.number current
        | Greater ↦ λ e. ap (λ r. match_ordering r (newer_record listed built current) (same_record listed built available current) current) e
      ] refl

new-version : (listed : Listed) (built : Option Built) → version_cmp (new_record listed built).version listed.version ≡ Equal
unfolding new_record relisted
new-version listed built = tied_itself version_cmp_total listed.version

pub after-twice : (current : Option Record) (listed : Option Listed) (built : Option Built) (available : Pairs)
    → record_after (record_after current listed built available) listed built available ≡ record_after current listed built available
after-twice None None built available = refl
after-twice (Some current) None built available = refl
after-twice None (Some listed) built available =
    ap Some (tied listed built available (new_record listed built) (new-version listed built) ∙ new-twice listed built available)
after-twice (Some current) (Some listed) built available = ap Some (listed-twice listed built available current)

-- the record at a key of an architecture or of another
abbrev at_key : Bool → ArchiveListing → List ℕ → Option Record → Option Record
at_key is_of listing name current = cond is_of (record_after current (finite.get listing.listed name) (finite.get listing.built name) listing.available) current

at_key-twice : (is_of : Bool) (listing : ArchiveListing) (name : List ℕ) (current : Option Record) → at_key is_of listing name (at_key is_of listing name current) ≡ at_key is_of listing name current
at_key-twice true listing name current = after-twice current (finite.get listing.listed name) (finite.get listing.built name) listing.available
at_key-twice false listing name current = refl

pub record_after_at-twice : (old : Records) (arch : List ℕ) (listing : ArchiveListing) (key : Key) → record_after_at (merged old arch listing) arch listing key ≡ record_after_at old arch listing key
unfolding record_after_at
record_after_at-twice old arch listing key =
    ap (at_key (bytes_eq key.0 arch) listing key.1) (merged-get old arch listing key)
    ∙ at_key-twice (bytes_eq key.0 arch) listing key.1 (finite.get old key)

pub merged-twice : (old : Records) (arch : List ℕ) (listing : ArchiveListing) → merged (merged old arch listing) arch listing ≡ merged old arch listing
merged-twice old arch listing =
    finite.same_map pair_cmp_total pair_cmp-same _ _ (λ key.
    merged-get (merged old arch listing) arch listing key ∙ record_after_at-twice old arch listing key ∙ sym (merged-get old arch listing key))
