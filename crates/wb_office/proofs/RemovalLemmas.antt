-- An architecture that is taken away: what is left once its records and its pairs were taken out one after another is
-- what the step leaves; and when the step refuses it.
use Rattle.std.proofs.Common.{◌≡◌, ◌∙◌, refl, sym, ap, subst, inl, inr, ℕ, ◌+◌, Bool, true, false, cond, not, ◌&&◌, ◌||◌}
use Rattle.std.proofs.Common.{List, [], ◌∷◌, Option, Some, None, Result, Ok, bytes_eq, filter, length, nat_eq, nat_le, nat_lt}
use Rattle.std.proofs.Common.{IfSome, is_some, arith}
use Rattle.std.proofs.lemmas.Bool.{lt-ltb}
use Rattle.std.proofs.lemmas.Cmp.{tied_itself}
use Rattle.std.proofs.lemmas.Slice.Eq.{bytes_eq-Decides}
use Rattle.std.specs.FinMap as map
use Rattle.std.specs.FinSet as set
use Rattle.std.specs.List.{list_any}
use Rattle.std.specs.Option.{option_or}
use Rattle.std.specs.Ordering.{eq_by_cmp, is_eq}
use Rattle.deb_text.specs.Lists.{IsIn}
use Rattle.deb_text.specs.Options.{first_some}
use Rattle.deb_text.specs.Text.{pair_cmp}
use Rattle.deb_text.proofs.KeyLemmas.{eq_by_cmp-same, pair_cmp_total, pair_cmp-same}
use Rattle.deb_text.proofs.SortedLemmas.{IsIn-find}
use Rattle.wb_states.specs.declared.command.Command.TheVariants as of
use Rattle.wb_states.specs.declared.command.RemoveArch.{RemoveArch}
use Rattle.wb_states.specs.declared.counts.Counts.{Counts}
use Rattle.wb_states.specs.declared.counts.StateCounts.{StateCounts}
use Rattle.wb_states.specs.declared.record.Record.{Record}
use Rattle.wb_states.specs.declared.refusal.Refusal.{Refusal}
use Rattle.wb_states.specs.declared.refusal.Refusal.TheVariants.{AfterAhead, AlreadyThere, NotHeld, QueueEmpty, Spent}
use Rattle.wb_states.specs.declared.refusal.Refusal.TheVariants.{StillHeld, UnknownArch, UnknownBuilder, UnknownSource}
use Rattle.wb_states.specs.declared.refusal.Refusal.TheVariants.{WrongArch}
use Rattle.wb_states.specs.declared.reply.Reply.TheVariants.{Done}
use Rattle.wb_states.specs.declared.state.State.{State}
use Rattle.wb_states.specs.declared.state.State.TheVariants.{NeedsBuild, Building, Built, Uploaded, Installed, DepWait}
use Rattle.wb_states.specs.declared.state.State.TheVariants.{BdUninstallable, Failed, NotForUs, BuildAttempted}
use Rattle.wb_states.specs.Limits.{count_limit}
use Rattle.wb_states.specs.Lookups.{counts_of, is_in, number_in}
use Rattle.wb_states.specs.Machine.{Key, IsConsistent, IsRecord, Machine, builder_pairs, is_unknown_arch}
use Rattle.wb_states.specs.Queue.{Entry}
use Rattle.wb_states.specs.State.{code_of, is_held as is_held_state}
use Rattle.wb_states.proofs.PairLemmas.{pair-listed}
use Rattle.wb_merge.specs.Merged.{Records, recorded_names}
use Rattle.wb_merge.proofs.MergeLemmas.{recorded-names-any}
use Rattle.wb_merge.proofs.NameLemmas.{bytes_eq-is}
use Rattle.wb_step.specs.Arguments.{OfArch}
use Rattle.wb_step.specs.Checks.{first_refusal, has_holder, is_held, is_on, state_refusal, text_refusal, when}
use Rattle.wb_step.specs.Step.{Outcome, after_removing, counted, outcome, step}
use Rattle.wb_step.specs.Targets.{transition_of}
use Rattle.wb_office.specs.Batches.{Removes, IsBatchIn, batch_written}
use Rattle.wb_office.specs.Removing.{AreWithArch, IsToGo, has_held}
use Rattle.wb_office.specs.RowWrites.{without_names, without_pair, without_pairs}

same_key : (key : Key) → eq_by_cmp pair_cmp key key ≡ true
same_key key = ap is_eq (tied_itself pair_cmp_total key)

-- ---- the records

-- the key is that of one of these source packages of the architecture
abbrev has_key : List ℕ → List (List ℕ) → Key → Bool
has_key arch names key = list_any (λ name. eq_by_cmp pair_cmp key (arch, name)) names

get-without : (arch : List ℕ) (names : List (List ℕ)) (records : Records) (key : Key)
    → map.get (without_names arch names records) key ≡ cond (has_key arch names key) None (map.get records key)
get-without arch [] records key = refl
get-without arch (name ∷ names) records key =
    get-without arch names (map.remove records (arch, name)) key
    ∙ ap (cond (has_key arch names key) None) (map.get-remove pair_cmp_total records (arch, name) key)
    ∙ joined (eq_by_cmp pair_cmp key (arch, name)) (has_key arch names key) (map.get records key)
  where
    joined : (a b : Bool) (found : Option Record) → cond b None (cond a None found) ≡ cond (a || b) None found
    joined true true found = refl
    joined true false found = refl
    joined false b found = refl

or_later : (a b : Bool) → b ≡ true → (a || b) ≡ true
or_later true b is = refl
or_later false b is = is

-- a source package that is named has its key among them
key_in : (arch source : List ℕ) (names : List (List ℕ)) → list_any (bytes_eq source) names ≡ true → has_key arch names (arch, source) ≡ true
key_in arch source [] none = none
key_in arch source (name ∷ names) named = at (bytes_eq source name) refl (key_in arch source names) named where
  at : (b : Bool) → bytes_eq source name ≡ b → (list_any (bytes_eq source) names ≡ true → has_key arch names (arch, source) ≡ true)
      → (b || list_any (bytes_eq source) names) ≡ true → has_key arch (name ∷ names) (arch, source) ≡ true
  at true same later h =
      ap (λ (n : List ℕ). eq_by_cmp pair_cmp (arch, source) (arch, n) || has_key arch names (arch, source)) (sym (bytes_eq-is source name same))
      ∙ ap (λ b. b || has_key arch names (arch, source)) (same_key (arch, source))
  at false other later h = or_later (eq_by_cmp pair_cmp (arch, source) (arch, name)) (has_key arch names (arch, source)) (later h)

-- a key of another architecture is not
key_apart : (arch : List ℕ) (key : Key) (names : List (List ℕ)) → bytes_eq key.0 arch ≡ false → has_key arch names key ≡ false
key_apart arch key [] other = refl
key_apart arch key (name ∷ names) other = at (eq_by_cmp pair_cmp key (arch, name)) refl ∙ key_apart arch key names other where
  clash : true ≡ false → ⊥
  clash e = cc

  at : (b : Bool) → eq_by_cmp pair_cmp key (arch, name) ≡ b
      → (eq_by_cmp pair_cmp key (arch, name) || has_key arch names key) ≡ has_key arch names key
  at true tie =
      let same : key ≡ (arch, name) = eq_by_cmp-same pair_cmp-same key (arch, name) tie in
      absurd (clash (sym ((bytes_eq-Decides arch arch).1 refl) ∙ ap (λ (k : Key). bytes_eq k.0 arch) (sym same) ∙ other))
  at false tie = ap (λ b. b || has_key arch names key) tie

-- without the records of an architecture those stay whose key has another
gone_records : (machine : Machine) (arch : List ℕ)
    → without_names arch (recorded_names machine.records arch) machine.records
    ≡ map.retain_keys machine.records (λ key. not (bytes_eq key.0 arch))
gone_records machine arch = map.same_map pair_cmp_total pair_cmp-same _ _ (λ key.
    get-without arch names machine.records key
    ∙ at key
    ∙ sym (map.get-retain_keys machine.records stays key (λ x tie. ap stays (sym (pair_cmp-same key x tie)))))
  where
    names : List (List ℕ)
    names = recorded_names machine.records arch

    stays : Key → Bool
    stays key = not (bytes_eq key.0 arch)

    nothing : (b : Bool) → cond {A = Option Record} b None None ≡ None
    nothing true = refl
    nothing false = refl

    here : (key : Key) → bytes_eq key.0 arch ≡ true → (found : Option Record) → map.get machine.records key ≡ found
        → cond (has_key arch names key) None (map.get machine.records key) ≡ None
    here key is None got = ap (cond (has_key arch names key) None) got ∙ nothing (has_key arch names key)
    here key is (Some current) got =
        let same : (arch, key.1) ≡ key = λ i. (sym (bytes_eq-is key.0 arch is) i, key.1) in
        let there : map.contains_key machine.records (arch, key.1) ≡ true =
        ap (map.contains_key machine.records) same ∙ ap is_some got in
        ap (λ b. cond b None (map.get machine.records key)) (ap (has_key arch names) (sym same)
        ∙ key_in arch key.1 names (recorded-names-any machine.records arch key.1 ∙ there))

    at : (key : Key) → cond (has_key arch names key) None (map.get machine.records key) ≡ cond (stays key) (map.get machine.records key) None
    at key =
        (elim (bytes_eq key.0 arch) as (λ b. bytes_eq key.0 arch ≡ b
        → cond (has_key arch names key) None (map.get machine.records key) ≡ cond (not b) (map.get machine.records key) None) [
          | true ↦ λ is. here key is (map.get machine.records key) refl
          | false ↦ λ other. ap (λ b. cond b None (map.get machine.records key)) (key_apart arch key names other)
        ]) refl

-- ---- the pairs

-- the pair is this one, which is of the architecture
abbrev is_gone : List ℕ → Key → Key → Bool
is_gone arch pair gone = bytes_eq gone.1 arch && eq_by_cmp pair_cmp pair gone

contains-pair : (arch : List ℕ) (gone : Key) (builders : set.FinSet pair_cmp) (pair : Key)
    → set.contains (without_pair arch gone builders) pair ≡ (not (is_gone arch pair gone) && set.contains builders pair)
contains-pair arch gone builders pair =
    elim (bytes_eq gone.1 arch) as (λ b. set.contains (cond b (set.remove builders gone) builders) pair
    ≡ (not (b && eq_by_cmp pair_cmp pair gone) && set.contains builders pair)) [
      | true ↦ set.contains-remove pair_cmp_total builders gone pair
      | false ↦ refl
    ]

contains-without : (arch : List ℕ) (pairs : List Key) (builders : set.FinSet pair_cmp) (pair : Key)
    → set.contains (without_pairs arch pairs builders) pair ≡
    (not (list_any (is_gone arch pair) pairs) && set.contains builders pair)
contains-without arch [] builders pair = refl
contains-without arch (gone ∷ pairs) builders pair =
    contains-without arch pairs (without_pair arch gone builders) pair
    ∙ ap (λ b. not (list_any (is_gone arch pair) pairs) && b) (contains-pair arch gone builders pair)
    ∙ joined (is_gone arch pair gone) (list_any (is_gone arch pair) pairs) (set.contains builders pair)
  where
    joined : (a b c : Bool) → (not b && (not a && c)) ≡ (not (a || b) && c)
    joined true true c = refl
    joined true false c = refl
    joined false b c = refl

-- a pair that is listed is gone if it is of the architecture
listed_gone : (arch : List ℕ) (pair : Key) (pairs : List Key) → IsIn pair pairs
    → list_any (is_gone arch pair) pairs ≡ bytes_eq pair.1 arch
listed_gone arch pair pairs within =
    (elim (bytes_eq pair.1 arch) as (λ b. bytes_eq pair.1 arch ≡ b → list_any (is_gone arch pair) pairs ≡ b) [
      | true ↦ λ is. found pairs within is
      | false ↦ λ other. none pairs other
    ]) refl
  where
    found : (these : List Key) → IsIn pair these → bytes_eq pair.1 arch ≡ true
        → list_any (is_gone arch pair) these ≡ true
    found [] none is = absurd none
    found (gone ∷ these) (inl same) is =
        ap (λ (k : Key). is_gone arch pair k || list_any (is_gone arch pair) these) (sym same)
        ∙ ap (λ b. (b && eq_by_cmp pair_cmp pair pair) || list_any (is_gone arch pair) these) is
        ∙ ap (λ b. b || list_any (is_gone arch pair) these) (same_key pair)
    found (gone ∷ these) (inr later) is = or_later (is_gone arch pair gone) (list_any (is_gone arch pair) these)
        (found these later is)

    and_false : (b : Bool) → (b && false) ≡ false
    and_false true = refl
    and_false false = refl

    one : (gone : Key) → bytes_eq pair.1 arch ≡ false → (tied : Bool) → eq_by_cmp pair_cmp pair gone ≡ tied
        → is_gone arch pair gone ≡ false
    one gone other true tie =
        ap (λ b. b && eq_by_cmp pair_cmp pair gone) (ap (λ (k : Key). bytes_eq k.1 arch)
        (sym (eq_by_cmp-same pair_cmp-same pair gone tie)) ∙ other)
    one gone other false tie = ap (λ b. bytes_eq gone.1 arch && b) tie ∙ and_false (bytes_eq gone.1 arch)

    none : (these : List Key) → bytes_eq pair.1 arch ≡ false → list_any (is_gone arch pair) these ≡ false
    none [] other = refl
    none (gone ∷ these) other =
        ap (λ b. b || list_any (is_gone arch pair) these) (one gone other (eq_by_cmp pair_cmp pair gone) refl)
        ∙ none these other

-- without the pairs of an architecture those stay that are of another
gone_builders : (machine : Machine) (arch : List ℕ)
    → without_pairs arch (builder_pairs machine) machine.builders ≡ set.retain machine.builders
    (λ pair. not (bytes_eq pair.1 arch))
gone_builders machine arch = set.same_set pair_cmp_total pair_cmp-same _ _ (λ pair.
    contains-without arch (builder_pairs machine) machine.builders pair
    ∙ at pair (set.contains machine.builders pair) refl
    ∙ sym (set.contains-retain machine.builders stays pair (λ x tie. ap stays (sym (pair_cmp-same pair x tie)))))
  where
    stays : Key → Bool
    stays pair = not (bytes_eq pair.1 arch)

    and_true : (b : Bool) → (b && true) ≡ b
    and_true true = refl
    and_true false = refl

    and_none : (b : Bool) → (b && false) ≡ false
    and_none true = refl
    and_none false = refl

    at : (pair : Key) (there : Bool) → set.contains machine.builders pair ≡ there
        → (not (list_any (is_gone arch pair) (builder_pairs machine)) && set.contains machine.builders pair) ≡
        (set.contains machine.builders pair && stays pair)
    at pair true is =
        ap (λ b. not (list_any (is_gone arch pair) (builder_pairs machine)) && b) is
        ∙ and_true (not (list_any (is_gone arch pair) (builder_pairs machine)))
        ∙ ap not (listed_gone arch pair (builder_pairs machine) (pair-listed machine pair is))
        ∙ ap (λ b. b && stays pair) (sym is)
    at pair false is =
        ap (λ b. not (list_any (is_gone arch pair) (builder_pairs machine)) && b) is
        ∙ and_none (not (list_any (is_gone arch pair) (builder_pairs machine)))
        ∙ ap (λ b. b && stays pair) (sym is)

-- ---- the step

removal_step : (machine : Machine) (removal : RemoveArch) → first_refusal machine (of.RemoveArch removal) ≡ None
    → step machine (of.RemoveArch removal) ≡ (
      Ok (Done (machine.accepted + 1)),
      counted machine
          (after_removing machine (OfArch removal)),
    )
unfolding step
removal_step machine removal good = ap (λ (first : Option Refusal). outcome first None machine (of.RemoveArch removal))
    good

pub removal_reply : {machine : Machine} {removal : RemoveArch} {arch : List ℕ} {names : List (List ℕ)}
    {pairs : List Key} {counts : Counts}
    → IsBatchIn machine (of.RemoveArch removal) (Removes arch names pairs) counts
    → (step machine (of.RemoveArch removal)).0 ≡ Ok (Done counts.accepted)
removal_reply {machine = machine} {removal = removal} is =
    ap (λ (o : Outcome). o.0) (removal_step machine removal is.good) ∙ (λ i. Ok (Done (sym is.counts_are.1 i)))

pub removal_whole : {machine : Machine} {removal : RemoveArch} {arch : List ℕ} {names : List (List ℕ)}
    {pairs : List Key} {counts : Counts}
    → IsBatchIn machine (of.RemoveArch removal) (Removes arch names pairs) counts
    → batch_written (Removes arch names pairs) counts machine ≡ (step machine (of.RemoveArch removal)).1
removal_whole {machine = machine} {removal = removal} is =
    (λ i. record machine {
      records = without_names (is.batch_is.0 i) (is.batch_is.1.0 i) machine.records;
      archs = map.remove machine.archs (is.batch_is.0 i);
      builders = without_pairs (is.batch_is.0 i) (is.batch_is.1.1 i) machine.builders;
      handed = is.counts_are.0 i;
      accepted = is.counts_are.1 i;
    })
    ∙ (λ i. record machine {
      records = gone_records machine removal.name i;
      archs = map.remove machine.archs removal.name;
      builders = gone_builders machine removal.name i;
      accepted = machine.accepted + 1;
    })
    ∙ sym (ap (λ (o : Outcome). o.1) (removal_step machine removal is.good))

-- ---- the refusal, by the outcomes of the checks

joined : (refused : Option Refusal) (is_unknown is_kept is_full : Bool) (handed : ℕ) → refused ≡ None
    → option_or refused
    (first_some (when is_unknown UnknownArch ∷ None ∷ when false UnknownBuilder ∷ when false WrongArch ∷ when false (AfterAhead handed)
    ∷ when false NotHeld ∷ when false UnknownSource ∷ None ∷ None ∷ when false QueueEmpty ∷ when false AlreadyThere ∷
    when is_kept StillHeld
    ∷ when is_full Spent ∷ []))
    ≡ first_some (when is_unknown UnknownArch ∷ when is_kept StillHeld ∷ when is_full Spent ∷ [])
joined (Some refusal) is_unknown is_kept is_full handed e = cc
joined None true is_kept is_full handed e = refl
joined None false true is_full handed e = refl
joined None false false is_full handed e = refl

pub removal_refusal : (machine : Machine) (removal : RemoveArch) (is_unknown is_kept is_full : Bool)
    → text_refusal (of.RemoveArch removal) ≡ None
    → is_unknown_arch machine removal.name ≡ is_unknown → is_held machine (OfArch removal) ≡ is_kept
    → nat_le count_limit machine.accepted ≡ is_full
    → first_refusal machine (of.RemoveArch removal)
    ≡ first_some (when is_unknown UnknownArch ∷ when is_kept StillHeld ∷ when is_full Spent ∷ [])
unfolding first_refusal state_refusal transition_of
removal_refusal machine removal is_unknown is_kept is_full good unknown kept full =
    joined (text_refusal (of.RemoveArch removal)) (is_unknown_arch machine removal.name)
    (is_held machine (OfArch removal))
    (nat_le count_limit machine.accepted) machine.handed good
    ∙ (λ i. first_some (when (unknown i) UnknownArch ∷ when (kept i) StillHeld ∷ when (full i) Spent ∷ []))

-- ---- what is held

some_more : (b : Bool) (entry : Entry) (entries : List Entry) → nat_lt 0 (length (cond b (entry ∷ entries) entries)) ≡ (b || nat_lt 0 (length entries))
some_more true entry entries = lt-ltb 0 (length (entry ∷ entries)) (omega arith)
some_more false entry entries = refl

-- a state in which a record is held is one of three
held_state : (state : State) → is_held_state state
    ≡ ((nat_eq (code_of state) (code_of Building) || nat_eq (code_of state) (code_of Built)) || nat_eq (code_of state) (code_of Uploaded))
held_state NeedsBuild = refl
held_state Building = refl
held_state Built = refl
held_state Uploaded = refl
held_state Installed = refl
held_state DepWait = refl
held_state BdUninstallable = refl
held_state Failed = refl
held_state NotForUs = refl
held_state BuildAttempted = refl

-- what is so of the first or of those behind it, by parts
by_parts : (a b c x y z : Bool) → (((a || b) || c) || ((x || y) || z)) ≡ (((a || x) || (b || y)) || (c || z))
by_parts true b c x y z = refl
by_parts false true c true y z = refl
by_parts false true c false y z = refl
by_parts false false true true y z = refl
by_parts false false true false true z = refl
by_parts false false true false false z = refl
by_parts false false false x y z = refl

-- one of these records of the architecture is in a state in which it is held
abbrev some_in : List ℕ → List Entry → State → Bool
some_in arch entries state = nat_lt 0 (length (filter (is_in arch state) entries))

any_held : (arch : List ℕ) (entries : List Entry) → ((entry : Entry) → IsIn entry entries → has_holder entry.1 ≡ is_held_state entry.1.state)
    → ((some_in arch entries Building || some_in arch entries Built) || some_in arch entries Uploaded)
    ≡ list_any (λ (entry : Entry). is_on arch entry && has_holder entry.1) entries
any_held arch [] all = refl
any_held arch (entry ∷ entries) all =
    (λ i. (some_more (is_in arch Building entry) entry (filter (is_in arch Building) entries) i
    || some_more (is_in arch Built entry) entry (filter (is_in arch Built) entries) i)
    || some_more (is_in arch Uploaded entry) entry (filter (is_in arch Uploaded) entries) i)
    ∙ sym (by_parts (is_in arch Building entry) (is_in arch Built entry) (is_in arch Uploaded entry)
    (some_in arch entries Building) (some_in arch entries Built) (some_in arch entries Uploaded))
    ∙ (λ i. first i || any_held arch entries (λ e within. all e (inr within)) i)
  where
    of_arch : (on a b c : Bool) → (((on && a) || (on && b)) || (on && c)) ≡ (on && ((a || b) || c))
    of_arch true a b c = refl
    of_arch false a b c = refl

    first : ((is_in arch Building entry || is_in arch Built entry) || is_in arch Uploaded entry) ≡ (is_on arch entry && has_holder entry.1)
    first =
        of_arch (is_on arch entry) (nat_eq (code_of entry.1.state) (code_of Building)) (nat_eq (code_of entry.1.state) (code_of Built))
        (nat_eq (code_of entry.1.state) (code_of Uploaded))
        ∙ ap (λ b. is_on arch entry && b) (sym (held_state entry.1.state) ∙ sym (all entry (inl refl)))

-- a consistent office holds a record of an architecture if it has one in such a state
pub held_of_counts : (machine : Machine) (removal : RemoveArch) (counts : StateCounts) → IsConsistent machine → counts ≡ counts_of machine removal.name
    → has_held counts ≡ is_held machine (OfArch removal)
unfolding counts_of number_in
held_of_counts machine removal counts sound are = ap has_held are ∙ any_held removal.name (map.entries machine.records) (λ entry within.
    of_form entry (map.get machine.records entry.0) (map.get-entries machine.records entry.0
    ∙ (IsIn-find pair_cmp_total pair_cmp-same entry (map.entries machine.records) (map.entries_sorted machine.records)).0 within)
    (sound.records entry.0.0 entry.0.1))
  where
    of_form : (entry : Entry) (found : Option Record) → found ≡ Some entry.1 → IfSome found (IsRecord machine entry.0.0 entry.0.1)
        → has_holder entry.1 ≡ is_held_state entry.1.state
    of_form entry None is had = cc
    of_form entry (Some current) is had =
        let same : current ≡ entry.1 = cc in
        subst (λ (r : Record). has_holder r ≡ is_held_state r.state) same had.fields.state.held

-- ---- the changes

-- an architecture that may go, with what was found of it
pub removal_is : (counts after : Counts) (removal : RemoveArch) (names : List (List ℕ)) (pairs : List Key) (machine : Machine)
    → (after.handed ≡ counts.handed) × (after.accepted ≡ counts.accepted + 1) → IsToGo counts removal machine
    → AreWithArch removal.name names pairs machine → IsBatchIn machine (of.RemoveArch removal) (Removes removal.name names pairs) after
removal_is counts after removal names pairs machine raised given found = record {
  good = given.1;
  batch_is = (refl, found);
  counts_are = (raised.0 ∙ given.0.0, raised.1 ∙ ap (λ n. n + 1) given.0.1);
}
