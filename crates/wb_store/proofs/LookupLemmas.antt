-- What each query on the table of records answers, as the state of the office.
use Rattle.std.proofs.Common.{◌≡◌, ◌⊎◌, ℕ, Bool, true, false, cond, ◌&&◌, List, [], ◌∷◌, map, filter, take, refl, sym}
use Rattle.std.proofs.Common.{ap, ap₂, subst, ◌∙◌, Option, Some, None, is_some, IfSome, Less, Equal, is_eq, nat_eq}
use Rattle.std.proofs.Common.{bytes_eq, IsPermutation}
use Rattle.std.specs.List.{AllByRecursion}
use Rattle.std.specs.Ordering.{eq_by_cmp, ordering_then}
use Rattle.std.specs.FinMap as finite
use Rattle.std.proofs.lemmas.Bool.{and_parts, eqb-true}
use Rattle.std.proofs.lemmas.Bool.Decides.{same_from_decides}
use Rattle.std.proofs.lemmas.Cmp.{tied_itself}
use Rattle.std.proofs.lemmas.Slice.Eq.{bytes_eq-Decides}
use Rattle.sqlite.specs.Effect.{Database}
use Rattle.sqlite.specs.declared.types.Value.TheVariants.{Text}
use Rattle.sqlite.specs.Order.{Row}
use Rattle.sqlite_value.specs.Order.{value_cmp}
use Rattle.sqlite_value.proofs.OrderLemmas.{value_cmp-Text}
use Rattle.sqlite_trees.specs.Tree.{IsAscending}
use Rattle.sqlite_keyed.proofs.ListLemmas.{filter_same, ascending-filter, IsPermutation-same}
use Rattle.wb_sql.specs.Queries.{TableQuery, Answers}
use Rattle.wb_sql.specs.Among.{rows_in}
use Rattle.wb_sql.specs.OfficeStatements as sql
use Rattle.wb_sql.specs.Tables as tables
use Rattle.deb_text.specs.Text.{text_cmp, pair_cmp}
use Rattle.deb_text.specs.Lists.{IsIn}
use Rattle.deb_text.specs.Options.{has_value}
use Rattle.deb_text.proofs.KeyLemmas.{text_cmp_total, pair_cmp_total, pair_cmp-same, eq_by_cmp-same}
use Rattle.deb_text.proofs.SortedLemmas.{IsIn-filter}
use Rattle.wb_states.specs.declared.state.State.{State}
use Rattle.wb_states.specs.declared.state.State.TheVariants.{NeedsBuild, Building, Built, Uploaded, Installed, DepWait, BdUninstallable, Failed, NotForUs, BuildAttempted}
use Rattle.wb_states.specs.State.{code_of, is_needs_build}
use Rattle.wb_states.specs.Machine.{Key, Machine, IsConsistent, IsRecord, HasDistinctTakes}
use Rattle.wb_states.specs.Record.{IsWellFormed}
use Rattle.wb_states.specs.Queue.{Entry, rank_of, entry_cmp, is_waiting, queue_of}
use Rattle.wb_states.specs.Holds.{is_taken_as, is_held_by}
use Rattle.wb_states.proofs.QueueLemmas.{IsIn-entries, IsIn-queue_of, sorted-queue_of}
use Rattle.wb_states.proofs.RankLemmas.{rank-order}
use Rattle.wb_states.specs.Lookups.{is_in, is_of, rows_of}
use Rattle.wb_states.specs.Lookups.{rows_in as records_in}
use Rattle.wb_rows.specs.Cells.{record_cells, state_cells, number, number_or_null}
use Rattle.wb_rows.specs.Reading.{IsReadable}
use Rattle.wb_rows.specs.Scratch.{name_cells}
use Rattle.wb_store.specs.Merging.{Scratch}
use Rattle.wb_store.specs.Stands.{StandsWith}
use Rattle.wb_store.specs.Lookups.{AreRecords, is_held_with_take}
use Rattle.wb_store.proofs.EqualLemmas.{are_equal, and_true, then_none, nat_eq-turned, equal-Text, equal-number}
use Rattle.wb_store.proofs.EqualLemmas.{equal-text_or_null, equal-number_or_null, from_zero-number_or_null}
use Rattle.wb_store.proofs.EqualLemmas.{is_from_zero, order-number}
use Rattle.wb_store.proofs.FormLemmas.{kept_readable}
use Rattle.wb_store.proofs.OrderLemmas.{all_from_in, kept_pass, ascending_with, entries_ascend, ascending_from_strict, entry_at, filter_at, few_at, at_most_one, IsPermutation-sorted_by}
use Rattle.wb_store.proofs.TableLemmas.{SkipsRowid, IsBefore, passes, answer_same, few_answer, rising_answer, rising_first, rising_shown, whole_fits, first_fits_too}

-- ---- which records pass the tests of a query

-- a record passes the tests of a query
abbrev pub entry_passes : TableQuery → Row → Entry → Bool
entry_passes q params entry = passes q params (record_cells entry)

both : (a b : Bool) → a ≡ true → b ≡ true → (a && b) ≡ true
both true b p q = q
both false b p q = p

-- a test of two names, as the comparison of keys
pub key_test : (key other : Key) → (bytes_eq other.0 key.0 && bytes_eq other.1 key.1) ≡ eq_by_cmp pair_cmp key other
key_test key other =
    let first = bytes_eq-Decides other.0 key.0 in
    let second = bytes_eq-Decides other.1 key.1 in
    same_from_decides {P = key ≡ other} (bytes_eq other.0 key.0 && bytes_eq other.1 key.1) (eq_by_cmp pair_cmp key other)
    (λ h. let parts = and_parts (bytes_eq other.0 key.0) (bytes_eq other.1 key.1) h in λ i. (sym (first.0 parts.0) i, sym (second.0 parts.1) i), λ e. both (bytes_eq other.0 key.0) (bytes_eq other.1 key.1) (first.1 (ap (λ (k : Key). k.0) (sym e))) (second.1 (ap (λ (k : Key). k.1) (sym e))))
    (eq_by_cmp-same pair_cmp-same key other, λ e. subst (λ k. eq_by_cmp pair_cmp key k ≡ true) e (ap is_eq (tied_itself pair_cmp_total key)))

abbrev pub key_params : Key → Row
key_params key = Text key.0 ∷ Text key.1 ∷ []

key_passes : (key : Key) (entry : Entry) → entry_passes sql.record_of_key (key_params key) entry ≡ eq_by_cmp pair_cmp key entry.0
key_passes key entry =
    ap₂ ◌&&◌ (equal-Text entry.0.0 key.0) (and_true (are_equal (Text entry.0.1) (Text key.1)) ∙ equal-Text entry.0.1 key.1) ∙ key_test key entry.0

arch_passes : (arch : List ℕ) (entry : Entry) → entry_passes sql.records_of_arch (Text arch ∷ []) entry ≡ is_of arch entry
arch_passes arch entry = and_true (are_equal (Text entry.0.0) (Text arch)) ∙ equal-Text entry.0.0 arch

abbrev pub state_params : List ℕ → State → Row
state_params arch state = Text arch ∷ number (code_of state) ∷ []

state_passes : (arch : List ℕ) (state : State) (entry : Entry) → entry_passes sql.records_in_state (state_params arch state) entry ≡ is_in arch state entry
state_passes arch state entry =
    ap₂ ◌&&◌ (equal-Text entry.0.0 arch) (and_true (are_equal (number (code_of entry.1.state)) (number (code_of state))) ∙ equal-number (code_of entry.1.state) (code_of state) ∙ nat_eq-turned (code_of state) (code_of entry.1.state))

by_code : (state : State) → nat_eq 0 (code_of state) ≡ is_needs_build state
by_code NeedsBuild = refl
by_code Building = refl
by_code Built = refl
by_code Uploaded = refl
by_code Installed = refl
by_code DepWait = refl
by_code BdUninstallable = refl
by_code Failed = refl
by_code NotForUs = refl
by_code BuildAttempted = refl

abbrev pub queue_params : List ℕ → Row
queue_params arch = Text arch ∷ number 0 ∷ []

waiting_passes : (arch : List ℕ) (entry : Entry) → entry_passes sql.queue_of (queue_params arch) entry ≡ is_waiting arch entry
waiting_passes arch entry =
    ap₂ ◌&&◌ (equal-Text entry.0.0 arch) (and_true (are_equal (number (code_of entry.1.state)) (number 0)) ∙ equal-number (code_of entry.1.state) 0 ∙ by_code entry.1.state)

taken_passes : (take_number : ℕ) (entry : Entry) → entry_passes sql.record_of_take (number take_number ∷ []) entry ≡ is_taken_as take_number entry
taken_passes take_number entry = and_true _ ∙ equal-number_or_null entry.1.take take_number

held_passes : (builder : List ℕ) (entry : Entry)
    → entry_passes sql.held_by (Text builder ∷ []) entry ≡ is_held_with_take builder entry
held_passes builder entry =
    ap₂ ◌&&◌ (equal-text_or_null entry.1.holder builder) (and_true (is_from_zero (number_or_null entry.1.take))
    ∙ from_zero-number_or_null entry.1.take)

-- where a holder and a take number come together, what a builder holds has a take number
with_take : (builder : List ℕ) (holder : Option (List ℕ)) (given : Option ℕ) (is_held : Bool)
    → is_some holder ≡ is_held → is_some given ≡ is_held
    → (has_value (bytes_eq builder) holder && is_some given) ≡ has_value (bytes_eq builder) holder
with_take builder None given is_held held taken = refl
with_take builder (Some other) given is_held held taken = ap (λ b. bytes_eq builder other && b) (taken ∙ sym held)
    ∙ and_true (bytes_eq builder other)

-- two tests that agree on each keep the same
filter_same_each : {X : Type 0} (p q : X → Bool) (xs : List X) → AllByRecursion (λ x. p x ≡ q x) xs
    → filter p xs ≡ filter q xs
filter_same_each p q [] all = refl
filter_same_each p q (x ∷ xs) all = ap₂ (λ keep rest. cond keep (x ∷ rest) rest) all.0 (filter_same_each p q xs all.1)

-- ---- no query reads a rowid

skips_key : (params : Row) → SkipsRowid sql.record_of_key params
skips_key params [] = (refl, refl)
skips_key params (x ∷ row) = (refl, refl)

skips_arch : (params : Row) → SkipsRowid sql.records_of_arch params
skips_arch params [] = (refl, refl)
skips_arch params (x ∷ row) = (refl, refl)

skips_state : (params : Row) → SkipsRowid sql.records_in_state params
skips_state params [] = (refl, refl)
skips_state params (x ∷ row) = (refl, refl)

skips_names : (params : Row) → SkipsRowid sql.names_of_arch params
skips_names params [] = (refl, refl)
skips_names params (x ∷ row) = (refl, refl)

skips_queue : (params : Row) → SkipsRowid sql.queue_of params
skips_queue params [] = (refl, refl)
skips_queue params (x ∷ row) = (refl, refl)

skips_head : (params : Row) → SkipsRowid sql.head_of params
skips_head params [] = (refl, refl)
skips_head params (x ∷ row) = (refl, refl)

skips_take : (params : Row) → SkipsRowid sql.record_of_take params
skips_take params [] = (refl, refl)
skips_take params (x ∷ row) = (refl, refl)

skips_states : (params : Row) → SkipsRowid sql.states_of_arch params
skips_states params [] = (refl, refl)
skips_states params (x ∷ row) = (refl, refl)

skips_holder : (params : Row) → SkipsRowid sql.held_by params
skips_holder params [] = (refl, refl)
skips_holder params (x ∷ row) = (refl, refl)

-- ---- the orders of the queries

-- a key that comes after another with the same first part comes after it by its second
pub second_less : (one other : Key) → one.0 ≡ other.0 → pair_cmp one other ≡ Less → text_cmp one.1 other.1 ≡ Less
second_less one other same less =
    let tie : text_cmp one.0 other.0 ≡ Equal = ap (text_cmp one.0) (sym same) ∙ tied_itself text_cmp_total one.0 in
    sym (ap (λ r. ordering_then r (text_cmp one.1 other.1)) tie) ∙ less

pub text_order : (one other : List ℕ) → ordering_then (value_cmp (Text one) (Text other)) Equal ≡ text_cmp one other
text_order one other = then_none (value_cmp (Text one) (Text other)) ∙ value_cmp-Text one other

-- ---- what is chosen

-- a record that is kept, and has the take number
abbrev IsTaken : Machine → ℕ → Entry → Type 0
IsTaken machine take_number entry = (finite.get machine.records entry.0 ≡ Some entry.1) × (entry.1.take ≡ Some take_number)

number_is : (n : ℕ) (found : Option ℕ) → has_value (nat_eq n) found ≡ true → found ≡ Some n
number_is n None h = absurd cc
number_is n (Some m) h = ap Some (sym (eqb-true n m h))

apart : Less ≡ Equal → ⊥
apart e = cc

module _ (machine : Machine) where
  abbrev entries : List Entry
  entries = finite.entries machine.records

  ascend : IsAscending (λ (a b : Entry). pair_cmp a.0 b.0 ≡ Less) entries
  ascend = entries_ascend pair_cmp entries (finite.entries_sorted machine.records)

  readable : IsConsistent machine → AllByRecursion IsReadable entries
  readable sound = all_from_in IsReadable entries (kept_readable machine sound)

  well_formed : IsConsistent machine → (entry : Entry) → finite.get machine.records entry.0 ≡ Some entry.1 → IsWellFormed entry.1
  well_formed sound entry kept =
      let is : IsRecord machine entry.0.0 entry.0.1 entry.1 = subst (λ found. IfSome found (IsRecord machine entry.0.0 entry.0.1)) kept (sound.records entry.0.0 entry.0.1) in
      is.fields

  -- in a consistent office all that a builder holds has a take number
  pub held_whole : IsConsistent machine → (builder : List ℕ)
      → filter (is_held_with_take builder) entries ≡ filter (is_held_by builder) entries
  held_whole sound builder =
      filter_same_each (is_held_with_take builder) (is_held_by builder) entries (all_from_in _ entries each)
    where
      each : (entry : Entry) → IsIn entry entries → is_held_with_take builder entry ≡ is_held_by builder entry
      each entry within =
          let fits = (well_formed sound entry ((IsIn-entries machine entry).0 within)).state in
          with_take builder entry.1.holder entry.1.take _ fits.held fits.taken

  -- the records of an architecture ascend by their source packages
  arch_ascends : (arch : List ℕ) → IsAscending (λ x y. IsBefore sql.records_of_arch (Text arch ∷ []) (record_cells x) (record_cells y)) (filter (is_of arch) entries)
  arch_ascends arch =
      ascending_with (λ e. is_of arch e ≡ true) (λ a b. pair_cmp a.0 b.0 ≡ Less) _ follows (filter (is_of arch) entries) (kept_pass (is_of arch) entries)
      (ascending-filter (λ (a b : Entry). pair_cmp a.0 b.0 ≡ Less) (is_of arch) entries ascend)
    where
      follows : (a b : Entry) → is_of arch a ≡ true → is_of arch b ≡ true → pair_cmp a.0 b.0 ≡ Less → ordering_then (value_cmp (Text a.0.1) (Text b.0.1)) Equal ≡ Less
      follows a b is_a is_b less =
          let same : a.0.0 ≡ b.0.0 = (bytes_eq-Decides a.0.0 arch).0 is_a ∙ sym ((bytes_eq-Decides b.0.0 arch).0 is_b) in
          text_order a.0.1 b.0.1 ∙ second_less a.0 b.0 same less

  -- those of them that are in a state too
  state_ascends : (arch : List ℕ) (state : State)
      → IsAscending (λ x y. IsBefore sql.records_in_state (state_params arch state) (record_cells x) (record_cells y)) (filter (is_in arch state) entries)
  state_ascends arch state =
      ascending_with (λ e. is_in arch state e ≡ true) (λ a b. pair_cmp a.0 b.0 ≡ Less) _ follows (filter (is_in arch state) entries) (kept_pass (is_in arch state) entries)
      (ascending-filter (λ (a b : Entry). pair_cmp a.0 b.0 ≡ Less) (is_in arch state) entries ascend)
    where
      of_arch : (e : Entry) → is_in arch state e ≡ true → e.0.0 ≡ arch
      of_arch e is = (bytes_eq-Decides e.0.0 arch).0 (and_parts _ _ is).0

      follows : (a b : Entry) → is_in arch state a ≡ true → is_in arch state b ≡ true → pair_cmp a.0 b.0 ≡ Less → ordering_then (value_cmp (Text a.0.1) (Text b.0.1)) Equal ≡ Less
      follows a b is_a is_b less = text_order a.0.1 b.0.1 ∙ second_less a.0 b.0 (of_arch a is_a ∙ sym (of_arch b is_b)) less

  -- what a builder holds ascends by the keys
  held_ascends : (builder : List ℕ) → IsAscending (λ x y. IsBefore sql.held_by (Text builder ∷ []) (record_cells x) (record_cells y)) (filter (is_held_with_take builder) entries)
  held_ascends builder =
      ascending_with (λ e. is_held_with_take builder e ≡ true) (λ a b. pair_cmp a.0 b.0 ≡ Less) _ follows (filter (is_held_with_take builder) entries) (kept_pass (is_held_with_take builder) entries)
      (ascending-filter (λ (a b : Entry). pair_cmp a.0 b.0 ≡ Less) (is_held_with_take builder) entries ascend)
    where
      follows : (a b : Entry) → is_held_with_take builder a ≡ true → is_held_with_take builder b ≡ true → pair_cmp a.0 b.0 ≡ Less
          → ordering_then (value_cmp (Text a.0.0) (Text b.0.0)) (ordering_then (value_cmp (Text a.0.1) (Text b.0.1)) Equal) ≡ Less
      follows a b is_a is_b less = ap₂ ordering_then (value_cmp-Text a.0.0 b.0.0) (text_order a.0.1 b.0.1) ∙ less

  queue_well_formed : IsConsistent machine → (arch : List ℕ) → AllByRecursion (λ (e : Entry). IsWellFormed e.1) (queue_of machine arch)
  queue_well_formed sound arch = all_from_in (λ (e : Entry). IsWellFormed e.1) (queue_of machine arch) (λ e within. well_formed sound e ((IsIn-queue_of machine arch e).0 within).0)

  -- the order of a query by rank and source package
  queue_follows : (a b : Entry) → IsWellFormed a.1 → IsWellFormed b.1 → entry_cmp a b ≡ Less
      → ordering_then (value_cmp (number (rank_of a.1)) (number (rank_of b.1))) (ordering_then (value_cmp (Text a.0.1) (Text b.0.1)) Equal) ≡ Less
  queue_follows a b well also less =
      ap₂ ordering_then (order-number (rank_of a.1) (rank_of b.1)) (text_order a.0.1 b.0.1) ∙ sym (rank-order a.1 b.1 a.0.1 b.0.1 well also) ∙ less

  queue_ascends : IsConsistent machine → (arch : List ℕ) → IsAscending (λ x y. IsBefore sql.queue_of (queue_params arch) (record_cells x) (record_cells y)) (queue_of machine arch)
  queue_ascends sound arch =
      ascending_with (λ (e : Entry). IsWellFormed e.1) (λ a b. entry_cmp a b ≡ Less) _ queue_follows (queue_of machine arch) (queue_well_formed sound arch)
      (ascending_from_strict entry_cmp (queue_of machine arch) (sorted-queue_of machine arch))

  -- the queue has the records that pass the tests of its query
  queue_chosen : (arch : List ℕ) → IsPermutation (queue_of machine arch) (filter (entry_passes sql.queue_of (queue_params arch)) entries)
  unfolding queue_of
  queue_chosen arch =
      subst (IsPermutation (queue_of machine arch)) (filter_same (is_waiting arch) (entry_passes sql.queue_of (queue_params arch)) (λ e. sym (waiting_passes arch e)) entries)
      (IsPermutation-sorted_by entry_cmp (filter (is_waiting arch) entries))

  -- a take number that no two records have is that of one record at most
  pub take_few : (take_number : ℕ) → HasDistinctTakes machine → (filter (is_taken_as take_number) entries ≡ []) ⊎ ((e : Entry) × (filter (is_taken_as take_number) entries ≡ e ∷ []))
  take_few take_number distinct =
      at_most_one (filter (is_taken_as take_number) entries)
      (ascending_with (IsTaken machine take_number) (λ a b. pair_cmp a.0 b.0 ≡ Less) (λ a b. ⊥) none (filter (is_taken_as take_number) entries)
      (all_from_in (IsTaken machine take_number) (filter (is_taken_as take_number) entries) taken)
      (ascending-filter (λ (a b : Entry). pair_cmp a.0 b.0 ≡ Less) (is_taken_as take_number) entries ascend))
    where
      taken : (e : Entry) → IsIn e (filter (is_taken_as take_number) entries) → IsTaken machine take_number e
      taken e within =
          let kept = (IsIn-filter (is_taken_as take_number) e entries).0 within in
          ((IsIn-entries machine e).0 kept.0, number_is take_number e.1.take kept.1)

      none : (a b : Entry) → IsTaken machine take_number a → IsTaken machine take_number b → pair_cmp a.0 b.0 ≡ Less → ⊥
      none a b is_a is_b less =
          let same : a.0 ≡ b.0 = distinct a.0 b.0 a.1 b.1 take_number is_a.0 is_b.0 is_a.1 is_b.1 in
          apart (sym less ∙ ap (pair_cmp a.0) (sym same) ∙ tied_itself pair_cmp_total a.0)

-- ---- the answers

module _ (machine : Machine) {scratch : Scratch} (db : Database) (stands : StandsWith machine scratch db) (answer : List Row) where
  abbrev kept : List Entry
  kept = finite.entries machine.records

  -- the record of a key
  pub key_answer : (key : Key) → Answers sql.record_of_key (key_params key) (rows_in db tables.source_record) answer → answer ≡ map record_cells (entry_at key (finite.get machine.records key))
  key_answer key a =
      let chosen : filter (entry_passes sql.record_of_key (key_params key)) kept ≡ entry_at key (finite.get machine.records key) =
      filter_same (entry_passes sql.record_of_key (key_params key)) _ (key_passes key) kept
      ∙ filter_at pair_cmp pair_cmp_total pair_cmp-same key kept (finite.entries_sorted machine.records) ∙ ap (entry_at key) (sym (finite.get-entries machine.records key)) in
      few_answer record_cells sql.record_of_key (key_params key) (skips_key (key_params key)) (λ e. refl) refl kept (rows_in db tables.source_record) answer stands.records a
      (subst (λ (l : List Entry). (l ≡ []) ⊎ ((e : Entry) × (l ≡ e ∷ []))) (sym chosen) (few_at key (finite.get machine.records key))) refl
      ∙ ap (map record_cells) chosen

  -- the records of an architecture
  pub arch_answer : (arch : List ℕ) → Answers sql.records_of_arch (Text arch ∷ []) (rows_in db tables.source_record) answer → answer ≡ map record_cells (rows_of machine arch)
  unfolding rows_of
  arch_answer arch a =
      rising_answer record_cells sql.records_of_arch (Text arch ∷ []) (skips_arch (Text arch ∷ [])) (λ e. refl) refl kept (rows_in db tables.source_record) answer stands.records a
      (filter (is_of arch) kept) (arch_ascends machine arch) (IsPermutation-same _ _ (filter_same (is_of arch) _ (λ e. sym (arch_passes arch e)) kept)) refl

  -- those of them that are in a state
  pub state_answer : (arch : List ℕ) (state : State) → Answers sql.records_in_state (state_params arch state) (rows_in db tables.source_record) answer
      → answer ≡ map record_cells (records_in machine arch state)
  unfolding records_in
  state_answer arch state a =
      rising_answer record_cells sql.records_in_state (state_params arch state) (skips_state (state_params arch state)) (λ e. refl) refl kept (rows_in db tables.source_record) answer stands.records a
      (filter (is_in arch state) kept) (state_ascends machine arch state) (IsPermutation-same _ _ (filter_same (is_in arch state) _ (λ e. sym (state_passes arch state e)) kept)) refl

  -- the states of the records of an architecture, in some order
  pub states_answer : (arch : List ℕ) → Answers sql.states_of_arch (Text arch ∷ []) (rows_in db tables.source_record) answer
      → IsPermutation (map (λ (entry : Entry). state_cells entry.1.state) (rows_of machine arch)) answer
  unfolding rows_of
  states_answer arch a =
      subst (λ chosen. IsPermutation (map (λ (entry : Entry). state_cells entry.1.state) chosen) answer) (filter_same _ (is_of arch) (arch_passes arch) kept)
      (answer_same record_cells sql.states_of_arch (Text arch ∷ []) (skips_states (Text arch ∷ [])) refl refl kept (rows_in db tables.source_record) answer stands.records a)

  -- the source packages of the records of an architecture
  pub names_answer : (arch : List ℕ) → Answers sql.names_of_arch (Text arch ∷ [])
      (rows_in db tables.source_record) answer → answer ≡ map (λ (entry : Entry). name_cells entry.0.1)
      (rows_of machine arch)
  unfolding rows_of
  names_answer arch a =
      rising_shown record_cells sql.names_of_arch (Text arch ∷ []) (skips_names (Text arch ∷ [])) refl refl kept
      (rows_in db tables.source_record) answer stands.records a
      (filter (is_of arch) kept) (arch_ascends machine arch) (IsPermutation-same _ _ (filter_same (is_of arch) _
      (λ e. sym (arch_passes arch e)) kept))

  -- what a builder holds with take numbers, by the keys
  pub held_answer : (builder : List ℕ)
      → Answers sql.held_by (Text builder ∷ []) (rows_in db tables.source_record) answer
      → answer ≡ map record_cells (filter (is_held_with_take builder) kept)
  held_answer builder a =
      rising_answer record_cells sql.held_by (Text builder ∷ []) (skips_holder (Text builder ∷ [])) (λ e. refl) refl kept
      (rows_in db tables.source_record) answer stands.records a
      (filter (is_held_with_take builder) kept) (held_ascends machine builder) (IsPermutation-same _ _
      (filter_same (is_held_with_take builder) _ (λ e. sym (held_passes builder e)) kept)) refl

  -- the queue of an architecture
  pub queue_answer : IsConsistent machine → (arch : List ℕ) → Answers sql.queue_of (queue_params arch) (rows_in db tables.source_record) answer → answer ≡ map record_cells (queue_of machine arch)
  queue_answer sound arch a =
      rising_answer record_cells sql.queue_of (queue_params arch) (skips_queue (queue_params arch)) (λ e. refl) refl kept (rows_in db tables.source_record) answer stands.records a
      (queue_of machine arch) (queue_ascends machine sound arch) (queue_chosen machine arch) refl

  -- its first record
  pub head_answer : IsConsistent machine → (arch : List ℕ) → Answers sql.head_of (queue_params arch) (rows_in db tables.source_record) answer → answer ≡ map record_cells (take 1 (queue_of machine arch))
  head_answer sound arch a =
      rising_first record_cells sql.head_of (queue_params arch) (skips_head (queue_params arch)) (λ e. refl) refl kept (rows_in db tables.source_record) answer stands.records a
      (queue_of machine arch) (queue_ascends machine sound arch) (queue_chosen machine arch) refl

  -- the record with a take number
  pub take_answer : HasDistinctTakes machine → (take_number : ℕ) → Answers sql.record_of_take (number take_number ∷ []) (rows_in db tables.source_record) answer → answer ≡ map record_cells (filter (is_taken_as take_number) kept)
  take_answer distinct take_number a =
      let chosen = filter_same (entry_passes sql.record_of_take (number take_number ∷ [])) (is_taken_as take_number) (taken_passes take_number) kept in
      few_answer record_cells sql.record_of_take (number take_number ∷ []) (skips_take (number take_number ∷ [])) (λ e. refl) refl kept (rows_in db tables.source_record) answer stands.records a
      (subst (λ (l : List Entry). (l ≡ []) ⊎ ((e : Entry) × (l ≡ e ∷ []))) (sym chosen) (take_few machine take_number distinct)) refl
      ∙ ap (map record_cells) chosen

  -- each of these answers has rows of records alone, if the office is consistent
  module _ (sound : IsConsistent machine) (params : Row) where
    pub key_readable : Answers sql.record_of_key params (rows_in db tables.source_record) answer → AreRecords answer
    key_readable a = whole_fits record_cells sql.record_of_key params (skips_key params) (λ e. refl) refl kept (rows_in db tables.source_record) answer stands.records a IsReadable (readable machine sound) refl

    pub arch_readable : Answers sql.records_of_arch params (rows_in db tables.source_record) answer → AreRecords answer
    arch_readable a = whole_fits record_cells sql.records_of_arch params (skips_arch params) (λ e. refl) refl kept (rows_in db tables.source_record) answer stands.records a IsReadable (readable machine sound) refl

    pub state_readable : Answers sql.records_in_state params (rows_in db tables.source_record) answer → AreRecords answer
    state_readable a = whole_fits record_cells sql.records_in_state params (skips_state params) (λ e. refl) refl kept (rows_in db tables.source_record) answer stands.records a IsReadable (readable machine sound) refl

    pub held_readable : Answers sql.held_by params (rows_in db tables.source_record) answer → AreRecords answer
    held_readable a = whole_fits record_cells sql.held_by params (skips_holder params) (λ e. refl) refl kept (rows_in db tables.source_record) answer stands.records a IsReadable (readable machine sound) refl

    pub queue_readable : Answers sql.queue_of params (rows_in db tables.source_record) answer → AreRecords answer
    queue_readable a = whole_fits record_cells sql.queue_of params (skips_queue params) (λ e. refl) refl kept (rows_in db tables.source_record) answer stands.records a IsReadable (readable machine sound) refl

    pub head_readable : Answers sql.head_of params (rows_in db tables.source_record) answer → AreRecords answer
    head_readable a = first_fits_too record_cells sql.head_of params (skips_head params) (λ e. refl) refl kept (rows_in db tables.source_record) answer stands.records a IsReadable (readable machine sound) refl

    pub take_readable : Answers sql.record_of_take params (rows_in db tables.source_record) answer → AreRecords answer
    take_readable a = whole_fits record_cells sql.record_of_take params (skips_take params) (λ e. refl) refl kept (rows_in db tables.source_record) answer stands.records a IsReadable (readable machine sound) refl
