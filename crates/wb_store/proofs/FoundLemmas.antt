-- What the rows that a look-up reads say of the state of the office.
use Rattle.std.proofs.Common.{◌≡◌, ℕ, ◌<◌, ◌≤◌, ◌^◌, ◌-◌, min, pos, ℤ, false, List, [], ◌∷◌, map, filter, refl, sym, ap, subst, ◌∙◌, arith, Option, Some, None, IfSome, nat_eq, nat_le, option_map, inl, inr, IsPermutation}
use Rattle.std.specs.FinMap as finite
use Rattle.std.proofs.lemmas.Bool.{cases_Bool}
use Rattle.std.proofs.lemmas.Bool.Decides.{nat_tests}
use Rattle.sqlite.specs.Effect.{Database}
use Rattle.sqlite.specs.Order.{Row}
use Rattle.sqlite.specs.Query.{Output}
use Rattle.sqlite.proofs.Callers.{one_permutation}
use Rattle.sqlite.specs.declared.types.Value.{Value}
use Rattle.sqlite.specs.declared.types.Value.TheVariants.{Int, Text}
use Rattle.sqlite.specs.Values.{bound_value}
use Rattle.sqlite_keyed.proofs.ListLemmas.{map-map, filter_none}
use Rattle.wb_sql.specs.Queries.{Answers, outputs}
use Rattle.wb_sql.proofs.AnswerLemmas.{whole_answer}
use Rattle.wb_sql.specs.Among.{rows_in}
use Rattle.wb_sql.specs.OfficeStatements as sql
use Rattle.wb_sql.specs.Tables as tables
use Rattle.deb_text.specs.Lists.{IsIn, first_of}
use Rattle.deb_text.specs.Options.{has_value}
use Rattle.wb_states.specs.declared.record.Record.{Record}
use Rattle.wb_states.specs.Limits.{count_limit}
use Rattle.wb_states.specs.Machine.{Key, Machine, IsConsistent, IsRecord}
use Rattle.wb_states.specs.Queue.{Entry, queue_of, head_of}
use Rattle.wb_states.specs.Holds.{is_taken_as, taken_as}
use Rattle.wb_states.proofs.QueueLemmas.{IsIn-entries}
use Rattle.wb_states.specs.declared.keyed.KeyedRecord.{KeyedRecord}
use Rattle.wb_states.specs.declared.state.State.{State}
use Rattle.wb_states.specs.Lookups.{entry_of, rows_of}
use Rattle.wb_states.specs.Lookups.{rows_in as records_in}
use Rattle.wb_rows.specs.Cells.{record_cells, number}
use Rattle.wb_rows.proofs.CellsLemmas.{record_cells-same}
use Rattle.wb_store.specs.Merging.{Scratch}
use Rattle.wb_store.specs.declared.format.Format.{Format}
use Rattle.wb_store.specs.declared.format.Format.TheVariants.{Two}
use Rattle.wb_store.specs.Schemas.{row_in}
use Rattle.wb_store.specs.Stands.{HasCountsOf, StandsWith}
use Rattle.wb_store.specs.Lookups.{AreCounts, is_held_with_take, keyed_cells}
use Rattle.wb_store.proofs.OrderLemmas.{all_from_in, entry_at, map_injective, first_of-take_one}
use Rattle.wb_store.proofs.LookupLemmas.{key_params, key_answer, arch_answer, state_params, state_answer, held_answer, queue_params, queue_answer, head_answer, take_answer}

-- the records that have the rows of some entries are these
entries_are : (rows : List KeyedRecord) (entries : List Entry) → map keyed_cells rows ≡ map record_cells entries → map entry_of rows ≡ entries
entries_are rows entries e = map_injective record_cells record_cells-same (map entry_of rows) entries (map-map record_cells entry_of rows ∙ e)

first_of-map : {X Y : Type 0} (f : X → Y) (xs : List X) → option_map f (first_of xs) ≡ first_of (map f xs)
first_of-map f [] = refl
first_of-map f (x ∷ xs) = refl

-- the first of the records at a key, where there is one at most
current_at : (key : Key) (rows : List KeyedRecord) (found : Option Record) → map entry_of rows ≡ entry_at key found → option_map (λ (row : KeyedRecord). row.current) (first_of rows) ≡ found
current_at key [] None e = refl
current_at key [] (Some current) e = cc
current_at key (row ∷ rows) None e = cc
current_at key (row ∷ rows) (Some current) e =
    let same : entry_of row ≡ (key, current) = cc in ap (λ (entry : Entry). Some entry.1) same

-- a take number that is greater than those that were handed out is that of no record
beyond : (n handed : ℕ) (found : Option ℕ) → IfSome found (λ take_number. (1 ≤ take_number) × (take_number ≤ handed)) → handed < n → has_value (nat_eq n) found ≡ false
beyond n handed None given over = refl
beyond n handed (Some take_number) given over = let most = given.1 in grind (arith, nat_tests)

module _ (machine : Machine) where
  abbrev entries : List Entry
  entries = finite.entries machine.records

  none_beyond : IsConsistent machine → (n : ℕ) → count_limit < n → filter (is_taken_as n) entries ≡ []
  none_beyond sound n over = filter_none (is_taken_as n) entries (all_from_in (λ e. is_taken_as n e ≡ false) entries each)
    where
      each : (entry : Entry) → IsIn entry entries → is_taken_as n entry ≡ false
      each entry within =
          let is : IsRecord machine entry.0.0 entry.0.1 entry.1 =
          subst (λ found. IfSome found (IsRecord machine entry.0.0 entry.0.1)) ((IsIn-entries machine entry).0 within) (sound.records entry.0.0 entry.0.1) in
          let most = sound.handed in
          beyond n machine.handed entry.1.take is.given (omega (arith, most))

  -- the greatest number that SQL keeps stands for all that are greater
  stored_take : IsConsistent machine → (n m : ℕ) → m ≡ min n (2 ^ 63 - 1) → filter (is_taken_as m) entries ≡ filter (is_taken_as n) entries
  stored_take sound n m is = elim (cases_Bool (nat_le n (2 ^ 63 - 1))) [
    | inl least ↦ let same : m ≡ n = grind (arith, nat_tests) in ap (λ k. filter (is_taken_as k) entries) same
    | inr over ↦ none_beyond sound m (grind (arith, nat_tests)) ∙ sym (none_beyond sound n (grind (arith, nat_tests)))
  ]

-- the counts in the office's row, in a format
pub counts_in_format : (format : Format) (machine : Machine) (db : Database) → HasCountsOf format machine db → (rows : List Row) → Answers sql.office_counts [] (rows_in db tables.office) rows
    → rows ≡ row_in format machine.handed machine.accepted ∷ []
counts_in_format format machine db has rows a =
    let one : Output = ([], row_in format machine.handed machine.accepted) in
    let all : outputs sql.office_counts [] (rows_in db tables.office) ≡ one ∷ [] = ap (outputs sql.office_counts []) has in
    let ordered : a.ordered ≡ one ∷ [] = one_permutation one a.ordered (subst (λ l. IsPermutation l a.ordered) all a.same) in
    whole_answer sql.office_counts [] (rows_in db tables.office) rows a refl refl ∙ ap (map (λ (o : Output). o.1)) ordered

-- in format 2
pub counts_found : (machine : Machine) (db : Database) → HasCountsOf Two machine db → (rows : List Row) → Answers sql.office_counts [] (rows_in db tables.office) rows
    → AreCounts rows machine.handed machine.accepted
counts_found = counts_in_format Two

module _ (machine : Machine) {scratch : Scratch} (db : Database) (stands : StandsWith machine scratch db) where
  module _ (rows : List KeyedRecord) {params : Row} where
    -- the record at a key
    pub current_found : (key : Key) → params ≡ key_params key → Answers sql.record_of_key params (rows_in db tables.source_record) (map keyed_cells rows)
        → option_map (λ (row : KeyedRecord). row.current) (first_of rows) ≡ finite.get machine.records key
    current_found key given a =
        current_at key rows (finite.get machine.records key)
        (entries_are rows _ (key_answer machine db stands _ key (subst (λ p. Answers sql.record_of_key p (rows_in db tables.source_record) (map keyed_cells rows)) given a)))

    -- the records of an architecture
    pub arch_found : (arch : List ℕ) → params ≡ Text arch ∷ [] → Answers sql.records_of_arch params (rows_in db tables.source_record) (map keyed_cells rows) → map entry_of rows ≡ rows_of machine arch
    arch_found arch given a = entries_are rows _ (arch_answer machine db stands _ arch (subst (λ p. Answers sql.records_of_arch p (rows_in db tables.source_record) (map keyed_cells rows)) given a))

    -- those of them that are in a state
    pub state_found : (arch : List ℕ) (state : State) → params ≡ state_params arch state → Answers sql.records_in_state params (rows_in db tables.source_record) (map keyed_cells rows)
        → map entry_of rows ≡ records_in machine arch state
    state_found arch state given a =
        entries_are rows _ (state_answer machine db stands _ arch state (subst (λ p. Answers sql.records_in_state p (rows_in db tables.source_record) (map keyed_cells rows)) given a))

    -- what a builder holds with take numbers
    pub held_found : (builder : List ℕ) → params ≡ Text builder ∷ []
        → Answers sql.held_by params (rows_in db tables.source_record) (map keyed_cells rows)
        → map entry_of rows ≡ filter (is_held_with_take builder) (finite.entries machine.records)
    held_found builder given a =
        entries_are rows _ (held_answer machine db stands _ builder (subst (λ p. Answers sql.held_by p
        (rows_in db tables.source_record) (map keyed_cells rows)) given a))

    -- the queue
    pub queue_found : IsConsistent machine → (arch : List ℕ) → params ≡ queue_params arch → Answers sql.queue_of params (rows_in db tables.source_record) (map keyed_cells rows) → map entry_of rows ≡ queue_of machine arch
    queue_found sound arch given a = entries_are rows _ (queue_answer machine db stands _ sound arch (subst (λ p. Answers sql.queue_of p (rows_in db tables.source_record) (map keyed_cells rows)) given a))

    -- the head of the queue
    pub head_found : IsConsistent machine → (arch : List ℕ) → params ≡ queue_params arch → Answers sql.head_of params (rows_in db tables.source_record) (map keyed_cells rows)
        → option_map entry_of (first_of rows) ≡ head_of machine arch
    unfolding head_of
    head_found sound arch given a =
        let is = entries_are rows _ (head_answer machine db stands _ sound arch (subst (λ p. Answers sql.head_of p (rows_in db tables.source_record) (map keyed_cells rows)) given a)) in
        first_of-map entry_of rows ∙ ap first_of is ∙ first_of-take_one (queue_of machine arch)

    -- the record with a take number
    pub taken_found : IsConsistent machine → (take_number : ℕ) → params ≡ number (min take_number (2 ^ 63 - 1)) ∷ [] → Answers sql.record_of_take params (rows_in db tables.source_record) (map keyed_cells rows)
        → option_map entry_of (first_of rows) ≡ taken_as machine take_number
    unfolding taken_as
    taken_found sound take_number given a =
        let stored = min take_number (2 ^ 63 - 1) in
        let is = entries_are rows _ (take_answer machine db stands _ sound.takes stored (subst (λ p. Answers sql.record_of_take p (rows_in db tables.source_record) (map keyed_cells rows)) given a)) in
        first_of-map entry_of rows ∙ ap first_of (is ∙ stored_take machine sound take_number stored refl)

-- ---- parameters

-- a text, as it is bound
pub text_bound : {v : Value} {s t : List ℕ} → v ≡ Text s → s ≡ t → bound_value v ≡ Text t
text_bound is same = ap bound_value is ∙ ap Text same

-- a number, as it is bound
pub number_bound : {v : Value} {i : ℤ} {n : ℕ} → v ≡ Int i → i ≡ pos n → bound_value v ≡ number n
number_bound is same = ap bound_value is ∙ ap Int same
