-- The rows of records that an opening reads, one after another, and what those of a consistent office are.
use Rattle.std.proofs.Common.{◌≡◌, ◌≢◌, ◌⊎◌, inl, inr, ℕ, suc, Bool, true, false, ◌||◌, List, [], ◌∷◌, ◌++◌, append_assoc, length, map, filter, cond, Option, None, Some, IfSome, is_some, option_map, unwrap_or, find, nat_eq, bytes_eq, Result, refl, sym, ap, ap₂, subst, ◌∙◌, arith, Less, IsPermutation}
use Rattle.std.specs.Prelude.{⊤}
use Rattle.std.specs.List.{AllByRecursion, list_any}
use Rattle.std.specs.Option.{IsSomeAnd}
use Rattle.std.specs.FinMap as finite
use Rattle.std.specs.FinMap.Entries as entries_of
use Rattle.std.specs.FinSet as set
use Rattle.std.specs.Ordering.{eq_by_cmp, ordering_then}
use Rattle.std.proofs.lemmas.Bool.Decides.{nat_tests}
use Rattle.std.proofs.lemmas.List.{map-append}
use Rattle.std.proofs.lemmas.List.Folds.{list_any-append}
use Rattle.sqlite.specs.Effect.{Database}
use Rattle.sqlite.specs.Held.{Held, state}
use Rattle.sqlite.specs.Order.{Row}
use Rattle.sqlite_trees.specs.Tree.{IsAscending}
use Rattle.sqlite_trees.specs.declared.store.Store.{Ghosts}
use Rattle.sqlite_keyed.proofs.ListLemmas.{all_of, ascending_weaker, filter_all, IsPermutation-same}
use Rattle.sqlite_value.proofs.OrderLemmas.{value_cmp-Text}
use Rattle.wb_sql.specs.Queries.{Answers}
use Rattle.wb_sql.specs.Among.{rows_in}
use Rattle.wb_sql.specs.FirstSchema as first
use Rattle.wb_sql.specs.OfficeStatements as sql
use Rattle.wb_sql.specs.Tables as tables
use Rattle.deb_text.specs.Lists.{IsIn}
use Rattle.deb_text.specs.Options.{has_value}
use Rattle.deb_text.specs.Text.{text_cmp, pair_cmp}
use Rattle.deb_text.proofs.KeyLemmas.{pair_cmp_total}
use Rattle.wb_states.specs.declared.arch.OsCpu.{OsCpu}
use Rattle.wb_states.specs.declared.record.Record.{Record}
use Rattle.wb_states.specs.declared.store_fault.StoreFault.{StoreFault}
use Rattle.wb_states.specs.Holds.{is_taken_as}
use Rattle.wb_states.specs.Machine.{Key, Machine, AreWaits, IsConsistent, IsRecord, arch_words, with_words}
use Rattle.wb_states.specs.Machine.{builder_pairs}
use Rattle.wb_states.specs.Queue.{Entry}
use Rattle.wb_states.proofs.QueueLemmas.{IsIn-entries}
use Rattle.wb_rows.specs.Cells.{record_cells}
use Rattle.wb_rows.specs.FirstSchema.{first_cells}
use Rattle.wb_rows.specs.Reading.{IsReadable}
use Rattle.wb_rows.proofs.CellsLemmas.{first_cells-same, record_cells-same}
use Rattle.wb_store.specs.Faults.{IsBadRow}
use Rattle.wb_store.specs.Checks.{AllAfter, AreBadRecords, AreKept, FitsBeside, FitsRecords, HasGoodRecords, HasOwnTake, HoldsRecords, IsFormedRecord, IsRowOf, IsTestedRow, PassesWith, Tests, has_pair, words_among}
use Rattle.wb_store.specs.Stands.{HasRecordsOf}
use Rattle.wb_store.specs.declared.format.Format.{Format}
use Rattle.wb_store.specs.declared.format.Format.TheVariants.{One, Two}
use Rattle.wb_store.specs.Queries.{AnswersTo, given_to, query_asked, table_asked}
use Rattle.wb_store.specs.Schemas.{AreKeptIn, IsKeptIn, IsNoneIn, cells_in, query_of_records, table_of_records}
use Rattle.wb_store.proofs.ArchLemmas.{name_test}
use Rattle.wb_store.proofs.FormLemmas.{arch_known, formed_readable}
use Rattle.wb_store.proofs.LookupLemmas.{key_test, take_few, text_order}
use Rattle.wb_states.proofs.PairLemmas.{contains-keys}
use Rattle.wb_store.proofs.OpeningAfterLemmas.{all_after-append, map_injective_on, none_before, only_memory_after}
use Rattle.wb_store.proofs.CheckLemmas.{passes_from}
use Rattle.wb_store.proofs.OrderLemmas.{entries_ascend}
use Rattle.wb_store.proofs.TableLemmas.{SkipsRowid, IsBefore, rising_answer}

or_false : (b : Bool) → (b || false) ≡ b
or_false true = refl
or_false false = refl

-- ---- how the two schemas keep records

-- a row that is that of no record is that of none that can be read and kept
none_in : (format : Format) (row : Row) → IsNoneIn format row → (entry : Entry) → IsReadable entry → IsKeptIn format entry.1 → row ≢ cells_in format entry
none_in One row none entry read kept = none entry read kept
none_in Two row none entry read kept = none entry read

-- records with the same columns are the same
cells_same : (format : Format) (one other : Entry) → IsKeptIn format one.1 → IsKeptIn format other.1 → cells_in format one ≡ cells_in format other → one ≡ other
cells_same One one other kept too is = first_cells-same one other kept too is
cells_same Two one other kept too is = record_cells-same one other is

-- the query for all records has no parameters, and is on their table
pub none_given : (format : Format) → [] ≡ given_to (query_of_records format)
none_given One = refl
none_given Two = refl

pub on_records : (format : Format) → table_of_records format ≡ table_asked (query_of_records format)
on_records One = refl
on_records Two = refl

-- records that fit can be kept
all_fit_kept : (format : Format) (archs : List (List ℕ × OsCpu)) (builders : List Key) (handed : ℕ) (before xs : List Entry) → AllAfter (FitsRecords format archs builders handed) before xs
    → AllByRecursion (λ entry. IsKeptIn format entry.1) xs
all_fit_kept format archs builders handed before [] all = tt
all_fit_kept format archs builders handed before (x ∷ xs) all = (all.0.formed.kept, all_fit_kept format archs builders handed (before ++ x ∷ []) xs all.1)

-- the second schema keeps each record
pub all_kept : (machine : Machine) → AreKeptIn Two machine
all_kept machine = all_of (λ entry. ⊤) (λ entry. tt) (finite.entries machine.records)

-- ---- one row

module _ (format : Format) (archs : List (List ℕ × OsCpu)) (builders : List Key) (handed : ℕ) where
  abbrev IsFormed : Entry → Type 0
  IsFormed = IsFormedRecord format archs builders handed

  abbrev Fits : List Entry → Entry → Type 0
  Fits = FitsRecords format archs builders handed

  -- a row that is that of no record is that of none with its form
  pub no_formed_record : (row : Row) → IsNoneIn format row → ¬ IsRowOf (cells_in format) IsFormed row
  no_formed_record row none (entry, fit, is) = none_in format row none entry (formed_readable entry fit.forms) fit.kept is

  -- nor is the row of a record without its form
  pub unformed_record : (row : Row) (read : Entry) → row ≡ cells_in format read → IsKeptIn format read.1 → ¬ IsFormed read → ¬ IsRowOf (cells_in format) IsFormed row
  unformed_record row read same kept unformed (entry, fit, is) = unformed (subst IsFormed (cells_same format entry read fit.kept kept (sym is ∙ same)) fit)

  module _ {has_take : ℕ → Bool} (row : Row) where
    -- a row that is that of no record with its form is that of none that fits
    pub unfit_row : (place : ℕ) (fault : StoreFault) → IsBadRow (table_of_records format) place (IsRowOf (cells_in format) IsFormed row) fault
        → IsBadRow (table_of_records format) place (IsRowOf (cells_in format) (FitsBeside format archs builders handed has_take) row) fault
    unfit_row place fault (inl memory) = inl memory
    unfit_row place fault (inr (damaged, bad)) = inr (damaged, λ of. bad (of.0, of.1.formed, of.2))

    -- nor is the row of a record with one of the take numbers
    pub repeated : (read : Entry) → row ≡ cells_in format read → IsKeptIn format read.1 → ¬ IfSome read.1.take (λ n. has_take n ≡ false) → ¬ IsRowOf (cells_in format) (FitsBeside format archs builders handed has_take) row
    repeated read same kept taken (entry, fits, is) =
        taken (subst (λ (e : Entry). IfSome e.1.take (λ n. has_take n ≡ false)) (cells_same format entry read fits.formed.kept kept (sym is ∙ same)) fits.own_take)

-- ---- the rows, one after another

-- the rows are those of records that fit, so many, with the take numbers that are told
pub record IsTested (format : Format) (archs : List (List ℕ × OsCpu)) (builders : List Key) (handed : ℕ) (has_take : ℕ → Bool) (number : ℕ) (rows : List Row) : Type 0 where
  pub made : List Entry
  pub same : rows ≡ map (cells_in format) made
  pub fit : AllAfter (FitsRecords format archs builders handed) [] made
  pub counted : number ≡ length made
  pub among : (n : ℕ) → has_take n ≡ list_any (is_taken_as n) made

if_some_with : {X : Type 0} (P Q : X → Type 0) (found : Option X) → ((x : X) → P x → Q x) → IfSome found P → IfSome found Q
if_some_with P Q None follows h = tt
if_some_with P Q (Some x) follows h = follows x h

module _ (format : Format) (archs : List (List ℕ × OsCpu)) (builders : List Key) (handed : ℕ) where
  -- no row is tested yet
  pub none_tested : {has_take : ℕ → Bool} → ((n : ℕ) → has_take n ≡ false) → IsTested format archs builders handed has_take 0 []
  none_tested none = record { made = []; same = refl; fit = tt; counted = refl; among = none }

  module _ {has_take : ℕ → Bool} {number : ℕ} {rows : List Row} (tested : IsTested format archs builders handed has_take number rows) where
    -- the rows are good
    pub holds_tested : HoldsRecords format archs builders handed rows
    holds_tested = (tested.made, tested.same, tested.fit)

    module _ (row : Row) where
      -- one more row fits
      pub fits_too : {more : ℕ → Bool} {after : ℕ} → after ≡ suc number → IsTestedRow format archs builders handed has_take more row → IsTested format archs builders handed more after (rows ++ row ∷ [])
      fits_too {more} counted new = record {
        made = tested.made ++ new.entry ∷ [];
        same = ap (λ l. l ++ row ∷ []) tested.same ∙ ap (λ r. map (cells_in format) tested.made ++ r ∷ []) new.same ∙ sym (map-append (cells_in format) tested.made (new.entry ∷ []));
        fit = all_after-append (FitsRecords format archs builders handed) [] tested.made new.entry tested.fit
            (record { formed = new.fits.formed; own_take = if_some_with _ _ new.entry.1.take (λ n none. sym (tested.among n) ∙ none) new.fits.own_take });
        counted = counted ∙ ap suc tested.counted ∙ sym (length_more tested.made);
        among = λ n. new.among n ∙ ap₂ ◌||◌ (tested.among n) (sym (or_false (is_taken_as n new.entry))) ∙ sym (list_any-append (is_taken_as n) tested.made (new.entry ∷ []));
      }
        where
          length_more : (xs : List Entry) → length (xs ++ new.entry ∷ []) ≡ suc (length xs)
          length_more [] = refl
          length_more (x ∷ xs) = ap suc (length_more xs)

      -- the row is the first that does not fit, whatever comes after it
      pub is_bad : (rest : List Row) (place : ℕ) (fault : StoreFault) → place ≡ suc number → IsBadRow (table_of_records format) place (IsRowOf (cells_in format) (FitsBeside format archs builders handed has_take) row) fault
          → AreBadRecords format archs builders handed ((rows ++ row ∷ []) ++ rest) fault
      is_bad rest place fault counted (inl memory) = inl memory
      is_bad rest place fault counted (inr (damaged, bad)) = inr (
        place,
        damaged,
        record {
          before = tested.made;
          row = row;
          rest = rest;
          all = append_assoc rows (row ∷ []) rest ∙ ap (λ l. l ++ row ∷ rest) tested.same;
          good = tested.fit;
          bad = λ of. bad (of.0, record { formed = of.1.formed; own_take = if_some_with _ _ of.0.1.take (λ n none. tested.among n ∙ none) of.1.own_take }, of.2);
          counted = counted ∙ ap suc tested.counted;
        },
      )

-- ---- the records of a consistent office

words_are : (name : List ℕ) (archs : List (List ℕ × OsCpu)) → words_among archs name ≡ entries_of.find text_cmp name archs
words_are name [] = refl
words_are name (arch ∷ archs) =
    chosen (bytes_eq arch.0 name) ∙ ap (λ b. cond b (Some arch.1) (words_among archs name)) (name_test name arch.0)
    ∙ ap (cond (eq_by_cmp text_cmp name arch.0) (Some arch.1)) (words_are name archs)
  where
    chosen : (b : Bool) → option_map (λ (a : List ℕ × OsCpu). a.1) (cond b (Some arch) (find (λ a. bytes_eq a.0 name) archs)) ≡ cond b (Some arch.1) (words_among archs name)
    chosen true = refl
    chosen false = refl

-- a builder was added for an architecture, exactly if the two are one of the pairs
pub pair_is : (machine : Machine) (pair : Key) → set.contains machine.builders pair ≡ has_pair (builder_pairs machine) pair
pair_is machine pair = contains-keys pair_cmp_total machine.builders pair ∙ (λ i. list_any (λ other. sym (key_test pair other) i) (builder_pairs machine))

waits_with : (name waits : List ℕ) (default : OsCpu) (found : Option OsCpu) → is_some found ≡ true → AreWaits (with_words name (unwrap_or found default)) waits → IsSomeAnd found (λ words. AreWaits (with_words name words) waits)
waits_with name waits default None there are = absurd cc
waits_with name waits default (Some words) there are = are

module _ (format : Format) (machine : Machine) (sound : IsConsistent machine) where
  abbrev kept : List Entry
  kept = finite.entries machine.records

  kept_formed : (entry : Entry) → IsIn entry kept → IsKeptIn format entry.1 → IsFormedRecord format (finite.entries machine.archs) (builder_pairs machine) machine.handed entry
  unfolding arch_words
  kept_formed entry within keeps =
      let is : IsRecord machine entry.0.0 entry.0.1 entry.1 =
      subst (λ found. IfSome found (IsRecord machine entry.0.0 entry.0.1)) ((IsIn-entries machine entry).0 within) (sound.records entry.0.0 entry.0.1) in
      let words = sym (words_are entry.0.0 (finite.entries machine.archs)) in
      record {
        kept = keeps;
        forms = record { arch = arch_known machine sound entry.0.0 is.known; source = is.name; fields = is.fields };
        holder = if_some_with _ _ entry.1.holder (λ holder there. sym (pair_is machine (holder, entry.0.0)) ∙ there) is.holder;
        given = is.given;
        waits = subst (λ found. IsSomeAnd found (λ words. AreWaits (with_words entry.0.0 words) entry.1.waits)) (finite.get-entries machine.archs entry.0.0 ∙ words)
            (waits_with entry.0.0 entry.1.waits _ (finite.get machine.archs entry.0.0) is.known is.waits);
      }

  own_take : (before : List Entry) (entry : Entry) (after : List Entry) → before ++ entry ∷ after ≡ kept → HasOwnTake before entry
  own_take before entry after is = go entry.1.take refl
    where
      go : (take : Option ℕ) → entry.1.take ≡ take → IfSome take (λ n. list_any (is_taken_as n) before ≡ false)
      go None same = tt
      go (Some n) same =
          none_before (is_taken_as n) before entry after (ap (has_value (nat_eq n)) same ∙ (let here : nat_eq n n ≡ true = grind (arith, nat_tests) in here))
          (subst (λ l. (filter (is_taken_as n) l ≡ []) ⊎ ((e : Entry) × (filter (is_taken_as n) l ≡ e ∷ []))) (sym is) (take_few machine n sound.takes))

  in_middle : (before : List Entry) (entry : Entry) (after : List Entry) → IsIn entry (before ++ entry ∷ after)
  in_middle [] entry after = inl refl
  in_middle (e ∷ before) entry after = inr (in_middle before entry after)

  kept_fit : (before after : List Entry) → before ++ after ≡ kept → AllByRecursion (λ entry. IsKeptIn format entry.1) after → AllAfter (FitsRecords format (finite.entries machine.archs) (builder_pairs machine) machine.handed) before after
  kept_fit before [] is all = tt
  kept_fit before (entry ∷ after) is all = (
    record { formed = kept_formed entry (subst (IsIn entry) is (in_middle before entry after)) all.0; own_take = own_take before entry after is },
    kept_fit (before ++ entry ∷ []) after (append_assoc before (entry ∷ []) after ∙ is) all.1,
  )

-- ---- what the rows say of the state for which they stand

parts_false : (a b : Bool) → (a || b) ≡ false → (a ≡ false) × (b ≡ false)
parts_false true b is = cc
parts_false false b is = (refl, is)

split_any : {X : Type 0} (p : X → Bool) (before : List X) (x : X) → list_any p (before ++ x ∷ []) ≡ false → (list_any p before ≡ false) × (p x ≡ false)
split_any p before x none =
    let parts = parts_false (list_any p before) (p x || false) (sym (list_any-append p before (x ∷ [])) ∙ none) in (parts.0, (parts_false (p x) false parts.1).0)

has_number : (n : ℕ) (entry : Entry) → entry.1.take ≡ Some n → is_taken_as n entry ≡ true
has_number n entry is = ap (has_value (nat_eq n)) is ∙ (let here : nat_eq n n ≡ true = grind (arith, nat_tests) in here)

module _ (format : Format) (archs : List (List ℕ × OsCpu)) (builders : List Key) (handed : ℕ) where
  formed_in : (before xs : List Entry) (entry : Entry) → AllAfter (FitsRecords format archs builders handed) before xs → IsIn entry xs → IsFormedRecord format archs builders handed entry
  formed_in before [] entry all within = absurd within
  formed_in before (x ∷ xs) entry all (inl here) = subst (IsFormedRecord format archs builders handed) (sym here) all.0.formed
  formed_in before (x ∷ xs) entry all (inr later) = formed_in (before ++ x ∷ []) xs entry all.1 later

  later_own : (before xs : List Entry) (entry : Entry) (n : ℕ) → AllAfter (FitsRecords format archs builders handed) before xs → IsIn entry xs → entry.1.take ≡ Some n → list_any (is_taken_as n) before ≡ false
  later_own before [] entry n all within is = absurd within
  later_own before (x ∷ xs) entry n all (inl here) is =
      let own : HasOwnTake before entry = subst (HasOwnTake before) (sym here) all.0.own_take in
      subst (λ take. IfSome take (λ m. list_any (is_taken_as m) before ≡ false)) is own
  later_own before (x ∷ xs) entry n all (inr later) is = (split_any (is_taken_as n) before x (later_own (before ++ x ∷ []) xs entry n all.1 later is)).0

  none_later : (before : List Entry) (x : Entry) (xs : List Entry) (entry : Entry) (n : ℕ) → AllAfter (FitsRecords format archs builders handed) before (x ∷ xs) → IsIn entry xs → x.1.take ≡ Some n
      → entry.1.take ≡ Some n → ⊥
  none_later before x xs entry n all later one other =
      let none = (split_any (is_taken_as n) before x (later_own (before ++ x ∷ []) xs entry n all.1 later other)).1 in
      let both : true ≡ false = sym (has_number n x one) ∙ none in cc

  same_take : (before xs : List Entry) (one other : Entry) (n : ℕ) → AllAfter (FitsRecords format archs builders handed) before xs → IsIn one xs → IsIn other xs → one.1.take ≡ Some n → other.1.take ≡ Some n → one ≡ other
  same_take before [] one other n all within also has too = absurd within
  same_take before (x ∷ xs) one other n all (inl here) (inl there) has too = here ∙ sym there
  same_take before (x ∷ xs) one other n all (inl here) (inr later) has too = absurd (none_later before x xs other n all later (ap (λ (e : Entry). e.1.take) (sym here) ∙ has) too)
  same_take before (x ∷ xs) one other n all (inr later) (inl there) has too = absurd (none_later before x xs one n all later (ap (λ (e : Entry). e.1.take) (sym there) ∙ too) has)
  same_take before (x ∷ xs) one other n all (inr later) (inr after) has too = same_take (before ++ x ∷ []) xs one other n all.1 later after has too

known_with : (name waits : List ℕ) (default : OsCpu) (found : Option OsCpu) → IsSomeAnd found (λ words. AreWaits (with_words name words) waits)
    → (is_some found ≡ true) × AreWaits (with_words name (unwrap_or found default)) waits
known_with name waits default None are = absurd are
known_with name waits default (Some words) are = (refl, are)

module _ (format : Format) (machine : Machine) where
  is_record : (entry : Entry) → IsFormedRecord format (finite.entries machine.archs) (builder_pairs machine) machine.handed entry → IsRecord machine entry.0.0 entry.0.1 entry.1
  unfolding arch_words
  is_record entry is =
      let words = words_are entry.0.0 (finite.entries machine.archs) ∙ sym (finite.get-entries machine.archs entry.0.0) in
      let known = known_with entry.0.0 entry.1.waits _ (finite.get machine.archs entry.0.0) (subst (λ found. IsSomeAnd found (λ words. AreWaits (with_words entry.0.0 words) entry.1.waits)) words is.waits) in
      record {
        name = is.forms.source;
        known = known.0;
        fields = is.forms.fields;
        holder = if_some_with _ _ entry.1.holder (λ holder there. pair_is machine (holder, entry.0.0) ∙ there) is.holder;
        waits = known.1;
        given = is.given;
      }

  module _ (all : AllAfter (FitsRecords format (finite.entries machine.archs) (builder_pairs machine) machine.handed) [] (finite.entries machine.records)) where
    kept_record : (key : Key) (found : Option Record) → finite.get machine.records key ≡ found → IfSome found (IsRecord machine key.0 key.1)
    kept_record key None is = tt
    kept_record key (Some current) is =
        is_record (key, current) (formed_in format _ _ _ [] (finite.entries machine.records) (key, current) all ((IsIn-entries machine (key, current)).1 is))

    good_records : HasGoodRecords machine
    good_records = record {
      records = λ arch source. kept_record (arch, source) (finite.get machine.records (arch, source)) refl;
      takes = λ one other first second n at also has too.
          ap (λ (e : Entry). e.0) (same_take format _ _ _ [] (finite.entries machine.records) (one, first) (other, second) n all ((IsIn-entries machine (one, first)).1 at) ((IsIn-entries machine (other, second)).1 also) has too);
    }

skips_records : (format : Format) (params : Row) → SkipsRowid (query_asked (query_of_records format)) params
skips_records One params [] = (refl, refl)
skips_records One params (x ∷ row) = (refl, refl)
skips_records Two params [] = (refl, refl)
skips_records Two params (x ∷ row) = (refl, refl)

-- records come in the order of the query for all
before_in : (format : Format) (x y : Entry) → pair_cmp x.0 y.0 ≡ Less → IsBefore (query_asked (query_of_records format)) [] (cells_in format x) (cells_in format y)
before_in One x y less = ap₂ ordering_then (value_cmp-Text x.0.0 y.0.0) (text_order x.0.1 y.0.1) ∙ less
before_in Two x y less = ap₂ ordering_then (value_cmp-Text x.0.0 y.0.0) (text_order x.0.1 y.0.1) ∙ less

module _ (format : Format) (machine : Machine) (db : Database) (has : HasRecordsOf format machine db × AreKeptIn format machine) (answer : List Row) (a : AnswersTo (query_of_records format) db answer) where
  abbrev records : List Entry
  records = finite.entries machine.records

  ascend : IsAscending (λ x y. IsBefore (query_asked (query_of_records format)) [] (cells_in format x) (cells_in format y)) records
  ascend =
      ascending_weaker (λ (x y : Entry). pair_cmp x.0 y.0 ≡ Less) (λ x y. IsBefore (query_asked (query_of_records format)) [] (cells_in format x) (cells_in format y))
      (before_in format) records (entries_ascend pair_cmp records (finite.entries_sorted machine.records))

  -- the answer has the row of each record
  pub records_answer_in : answer ≡ map (cells_in format) records
  records_answer_in = answer_of format has.0 a
    where
      whole : (x : List Entry) → IsPermutation x (filter (λ x. true) x)
      whole xs = IsPermutation-same _ _ (sym (filter_all (λ x. true) xs (all_of (λ x. true ≡ true) (λ x. refl) xs)))

      answer_of : (format : Format) → HasRecordsOf format machine db → AnswersTo (query_of_records format) db answer → answer ≡ map (cells_in format) records
      answer_of One held a =
          rising_answer first_cells first.all_states [] (skips_records One []) (λ x. refl) refl records (rows_in db tables.source_state) answer held a records
          (ascending_weaker (λ (x y : Entry). pair_cmp x.0 y.0 ≡ Less) (λ x y. IsBefore first.all_states [] (first_cells x) (first_cells y)) (before_in One) records (entries_ascend pair_cmp records (finite.entries_sorted machine.records)))
          (whole records) refl
      answer_of Two held a =
          rising_answer record_cells sql.all_records [] (skips_records Two []) (λ x. refl) refl records (rows_in db tables.source_record) answer held a records
          (ascending_weaker (λ (x y : Entry). pair_cmp x.0 y.0 ≡ Less) (λ x y. IsBefore sql.all_records [] (record_cells x) (record_cells y)) (before_in Two) records (entries_ascend pair_cmp records (finite.entries_sorted machine.records)))
          (whole records) refl

  -- the rows of a consistent office are those of records that fit
  records_fit : IsConsistent machine → (archs : List (List ℕ × OsCpu)) (builders : List Key) (handed : ℕ) → AreKept archs builders handed machine → HoldsRecords format archs builders handed answer
  records_fit sound archs builders handed given =
      let fit = kept_fit format machine sound [] records refl has.1 in (
        records,
        records_answer_in,
        subst (λ l. AllAfter (FitsRecords format l builders handed) [] records) (sym given.archs_are)
            (subst (λ l. AllAfter (FitsRecords format (finite.entries machine.archs) l handed) [] records) (sym given.builders_are)
            (subst (λ n. AllAfter (FitsRecords format (finite.entries machine.archs) (builder_pairs machine) n) [] records) (sym given.handed_is) fit)),
      )

  -- if the rows are those of records that fit, the state keeps good records
  pub records_good : (archs : List (List ℕ × OsCpu)) (builders : List Key) (handed : ℕ) → HoldsRecords format archs builders handed answer → AreKept archs builders handed machine → HasGoodRecords machine
  records_good archs builders handed holds given =
      let same : holds.0 ≡ records =
      map_injective_on (cells_in format) (λ entry. IsKeptIn format entry.1) (cells_same format) holds.0 records (all_fit_kept format archs builders handed [] holds.0 holds.2) has.1 (sym holds.1 ∙ records_answer_in) in
      let all = subst (λ l. AllAfter (FitsRecords format archs builders handed) [] l) same holds.2 in
      good_records format machine (subst (λ l. AllAfter (FitsRecords format l (builder_pairs machine) machine.handed) [] records) given.archs_are
      (subst (λ l. AllAfter (FitsRecords format archs l machine.handed) [] records) given.builders_are
      (subst (λ n. AllAfter (FitsRecords format archs builders n) [] records) given.handed_is all)))

-- the answer of the second schema
pub records_answer : (machine : Machine) (db : Database) → HasRecordsOf Two machine db → (answer : List Row) → Answers sql.all_records [] (rows_in db tables.source_record) answer
    → answer ≡ map record_cells (finite.entries machine.records)
records_answer machine db has answer a = records_answer_in Two machine db (has, all_kept machine) answer a

-- what the test of the records says of an office
pub records_pass : {S : Type 0} {g : Ghosts S} {old new : Held S} (format : Format) (archs : List (List ℕ × OsCpu)) (builders : List Key) (handed : ℕ) (r : Result ⊤ StoreFault)
    → Tests g (query_of_records format) (λ rows done. HoldsRecords format archs builders handed rows) (AreBadRecords format archs builders handed) old new r
    → PassesWith g (query_of_records format) (λ machine db. HasRecordsOf format machine db × AreKeptIn format machine) (AreKept archs builders handed)
    (λ machine done. AreKept archs builders handed machine → HasGoodRecords machine) old new r
records_pass {g} {old} format archs builders handed r tests =
    passes_from r tests (λ machine has rows a done holds given. records_good format machine (state g old).now has rows a archs builders handed holds given)
    (λ machine sound has given rows a fault bad.
    only_memory_after (cells_in format) (FitsRecords format archs builders handed) (λ one other x y fits too is. cells_same format x y fits.formed.kept too.formed.kept is) (table_of_records format) rows fault
    (records_fit format machine (state g old).now has rows a sound archs builders handed given) bad)
