-- The records of an office of the first schema, as they are read for the second.
use Rattle.std.proofs.Common.{◌≡◌, inl, inr, List, [], ◌∷◌, map, Result, Ok, Err, IfOk, IfErr, Vec, IfSome, None, Option, Some, refl, sym, ap, subst, ◌∙◌, ℕ, arith}
use Rattle.std.specs.FinMap as finite
use Rattle.std.specs.List.{AllByRecursion}
use Rattle.sqlite.specs.Effect.{Database}
use Rattle.sqlite.specs.Held.{Held, state}
use Rattle.sqlite.specs.Order.{Row}
use Rattle.sqlite.specs.State.{State}
use Rattle.sqlite.proofs.StateLemmas.{survives_weaker}
use Rattle.sqlite_trees.specs.declared.store.Store.{Ghosts}
use Rattle.wb_sql.specs.Transactions.{IsKeptOrUndone}
use Rattle.wb_sql.specs.Upgrading.{HasFirstOffice}
use Rattle.std.specs.Prelude.{⊤}
use Rattle.wb_store.specs.Opening.{ChecksOver}
use Rattle.wb_sql.proofs.AppendLemmas.{all_both, all_so}
use Rattle.wb_rows.specs.Reading.{IsReadable}
use Rattle.wb_store.proofs.OrderLemmas.{all_from_in}
use Rattle.wb_archive.specs.Tables.{HasFittingTake}
use Rattle.wb_rows.specs.FirstSchema.{IsNoFirst, IsOfFirst, first_cells}
use Rattle.wb_rows.proofs.CellsLemmas.{first_cells-same}
use Rattle.wb_states.specs.declared.keyed.KeyedRecord.{KeyedRecord}
use Rattle.wb_states.specs.declared.store_fault.StoreFault.{StoreFault}
use Rattle.wb_states.specs.declared.store_fault.Table.TheVariants.{SourceState}
use Rattle.wb_states.specs.Lookups.{entry_of}
use Rattle.wb_states.specs.Machine.{IsConsistent, IsRecord, Machine}
use Rattle.wb_states.specs.Queue.{Entry}
use Rattle.wb_states.proofs.QueueLemmas.{IsIn-entries}
use Rattle.deb_text.specs.Lists.{IsIn}
use Rattle.wb_store.specs.Faults.{IsUnfit, unfit}
use Rattle.wb_store.specs.Lookups.{AreRowsOf, ReadsTable}
use Rattle.wb_store.specs.Queries as ask
use Rattle.wb_store.specs.Queries.{AnswersTo, IsTextOfQuery}
use Rattle.wb_store.specs.Stands.{StandsForFirst}
use Rattle.wb_store.specs.Upgrading.{AreRecordsOf, FailsToReadFirst, IsFirstEntry, ReadsFirst, first_keyed}
use Rattle.wb_store.specs.declared.format.Format.TheVariants.{One}
use Rattle.wb_store.proofs.FormLemmas.{kept_readable}
use Rattle.wb_store.proofs.OpeningAfterLemmas.{map_injective_on}
use Rattle.wb_store.proofs.OpeningRecordLemmas.{records_answer_in}
use Rattle.wb_store.proofs.ReadLemmas.{AsksIn, answered_in, asks_in, crash_in, fails_in, plain_in}

-- ---- one row

-- a row that is that of no record is that of none that fits
pub no_first : (row : Row) → IsNoFirst row → ¬ ((entry : Entry) × IsFirstEntry entry × (row ≡ first_cells entry))
no_first row none (entry, fits, is) = none entry fits.0 fits.1 is

-- nor is the row of a record whose take number does not
pub unfit_take : (row : Row) (read : Entry) → row ≡ first_cells read → IsOfFirst read.1 → ¬ HasFittingTake read.1 → ¬ ((entry : Entry) × IsFirstEntry entry × (row ≡ first_cells entry))
unfit_take row read same kept over (entry, fits, is) = over (subst (λ (e : Entry). HasFittingTake e.1) (first_cells-same entry read fits.1 kept (sym is ∙ same)) fits.2)

-- ---- the rows of a consistent office

some_with : {X : Type 0} (P Q : X → Type 0) (found : Option X) → ((x : X) → P x → Q x) → IfSome found P → IfSome found Q
some_with P Q None follows h = tt
some_with P Q (Some x) follows h = follows x h

module _ (machine : Machine) (sound : IsConsistent machine) where
  kept_take : (entry : Entry) → IsIn entry (finite.entries machine.records) → HasFittingTake entry.1
  kept_take entry within =
      let is : IsRecord machine entry.0.0 entry.0.1 entry.1 =
      subst (λ found. IfSome found (IsRecord machine entry.0.0 entry.0.1)) ((IsIn-entries machine entry).0 within) (sound.records entry.0.0 entry.0.1) in
      some_with _ _ entry.1.take (λ n given. let low = given.1 in let most = sound.handed in omega (arith, low, most)) is.given

  -- they are those of records that fit
  rows_fit : (db : Database) → StandsForFirst machine db → (answer : List Row) → AnswersTo ask.States db answer → AreRowsOf first_cells IsFirstEntry answer
  rows_fit db stands answer a = (
    finite.entries machine.records,
    all_both _ _ _ (λ entry kept others. (others.0, kept, others.1)) (finite.entries machine.records) stands.kept
        (all_from_in (λ entry. IsReadable entry × HasFittingTake entry.1) (finite.entries machine.records) (λ entry within. (kept_readable machine sound entry within, kept_take entry within))),
    records_answer_in One machine db (stands.records, stands.kept) answer a,
  )

-- ---- all of them

mapped : (reads : List KeyedRecord) → map first_cells (map entry_of reads) ≡ map first_keyed reads
mapped [] = refl
mapped (read ∷ reads) = ap (λ rest. first_keyed read ∷ rest) (mapped reads)

all_mapped : (reads : List KeyedRecord) → AllByRecursion (λ read. IsOfFirst read.current × HasFittingTake read.current) reads → AllByRecursion (λ (entry : Entry). IsOfFirst entry.1) (map entry_of reads)
all_mapped [] all = tt
all_mapped (read ∷ reads) all = (all.0.0, all_mapped reads all.1)

asks_all : {text : List ℕ} → IsTextOfQuery ask.States text → AsksIn text [] ask.States
asks_all is_text = asks_in ask.States is_text refl

module _ {S : Type 0} {g : Ghosts S} {text : List ℕ} (is_text : IsTextOfQuery ask.States text) {old new : Held S} where
  -- the rows that the query answered
  pub reads_first : {X Y : Type 0} {rows : Vec Row X} (r : Result (Vec KeyedRecord Y) StoreFault) → ReadsTable g SourceState text [] old new (Ok rows)
      → IfOk r (λ made. rows.items ≡ map first_keyed made.items) → IfOk r (λ made. AllByRecursion (λ read. IsOfFirst read.current × HasFittingTake read.current) made.items)
      → IfErr r (IsUnfit SourceState (AreRowsOf first_cells IsFirstEntry rows.items)) → ReadsFirst g old new r
  reads_first {rows = rows} (Ok made) read is all unfit = record {
    value = λ clean first machine stands.
        let a = answered_in (asks_all is_text) (state g old) first.tables.states_are.has (read.value clean) in
        map_injective_on first_cells (λ (entry : Entry). IsOfFirst entry.1) first_cells-same (map entry_of made.items) (finite.entries machine.records) (all_mapped made.items all) stands.kept
        (mapped made.items ∙ sym is ∙ records_answer_in One machine (state g old).now (stands.records, stands.kept) rows.items a);
    fit = all_so _ _ (λ read fits. fits.1) made.items all;
    same = λ clean first. read.same clean (plain_in (asks_all is_text) first.tables.states_are.has);
    err = λ clean first. tt;
    survives = survives_weaker (state g old) (state g new) _ _ (λ clean db none first. none first.tables.states_are.has) (crash_in (asks_all is_text) g old new read.survives);
  }
  reads_first {rows = rows} (Err fault) read is all unfit = record {
    value = λ clean first. tt;
    fit = tt;
    same = λ clean first. tt;
    err = λ clean first.
        let kept = read.same clean (plain_in (asks_all is_text) first.tables.states_are.has) in
        let a = answered_in (asks_all is_text) (state g old) first.tables.states_are.has (read.value clean) in
        elim unfit [
          | inl memory ↦ inr (inl (memory, kept))
          | inr bad ↦ inr (inr (bad.0, kept, λ machine sound stands. bad.1 (rows_fit machine sound (state g old).now stands rows.items a)))
        ];
    survives = survives_weaker (state g old) (state g new) _ _ (λ clean db none first. none first.tables.states_are.has) (crash_in (asks_all is_text) g old new read.survives);
  }

  -- no rows, of a query that failed
  pub reads_no_first : {X Y : Type 0} {fault : StoreFault} {r : Result (Vec KeyedRecord Y) StoreFault} → ReadsTable {X = X} g SourceState text [] old new (Err fault) → r ≡ Err fault → ReadsFirst g old new r
  reads_no_first {Y = Y} read is = subst (λ (r : Result (Vec KeyedRecord Y) StoreFault). ReadsFirst g old new r) (sym is) (record {
    value = λ clean first. tt;
    fit = tt;
    same = λ clean first. tt;
    err = λ clean first. inl (fails_in (asks_all is_text) (read.err clean));
    survives = survives_weaker (state g old) (state g new) _ _ (λ clean db none first. none first.tables.states_are.has) (crash_in (asks_all is_text) g old new read.survives);
  })

-- ---- beside the tests of an opening

left_kept : (old new : State) (fault : StoreFault) → FailsToReadFirst old new fault → IsKeptOrUndone old new
left_kept old new fault (inl failed) = failed.left
left_kept old new fault (inr (inl memory)) = inl memory.1
left_kept old new fault (inr (inr bad)) = inl bad.1

module _ {S X : Type 0} {g : Ghosts S} {old new : Held S} where
  -- they are read as a test is made
  pub read_checks : (r : Result (Vec KeyedRecord X) StoreFault) → ReadsFirst g old new r
      → ChecksOver g HasFirstOffice StandsForFirst (λ _. ⊤) (λ db made. ⊤) (λ machine made. AreRecordsOf machine (map entry_of made.items)) FailsToReadFirst old new r
  read_checks (Ok made) reads = record {
    good = λ clean first. tt;
    same = λ clean first. inr (reads.same clean first, reads.survives.limit);
    err = λ clean first. tt;
    kept = λ clean first. tt;
    told = reads.value;
    fails = λ clean first. tt;
    survives = reads.survives;
  }
  read_checks (Err fault) reads = record {
    good = λ clean first. tt;
    same = λ clean first. tt;
    err = λ clean first. (old, inl refl, reads.err clean first);
    kept = λ clean first. left_kept (state g old) (state g new) fault (reads.err clean first);
    told = λ clean first. tt;
    fails = λ clean first machine sound stands given. elim (reads.err clean first) [
      | inl failed ↦ inr (old, inl refl, (ask.States, failed))
      | inr (inl memory) ↦ inl memory.0
      | inr (inr bad) ↦ absurd (bad.2 machine sound stands)
    ];
    survives = reads.survives;
  }
