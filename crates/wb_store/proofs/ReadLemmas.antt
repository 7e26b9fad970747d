-- From the run of a query to the records that it answers, and to what a look-up promises.
use Rattle.std.proofs.Common.{◌≡◌, inl, inr, ℕ, List, [], ◌∷◌, ◌++◌, length, append_assoc, map, Result, Ok, Err, IfOk, IfErr, IsErrAnd, Vec, refl, sym, ap, subst, ◌∙◌}
use Rattle.std.proofs.lemmas.List.{map-append}
use Rattle.sqlite.specs.Effect.{Database}
use Rattle.sqlite.specs.Given.{IsPlain}
use Rattle.sqlite.specs.Held.{Held, state}
use Rattle.sqlite.specs.Listing.{understood}
use Rattle.sqlite.specs.Order.{Row}
use Rattle.sqlite.specs.Schema.{Schema}
use Rattle.sqlite.specs.State.{State, FailsToQuery, Survives}
use Rattle.sqlite.proofs.StateLemmas.{survives_weaker}
use Rattle.sqlite_trees.specs.declared.store.Store.{Ghosts}
use Rattle.wb_sql.specs.Queries.{TableQuery, Asks, Answers}
use Rattle.wb_sql.specs.Among.{HasOffice, HasTable, query_at, query_in, rows_in, table_in, tree_named}
use Rattle.wb_states.specs.declared.store_fault.StoreFault.{StoreFault}
use Rattle.wb_states.specs.declared.store_fault.StoreFault.TheVariants.{Memory}
use Rattle.wb_states.specs.declared.store_fault.Table.{Table}
use Rattle.wb_states.specs.declared.store_fault.Table.TheVariants.{Office, Arch, Builder, SourceRecord, ScratchSource, ScratchBinary, SourceState}
use Rattle.wb_states.specs.Machine.{Machine, IsConsistent}
use Rattle.wb_states.specs.declared.keyed.KeyedRecord.{KeyedRecord}
use Rattle.wb_store.specs.Faults.{IsUnfit, unfit, answer_on}
use Rattle.wb_store.specs.Merging.{Scratch}
use Rattle.wb_store.specs.Stands.{StandsWith}
use Rattle.wb_store.specs.Calls.{FailsToLookUp, FailsToRead, LooksUp}
use Rattle.wb_store.specs.Lookups.{AreRecords, AreRowsOf, FailsToReadRecords, IsQueryFault, MayAnswer, ReadsRecords, ReadsTable, keyed_cells}
use Rattle.sqlite.specs.declared.error.Error.{Error}
use Rattle.wb_sql.specs.Calls.{RunsQuery}
use Rattle.wb_store.specs.Queries.{AnswersTo, HasAsked, IsCurrent, IsTextOfQuery, OfficeQuery, given_to, query_asked, table_asked, table_of}

-- a call that hands on the error of another one
pub handed_on : {T E : Type 0} {e : E} (r : Result T E) → IsErrAnd r (λ d. d ≡ e) → r ≡ Err e
handed_on (Ok x) is = absurd is
handed_on (Err d) is = ap Err is

-- ---- rows, one after another

module _ {X : Type 0} (columns : X → Row) (Fits : X → Type 0) where
  -- a row of rows that are those of some that fit is that of one that fits
  pub one_of_rows : (before : List Row) (row : Row) (rest : List Row) → AreRowsOf columns Fits (before ++ row ∷ rest) → (x : X) × Fits x × (row ≡ columns x)
  one_of_rows [] row rest ([], fit, is) = cc
  one_of_rows [] row rest (x ∷ xs, fit, is) = (x, fit.0, let same : row ≡ columns x = cc in same)
  one_of_rows (first ∷ before) row rest ([], fit, is) = cc
  one_of_rows (first ∷ before) row rest (x ∷ xs, fit, is) = one_of_rows before row rest (xs, fit.1, let same : before ++ row ∷ rest ≡ map columns xs = cc in same)

  -- why one row is not read, as why all are not
  pub row_fault : (table : Table) (before : List Row) (row : Row) (rest left all : List Row) (fault : StoreFault) → before ++ left ≡ all → left ≡ row ∷ rest
      → IsUnfit table ((x : X) × Fits x × (row ≡ columns x)) fault → IsUnfit table (AreRowsOf columns Fits all) fault
  row_fault table before row rest left all fault whole next (inl memory) = inl memory
  row_fault table before row rest left all fault whole next (inr unfit) =
      inr (unfit.0, λ fits. unfit.1 (one_of_rows before row rest (subst (AreRowsOf columns Fits) (sym whole ∙ ap (λ l. before ++ l) next) fits)))

-- one more row is read
pub row_read : {Y : Type 0} (columns : Y → Row) (made after : List Y) (new : Y) (row : Row) (rest left all : List Row) → map columns made ++ left ≡ all → left ≡ row ∷ rest → after ≡ made ++ new ∷ []
    → row ≡ columns new → map columns after ++ rest ≡ all
row_read columns made after new row rest left all whole next pushed is =
    ap (λ l. map columns l ++ rest) pushed ∙ ap (λ l. l ++ rest) (map-append columns made (new ∷ [])) ∙ append_assoc (map columns made) (columns new ∷ []) rest
    ∙ ap (λ r. map columns made ++ r ∷ rest) (sym is) ∙ ap (λ l. map columns made ++ l) (sym next) ∙ whole

-- ---- the run of a query

-- what a query answers does not depend on the tree in which its table is
answers_of : {q : TableQuery} {tree : ℕ} {params : Row} {rows answer : List Row} → Answers (query_at tree q) params rows answer → Answers q params rows answer
answers_of a = record { ordered = a.ordered; same = a.same; sorted = a.sorted; shown = a.shown }

-- the text and the parameters are those of a query
pub record AsksIn (sql : List ℕ) (params : Row) (query : OfficeQuery) : Type 0 where
  pub text : IsTextOfQuery query sql
  pub given : params ≡ given_to query

-- what a text asks, with these parameters
pub asks_in : {sql : List ℕ} {params : Row} (query : OfficeQuery) → IsTextOfQuery query sql → params ≡ given_to query → AsksIn sql params query
asks_in query text given = record { text = text; given = given }

module _ {sql : List ℕ} {params : Row} {query : OfficeQuery} (asks : AsksIn sql params query) where
  -- what a text asks over a schema with the table of the query
  pub asked_in : {schema : Schema} → HasAsked query schema → Asks schema sql (query_in schema (table_of (table_asked query)) (query_asked query)) (length (given_to query))
  asked_in {schema} has = asks.text schema (tree_named schema (table_of (table_asked query)).name) has

  pub plain_in : {schema : Schema} → HasAsked query schema → IsPlain (understood schema sql)
  plain_in has = (asked_in has).means.plain

  -- an answer to it over the tree in which its table is
  pub answer_in : (db : Database) (rows : List Row) → Answers (query_in db.schema (table_of (table_asked query)) (query_asked query)) params (rows_in db (table_of (table_asked query))) rows → AnswersTo query db rows
  answer_in db rows a = subst (λ given. Answers (query_asked query) given (rows_in db (table_of (table_asked query))) rows) asks.given (answers_of a)

  -- what it may answer, it answers of the rows of the table
  pub answered_in : {rows : List Row} (at : State) → HasAsked query at.now.schema → MayAnswer sql params at rows → AnswersTo query at.now rows
  answered_in {rows} at has answers =
      answer_in at.now rows (answers (query_in at.now.schema (table_of (table_asked query)) (query_asked query)) (length (given_to query)) (asked_in has))

  pub crash_in : {S : Type 0} (g : Ghosts S) (old new : Held S) → Survives (state g old) (state g new) (λ _. ¬ IsPlain (understood old.schema sql))
      → Survives (state g old) (state g new) (λ _. ¬ HasAsked query old.schema)
  crash_in g old new =
      survives_weaker (state g old) (state g new) (λ _. ¬ IsPlain (understood old.schema sql)) (λ _. ¬ HasAsked query old.schema) (λ clean db unplain has. unplain (plain_in has))

  -- a query that failed, by its text and its parameters
  pub fails_in : {old new : State} {fault : StoreFault} → IsQueryFault (table_asked query) sql params old new fault → FailsToRead query old new fault
  fails_in {old} {new} failed = record {
    error = failed.0;
    sql = sql;
    text = asks.text;
    failed = subst (λ given. FailsToQuery sql given old new failed.0) asks.given failed.1;
    left = failed.2;
    fault_is = failed.3;
  }

-- a schema with the office's tables has each of the second schema
pub has_table : (table : Table) → IsCurrent table → {schema : Schema} → HasOffice schema → HasTable schema (table_in schema (table_of table))
has_table Office current has = has.office_is
has_table Arch current has = has.arch_is
has_table Builder current has = has.builder_is
has_table SourceRecord current has = has.record_is
has_table ScratchSource current has = has.source_is
has_table ScratchBinary current has = has.binary_is
has_table SourceState current has = absurd current

-- the text and the parameters are those of a query on one of these tables
pub record AsksOf (sql : List ℕ) (params : Row) (query : OfficeQuery) : Type 0 where
  pub asks : AsksIn sql params query
  pub current : IsCurrent (table_asked query)

-- what a text asks of such a table, with these parameters
pub asks_of : {sql : List ℕ} {params : Row} (query : OfficeQuery) → IsCurrent (table_asked query) → IsTextOfQuery query sql → params ≡ given_to query → AsksOf sql params query
asks_of query current text given = record { asks = asks_in query text given; current = current }

module _ {sql : List ℕ} {params : Row} {query : OfficeQuery} (asks : AsksOf sql params query) where
  -- what a text asks over a schema with the office's tables
  pub asked_over : {schema : Schema} → HasOffice schema → Asks schema sql (query_in schema (table_of (table_asked query)) (query_asked query)) (length (given_to query))
  asked_over has = asked_in asks.asks (has_table (table_asked query) asks.current has)

  pub plain_over : {schema : Schema} → HasOffice schema → IsPlain (understood schema sql)
  plain_over has = (asked_over has).means.plain

  -- an answer to it over the tree in which its table is
  pub answer_of : (db : Database) (rows : List Row) → Answers (query_in db.schema (table_of (table_asked query)) (query_asked query)) params (rows_in db (table_of (table_asked query))) rows → AnswersTo query db rows
  answer_of = answer_in asks.asks

  -- what it may answer, it answers of the rows of the table
  pub answered : {rows : List Row} (at : State) → HasOffice at.now.schema → MayAnswer sql params at rows → AnswersTo query at.now rows
  answered at has = answered_in asks.asks at (has_table (table_asked query) asks.current has)

  pub crash_over : {S : Type 0} (g : Ghosts S) (old new : Held S) → Survives (state g old) (state g new) (λ _. ¬ IsPlain (understood old.schema sql))
      → Survives (state g old) (state g new) (λ _. ¬ HasOffice old.schema)
  crash_over g old new =
      survives_weaker (state g old) (state g new) (λ _. ¬ IsPlain (understood old.schema sql)) (λ _. ¬ HasOffice old.schema) (λ clean db unplain has. unplain (plain_over has))

-- a query that failed, by its text and its parameters
pub fails_to_read : {sql : List ℕ} {params : Row} {query : OfficeQuery} {old new : State} {fault : StoreFault} → AsksOf sql params query → IsQueryFault (table_asked query) sql params old new fault → FailsToRead query old new fault
fails_to_read asks = fails_in asks.asks

module _ {S : Type 0} {g : Ghosts S} {sql : List ℕ} {params : Row} {old new : Held S} where
  -- the rows of a query on a table
  pub reads_table : {X : Type 0} {answered : Result (Vec Row X) StoreFault} (table : Table) (r : Result (Vec Row X) Error) → RunsQuery g sql params old new r → answered ≡ answer_on r table
      → ReadsTable g table sql params old new answered
  reads_table {X} {answered} table r runs is = subst (λ (answer : Result (Vec Row X) StoreFault). ReadsTable g table sql params old new answer) (sym is) (of r runs)
    where
      of : (r : Result (Vec Row X) Error) → RunsQuery g sql params old new r → ReadsTable g table sql params old new (answer_on r table)
      of (Ok rows) runs = record { value = λ clean. runs.answers clean; same = runs.same; err = λ clean. tt; survives = runs.survives }
      of (Err e) runs = record { value = λ clean. tt; same = λ clean plain. tt; err = λ clean. let failed = runs.err clean in (e, failed.0, failed.1, refl); survives = runs.survives }

  -- the records in the rows of a query that succeeded
  pub reads_rows : {X Y : Type 0} {rows : Vec Row X} (r : Result (Vec KeyedRecord Y) StoreFault) → ReadsTable g SourceRecord sql params old new (Ok rows)
      → IfOk r (λ made. rows.items ≡ map keyed_cells made.items) → IfErr r (IsUnfit SourceRecord (AreRecords rows.items)) → ReadsRecords g sql params old new r
  reads_rows (Ok made) read is fault = record {
    value = λ clean. subst (MayAnswer sql params (state g old)) is (read.value clean);
    same = read.same;
    err = λ clean plain. tt;
    survives = read.survives;
  }
  reads_rows {rows} (Err fault) read is unfit = record {
    value = λ clean. tt;
    same = λ clean plain. tt;
    err = λ clean plain. inr (read.same clean plain, (rows.items, read.value clean, unfit));
    survives = read.survives;
  }

  -- no records, of a query that failed
  pub reads_nothing : {X Y : Type 0} {fault : StoreFault} {r : Result (Vec KeyedRecord Y) StoreFault} → ReadsTable {X = X} g SourceRecord sql params old new (Err fault) → r ≡ Err fault → ReadsRecords g sql params old new r
  reads_nothing {Y} {fault} read is = subst (λ (r : Result (Vec KeyedRecord Y) StoreFault). ReadsRecords g sql params old new r) (sym is) (record {
    value = λ clean. tt;
    same = λ clean plain. tt;
    err = λ clean plain. inl (read.err clean);
    survives = read.survives;
  })

  module _ {query : OfficeQuery} (asks : AsksOf sql params query) where
    -- a look-up whose query succeeded, and whose rows are read
    pub looks_up_rows : {A X : Type 0} {rows : Vec Row X} {Answer : Machine → A → Type 0} (Fits : Type 0) (r : Result A StoreFault) → ReadsTable g (table_asked query) sql params old new (Ok rows)
        → ((machine : Machine) (scratch : Scratch) → StandsWith machine scratch (state g old).now → AnswersTo query (state g old).now rows.items → IfOk r (Answer machine)) → IfErr r (IsUnfit (table_asked query) Fits)
        → ((machine : Machine) (scratch : Scratch) → IsConsistent machine → StandsWith machine scratch (state g old).now → AnswersTo query (state g old).now rows.items → Fits)
        → LooksUp g query Answer old new r
    looks_up_rows Fits (Ok x) read finds fault fits = record {
      value = λ clean machine scratch stands. finds machine scratch stands (answered asks (state g old) stands.has (read.value clean));
      same = λ clean office. read.same clean (plain_over asks office);
      err = λ clean office. tt;
      survives = crash_over asks g old new read.survives;
    }
    looks_up_rows Fits (Err e) read finds fault fits = record {
      value = λ clean. tt;
      same = λ clean office. tt;
      err = λ clean office. elim fault [
        | inl memory ↦ inr (inl (memory, read.same clean (plain_over asks office)))
        | inr unfit ↦ inr (inr (unfit.0, read.same clean (plain_over asks office), λ machine scratch sound stands. unfit.1 (fits machine scratch sound stands (answered asks (state g old) stands.has (read.value clean)))))
      ];
      survives = crash_over asks g old new read.survives;
    }

    -- a look-up whose query failed
    pub looks_up_nothing : {A X : Type 0} {fault : StoreFault} {Answer : Machine → A → Type 0} {r : Result A StoreFault} → ReadsTable {X = X} g (table_asked query) sql params old new (Err fault) → r ≡ Err fault → LooksUp g query Answer old new r
    looks_up_nothing {A} {Answer = Answer} read is = subst (λ (r : Result A StoreFault). LooksUp g query Answer old new r) (sym is) (record {
      value = λ clean. tt;
      same = λ clean office. tt;
      err = λ clean office. inl (fails_to_read asks (read.err clean));
      survives = crash_over asks g old new read.survives;
    })

  module _ {query : OfficeQuery} (asks : AsksOf sql params query) (on_records : SourceRecord ≡ table_asked query) where
    -- a look-up of records
    pub looks_up : {A X : Type 0} {rows : Vec KeyedRecord X} {Answer : Machine → A → Type 0} {x : A} → ReadsRecords g sql params old new (Ok rows)
        → ((machine : Machine) (scratch : Scratch) → StandsWith machine scratch (state g old).now → AnswersTo query (state g old).now (map keyed_cells rows.items) → Answer machine x)
        → LooksUp g query Answer old new (Ok x)
    looks_up read finds = record {
      value = λ clean machine scratch stands. finds machine scratch stands (answered asks (state g old) stands.has (read.value clean));
      same = λ clean office. read.same clean (plain_over asks office);
      err = λ clean office. tt;
      survives = crash_over asks g old new read.survives;
    }

    -- a look-up whose records are not had
    pub fails_to_look_up : {A X : Type 0} {fault : StoreFault} {Answer : Machine → A → Type 0} {r : Result A StoreFault} → ReadsRecords {X = X} g sql params old new (Err fault) → r ≡ Err fault
        → ((machine : Machine) (scratch : Scratch) → IsConsistent machine → StandsWith machine scratch (state g old).now → (rows : List Row) → AnswersTo query (state g old).now rows → AreRecords rows)
        → LooksUp g query Answer old new r
    fails_to_look_up {A} {fault = fault} {Answer = Answer} read is fits = subst (λ (r : Result A StoreFault). LooksUp g query Answer old new r) (sym is) (record {
      value = λ clean. tt;
      same = λ clean office. tt;
      err = λ clean office. why office (read.err clean (plain_over asks office));
      survives = crash_over asks g old new read.survives;
    })
      where
        why : HasOffice old.schema → FailsToReadRecords sql params (state g old) (state g new) fault → FailsToLookUp query (state g old) (state g new) fault
        why office (inl failed) = inl (fails_to_read asks (subst (λ table. IsQueryFault table sql params (state g old) (state g new) fault) on_records failed))
        why office (inr (kept, (rows, answers, inl memory))) = inr (inl (memory, kept))
        why office (inr (kept, (rows, answers, inr bad))) =
            inr (inr (subst (λ table. fault ≡ unfit table) on_records bad.0, kept, λ machine scratch sound stands. bad.1 (fits machine scratch sound stands rows (answered asks (state g old) stands.has answers))))

    -- a look-up that is out of memory for its answer
    pub lacks_memory : {A X : Type 0} {rows : Vec KeyedRecord X} {Answer : Machine → A → Type 0} {r : Result A StoreFault} → ReadsRecords g sql params old new (Ok rows)
        → r ≡ Err Memory → LooksUp g query Answer old new r
    lacks_memory {A} {Answer = Answer} read is = subst (λ (r : Result A StoreFault). LooksUp g query Answer old new r) (sym is) (record {
      value = λ clean. tt;
      same = λ clean office. tt;
      err = λ clean office. inr (inl (refl, read.same clean (plain_over asks office)));
      survives = crash_over asks g old new read.survives;
    })

    -- all the records of a look-up
    pub looks_up_all : {X : Type 0} {Answer : Machine → Vec KeyedRecord X → Type 0} (r : Result (Vec KeyedRecord X) StoreFault) → ReadsRecords g sql params old new r
        → ((machine : Machine) (scratch : Scratch) (rows : Vec KeyedRecord X) → StandsWith machine scratch (state g old).now → AnswersTo query (state g old).now (map keyed_cells rows.items) → Answer machine rows)
        → ((machine : Machine) (scratch : Scratch) → IsConsistent machine → StandsWith machine scratch (state g old).now → (rows : List Row) → AnswersTo query (state g old).now rows → AreRecords rows)
        → LooksUp g query Answer old new r
    looks_up_all (Ok rows) read finds fits = looks_up read (λ machine scratch. finds machine scratch rows)
    looks_up_all (Err fault) read finds fits = fails_to_look_up read refl fits
