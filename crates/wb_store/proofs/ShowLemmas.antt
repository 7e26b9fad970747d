-- The rows of tables that are shown one table after another.
use Rattle.std.proofs.Common.{◌≡◌, ℕ, zero, suc, drop, inl, inr, List, [], ◌∷◌, ◌++◌, append_assoc, map, Result, Ok, Err, IfErr, OnOk, Vec, refl, sym, ap, subst, ◌∙◌}
use Rattle.std.specs.List.{AllByRecursion}
use Rattle.std.proofs.lemmas.List.{append-nil, map-append}
use Rattle.sqlite_trees.specs.declared.store.Store.{Ghosts}
use Rattle.sqlite.specs.Held.{Held, state}
use Rattle.sqlite.specs.Order.{Row}
use Rattle.sqlite.specs.State.{HasCleanDisk, Survives}
use Rattle.sqlite.proofs.StateLemmas.{survives_then}
use Rattle.wb_sql.specs.Among.{HasOffice}
use Rattle.wb_states.specs.declared.store_fault.StoreFault.{StoreFault}
use Rattle.wb_states.specs.declared.store_fault.Table.{Table}
use Rattle.wb_states.specs.declared.store_fault.Table.TheVariants as on
use Rattle.wb_states.specs.Machine.{Machine}
use Rattle.wb_rows.specs.declared.cell.TableRow.{TableRow}
use Rattle.wb_rows.specs.Shown.{AreReadableCells, row_of, values_of}
use Rattle.wb_store.specs.Faults.{IsUnfit}
use Rattle.wb_store.specs.Finds.{StaysAs}
use Rattle.wb_store.specs.Lookups.{AreRowsOf, IsQueryFault, ReadsTable}
use Rattle.wb_store.specs.MergeLaws.{survives_itself}
use Rattle.wb_store.specs.Merging.{Scratch}
use Rattle.wb_store.specs.Queries.{IsCurrent, IsTextOfQuery, given_to, table_asked}
use Rattle.wb_store.specs.Stands.{StandsWith}
use Rattle.wb_store.specs.TableRows.{ShowsAll, ShowsRows, ShowsTable, office_tables, query_of_table, rows_of_table, rows_of_tables, with_table}
use Rattle.wb_store.proofs.FindsLemmas.{stays-now, stays-schema, stays_then}
use Rattle.wb_store.proofs.ReadLemmas.{AsksOf, answered, asks_of, crash_over, fails_to_read, plain_over}
use Rattle.wb_store.proofs.StaysLemmas.{was_clean}
use Rattle.wb_store.proofs.TableRowLemmas.{table_answer, table_shown}

given_none : (table : Table) → [] ≡ given_to (query_of_table table)
given_none on.Office = refl
given_none on.Arch = refl
given_none on.Builder = refl
given_none on.SourceRecord = refl
given_none on.ScratchSource = refl
given_none on.ScratchBinary = refl
given_none on.SourceState = refl

asked_of : (table : Table) → table ≡ table_asked (query_of_table table)
asked_of on.Office = refl
asked_of on.Arch = refl
asked_of on.Builder = refl
asked_of on.SourceRecord = refl
asked_of on.ScratchSource = refl
asked_of on.ScratchBinary = refl
asked_of on.SourceState = refl

-- ---- rows, one after another

-- one more row is added
pub row_added : (table : Table) (start made after : List TableRow) (shown : TableRow) (row : Row) (rest left all before : List Row) → before ++ left ≡ all → map row_of made ≡ map row_of start ++ with_table table before
    → left ≡ row ∷ rest → after ≡ made ++ shown ∷ [] → row_of shown ≡ (table, row)
    → (before : List Row) × (before ++ rest ≡ all) × (map row_of after ≡ map row_of start ++ with_table table before)
row_added table start made after shown row rest left all before whole so_far next pushed is = (
  before ++ row ∷ [],
  append_assoc before (row ∷ []) rest ∙ ap (λ l. before ++ l) (sym next) ∙ whole,
  ap (map row_of) pushed ∙ map-append row_of made (shown ∷ []) ∙ ap (λ l. l ++ row_of shown ∷ []) so_far ∙ ap (λ r. (map row_of start ++ with_table table before) ++ r ∷ []) is
      ∙ append_assoc (map row_of start) (with_table table before) ((table, row) ∷ []) ∙ ap (λ l. map row_of start ++ l) (sym (map-append (λ row. (table, row)) before (row ∷ []))),
)

-- ---- one table

asks : {text : List ℕ} (table : Table) → IsCurrent table → IsTextOfQuery (query_of_table table) text → AsksOf text [] (query_of_table table)
asks table current is_text = asks_of (query_of_table table) (subst IsCurrent (asked_of table) current) is_text (given_none table)

module _ {S : Type 0} {g : Ghosts S} {old new : Held S} (table : Table) (current : IsCurrent table) {text : List ℕ} (is_text : IsTextOfQuery (query_of_table table) text) {before after : List (Table × Row)} where
  -- the rows that the query answered
  pub shows_table : {A X : Type 0} {rows : Vec Row X} (r : Result A StoreFault) → ReadsTable g table text [] old new (Ok rows) → OnOk r (after ≡ before ++ with_table table rows.items)
      → IfErr r (IsUnfit table (AreRowsOf values_of AreReadableCells rows.items)) → ShowsTable g table before after old new r
  shows_table (Ok x) read is fault = record {
    value = λ clean machine scratch stands.
        is ∙ ap (λ l. before ++ with_table table l) (table_answer machine (state g old).now stands _ table current (answered (asks table current is_text) (state g old) stands.has (read.value clean)));
    same = λ clean office. read.same clean (plain_over (asks table current is_text) office);
    err = λ clean office. tt;
    survives = crash_over (asks table current is_text) g old new read.survives;
  }
  shows_table (Err e) read is fault = record {
    value = λ clean. tt;
    same = λ clean office. tt;
    err = λ clean office. elim fault [
      | inl memory ↦ inr (inl (memory, read.same clean (plain_over (asks table current is_text) office)))
      | inr unfit ↦ inr (inr (
        unfit.0,
        read.same clean (plain_over (asks table current is_text) office),
        λ machine scratch sound readable stands.
            unfit.1 (subst (AreRowsOf values_of AreReadableCells)
            (sym (table_answer machine (state g old).now stands _ table current (answered (asks table current is_text) (state g old) stands.has (read.value clean)))) (table_shown machine scratch sound readable table)),
      ))
    ];
    survives = crash_over (asks table current is_text) g old new read.survives;
  }

  -- none, of a query that failed
  pub shows_none : {A X : Type 0} {fault : StoreFault} {r : Result A StoreFault} → ReadsTable {X = X} g table text [] old new (Err fault) → r ≡ Err fault → ShowsTable g table before after old new r
  shows_none {A} {fault = fault} read is = subst (λ (r : Result A StoreFault). ShowsTable g table before after old new r) (sym is) (record {
    value = λ clean. tt;
    same = λ clean office. tt;
    err = λ clean office. inl (fails_to_read (asks table current is_text) (subst (λ t. IsQueryFault t text [] (state g old) (state g new) fault) (asked_of table) (read.err clean)));
    survives = crash_over (asks table current is_text) g old new read.survives;
  })

-- ---- tables, one after another

-- what holds of each table holds of the next that is left
pub next_current : (at : ℕ) (tables : List Table) {table : Table} {rest : List Table} → AllByRecursion IsCurrent tables → drop at tables ≡ table ∷ rest → IsCurrent table
next_current zero [] all is = absurd (cc)
next_current zero (first ∷ tables) {table} all is = let same : first ≡ table = cc in subst IsCurrent same all.0
next_current (suc at) [] all is = absurd (cc)
next_current (suc at) (first ∷ tables) all is = next_current at tables all.1 is

-- what is known while these tables are left to be shown
pub record HasShown {S : Type 0} (g : Ghosts S) (tables left : List Table) (before shown : List (Table × Row)) (old now : Held S) : Type 0 where
  pub value : HasCleanDisk (state g now) → (machine : Machine) (scratch : Scratch) → StandsWith machine scratch (state g old).now
      → shown ++ rows_of_tables machine scratch left ≡ before ++ rows_of_tables machine scratch tables
  pub same : HasCleanDisk (state g now) → HasOffice old.schema → StaysAs g old now
  pub survives : Survives (state g old) (state g now) (λ _. ¬ HasOffice old.schema)

-- all are left
pub all_left : {S : Type 0} (g : Ghosts S) (tables : List Table) (before : List (Table × Row)) (old : Held S) → HasShown g tables tables before before old old
all_left g tables before old = record {
  value = λ clean machine scratch stands. refl;
  same = λ clean office. inl refl;
  survives = survives_itself (state g old);
}

module _ {S : Type 0} {g : Ghosts S} {tables left : List Table} {before shown : List (Table × Row)} {old mid : Held S} (one : HasShown g tables left before shown old mid) where
  both_survive : (new : Held S) → (HasCleanDisk (state g new) → HasCleanDisk (state g mid)) → Survives (state g mid) (state g new) (λ _. ¬ HasOffice mid.schema)
      → Survives (state g old) (state g new) (λ _. ¬ HasOffice old.schema)
  both_survive new was later =
      survives_then (state g old) (state g mid) (state g new) _ _ _ (λ clean db other. other)
      (λ clean db other office. other (stays-schema g old mid (one.same (was clean) office) office)) one.survives later

  module _ {table : Table} {rest : List Table} (first : left ≡ table ∷ rest) {after : List (Table × Row)} {new : Held S} where
    -- the next one is shown
    pub one_shown : {A : Type 0} {x : A} → ShowsTable g table shown after mid new (Ok x) → HasShown g tables rest before after old new
    one_shown two =
        let was : HasCleanDisk (state g new) → HasCleanDisk (state g mid) = λ clean. was_clean (state g mid) (state g new) two.survives clean in
        record {
          value = λ clean machine scratch stands.
              let now : StandsWith machine scratch (state g mid).now = subst (StandsWith machine scratch) (sym (stays-now g old mid (one.same (was clean) stands.has))) stands in
              ap (λ l. l ++ rows_of_tables machine scratch rest) (two.value clean machine scratch now)
              ∙ append_assoc shown (with_table table (rows_of_table machine scratch table)) (rows_of_tables machine scratch rest)
              ∙ ap (λ (l : List Table). shown ++ rows_of_tables machine scratch l) (sym first) ∙ one.value (was clean) machine scratch stands;
          same = λ clean office.
              let stays = one.same (was clean) office in
              stays_then g old mid new stays (inr (two.same clean (stays-schema g old mid stays office), two.survives.limit));
          survives = both_survive new was two.survives;
        }

  -- the next one is not
  pub not_shown : {A B : Type 0} {table : Table} {after last : List (Table × Row)} {new : Held S} {fault : StoreFault} {r : Result B StoreFault} → ShowsTable {A = A} g table shown after mid new (Err fault)
      → r ≡ Err fault → ShowsRows g tables before last old new r
  not_shown {B = B} {table = table} {last = last} {new = new} {fault = fault} two is =
      let was : HasCleanDisk (state g new) → HasCleanDisk (state g mid) = λ clean. was_clean (state g mid) (state g new) two.survives clean in
      subst (λ (r : Result B StoreFault). ShowsRows g tables before last old new r) (sym is) (record {
        value = λ clean. tt;
        same = λ clean office. tt;
        err = λ clean office.
            let stays = one.same (was clean) office in (mid, table, stays, two.err clean (stays-schema g old mid stays office));
        survives = both_survive new was two.survives;
      })

  -- none is left
  pub none_left : {A : Type 0} {x : A} → left ≡ [] → ShowsRows g tables before shown old mid (Ok x)
  none_left done = record {
    value = λ clean machine scratch stands.
        sym (append-nil shown) ∙ ap (λ (l : List Table). shown ++ rows_of_tables machine scratch l) (sym done) ∙ one.value clean machine scratch stands;
    same = one.same;
    err = λ clean office. tt;
    survives = one.survives;
  }

-- ---- all of them

module _ {S : Type 0} {g : Ghosts S} {old new : Held S} where
  pub shows_all : {A : Type 0} {x : A} {tables : List Table} {start made : List TableRow} → tables ≡ office_tables → start ≡ [] → ShowsRows g tables (map row_of start) (map row_of made) old new (Ok x) → ShowsAll g old new (Ok made)
  shows_all {tables = tables} {start = start} are none shows = record {
    value = λ clean machine scratch stands.
        shows.value clean machine scratch stands ∙ ap (λ (l : List TableRow). map row_of l ++ rows_of_tables machine scratch tables) none ∙ ap (rows_of_tables machine scratch) are;
    same = shows.same;
    err = λ clean office. tt;
    survives = shows.survives;
  }

  pub shows_nothing : {A : Type 0} {tables : List Table} {before after : List (Table × Row)} {fault : StoreFault} {r : Result (List TableRow) StoreFault} → ShowsRows {A = A} g tables before after old new (Err fault)
      → r ≡ Err fault → ShowsAll g old new r
  shows_nothing shows is = subst (λ (r : Result (List TableRow) StoreFault). ShowsAll g old new r) (sym is) (record {
    value = λ clean. tt;
    same = λ clean office. tt;
    err = shows.err;
    survives = shows.survives;
  })
