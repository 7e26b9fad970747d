-- The steps by which an office of the first schema is brought over into the second.
use Rattle.std.proofs.Common.{◌≡◌, inl, inr, ℕ, true, List, [], ◌∷◌, Result, Ok, Err, IfErr, OnOk, refl, sym, ap, subst}
use Rattle.std.proofs.Common.{◌∙◌, arith, IsTrue}
use Rattle.std.specs.FinMap as finite
use Rattle.std.specs.List.{list_all}
use Rattle.sqlite_trees.specs.declared.store.Store.{Ghosts}
use Rattle.sqlite.specs.declared.error.Error.{Error}
use Rattle.sqlite.specs.Effect.{Database}
use Rattle.sqlite.specs.Held.{Held, state}
use Rattle.sqlite.specs.Order.{Row}
use Rattle.sqlite.specs.Schema.{Schema}
use Rattle.sqlite.specs.Term.{holds}
use Rattle.sqlite.specs.Tree.{put_row}
use Rattle.sqlite.specs.State.{State, Executes, HasCleanDisk}
use Rattle.sqlite.proofs.StateLemmas.{survives_then, survives_weaker}
use Rattle.wb_sql.specs.Among.{DeletesAmong, HasOffice, HasStates, IsNumbered, UpdatesAmong, rows_in, table_in}
use Rattle.wb_sql.specs.Among.{tree_named}
use Rattle.wb_sql.specs.Calls.{RunsStatement}
use Rattle.wb_sql.specs.Changes.{Deletes, IsOnlyOne, Updates}
use Rattle.wb_sql.specs.FirstSchema.{second_format}
use Rattle.wb_sql.specs.Making.{FailsAt, HasEmptyTables, Makes, MakesTables}
use Rattle.wb_sql.specs.Rows.{IsStored, without}
use Rattle.wb_sql.specs.Statements.{IsWriting}
use Rattle.wb_sql.specs.Tables.{office, arch, builder, source_record, source_state, scratch_source, scratch_binary}
use Rattle.wb_sql.specs.Transactions.{IsKeptOrUndone}
use Rattle.wb_sql.specs.Upgrading.{HasFirstOffice, with_second}
use Rattle.wb_sql.proofs.ApartLemmas.{other_rows, own_rows}
use Rattle.wb_sql.proofs.CallLemmas.{on_ok}
use Rattle.wb_sql.proofs.FirstOfficeLemmas.{first_numbered, first_office, first_schema}
use Rattle.wb_sql.proofs.QuietLemmas.{office_quiet, states_quiet}
use Rattle.wb_sql.proofs.UpdateLemmas.{updates_writes}
use Rattle.wb_sql.proofs.UpgradeLemmas.{office_upgraded, second_has_states, second_keeps_rows}
use Rattle.wb_sql.proofs.WriteLemmas.{deletes_writes}
use Rattle.wb_states.specs.declared.store_fault.StoreFault.{StoreFault}
use Rattle.wb_states.specs.declared.store_fault.Table as named
use Rattle.wb_states.specs.declared.store_fault.Table.TheVariants as on
use Rattle.wb_states.specs.Machine.{Machine}
use Rattle.wb_states.specs.Queue.{Entry}
use Rattle.deb_text.proofs.KeyLemmas.{pair_cmp-same, pair_cmp_total}
use Rattle.std.specs.Prelude.{⊤}
use Rattle.wb_store.specs.Calls.{Changes}
use Rattle.wb_store.specs.Faults.{answer_on}
use Rattle.wb_store.specs.MergeLaws.{survives_itself}
use Rattle.wb_store.specs.Others.{same_schema}
use Rattle.wb_store.specs.Stands.{HoldsRows, StandsFor, arch_rows, builder_rows, office_row, office_row_in}
use Rattle.wb_store.specs.Settled.{IsFirstOffice}
use Rattle.wb_store.specs.Upgrading.{FailsToMove, IsBetween, IsInside, IsMoved, IsUpgrading, Moves, with_records}
use Rattle.wb_store.specs.Upgrading.{without_records}
use Rattle.wb_store.specs.Writes as write
use Rattle.wb_store.specs.Writes.{IsTextOfWrite, OfficeWrite, table_written, written_by}
use Rattle.wb_store.specs.declared.format.Format.TheVariants.{One}
use Rattle.wb_store.proofs.ChangeRowLemmas.{office_typed, typed_at}
use Rattle.wb_store.proofs.MapLemmas.{all_inserted, inserted}
use Rattle.wb_store.proofs.NumberedLemmas.{numbered_of}
use Rattle.wb_store.proofs.OthersLemmas.{HasAllTables, office_either, over_kept, over_made, over_same, over_set}
use Rattle.wb_store.proofs.OthersLemmas.{over_then, same_has_all, states_either}
use Rattle.wb_store.proofs.PreparingLemmas.{no_records_held}
use Rattle.wb_store.proofs.RenewalLemmas.{only_row}
use Rattle.wb_store.proofs.StaysLemmas.{was_clean}

-- ---- steps, one after another

if_err : {A E : Type 0} {P Q : E → Type 0} (r : Result A E) → ((e : E) → P e → Q e) → IfErr r P → IfErr r Q
if_err (Ok x) follows h = tt
if_err (Err e) follows h = follows e h

module _ {S : Type 0} {g : Ghosts S} {first_become then_become : Schema → Schema} {Before Middle After : Database → Type 0} {old mid new : Held S} where
  -- one that succeeded, and the next
  pub moves_then : {A B : Type 0} {x : A} {r : Result B StoreFault} → HasAllTables first_become → Moves g first_become Before Middle old mid (Ok x) → Moves g then_become Middle After mid new r
      → Moves g (λ schema. then_become (first_become schema)) Before After old new r
  moves_then {r = r} all one two = record {
    ok = λ clean inside. follows_on r (λ before. one.ok (two.was_clean clean) inside before) (λ first. two.ok clean (within first));
    err = λ clean inside before.
        let first = one.ok (two.was_clean clean) inside before in
        if_err r (λ fault failed. (failed.0, failed.1, failed.2, failed.3, failed.4, failed.5, failed.6 ∙ one.limit, failed.7, failed.8, failed.9)) (two.err clean (within first) first.reached);
    survives = λ clean inside before.
        let first = one.ok (two.was_clean clean) inside before in
        survives_then (state g old) (state g mid) (state g new) (λ _. ⊥) (λ _. ⊥) (λ _. ⊥) (λ clean db none. none) (λ clean db none. none)
        (one.survives (two.was_clean clean) inside before) (two.survives clean (within first) first.reached);
    was_clean = λ clean. one.was_clean (two.was_clean clean);
    limit = two.limit ∙ one.limit;
  }
    where
      within : IsMoved first_become Middle (state g old) (state g mid) → IsInside (state g mid)
      within first = record { is_open = first.shown.is_open; inside = first.shown.mode }

      follows_on : {B : Type 0} (r : Result B StoreFault) → (Before (state g old).now → IsMoved first_become Middle (state g old) (state g mid))
          → (IsMoved first_become Middle (state g old) (state g mid) → OnOk r (Middle (state g mid).now → IsMoved then_become After (state g mid) (state g new)))
          → OnOk r (Before (state g old).now → IsMoved (λ schema. then_become (first_become schema)) After (state g old) (state g new))
      follows_on (Ok y) begins follows = λ before.
          let first = begins before in
          let second = follows first first.reached in
          record {
            reached = second.reached;
            others = over_then (state g old).now (state g mid).now (state g new).now all first.others second.others;
            shown = record {
              was_open = first.shown.was_open;
              is_open = second.shown.is_open;
              now_is = second.shown.now_is;
              committed_is = second.shown.committed_is ∙ first.shown.committed_is;
              mode = second.shown.mode;
            };
            marks = second.marks ∙ first.marks;
          }
      follows_on (Err e) begins follows = tt

-- no step at all
pub moves_none : {S A : Type 0} {g : Ghosts S} {Before After : Database → Type 0} {old : Held S} {x : A} → ((db : Database) → Before db → After db) → Moves g same_schema Before After old old (Ok x)
moves_none {g = g} {old = old} follows = record {
  ok = λ clean inside before. record {
    reached = follows (state g old).now before;
    others = over_same (state g old).now;
    shown = record { was_open = inside.is_open; is_open = inside.is_open; now_is = refl; committed_is = refl; mode = inside.inside };
    marks = refl;
  };
  err = λ clean inside before. tt;
  survives = λ clean inside before. survives_itself (state g old);
  was_clean = λ clean. clean;
  limit = refl;
}

-- one that failed is the last
pub moves_failed : {S A B : Type 0} {g : Ghosts S} {become whole : Schema → Schema} {Before Middle After : Database → Type 0} {old new : Held S} {fault : StoreFault} {r : Result B StoreFault}
    → Moves {A = A} g become Before Middle old new (Err fault) → r ≡ Err fault → Moves g whole Before After old new r
moves_failed {B = B} {g = g} {whole = whole} {Before = Before} {After = After} {old = old} {new = new} one is = subst (λ (r : Result B StoreFault). Moves g whole Before After old new r) (sym is) (record {
  ok = λ clean inside. tt;
  err = one.err;
  survives = one.survives;
  was_clean = one.was_clean;
  limit = one.limit;
})

-- ---- one statement

ok_on : {A : Type 0} (P : Type 0) (table : named.Table) (r : Result A Error) → OnOk r P → OnOk (answer_on r table) P
ok_on P table (Ok x) h = h
ok_on P table (Err e) h = tt

err_on : {S A : Type 0} (g : Ghosts S) (sql : List ℕ) (params : Row) (old new : Held S) (table : named.Table) → IsUpgrading (state g old).now.schema sql params table → IsTrue (state g old).in_transaction → (r : Result A Error)
    → IfErr r (λ e. Executes sql params (state g old) (state g new) (Err e) × IsKeptOrUndone (state g old) (state g new)) → IfErr (answer_on r table) (FailsToMove g old new)
err_on g sql params old new table names inside (Ok x) h = tt
err_on g sql params old new table names inside (Err e) h = (old, sql, params, e, table, inside, refl, names, h.0, refl)

module _ {S A : Type 0} {g : Ghosts S} {sql : List ℕ} {params : Row} {old new : Held S} {r : Result A Error} {answer : Result A StoreFault} {Before After : Database → Type 0} where
  -- what a statement that writes makes of the database
  pub statement_moves : (table : named.Table) → IsUpgrading (state g old).now.schema sql params table → (Done : State → State → Type 0) → (Before (state g old).now → IsWriting old.schema sql)
      → (Before (state g old).now → Done (state g old) (state g new) → IsMoved same_schema After (state g old) (state g new))
      → RunsStatement g sql params old new r → (HasCleanDisk (state g new) → OnOk r (Done (state g old) (state g new))) → answer ≡ answer_on r table → Moves g same_schema Before After old new answer
  statement_moves table names Done writes makes ran ok is =
      subst (λ (t : Result A StoreFault). Moves g same_schema Before After old new t) (sym is) (record {
        ok = λ clean inside. ok_on _ table r (on_ok r (λ done before. makes before done) (ok clean));
        err = λ clean inside before. err_on g sql params old new table names inside.inside r (ran.err clean inside.inside);
        survives = λ clean inside before. survives_weaker (state g old) (state g new) _ _ (λ clean db none. none (writes before)) ran.survives;
        was_clean = was_clean (state g old) (state g new) ran.survives;
        limit = ran.survives.limit;
      })

-- a change of a state moves a database that stands for it
pub changes_move : {S A : Type 0} {g : Ghosts S} {write : OfficeWrite} {Allows : Machine → Type 0} {after : Machine → Machine} {old new : Held S} {r : Result A StoreFault} (machine : Machine) → Allows machine
    → ((schema : Schema) (sql : List ℕ) → IsTextOfWrite write sql → IsUpgrading schema sql (written_by write) (table_written write)) → Changes g write Allows after old new r
    → Moves g same_schema (StandsFor machine) (StandsFor (after machine)) old new r
changes_move {g = g} {old = old} {new = new} {r = r} machine allows names changes = record {
  ok = λ clean inside. on_ok r (λ becomes stands.
      let made = becomes machine stands allows in
      record { reached = made.stands; others = over_kept (state g old).now (state g new).now made.others; shown = made.shown; marks = made.marks }) (changes.ok clean);
  err = λ clean inside stands. if_err r (λ fault failed. (old, failed.sql, _, failed.error, _, inside.inside, refl, names (state g old).now.schema failed.sql failed.text, failed.failed, failed.fault_is)) (changes.err clean inside.inside);
  survives = λ clean inside stands. survives_weaker (state g old) (state g new) _ _ (λ clean db none. none stands.has) changes.survives;
  was_clean = was_clean (state g old) (state g new) changes.survives;
  limit = changes.survives.limit;
}

-- ---- the tables are made

module _ {S : Type 0} (g : Ghosts S) (old new : Held S) (machine : Machine) where
  -- what is made of an office of the first schema
  between_made : IsFirstOffice machine (state g old).now → MakesTables old.schema.tables (with_second old.schema) (source_record ∷ []) (state g old) (state g new)
      → IsBetween machine (office_row_in One machine) IsStored (state g new).now
  between_made office_is made =
      let base = old.schema in
      let stands = office_is.stands in
      let tables = stands.has.tables in
      let numbered = numbered_of base (state g old).now.trees office_is.sound in
      record {
        has = subst HasOffice (sym made.made.schema_is) (office_upgraded base stands.has numbered);
        old = subst HasStates (sym made.made.schema_is) (second_has_states base stands.has numbered);
        counts_are = second_keeps_rows base office tables.office_is.has (state g old) (state g new) refl made ∙ stands.counts;
        archs = subst (HoldsRows (arch_rows machine)) (sym (second_keeps_rows base arch tables.archs_are.has (state g old) (state g new) refl made)) stands.archs;
        builders = subst (HoldsRows (builder_rows machine)) (sym (second_keeps_rows base builder tables.builders_are.has (state g old) (state g new) refl made)) stands.builders;
        records = made.made.empty.0;
        states = subst IsStored (sym (second_keeps_rows base source_state tables.states_are.has (state g old) (state g new) refl made)) stands.records.stored;
        sources = second_keeps_rows base scratch_source tables.sources_are.has (state g old) (state g new) refl made ∙ stands.sources;
        binaries = second_keeps_rows base scratch_binary tables.binaries_are.has (state g old) (state g new) refl made ∙ stands.binaries;
      }

  pub tables_moved : {A : Type 0} {r : Result A Error} {answer : Result A StoreFault}
      → ((base : Schema) → HasFirstOffice base → IsNumbered base → Makes g base [] (MakesTables base.tables (with_second base) (source_record ∷ [])) old new r)
      → answer ≡ answer_on r on.SourceRecord → Moves g with_second (IsFirstOffice machine) (IsBetween machine (office_row_in One machine) IsStored) old new answer
  tables_moved {A} {r} {answer} makes is =
      let anywhere = makes first_schema first_office first_numbered in
      subst (λ (t : Result A StoreFault). Moves g with_second (IsFirstOffice machine) (IsBetween machine (office_row_in One machine) IsStored) old new t) (sym is) (record {
        ok = λ clean inside. ok_on _ on.SourceRecord r (made_on r (λ office_is. (there office_is).made clean none_made));
        err = λ clean inside office_is. fails_on r ((there office_is).err clean inside.inside none_made);
        survives = λ clean inside office_is. survives_weaker (state g old) (state g new) _ _ (λ clean db other. other none_made) (there office_is).survives;
        was_clean = was_clean (state g old) (state g new) anywhere.survives;
        limit = anywhere.survives.limit;
      })
    where
      there : IsFirstOffice machine (state g old).now → Makes g old.schema [] (MakesTables old.schema.tables (with_second old.schema) (source_record ∷ [])) old new r
      there office_is = makes old.schema office_is.stands.has (numbered_of old.schema (state g old).now.trees office_is.sound)

      none_made : HasEmptyTables old.schema [] (state g old)
      none_made = record { schema_is = refl; empty = tt }

      made_on : (r : Result A Error) → (IsFirstOffice machine (state g old).now → OnOk r (MakesTables old.schema.tables (with_second old.schema) (source_record ∷ []) (state g old) (state g new)))
          → OnOk r (IsFirstOffice machine (state g old).now → IsMoved with_second (IsBetween machine (office_row_in One machine) IsStored) (state g old) (state g new))
      made_on (Ok x) h = λ office_is.
          let made = h office_is in
          record { reached = between_made office_is made; others = over_made (state g old) (state g new) (source_record ∷ []) made; shown = made.shown; marks = made.marks }
      made_on (Err e) h = tt

      fails_on : (r : Result A Error) → IfErr r (FailsAt g old new) → IfErr (answer_on r on.SourceRecord) (FailsToMove g old new)
      fails_on (Ok x) h = tt
      fails_on (Err e) h = (h.0, h.1, [], e, on.SourceRecord, h.2, h.3, inl (h.4, refl, refl), h.5, refl)

-- ---- the records of the first schema are removed

none_left : (rows : List Row) → without (λ row. list_all (holds ([] ∷ row ∷ [])) []) rows ≡ []
none_left [] = refl
none_left (row ∷ rows) = none_left rows

module _ (machine : Machine) (counts : Row) (sql : List ℕ) (old new : State) where
  states_cleared : DeletesAmong source_state sql [] 0 → IsBetween machine counts IsStored old.now → Deletes sql [] old new → IsMoved same_schema (IsBetween machine counts (λ rows. rows ≡ [])) old new
  states_cleared text was does =
      let schema = old.now.schema in
      let is = was.old.has in
      let tree = tree_named schema source_state.name in
      let put = does (table_in schema source_state) [] 0 (text schema tree is (states_quiet schema was.has was.old)) was.states in
      let made = put.0 in
      let rows = without (λ row. list_all (holds ([] ∷ row ∷ [])) []) (rows_in old.now source_state) in
      let table = table_in schema source_state in
      record {
        reached = record {
          has = subst HasOffice (sym made.schema) was.has;
          old = subst HasStates (sym made.schema) was.old;
          counts_are = other_rows old new table rows office is made was.has.office_is (λ e. omega (arith, e)) ∙ was.counts_are;
          archs = subst (HoldsRows (arch_rows machine)) (sym (other_rows old new table rows arch is made was.has.arch_is (λ e. omega (arith, e)))) was.archs;
          builders = subst (HoldsRows (builder_rows machine)) (sym (other_rows old new table rows builder is made was.has.builder_is (λ e. omega (arith, e)))) was.builders;
          records = other_rows old new table rows source_record is made was.has.record_is (λ e. omega (arith, e)) ∙ was.records;
          states = own_rows old new source_state rows made ∙ none_left (rows_in old.now source_state);
          sources = other_rows old new table rows scratch_source is made was.has.source_is (λ e. omega (arith, e)) ∙ was.sources;
          binaries = other_rows old new table rows scratch_binary is made was.has.binary_is (λ e. omega (arith, e)) ∙ was.binaries;
        };
        others = over_set old new table rows is (states_either schema) made;
        shown = made.shown;
        marks = made.marks;
      }

pub states_moved : {S A : Type 0} {g : Ghosts S} {old new : Held S} {r : Result A Error} {answer : Result A StoreFault} {sql : List ℕ} {params : Row} (machine : Machine) (counts : Row) → DeletesAmong source_state sql [] 0
    → params ≡ [] → RunsStatement g sql params old new r → (HasCleanDisk (state g new) → OnOk r (Deletes sql params (state g old) (state g new))) → answer ≡ answer_on r on.SourceState
    → Moves g same_schema (IsBetween machine counts IsStored) (IsBetween machine counts (λ rows. rows ≡ [])) old new answer
states_moved {g = g} {old = old} {new = new} {sql = sql} {params = params} machine counts text none =
    statement_moves on.SourceState (inr (inl (text, none, refl))) (Deletes sql params)
    (λ was. deletes_writes old.schema sql (table_in old.schema source_state) [] (text old.schema (tree_named old.schema source_state.name) was.old.has (states_quiet old.schema was.has was.old)))
    (λ was does. states_cleared machine counts sql (state g old) (state g new) text was (subst (λ p. Deletes sql p (state g old) (state g new)) none does))

-- ---- the office gets the second format

module _ (machine : Machine) (sql : List ℕ) (old new : State) where
  format_set : UpdatesAmong office sql [] second_format 0 → IsBetween machine (office_row_in One machine) (λ rows. rows ≡ []) old.now → Updates sql [] old new
      → IsMoved same_schema (StandsFor (without_records machine)) old new
  format_set text was does =
      let schema = old.now.schema in
      let is = was.has.office_is in
      let tree = tree_named schema office.name in
      let stored : IsStored (rows_in old.now office) = subst IsStored (sym was.counts_are) (record { whole = refl; rising = (tt, tt) }) in
      let only : IsOnlyOne [] [] (rows_in old.now office) (office_row_in One machine) = subst (λ all. IsOnlyOne [] [] all (office_row_in One machine)) (sym was.counts_are) (only_row [] (office_row_in One machine)) in
      let typed = typed_at tree office (office_row machine) (office_typed machine) in
      let made = (does (table_in schema office) [] second_format 0 (office_row_in One machine) (text schema tree is (office_quiet schema was.has)) stored only typed).0 in
      let rows = put_row (office_row machine) (without (λ other. true) (rows_in old.now office)) in
      let row : rows ≡ office_row machine ∷ [] = ap (λ all. put_row (office_row machine) (without (λ other. true) all)) was.counts_are in
      let table = table_in schema office in
      record {
        reached = record {
          has = subst HasOffice (sym made.schema) was.has;
          counts = own_rows old new office rows made ∙ row;
          archs = subst (HoldsRows (arch_rows machine)) (sym (other_rows old new table rows arch is made was.has.arch_is (λ e. omega (arith, e)))) was.archs;
          builders = subst (HoldsRows (builder_rows machine)) (sym (other_rows old new table rows builder is made was.has.builder_is (λ e. omega (arith, e)))) was.builders;
          records = no_records_held (without_records machine) (rows_in new.now source_record) refl (other_rows old new table rows source_record is made was.has.record_is (λ e. omega (arith, e)) ∙ was.records);
          sources = other_rows old new table rows scratch_source is made was.has.source_is (λ e. omega (arith, e)) ∙ was.sources;
          binaries = other_rows old new table rows scratch_binary is made was.has.binary_is (λ e. omega (arith, e)) ∙ was.binaries;
          order = record { sources = tt; binaries = tt };
          emptied = λ states. other_rows old new table rows source_state is made was.old.has (λ e. omega (arith, e)) ∙ was.states;
        };
        others = over_set old new table rows is (office_either schema) made;
        shown = made.shown;
        marks = made.marks;
      }

pub format_moved : {S A : Type 0} {g : Ghosts S} {old new : Held S} {r : Result A Error} {answer : Result A StoreFault} {sql : List ℕ} {params : Row} (machine : Machine) → UpdatesAmong office sql [] second_format 0
    → params ≡ [] → RunsStatement g sql params old new r → (HasCleanDisk (state g new) → OnOk r (Updates sql params (state g old) (state g new))) → answer ≡ answer_on r on.Office
    → Moves g same_schema (IsBetween machine (office_row_in One machine) (λ rows. rows ≡ [])) (StandsFor (without_records machine)) old new answer
format_moved {g = g} {old = old} {new = new} {sql = sql} {params = params} machine text none =
    statement_moves on.Office (inr (inr (inl (text, none, refl)))) (Updates sql params)
    (λ was. updates_writes old.schema sql (table_in old.schema office) [] second_format (text old.schema (tree_named old.schema office.name) was.has.office_is (office_quiet old.schema was.has)))
    (λ was does. format_set machine sql (state g old) (state g new) text was (subst (λ p. Updates sql p (state g old) (state g new)) none does))

-- ---- the records are put

-- each of the entries of a state, inserted into the state without them
with_inserted : (machine : Machine) (entries : List Entry) → with_records machine entries ≡ record machine { records = inserted pair_cmp_total pair_cmp-same machine.records entries }
with_inserted machine [] = refl
with_inserted machine (entry ∷ entries) = with_inserted (record machine { records = finite.insert machine.records entry.0 entry.1 }) entries

pub all_records : (machine : Machine) → with_records (without_records machine) (finite.entries machine.records) ≡ machine
all_records machine =
    with_inserted (without_records machine) (finite.entries machine.records)
    ∙ ap (λ records. record machine { records = records }) (all_inserted pair_cmp_total pair_cmp-same machine.records)

-- a record is put by a statement of an upgrade
puts_record : (entry : Entry) (schema : Schema) (sql : List ℕ) → IsTextOfWrite (write.PutsRecord entry) sql
    → IsUpgrading schema sql (written_by (write.PutsRecord entry)) (table_written (write.PutsRecord entry))
puts_record entry schema sql text = inr (inr (inr (entry, text, refl, refl)))

-- what is known while these records are left
pub record IsOnWay {S : Type 0} (g : Ghosts S) (machine : Machine) (all left : List Entry) (old now : Held S) : Type 0 where
  pub so_far : Machine
  pub whole : with_records so_far left ≡ with_records machine all
  pub moves : (new : Held S) (r : Result (Unit {0}) StoreFault) → Moves g same_schema (StandsFor so_far) (StandsFor (with_records machine all)) now new r
      → Moves g same_schema (StandsFor machine) (StandsFor (with_records machine all)) old new r

-- all are left
pub all_left : {S : Type 0} (g : Ghosts S) (machine : Machine) (all : List Entry) (old : Held S) → IsOnWay g machine all all old old
all_left g machine all old = record { so_far = machine; whole = refl; moves = λ new r moves. moves }

module _ {S : Type 0} {g : Ghosts S} {machine : Machine} {all left : List Entry} {old now : Held S} (way : IsOnWay g machine all left old now) where
  module _ {entry : Entry} {rest : List Entry} (first : left ≡ entry ∷ rest) {new : Held S} where
    -- one more is put
    pub one_put : {A : Type 0} {x : A} → Changes g (write.PutsRecord entry) (λ _. ⊤) (λ machine. record machine { records = finite.insert machine.records entry.0 entry.1 }) now new (Ok x)
        → IsOnWay g machine all rest old new
    one_put changes = record {
      so_far = record way.so_far { records = finite.insert way.so_far.records entry.0 entry.1 };
      whole = ap (with_records way.so_far) (sym first) ∙ way.whole;
      moves = λ last r moves. way.moves last r (moves_then same_has_all (changes_move way.so_far tt (puts_record entry) changes) moves);
    }

    -- one is not
    pub not_put : {A : Type 0} {fault : StoreFault} {r : Result (Unit {0}) StoreFault}
        → Changes {A = A} g (write.PutsRecord entry) (λ _. ⊤) (λ machine. record machine { records = finite.insert machine.records entry.0 entry.1 }) now new (Err fault) → r ≡ Err fault
        → Moves g same_schema (StandsFor machine) (StandsFor (with_records machine all)) old new r
    not_put {r = r} changes is = way.moves new r (moves_failed (changes_move way.so_far tt (puts_record entry) changes) is)

  -- none is left
  pub all_put : left ≡ [] → Moves g same_schema (StandsFor machine) (StandsFor (with_records machine all)) old now (Ok (tt {0}))
  all_put none = way.moves now (Ok (tt {0})) (moves_none (λ db. subst (λ m. StandsFor m db) (ap (with_records way.so_far) (sym none) ∙ way.whole)))
