-- What a statement on one of the office's tables makes of the state for which the database stands.
use Rattle.std.specs.Prelude.{⊤}
use Rattle.std.proofs.Common.{◌≡◌, ◌≢◌, ℕ, ℤ, pos, true, false, not, List, [], ◌∷◌, length, map, filter, drop, None, Result, Ok, Err, IfErr, OnOk, refl, arith, sym, ap, ap₂, subst, ◌∙◌, IsPermutation}
use Rattle.std.specs.FinMap as finite
use Rattle.std.specs.FinSet as set
use Rattle.std.specs.Option.{IsSome}
use Rattle.std.proofs.lemmas.List.Sorted.{IsPermutation-sym, IsPermutation-cons, IsPermutation-trans, IsPermutation-map}
use Rattle.sqlite_trees.specs.declared.store.Store.{Ghosts}
use Rattle.sqlite.specs.declared.error.Error.{Error}
use Rattle.sqlite.specs.declared.types.Value.TheVariants.{Null, Int, Text}
use Rattle.sqlite.specs.Held.{Held, state}
use Rattle.sqlite.specs.Value.{owned}
use Rattle.sqlite.specs.Values.{bound_value}
use Rattle.sqlite_value.specs.declared.value.ValueRef.{ValueRef}
use Rattle.sqlite.specs.Order.{Row}
use Rattle.sqlite.specs.Tree.{put_row}
use Rattle.sqlite.specs.Schema.{Schema}
use Rattle.sqlite.specs.Table.{Table}
use Rattle.sqlite.specs.State.{State, HasCleanDisk, Executes}
use Rattle.sqlite.proofs.StateLemmas.{survives_weaker}
use Rattle.deb_text.specs.Text.{pair_cmp}
use Rattle.deb_text.proofs.KeyLemmas.{text_cmp_total, text_cmp-same, pair_cmp_total, pair_cmp-same}
use Rattle.wb_states.specs.declared.arch.OsCpu.{OsCpu}
use Rattle.wb_states.specs.declared.record.Record.{Record}
use Rattle.wb_states.specs.declared.store_fault.StoreFault.{StoreFault}
use Rattle.wb_states.specs.declared.store_fault.Table.TheVariants.{Office, Arch, Builder, SourceRecord}
use Rattle.wb_states.specs.Machine.{Machine, builder_pairs}
use Rattle.wb_states.specs.Queue.{Entry}
use Rattle.wb_sql.specs.Calls.{RunsStatement}
use Rattle.wb_sql.specs.Changes.{Inserts, Upserts, Updates, Deletes, SetsTable, IsOnlyOne}
use Rattle.wb_sql.specs.Rows.{cells_of, apart, without, IsStored}
use Rattle.wb_sql.specs.Statements.{IsWriting}
use Rattle.wb_sql.specs.Transactions.{IsKeptOrUndone}
use Rattle.wb_sql.proofs.CallLemmas.{on_ok}
use Rattle.wb_sql.proofs.WriteLemmas.{inserts_writes, deletes_writes}
use Rattle.wb_sql.proofs.UpsertLemmas.{upserts_writes}
use Rattle.wb_sql.proofs.UpdateLemmas.{updates_writes}
use Rattle.wb_sql.proofs.QuietLemmas.{office_quiet, arch_quiet, builder_quiet, record_quiet}
use Rattle.wb_sql.specs.Tables.{office, arch, builder, source_record, source_state, scratch_source, scratch_binary}
use Rattle.wb_sql.specs.Among.{HasTable, HasOffice, HasStates, InsertsAmong, UpsertsRecords, UpdatesAmong, DeletesAmong, table_in, tree_named, rows_in}
use Rattle.wb_sql.specs.OfficeStatements.{office_sets, arch_row as arch_terms, builder_row as builder_terms}
use Rattle.wb_sql.specs.OfficeStatements.{record_row as record_terms, record_sets, record_key, has_arch_name, has_pair}
use Rattle.wb_sql.specs.OfficeStatements.{has_record_key}
use Rattle.wb_sql.proofs.RecordLemmas.{arch_typed, builder_typed}
use Rattle.wb_rows.specs.Cells.{record_cells, arch_cells, builder_cells, number}
use Rattle.wb_store.specs.Merging.{Scratch, no_merge, stored_source, stored_binary}
use Rattle.wb_store.specs.Stands.{AreEmptied, HoldsRows, StandsWith, office_row, record_rows, arch_rows, builder_rows}
use Rattle.wb_store.specs.Calls.{BecomesWith, Changes, FailsToWrite}
use Rattle.wb_store.specs.Faults.{answer_on}
use Rattle.wb_store.specs.Writes as write
use Rattle.wb_store.specs.Writes.{IsTextOfWrite, OfficeWrite, table_written, written_by}
use Rattle.wb_store.proofs.OthersLemmas.{others_kept, office_named, arch_named, builder_named, record_named}
use Rattle.wb_store.proofs.MapLemmas.{entries-insert, entries-added, items-added}
use Rattle.wb_store.proofs.ChangeRowLemmas.{archs_without, begins_with, is_of_arch, pairs_without, passes}
use Rattle.wb_store.proofs.ChangeRowLemmas.{cells_without, cells_without_arch, cells_apart, records_without}
use Rattle.wb_store.proofs.ChangeRowLemmas.{record_decides, office_typed, entry_typed, typed_at}
use Rattle.wb_store.proofs.RenewalLemmas.{only_row, row_renewed}
use Rattle.wb_sql.proofs.ApartLemmas.{other_rows, own_rows}

-- ---- any statement that writes

-- what a statement that writes makes of the state
pub statement_changes : {S A : Type 0} {g : Ghosts S} {sql : List ℕ} {params : Row} {Allows : Machine → Type 0} {after : Machine → Machine} {old new : Held S} {r : Result A Error} {answer : Result A StoreFault} (write : OfficeWrite) (Done : State → State → Type 0)
    → IsTextOfWrite write sql → params ≡ written_by write → ((schema : Schema) → HasOffice schema → IsWriting schema sql)
    → ((machine : Machine) (scratch : Scratch) → StandsWith machine scratch (state g old).now → Allows machine → (state g new).step_limit ≡ (state g old).step_limit → Done (state g old) (state g new)
    → BecomesWith (after machine) scratch (state g old) (state g new))
    → RunsStatement g sql params old new r → (HasCleanDisk (state g new) → OnOk r (Done (state g old) (state g new))) → answer ≡ answer_on r (table_written write) → Changes g write Allows after old new answer
statement_changes {A = A} {g = g} {sql = sql} {params = params} {Allows = Allows} {after = after} {old = old} {new = new} {r = r} write Done text given writes makes ran ok is =
    subst (λ (t : Result A StoreFault). Changes g write Allows after old new t) (sym is) (record {
      ok = λ clean. ok_on _ r (on_ok r (λ done machine stands allows. makes machine no_merge stands allows ran.survives.limit done) (ok clean));
      beside = λ clean. ok_on _ r (on_ok r (λ done machine scratch stands allows. makes machine scratch stands allows ran.survives.limit done) (ok clean));
      err = λ clean inside. err_on r (ran.err clean inside);
      ended = λ over. let ended = ran.ended over in (ap (λ answered. answer_on answered (table_written write)) ended.0, ended.1);
      survives = survives_weaker (state g old) (state g new) _ _ (λ clean db none has. none (writes old.schema has)) ran.survives;
    })
  where
    ok_on : (P : Type 0) (answered : Result A Error) → OnOk answered P → OnOk (answer_on answered (table_written write)) P
    ok_on P (Ok x) h = h
    ok_on P (Err e) h = tt

    err_on : (answered : Result A Error) → IfErr answered (λ e. Executes sql params (state g old) (state g new) (Err e) × IsKeptOrUndone (state g old) (state g new))
        → IfErr (answer_on answered (table_written write)) (FailsToWrite write (state g old) (state g new))
    err_on (Ok x) h = tt
    err_on (Err e) h = record {
      error = e;
      sql = sql;
      text = text;
      failed = subst (λ row. Executes sql row (state g old) (state g new) (Err e)) given h.0;
      fault_is = refl;
      left = h.1;
    }

-- ---- the other tables

module _ {machine : Machine} {scratch : Scratch} {old new : State} (stands : StandsWith machine scratch old.now) (table : Table) (rows : List Row) (is : HasTable old.now.schema table) (made : SetsTable table rows old new) where
  pub still_has : HasOffice new.now.schema
  still_has = subst HasOffice (sym made.schema) stands.has

  pub still_counts : length office.columns ≢ length table.columns → rows_in new.now office ≡ office_row machine ∷ []
  still_counts differ = other_rows old new table rows office is made stands.has.office_is differ ∙ stands.counts

  pub still_archs : length arch.columns ≢ length table.columns → HoldsRows (arch_rows machine) (rows_in new.now arch)
  still_archs differ = subst (HoldsRows (arch_rows machine)) (sym (other_rows old new table rows arch is made stands.has.arch_is differ)) stands.archs

  pub still_builders : length builder.columns ≢ length table.columns → HoldsRows (builder_rows machine) (rows_in new.now builder)
  still_builders differ = subst (HoldsRows (builder_rows machine)) (sym (other_rows old new table rows builder is made stands.has.builder_is differ)) stands.builders

  pub still_records : length source_record.columns ≢ length table.columns → HoldsRows (record_rows machine) (rows_in new.now source_record)
  still_records differ = subst (HoldsRows (record_rows machine)) (sym (other_rows old new table rows source_record is made stands.has.record_is differ)) stands.records

  pub still_sources : length scratch_source.columns ≢ length table.columns → rows_in new.now scratch_source ≡ map stored_source scratch.sources
  still_sources differ = other_rows old new table rows scratch_source is made stands.has.source_is differ ∙ stands.sources

  pub still_binaries : length scratch_binary.columns ≢ length table.columns → rows_in new.now scratch_binary ≡ map stored_binary scratch.binaries
  still_binaries differ = other_rows old new table rows scratch_binary is made stands.has.binary_is differ ∙ stands.binaries

  pub still_emptied : length source_state.columns ≢ length table.columns → AreEmptied new.now
  still_emptied differ states =
      let there : HasStates old.now.schema = subst HasStates made.schema states in
      other_rows old new table rows source_state is made there.has differ ∙ stands.emptied there

-- the rows of an office's table, after a change that kept the schema
moved : (old new : State) (t : Table) (columns : List Row) → new.now.schema ≡ old.now.schema → HoldsRows columns (new.now.trees (tree_named old.now.schema t.name)) → HoldsRows columns (rows_in new.now t)
moved old new t columns same = subst (λ (s : Schema). HoldsRows columns (new.now.trees (tree_named s t.name))) (sym same)

-- rows beside which one more is put
rows_beside : {X : Type 0} (columns : X → Row) (x : X) (xs ys : List X) (left : List Row) (rows : List Row) → IsPermutation (x ∷ xs) ys → IsPermutation (map columns xs) left → IsStored rows
    → IsPermutation (columns x ∷ left) (cells_of rows) → HoldsRows (map columns ys) rows
rows_beside columns x xs ys left rows same kept stored put = record {
  stored = stored;
  same = IsPermutation-trans (map columns ys) (map columns (x ∷ xs)) (cells_of rows) (IsPermutation-sym (map columns (x ∷ xs)) (map columns ys) (IsPermutation-map columns (x ∷ xs) ys same))
      (IsPermutation-trans (columns x ∷ map columns xs) (columns x ∷ left) (cells_of rows) (IsPermutation-cons (columns x) (map columns xs) left kept) put);
}

-- ---- each statement

module _ (sql : List ℕ) (machine : Machine) {scratch : Scratch} (old new : State) (stands : StandsWith machine scratch old.now) (limit : new.step_limit ≡ old.step_limit) where
  abbrev schema : Schema
  schema = old.now.schema

  -- the office's row with these counts, under the same rowid
  pub counts_set : (handed accepted : ℕ) → UpdatesAmong office sql [] office_sets 2 → Updates sql (number handed ∷ number accepted ∷ []) old new
      → BecomesWith (record machine { handed = handed; accepted = accepted }) scratch old new
  counts_set handed accepted text does =
      let after : Machine = record machine { handed = handed; accepted = accepted } in
      let params : Row = number handed ∷ number accepted ∷ [] in
      let stored : IsStored (rows_in old.now office) = subst IsStored (sym stands.counts) (record { whole = refl; rising = (tt, tt) }) in
      let only : IsOnlyOne [] params (rows_in old.now office) (office_row machine) = subst (λ all. IsOnlyOne [] params all (office_row machine)) (sym stands.counts) (only_row params (office_row machine)) in
      let tree = tree_named schema office.name in
      let typed = typed_at tree office (office_row after) (office_typed after) in
      let made = (does (table_in schema office) [] office_sets 2 (office_row machine) (text schema tree stands.has.office_is (office_quiet schema stands.has)) stored only typed).0 in
      let rows = put_row (office_row after) (without (λ other. true) (rows_in old.now office)) in
      let row : rows ≡ office_row after ∷ [] = ap (λ all. put_row (office_row after) (without (λ other. true) all)) stands.counts in
      record {
        stands = record {
          has = still_has stands (table_in schema office) rows stands.has.office_is made;
          counts = own_rows old new office rows made ∙ row;
          archs = still_archs stands (table_in schema office) rows stands.has.office_is made (λ e. omega (arith, e));
          builders = still_builders stands (table_in schema office) rows stands.has.office_is made (λ e. omega (arith, e));
          records = still_records stands (table_in schema office) rows stands.has.office_is made (λ e. omega (arith, e));
          sources = still_sources stands (table_in schema office) rows stands.has.office_is made (λ e. omega (arith, e));
          binaries = still_binaries stands (table_in schema office) rows stands.has.office_is made (λ e. omega (arith, e));
          order = stands.order;
          emptied = still_emptied stands (table_in schema office) rows stands.has.office_is made (λ e. omega (arith, e));
        };
        schema_is = made.schema;
        shown = made.shown;
        limit = limit;
        marks = made.marks;
        others = others_kept old new (table_in schema office) rows stands.has.office_is (office_named schema) made;
      }

  -- one more architecture
  pub arch_put : (name : List ℕ) (words : OsCpu) → InsertsAmong arch sql arch_terms 3 → finite.get machine.archs name ≡ None → Inserts sql (arch_cells (name, words)) old new
      → BecomesWith (record machine { archs = finite.insert machine.archs name words }) scratch old new
  arch_put name words text unknown does =
      let tree = tree_named schema arch.name in
      let typed = typed_at tree arch (Null ∷ arch_cells (name, words)) (arch_typed name words.os words.cpu) in
      let put = does (table_in schema arch) arch_terms 3 (text schema tree stands.has.arch_is (arch_quiet schema stands.has)) stands.archs.stored typed in
      let made = put.0 in
      let after = finite.insert machine.archs name words in
      let holds : HoldsRows (map arch_cells (finite.entries after)) (new.now.trees tree) =
      rows_beside arch_cells (name, words) (finite.entries machine.archs) (finite.entries after) (cells_of (rows_in old.now arch)) (new.now.trees tree)
      (entries-added text_cmp_total text_cmp-same machine.archs name words unknown) stands.archs.same put.1 put.2 in
      record {
        stands = record {
          has = still_has stands (table_in schema arch) _ stands.has.arch_is made;
          counts = still_counts stands (table_in schema arch) _ stands.has.arch_is made (λ e. omega (arith, e));
          archs = moved old new arch _ made.schema holds;
          builders = still_builders stands (table_in schema arch) _ stands.has.arch_is made (λ e. omega (arith, e));
          records = still_records stands (table_in schema arch) _ stands.has.arch_is made (λ e. omega (arith, e));
          sources = still_sources stands (table_in schema arch) _ stands.has.arch_is made (λ e. omega (arith, e));
          binaries = still_binaries stands (table_in schema arch) _ stands.has.arch_is made (λ e. omega (arith, e));
          order = stands.order;
          emptied = still_emptied stands (table_in schema arch) _ stands.has.arch_is made (λ e. omega (arith, e));
        };
        schema_is = made.schema;
        shown = made.shown;
        limit = limit;
        marks = made.marks;
        others = others_kept old new (table_in schema arch) _ stands.has.arch_is (arch_named schema) made;
      }

  -- one more pair of a builder and an architecture
  pub builder_put : (name of : List ℕ) → InsertsAmong builder sql builder_terms 2 → set.contains machine.builders (name, of) ≡ false → Inserts sql (builder_cells (name, of)) old new
      → BecomesWith (record machine { builders = set.insert machine.builders (name, of) }) scratch old new
  builder_put name of text unknown does =
      let after : Machine = record machine { builders = set.insert machine.builders (name, of) } in
      let tree = tree_named schema builder.name in
      let typed = typed_at tree builder (Null ∷ builder_cells (name, of)) (builder_typed name of) in
      let put = does (table_in schema builder) builder_terms 2 (text schema tree stands.has.builder_is (builder_quiet schema stands.has)) stands.builders.stored typed in
      let made = put.0 in
      let holds : HoldsRows (builder_rows after) (new.now.trees tree) =
      rows_beside builder_cells (name, of) (builder_pairs machine) (builder_pairs after) (cells_of (rows_in old.now builder)) (new.now.trees tree)
      (items-added pair_cmp_total pair_cmp-same machine.builders (name, of) unknown) stands.builders.same put.1 put.2 in
      record {
        stands = record {
          has = still_has stands (table_in schema builder) _ stands.has.builder_is made;
          counts = still_counts stands (table_in schema builder) _ stands.has.builder_is made (λ e. omega (arith, e));
          archs = still_archs stands (table_in schema builder) _ stands.has.builder_is made (λ e. omega (arith, e));
          builders = moved old new builder _ made.schema holds;
          records = still_records stands (table_in schema builder) _ stands.has.builder_is made (λ e. omega (arith, e));
          sources = still_sources stands (table_in schema builder) _ stands.has.builder_is made (λ e. omega (arith, e));
          binaries = still_binaries stands (table_in schema builder) _ stands.has.builder_is made (λ e. omega (arith, e));
          order = stands.order;
          emptied = still_emptied stands (table_in schema builder) _ stands.has.builder_is made (λ e. omega (arith, e));
        };
        schema_is = made.schema;
        shown = made.shown;
        limit = limit;
        marks = made.marks;
        others = others_kept old new (table_in schema builder) _ stands.has.builder_is (builder_named schema) made;
      }

  -- an architecture less
  pub arch_removed : (name : List ℕ) → DeletesAmong arch sql has_arch_name 1 → Deletes sql (Text name ∷ []) old new
      → BecomesWith (record machine { archs = finite.remove machine.archs name }) scratch old new
  arch_removed name text does =
      let tree = tree_named schema arch.name in
      let put = does (table_in schema arch) has_arch_name 1
      (text schema tree stands.has.arch_is (arch_quiet schema stands.has)) stands.archs.stored in
      let made = put.0 in
      let columns = map arch_cells (finite.entries (finite.remove machine.archs name)) in
      let was = rows_in old.now arch in
      let same : IsPermutation columns (cells_of (without (is_of_arch name) was)) = subst (IsPermutation columns)
      (sym (cells_without_arch name was)) (archs_without machine name (cells_of was) stands.archs.same) in
      let holds : HoldsRows columns (new.now.trees tree) = record
      { stored = put.1; same = subst (λ all. IsPermutation columns (cells_of all)) (sym made.rows_are) same } in
      record {
        stands = record {
          has = still_has stands (table_in schema arch) _ stands.has.arch_is made;
          counts = still_counts stands (table_in schema arch) _ stands.has.arch_is made (λ e. omega (arith, e));
          archs = moved old new arch _ made.schema holds;
          builders = still_builders stands (table_in schema arch) _ stands.has.arch_is made (λ e. omega (arith, e));
          records = still_records stands (table_in schema arch) _ stands.has.arch_is made (λ e. omega (arith, e));
          sources = still_sources stands (table_in schema arch) _ stands.has.arch_is made (λ e. omega (arith, e));
          binaries = still_binaries stands (table_in schema arch) _ stands.has.arch_is made (λ e. omega (arith, e));
          order = stands.order;
          emptied = still_emptied stands (table_in schema arch) _ stands.has.arch_is made (λ e. omega (arith, e));
        };
        schema_is = made.schema;
        shown = made.shown;
        limit = limit;
        marks = made.marks;
        others = others_kept old new (table_in schema arch) _ stands.has.arch_is (arch_named schema) made;
      }

  -- a pair of a builder and an architecture less
  pub builder_removed : (name of : List ℕ) → DeletesAmong builder sql has_pair 2
      → Deletes sql (Text name ∷ Text of ∷ []) old new
      → BecomesWith (record machine { builders = set.remove machine.builders (name, of) }) scratch old new
  builder_removed name of text does =
      let after : Machine = record machine { builders = set.remove machine.builders (name, of) } in
      let tree = tree_named schema builder.name in
      let put = does (table_in schema builder) has_pair 2
      (text schema tree stands.has.builder_is (builder_quiet schema stands.has)) stands.builders.stored in
      let made = put.0 in
      let was = rows_in old.now builder in
      let same : IsPermutation (builder_rows after) (cells_of (without (passes name of) was)) = subst
      (IsPermutation (builder_rows after)) (sym (cells_without name of was))
      (pairs_without machine name of (cells_of was) stands.builders.same) in
      let holds : HoldsRows (builder_rows after) (new.now.trees tree) = record {
        stored = put.1;
        same = subst (λ all. IsPermutation (builder_rows after) (cells_of all)) (sym made.rows_are)
            same;
      } in
      record {
        stands = record {
          has = still_has stands (table_in schema builder) _ stands.has.builder_is made;
          counts = still_counts stands (table_in schema builder) _ stands.has.builder_is made (λ e. omega (arith, e));
          archs = still_archs stands (table_in schema builder) _ stands.has.builder_is made (λ e. omega (arith, e));
          builders = moved old new builder _ made.schema holds;
          records = still_records stands (table_in schema builder) _ stands.has.builder_is made (λ e. omega (arith, e));
          sources = still_sources stands (table_in schema builder) _ stands.has.builder_is made (λ e. omega (arith, e));
          binaries = still_binaries stands (table_in schema builder) _ stands.has.builder_is made (λ e. omega (arith, e));
          order = stands.order;
          emptied = still_emptied stands (table_in schema builder) _ stands.has.builder_is made (λ e. omega (arith, e));
        };
        schema_is = made.schema;
        shown = made.shown;
        limit = limit;
        marks = made.marks;
        others = others_kept old new (table_in schema builder) _ stands.has.builder_is (builder_named schema) made;
      }

  -- other rows of records
  records_made : (after : finite.FinMap pair_cmp Record) (rows : List Row) → SetsTable (table_in schema source_record) rows old new
      → HoldsRows (map record_cells (finite.entries after)) (new.now.trees (tree_named schema source_record.name)) → BecomesWith (record machine { records = after }) scratch old new
  records_made after rows made holds =
      record {
        stands = record {
          has = still_has stands (table_in schema source_record) rows stands.has.record_is made;
          counts = still_counts stands (table_in schema source_record) rows stands.has.record_is made (λ e. omega (arith, e));
          archs = still_archs stands (table_in schema source_record) rows stands.has.record_is made (λ e. omega (arith, e));
          builders = still_builders stands (table_in schema source_record) rows stands.has.record_is made (λ e. omega (arith, e));
          records = moved old new source_record _ made.schema holds;
          sources = still_sources stands (table_in schema source_record) rows stands.has.record_is made (λ e. omega (arith, e));
          binaries = still_binaries stands (table_in schema source_record) rows stands.has.record_is made (λ e. omega (arith, e));
          order = stands.order;
          emptied = still_emptied stands (table_in schema source_record) rows stands.has.record_is made (λ e. omega (arith, e));
        };
        schema_is = made.schema;
        shown = made.shown;
        limit = limit;
        marks = made.marks;
        others = others_kept old new (table_in schema source_record) rows stands.has.record_is (record_named schema) made;
      }

  -- a record less
  pub record_removed : (of source : List ℕ) → DeletesAmong source_record sql has_record_key 2 → Deletes sql (Text of ∷ Text source ∷ []) old new
      → BecomesWith (record machine { records = finite.remove machine.records (of, source) }) scratch old new
  record_removed of source text does =
      let put = does (table_in schema source_record) has_record_key 2 (text schema (tree_named schema source_record.name) stands.has.record_is (record_quiet schema stands.has)) stands.records.stored in
      let columns = map record_cells (finite.entries (finite.remove machine.records (of, source))) in
      let was = rows_in old.now source_record in
      let rows = without (passes of source) was in
      let same : IsPermutation columns (cells_of rows) = subst (IsPermutation columns) (sym (cells_without of source was)) (records_without machine of source (cells_of was) stands.records.same) in
      records_made (finite.remove machine.records (of, source)) rows put.0
      (record { stored = put.1; same = subst (λ all. IsPermutation columns (cells_of all)) (sym put.0.rows_are) same })

  -- a record beside those that have other keys
  record_beside : (of source : List ℕ) (current : Record) (rows : List Row) → SetsTable (table_in schema source_record) rows old new → IsStored (new.now.trees (tree_named schema source_record.name))
      → IsPermutation (record_cells ((of, source), current) ∷ filter (λ columns. not (begins_with of source columns)) (cells_of (rows_in old.now source_record)))
      (cells_of (new.now.trees (tree_named schema source_record.name)))
      → BecomesWith (record machine { records = finite.insert machine.records (of, source) current }) scratch old new
  record_beside of source current rows made stored put =
      let was = cells_of (rows_in old.now source_record) in
      let after = finite.insert machine.records (of, source) current in
      records_made after rows made
      (rows_beside record_cells ((of, source), current) (finite.entries (finite.remove machine.records (of, source))) (finite.entries after) (filter (λ columns. not (begins_with of source columns)) was)
      (new.now.trees (tree_named schema source_record.name)) (entries-insert pair_cmp_total pair_cmp-same machine.records (of, source) current)
      (records_without machine of source was stands.records.same) stored put)

  -- a record in place of the one with its key
  pub record_put : (of source : List ℕ) (current : Record) → UpsertsRecords sql → Upserts sql (record_cells ((of, source), current)) old new
      → BecomesWith (record machine { records = finite.insert machine.records (of, source) current }) scratch old new
  record_put of source current text does =
      let entry : Entry = ((of, source), current) in
      let tree = tree_named schema source_record.name in
      let typed = typed_at tree source_record (Null ∷ record_cells entry) (entry_typed entry) in
      let rows = rows_in old.now source_record in
      let put = does (table_in schema source_record) record_terms record_sets record_key (text schema tree stands.has.at stands.has.record_is stands.has.records_indexed (record_quiet schema stands.has))
      stands.records.stored typed (record_decides schema stands.has entry rows stands.records.stored) in
      let apart_is : cells_of (apart schema (table_in schema source_record) (Null ∷ record_cells entry) rows) ≡ filter (λ columns. not (begins_with of source columns)) (cells_of rows) =
      cells_apart schema stands.has of source (drop 2 (record_cells entry)) rows stands.records.stored in
      record_beside of source current _ put.0 put.1 (subst (λ left. IsPermutation (record_cells entry ∷ left) (cells_of (new.now.trees tree))) apart_is put.2)

  -- another record in place of the one that has its key
  pub record_renewed : (of source : List ℕ) (current : Record) → UpdatesAmong source_record sql has_record_key record_sets 16 → IsSome (finite.get machine.records (of, source))
      → Updates sql (record_cells ((of, source), current)) old new → BecomesWith (record machine { records = finite.insert machine.records (of, source) current }) scratch old new
  record_renewed of source current text there does =
      let tree = tree_named schema source_record.name in
      let rows = rows_in old.now source_record in
      let found = row_renewed machine of source rows stands.records current there in
      let is = found.1 in
      let put = does (table_in schema source_record) has_record_key record_sets 16 found.0 (text schema tree stands.has.record_is (record_quiet schema stands.has)) stands.records.stored
      is.only (typed_at tree source_record _ is.typed) in
      let made = subst (λ all. SetsTable (table_in schema source_record) all old new) (sym put.0.rows_are) put.0 in
      record_beside of source current _ made put.1 (subst (λ columns. IsPermutation columns (cells_of (new.now.trees tree))) (ap₂ ◌∷◌ is.sets (cells_without of source rows)) put.2)

-- ---- the parameters

-- a text that is bound
pub text_bound : (value : ValueRef) (read kept : List ℕ) → owned value ≡ Text read → read ≡ kept → bound_value (owned value) ≡ Text kept
text_bound value read kept is same = ap bound_value is ∙ ap Text same

-- a number that is bound
pub number_bound : (value : ValueRef) (cast : ℤ) (kept : ℕ) → owned value ≡ Int cast → cast ≡ pos kept → bound_value (owned value) ≡ number kept
number_bound value cast kept is same = ap bound_value is ∙ ap Int same

-- ---- each call

module _ {S A : Type 0} {g : Ghosts S} {sql : List ℕ} {params : Row} {old new : Held S} {r : Result A Error} {answer : Result A StoreFault} where
  pub counts_change : (handed accepted : ℕ) → UpdatesAmong office sql [] office_sets 2 → params ≡ number handed ∷ number accepted ∷ [] → RunsStatement g sql params old new r
      → (HasCleanDisk (state g new) → OnOk r (Updates sql params (state g old) (state g new)))
      → answer ≡ answer_on r Office → Changes g (write.SetsCounts handed accepted) (λ _. ⊤) (λ machine. record machine { handed = handed; accepted = accepted }) old new answer
  counts_change handed accepted text is =
      statement_changes (write.SetsCounts handed accepted) (Updates sql params) text is (λ schema has. updates_writes schema sql (table_in schema office) [] office_sets (text schema (tree_named schema office.name) has.office_is (office_quiet schema has)))
      (λ machine scratch stands allows limit does. counts_set sql machine (state g old) (state g new) stands limit handed accepted text (subst (λ p. Updates sql p (state g old) (state g new)) is does))

  pub arch_change : (name : List ℕ) (words : OsCpu) → InsertsAmong arch sql arch_terms 3 → params ≡ arch_cells (name, words) → RunsStatement g sql params old new r
      → (HasCleanDisk (state g new) → OnOk r (Inserts sql params (state g old) (state g new)))
      → answer ≡ answer_on r Arch → Changes g (write.AddsArch (name, words)) (λ machine. finite.get machine.archs name ≡ None) (λ machine. record machine { archs = finite.insert machine.archs name words }) old new answer
  arch_change name words text is =
      statement_changes (write.AddsArch (name, words)) (Inserts sql params) text is (λ schema has. inserts_writes schema sql (table_in schema arch) arch_terms (text schema (tree_named schema arch.name) has.arch_is (arch_quiet schema has)))
      (λ machine scratch stands unknown limit does. arch_put sql machine (state g old) (state g new) stands limit name words text unknown (subst (λ p. Inserts sql p (state g old) (state g new)) is does))

  pub builder_change : (name of : List ℕ) → InsertsAmong builder sql builder_terms 2 → params ≡ builder_cells (name, of) → RunsStatement g sql params old new r
      → (HasCleanDisk (state g new) → OnOk r (Inserts sql params (state g old) (state g new)))
      → answer ≡ answer_on r Builder → Changes g (write.AddsBuilder (name, of)) (λ machine. set.contains machine.builders (name, of) ≡ false) (λ machine. record machine { builders = set.insert machine.builders (name, of) }) old new answer
  builder_change name of text is =
      statement_changes (write.AddsBuilder (name, of)) (Inserts sql params) text is (λ schema has. inserts_writes schema sql (table_in schema builder) builder_terms (text schema (tree_named schema builder.name) has.builder_is (builder_quiet schema has)))
      (λ machine scratch stands unknown limit does. builder_put sql machine (state g old) (state g new) stands limit name of text unknown (subst (λ p. Inserts sql p (state g old) (state g new)) is does))

  pub arch_removal_change : (name : List ℕ) → DeletesAmong arch sql has_arch_name 1 → params ≡ Text name ∷ []
      → RunsStatement g sql params old new r
      → (HasCleanDisk (state g new) → OnOk r (Deletes sql params (state g old) (state g new)))
      → answer ≡ answer_on r Arch → Changes g (write.RemovesArch name) (λ _. ⊤)
      (λ machine. record machine { archs = finite.remove machine.archs name }) old new answer
  arch_removal_change name text is =
      statement_changes (write.RemovesArch name) (Deletes sql params) text is
      (λ schema has. deletes_writes schema sql (table_in schema arch) has_arch_name
      (text schema (tree_named schema arch.name) has.arch_is (arch_quiet schema has)))
      (λ machine scratch stands allows limit does. arch_removed sql machine (state g old) (state g new) stands limit
      name text (subst (λ p. Deletes sql p (state g old) (state g new)) is does))

  pub builder_removal_change : (name of : List ℕ) → DeletesAmong builder sql has_pair 2
      → params ≡ Text name ∷ Text of ∷ [] → RunsStatement g sql params old new r
      → (HasCleanDisk (state g new) → OnOk r (Deletes sql params (state g old) (state g new)))
      → answer ≡ answer_on r Builder → Changes g (write.RemovesBuilder (name, of)) (λ _. ⊤)
      (λ machine. record machine { builders = set.remove machine.builders (name, of) }) old new answer
  builder_removal_change name of text is =
      statement_changes (write.RemovesBuilder (name, of)) (Deletes sql params) text is
      (λ schema has. deletes_writes schema sql (table_in schema builder) has_pair
      (text schema (tree_named schema builder.name) has.builder_is (builder_quiet schema has)))
      (λ machine scratch stands allows limit does. builder_removed sql machine (state g old) (state g new) stands limit
      name of text (subst (λ p. Deletes sql p (state g old) (state g new)) is does))

  pub removal_change : (of source : List ℕ) → DeletesAmong source_record sql has_record_key 2 → params ≡ Text of ∷ Text source ∷ [] → RunsStatement g sql params old new r
      → (HasCleanDisk (state g new) → OnOk r (Deletes sql params (state g old) (state g new)))
      → answer ≡ answer_on r SourceRecord → Changes g (write.RemovesRecord (of, source)) (λ _. ⊤) (λ machine. record machine { records = finite.remove machine.records (of, source) }) old new answer
  removal_change of source text is =
      statement_changes (write.RemovesRecord (of, source)) (Deletes sql params) text is (λ schema has. deletes_writes schema sql (table_in schema source_record) has_record_key (text schema (tree_named schema source_record.name) has.record_is (record_quiet schema has)))
      (λ machine scratch stands allows limit does. record_removed sql machine (state g old) (state g new) stands limit of source text (subst (λ p. Deletes sql p (state g old) (state g new)) is does))

  pub record_change : (of source : List ℕ) (current : Record) → UpsertsRecords sql → params ≡ record_cells ((of, source), current) → RunsStatement g sql params old new r
      → (HasCleanDisk (state g new) → OnOk r (Upserts sql params (state g old) (state g new)))
      → answer ≡ answer_on r SourceRecord → Changes g (write.PutsRecord ((of, source), current)) (λ _. ⊤) (λ machine. record machine { records = finite.insert machine.records (of, source) current }) old new answer
  record_change of source current text is =
      statement_changes (write.PutsRecord ((of, source), current)) (Upserts sql params) text is (λ schema has. upserts_writes schema sql (table_in schema source_record) record_terms record_sets record_key 16
      (text schema (tree_named schema source_record.name) has.at has.record_is has.records_indexed (record_quiet schema has)))
      (λ machine scratch stands allows limit does. record_put sql machine (state g old) (state g new) stands limit of source current text (subst (λ p. Upserts sql p (state g old) (state g new)) is does))

  pub renewal_change : (of source : List ℕ) (current : Record) → UpdatesAmong source_record sql has_record_key record_sets 16 → params ≡ record_cells ((of, source), current) → RunsStatement g sql params old new r
      → (HasCleanDisk (state g new) → OnOk r (Updates sql params (state g old) (state g new)))
      → answer ≡ answer_on r SourceRecord → Changes g (write.ReplacesRecord ((of, source), current)) (λ machine. IsSome (finite.get machine.records (of, source))) (λ machine. record machine { records = finite.insert machine.records (of, source) current }) old new answer
  renewal_change of source current text is =
      statement_changes (write.ReplacesRecord ((of, source), current)) (Updates sql params) text is (λ schema has. updates_writes schema sql (table_in schema source_record) has_record_key record_sets
      (text schema (tree_named schema source_record.name) has.record_is (record_quiet schema has)))
      (λ machine scratch stands there limit does. record_renewed sql machine (state g old) (state g new) stands limit of source current text there (subst (λ p. Updates sql p (state g old) (state g new)) is does))
