-- What a statement on one of the scratch tables makes of the rows of a merge.
use Rattle.std.proofs.Common.{◌≡◌, ℕ, ◌+◌, ◌<◌, pos, not, nat_le, inr, List, [], ◌∷◌, length, map, IsPermutation, Result, Ok, Err, IfErr, OnOk, refl, arith, sym, ap, ap₂, subst, ◌∙◌}
use Rattle.std.specs.List.{list_all}
use Rattle.std.proofs.lemmas.List.{length-map}
use Rattle.std.proofs.lemmas.List.Sorted.{length_permutation}
use Rattle.sqlite_trees.specs.declared.store.Store.{Ghosts}
use Rattle.sqlite.specs.declared.error.Error.{Error}
use Rattle.sqlite.specs.Held.{Held, state}
use Rattle.sqlite.specs.Order.{Row}
use Rattle.sqlite.specs.Schema.{Schema}
use Rattle.sqlite.specs.State.{State, HasCleanDisk, Executes}
use Rattle.sqlite.specs.Term.{holds}
use Rattle.sqlite.specs.Tree.{put_row, rowid}
use Rattle.sqlite_keyed.proofs.ListLemmas.{ascending-filter}
use Rattle.sqlite.proofs.StateLemmas.{survives_weaker}
use Rattle.wb_states.specs.declared.scratch.BinaryRow.{BinaryRow}
use Rattle.wb_states.specs.declared.scratch.SourceRow.{SourceRow}
use Rattle.wb_states.specs.declared.store_fault.StoreFault.{StoreFault}
use Rattle.wb_states.specs.Machine.{Machine}
use Rattle.wb_sql.specs.Calls.{RunsStatement}
use Rattle.wb_sql.specs.Changes.{Inserts, Deletes, SetsTable}
use Rattle.wb_sql.specs.Rows.{IsStored, IsTyped, cells, cells_of, without}
use Rattle.wb_sql.specs.Statements.{IsWriting}
use Rattle.wb_sql.specs.Transactions.{IsKeptOrUndone}
use Rattle.wb_sql.specs.Tables.{scratch_source, scratch_binary}
use Rattle.wb_sql.specs.Among.{HasOffice, InsertsAmong, DeletesAmong, table_in, tree_named, rows_in}
use Rattle.wb_sql.specs.ScratchStatements as terms
use Rattle.wb_sql.proofs.ApartLemmas.{own_rows}
use Rattle.wb_sql.proofs.CallLemmas.{on_ok}
use Rattle.wb_sql.proofs.QuietLemmas.{source_quiet, binary_quiet}
use Rattle.wb_sql.proofs.WriteLemmas.{cast_int, cast_null, inserts_writes, deletes_writes}
use Rattle.wb_rows.specs.Cells.{number}
use Rattle.wb_rows.specs.Scratch.{binary_cells, source_cells}
use Rattle.wb_store.specs.Calls.{BecomesWith}
use Rattle.wb_store.specs.Faults.{answer_on}
use Rattle.wb_store.specs.Merging.{Scratch, IsNewBinary, IsNewSource, stored_binary, stored_source, with_binary, with_source, binaries_after, sources_after, without_binaries, without_sources}
use Rattle.wb_store.specs.ScratchWrites as write
use Rattle.wb_store.specs.ScratchWrites.{Allows, ChangesScratch, FailsToWrite, IsTextOfWrite, ScratchWrite, after_write, table_written, written_by}
use Rattle.wb_store.specs.Stands.{StandsWith}
use Rattle.wb_store.proofs.ChangeLemmas.{still_has, still_counts, still_archs, still_builders, still_records, still_sources, still_binaries, still_emptied}
use Rattle.wb_store.proofs.ChangeRowLemmas.{typed_at}
use Rattle.wb_store.proofs.OthersLemmas.{others_kept, source_named, binary_named}
use Rattle.wb_store.proofs.PlaceLemmas as place

-- what a statement that writes makes of the rows of a merge
pub statement_changes : {S A : Type 0} {g : Ghosts S} {sql : List ℕ} {params : Row} {old new : Held S} {r : Result A Error} {answer : Result A StoreFault} (write : ScratchWrite) (Done : State → State → Type 0)
    → IsTextOfWrite write sql → params ≡ written_by write → ((schema : Schema) → HasOffice schema → IsWriting schema sql)
    → ((machine : Machine) (scratch : Scratch) → StandsWith machine scratch (state g old).now → Allows write scratch → (state g new).step_limit ≡ (state g old).step_limit → Done (state g old) (state g new)
    → BecomesWith machine (after_write write scratch) (state g old) (state g new))
    → ((machine : Machine) (scratch : Scratch) → StandsWith machine scratch (state g old).now → Done (state g old) (state g new) → Allows write scratch)
    → RunsStatement g sql params old new r → (HasCleanDisk (state g new) → OnOk r (Done (state g old) (state g new))) → answer ≡ answer_on r (table_written write) → ChangesScratch g write old new answer
statement_changes {A = A} {g = g} {sql = sql} {params = params} {old = old} {new = new} {r = r} write Done text given writes makes allows ran ok is =
    subst (λ (t : Result A StoreFault). ChangesScratch g write old new t) (sym is) (record {
      ok = λ clean. ok_on _ r (on_ok r (λ done machine scratch stands allowed. makes machine scratch stands allowed ran.survives.limit done) (ok clean));
      allowed = λ clean. ok_on _ r (on_ok r (λ done machine scratch stands. allows machine scratch stands done) (ok clean));
      err = λ clean inside. err_on r (ran.err clean inside);
      ended = λ over. let ended = ran.ended over in (ap (λ answered. answer_on answered (table_written write)) ended.0, ended.1);
      survives = survives_weaker (state g old) (state g new) _ _ (λ clean db none has. none (writes old.schema has)) ran.survives;
    })
  where
    ok_on : (P : Type 0) (answered : Result A Error) → OnOk answered P → OnOk (answer_on answered (table_written write)) P
    ok_on P (Ok x) h = h
    ok_on P (Err e) h = tt

    err_on : (answered : Result A Error) → IfErr answered (λ e. Executes sql params (state g old) (state g new) (Err e) × IsKeptOrUndone (state g old) (state g new))
        → IfErr (answer_on answered (table_written write)) (FailsToWrite write (state g old) (state g new))
    err_on (Ok x) h = tt
    err_on (Err e) h = record {
      error = e;
      sql = sql;
      text = text;
      failed = subst (λ row. Executes sql row (state g old) (state g new) (Err e)) given h.0;
      fault_is = refl;
      left = h.1;
    }

-- ---- the rows, as their tables take them

source_typed : (row : SourceRow) → IsTyped scratch_source (stored_source row)
source_typed row = record {
  row = refl;
  id = inr (pos row.seq, refl);
  cast = ap₂ ◌∷◌ cast_null (ap₂ ◌∷◌ refl (ap₂ ◌∷◌ refl (ap₂ ◌∷◌ refl (ap₂ ◌∷◌ (cast_int _) refl))));
  present = refl;
}

binary_typed : (row : BinaryRow) → IsTyped scratch_binary (stored_binary row)
binary_typed row = record {
  row = refl;
  id = inr (pos row.seq, refl);
  cast = ap₂ ◌∷◌ cast_null (ap₂ ◌∷◌ refl (ap₂ ◌∷◌ refl (ap₂ ◌∷◌ refl (ap₂ ◌∷◌ refl (ap₂ ◌∷◌ (cast_int (pos row.number)) (ap₂ ◌∷◌ (cast_int _) refl))))));
  present = refl;
}

source_ids : (row : SourceRow) → rowid (stored_source row) ≡ number row.seq
source_ids row = refl

binary_ids : (row : BinaryRow) → rowid (stored_binary row) ≡ number row.seq
binary_ids row = refl

-- ---- each statement

module _ (sql : List ℕ) (machine : Machine) (scratch : Scratch) (old new : State) (stands : StandsWith machine scratch old.now) (limit : new.step_limit ≡ old.step_limit) where
  abbrev schema : Schema
  schema = old.now.schema

  sources_stored : IsStored (rows_in old.now scratch_source)
  sources_stored = subst IsStored (sym stands.sources) (place.rows_stored (λ (row : SourceRow). row.seq) stored_source source_ids scratch.sources stands.order.sources)

  binaries_stored : IsStored (rows_in old.now scratch_binary)
  binaries_stored = subst IsStored (sym stands.binaries) (place.rows_stored (λ (row : BinaryRow). row.seq) stored_binary binary_ids scratch.binaries stands.order.binaries)

  -- other source packages
  sources_made : (sources : List SourceRow) (rows : List Row) → SetsTable (table_in schema scratch_source) rows old new → rows ≡ map stored_source sources
      → place.InOrder (λ (row : SourceRow). row.seq) stored_source source_ids sources → BecomesWith machine (record scratch { sources = sources }) old new
  sources_made sources rows made are up = record {
    stands = record {
      has = still_has stands (table_in schema scratch_source) rows stands.has.source_is made;
      counts = still_counts stands (table_in schema scratch_source) rows stands.has.source_is made (λ e. omega (arith, e));
      archs = still_archs stands (table_in schema scratch_source) rows stands.has.source_is made (λ e. omega (arith, e));
      builders = still_builders stands (table_in schema scratch_source) rows stands.has.source_is made (λ e. omega (arith, e));
      records = still_records stands (table_in schema scratch_source) rows stands.has.source_is made (λ e. omega (arith, e));
      sources = own_rows old new scratch_source rows made ∙ are;
      binaries = still_binaries stands (table_in schema scratch_source) rows stands.has.source_is made (λ e. omega (arith, e));
      order = record { sources = up; binaries = stands.order.binaries };
      emptied = still_emptied stands (table_in schema scratch_source) rows stands.has.source_is made (λ e. omega (arith, e));
    };
    schema_is = made.schema;
    shown = made.shown;
    limit = limit;
    marks = made.marks;
    others = others_kept old new (table_in schema scratch_source) rows stands.has.source_is (source_named schema) made;
  }

  -- other binary packages
  binaries_made : (binaries : List BinaryRow) (rows : List Row) → SetsTable (table_in schema scratch_binary) rows old new → rows ≡ map stored_binary binaries
      → place.InOrder (λ (row : BinaryRow). row.seq) stored_binary binary_ids binaries → BecomesWith machine (record scratch { binaries = binaries }) old new
  binaries_made binaries rows made are up = record {
    stands = record {
      has = still_has stands (table_in schema scratch_binary) rows stands.has.binary_is made;
      counts = still_counts stands (table_in schema scratch_binary) rows stands.has.binary_is made (λ e. omega (arith, e));
      archs = still_archs stands (table_in schema scratch_binary) rows stands.has.binary_is made (λ e. omega (arith, e));
      builders = still_builders stands (table_in schema scratch_binary) rows stands.has.binary_is made (λ e. omega (arith, e));
      records = still_records stands (table_in schema scratch_binary) rows stands.has.binary_is made (λ e. omega (arith, e));
      sources = still_sources stands (table_in schema scratch_binary) rows stands.has.binary_is made (λ e. omega (arith, e));
      binaries = own_rows old new scratch_binary rows made ∙ are;
      order = record { sources = stands.order.sources; binaries = up };
      emptied = still_emptied stands (table_in schema scratch_binary) rows stands.has.binary_is made (λ e. omega (arith, e));
    };
    schema_is = made.schema;
    shown = made.shown;
    limit = limit;
    marks = made.marks;
    others = others_kept old new (table_in schema scratch_binary) rows stands.has.binary_is (binary_named schema) made;
  }

  pub source_added : (row : SourceRow) → InsertsAmong scratch_source sql terms.source_row 9 → IsNewSource row.seq scratch → Inserts sql (source_cells row) old new → BecomesWith machine (with_source row scratch) old new
  source_added row text new_place does =
      let tree = tree_named schema scratch_source.name in
      let put = does (table_in schema scratch_source) terms.source_row 9 (text schema tree stands.has.source_is (source_quiet schema stands.has)) sources_stored (typed_at tree scratch_source (stored_source row) (source_typed row)) in
      sources_made _ _ put.0
      (ap (put_row (stored_source row)) stands.sources ∙ place.row_placed (λ (r : SourceRow). r.seq) stored_source source_ids row scratch.sources new_place)
      (place.order_placed (λ (r : SourceRow). r.seq) stored_source source_ids row scratch.sources new_place stands.order.sources)

  pub binary_added : (row : BinaryRow) → InsertsAmong scratch_binary sql terms.binary_row 7 → IsNewBinary row.seq scratch → Inserts sql (binary_cells row) old new → BecomesWith machine (with_binary row scratch) old new
  binary_added row text new_place does =
      let tree = tree_named schema scratch_binary.name in
      let put = does (table_in schema scratch_binary) terms.binary_row 7 (text schema tree stands.has.binary_is (binary_quiet schema stands.has)) binaries_stored (typed_at tree scratch_binary (stored_binary row) (binary_typed row)) in
      binaries_made _ _ put.0
      (ap (put_row (stored_binary row)) stands.binaries ∙ place.row_placed (λ (r : BinaryRow). r.seq) stored_binary binary_ids row scratch.binaries new_place)
      (place.order_placed (λ (r : BinaryRow). r.seq) stored_binary binary_ids row scratch.binaries new_place stands.order.binaries)

  pub sources_removed : (at : ℕ) → DeletesAmong scratch_source sql terms.is_up_to_place 1 → Deletes sql (number at ∷ []) old new → BecomesWith machine (sources_after at scratch) old new
  sources_removed at text does =
      let put = does (table_in schema scratch_source) terms.is_up_to_place 1 (text schema (tree_named schema scratch_source.name) stands.has.source_is (source_quiet schema stands.has)) sources_stored in
      sources_made _ _ put.0
      (ap (without (λ row. list_all (holds ((number at ∷ []) ∷ row ∷ [])) terms.is_up_to_place)) stands.sources ∙ place.left_after (λ (r : SourceRow). r.seq) stored_source source_ids at scratch.sources)
      (ascending-filter (λ (a b : SourceRow). a.seq < b.seq) (λ row. not (nat_le row.seq at)) scratch.sources stands.order.sources)

  pub binaries_removed : (at : ℕ) → DeletesAmong scratch_binary sql terms.is_up_to_place 1 → Deletes sql (number at ∷ []) old new → BecomesWith machine (binaries_after at scratch) old new
  binaries_removed at text does =
      let put = does (table_in schema scratch_binary) terms.is_up_to_place 1 (text schema (tree_named schema scratch_binary.name) stands.has.binary_is (binary_quiet schema stands.has)) binaries_stored in
      binaries_made _ _ put.0
      (ap (without (λ row. list_all (holds ((number at ∷ []) ∷ row ∷ [])) terms.is_up_to_place)) stands.binaries ∙ place.left_after (λ (r : BinaryRow). r.seq) stored_binary binary_ids at scratch.binaries)
      (ascending-filter (λ (a b : BinaryRow). a.seq < b.seq) (λ row. not (nat_le row.seq at)) scratch.binaries stands.order.binaries)

  pub sources_cleared : DeletesAmong scratch_source sql [] 0 → Deletes sql [] old new → BecomesWith machine (without_sources scratch) old new
  sources_cleared text does =
      let put = does (table_in schema scratch_source) [] 0 (text schema (tree_named schema scratch_source.name) stands.has.source_is (source_quiet schema stands.has)) sources_stored in
      sources_made [] _ put.0
      (ap (without (λ row. list_all (holds ([] ∷ row ∷ [])) [])) stands.sources ∙ place.none_left (λ (r : SourceRow). r.seq) stored_source source_ids [] scratch.sources) tt

  pub binaries_cleared : DeletesAmong scratch_binary sql [] 0 → Deletes sql [] old new → BecomesWith machine (without_binaries scratch) old new
  binaries_cleared text does =
      let put = does (table_in schema scratch_binary) [] 0 (text schema (tree_named schema scratch_binary.name) stands.has.binary_is (binary_quiet schema stands.has)) binaries_stored in
      binaries_made [] _ put.0
      (ap (without (λ row. list_all (holds ([] ∷ row ∷ [])) [])) stands.binaries ∙ place.none_left (λ (r : BinaryRow). r.seq) stored_binary binary_ids [] scratch.binaries) tt

-- ---- a row that was added had a new place

added_long : (given : Row) (rows made now : List Row) → IsPermutation (cells given ∷ cells_of rows) (cells_of now) → now ≡ made → length made ≡ length rows + 1
added_long given rows made now same is =
    sym (ap length is) ∙ sym (length-map now cells) ∙ length_permutation (cells given ∷ cells_of rows) (cells_of now) same ∙ omega (arith, length-map rows cells)

module _ (sql : List ℕ) {machine : Machine} {scratch : Scratch} (old new : State) (stands : StandsWith machine scratch old.now) where
  pub source_allowed : (row : SourceRow) → InsertsAmong scratch_source sql terms.source_row 9 → Inserts sql (source_cells row) old new → IsNewSource row.seq scratch
  source_allowed row text does =
      let schema = old.now.schema in
      let tree = tree_named schema scratch_source.name in
      let stored : IsStored (rows_in old.now scratch_source) = subst IsStored (sym stands.sources) (place.rows_stored (λ (r : SourceRow). r.seq) stored_source source_ids scratch.sources stands.order.sources) in
      let put = does (table_in schema scratch_source) terms.source_row 9 (text schema tree stands.has.source_is (source_quiet schema stands.has)) stored (typed_at tree scratch_source (stored_source row) (source_typed row)) in
      let long = added_long (stored_source row) (rows_in old.now scratch_source) (put_row (stored_source row) (map stored_source scratch.sources)) _ put.2 (put.0.rows_are ∙ ap (put_row (stored_source row)) stands.sources) in
      place.is_new (λ (r : SourceRow). r.seq) stored_source source_ids row scratch.sources stands.order.sources (long ∙ ap (λ rows. length rows + 1) stands.sources ∙ ap (λ n. n + 1) (length-map scratch.sources stored_source))

  pub binary_allowed : (row : BinaryRow) → InsertsAmong scratch_binary sql terms.binary_row 7 → Inserts sql (binary_cells row) old new → IsNewBinary row.seq scratch
  binary_allowed row text does =
      let schema = old.now.schema in
      let tree = tree_named schema scratch_binary.name in
      let stored : IsStored (rows_in old.now scratch_binary) = subst IsStored (sym stands.binaries) (place.rows_stored (λ (r : BinaryRow). r.seq) stored_binary binary_ids scratch.binaries stands.order.binaries) in
      let put = does (table_in schema scratch_binary) terms.binary_row 7 (text schema tree stands.has.binary_is (binary_quiet schema stands.has)) stored (typed_at tree scratch_binary (stored_binary row) (binary_typed row)) in
      let long = added_long (stored_binary row) (rows_in old.now scratch_binary) (put_row (stored_binary row) (map stored_binary scratch.binaries)) _ put.2 (put.0.rows_are ∙ ap (put_row (stored_binary row)) stands.binaries) in
      place.is_new (λ (r : BinaryRow). r.seq) stored_binary binary_ids row scratch.binaries stands.order.binaries (long ∙ ap (λ rows. length rows + 1) stands.binaries ∙ ap (λ n. n + 1) (length-map scratch.binaries stored_binary))

-- ---- each call

module _ {S A : Type 0} {g : Ghosts S} {sql : List ℕ} {params : Row} {old new : Held S} {r : Result A Error} {answer : Result A StoreFault} where
  pub source_change : (row : SourceRow) → InsertsAmong scratch_source sql terms.source_row 9 → params ≡ source_cells row → RunsStatement g sql params old new r
      → (HasCleanDisk (state g new) → OnOk r (Inserts sql params (state g old) (state g new))) → answer ≡ answer_on r (table_written (write.AddsSource row)) → ChangesScratch g (write.AddsSource row) old new answer
  source_change row text is =
      statement_changes (write.AddsSource row) (Inserts sql params) text is (λ schema has. inserts_writes schema sql (table_in schema scratch_source) terms.source_row
      (text schema (tree_named schema scratch_source.name) has.source_is (source_quiet schema has)))
      (λ machine scratch stands fresh limit does. source_added sql machine scratch (state g old) (state g new) stands limit row text fresh (subst (λ p. Inserts sql p (state g old) (state g new)) is does))
      (λ machine scratch stands does. source_allowed sql (state g old) (state g new) stands row text (subst (λ p. Inserts sql p (state g old) (state g new)) is does))

  pub binary_change : (row : BinaryRow) → InsertsAmong scratch_binary sql terms.binary_row 7 → params ≡ binary_cells row → RunsStatement g sql params old new r
      → (HasCleanDisk (state g new) → OnOk r (Inserts sql params (state g old) (state g new))) → answer ≡ answer_on r (table_written (write.AddsBinary row)) → ChangesScratch g (write.AddsBinary row) old new answer
  binary_change row text is =
      statement_changes (write.AddsBinary row) (Inserts sql params) text is (λ schema has. inserts_writes schema sql (table_in schema scratch_binary) terms.binary_row
      (text schema (tree_named schema scratch_binary.name) has.binary_is (binary_quiet schema has)))
      (λ machine scratch stands fresh limit does. binary_added sql machine scratch (state g old) (state g new) stands limit row text fresh (subst (λ p. Inserts sql p (state g old) (state g new)) is does))
      (λ machine scratch stands does. binary_allowed sql (state g old) (state g new) stands row text (subst (λ p. Inserts sql p (state g old) (state g new)) is does))

  pub sources_removal : (at : ℕ) → DeletesAmong scratch_source sql terms.is_up_to_place 1 → params ≡ number at ∷ [] → RunsStatement g sql params old new r
      → (HasCleanDisk (state g new) → OnOk r (Deletes sql params (state g old) (state g new))) → answer ≡ answer_on r (table_written (write.RemovesSources at)) → ChangesScratch g (write.RemovesSources at) old new answer
  sources_removal at text is =
      statement_changes (write.RemovesSources at) (Deletes sql params) text is (λ schema has. deletes_writes schema sql (table_in schema scratch_source) terms.is_up_to_place
      (text schema (tree_named schema scratch_source.name) has.source_is (source_quiet schema has)))
      (λ machine scratch stands allows limit does. sources_removed sql machine scratch (state g old) (state g new) stands limit at text (subst (λ p. Deletes sql p (state g old) (state g new)) is does))
      (λ machine scratch stands does. tt)

  pub binaries_removal : (at : ℕ) → DeletesAmong scratch_binary sql terms.is_up_to_place 1 → params ≡ number at ∷ [] → RunsStatement g sql params old new r
      → (HasCleanDisk (state g new) → OnOk r (Deletes sql params (state g old) (state g new))) → answer ≡ answer_on r (table_written (write.RemovesBinaries at)) → ChangesScratch g (write.RemovesBinaries at) old new answer
  binaries_removal at text is =
      statement_changes (write.RemovesBinaries at) (Deletes sql params) text is (λ schema has. deletes_writes schema sql (table_in schema scratch_binary) terms.is_up_to_place
      (text schema (tree_named schema scratch_binary.name) has.binary_is (binary_quiet schema has)))
      (λ machine scratch stands allows limit does. binaries_removed sql machine scratch (state g old) (state g new) stands limit at text (subst (λ p. Deletes sql p (state g old) (state g new)) is does))
      (λ machine scratch stands does. tt)

  pub sources_emptied : DeletesAmong scratch_source sql [] 0 → params ≡ [] → RunsStatement g sql params old new r
      → (HasCleanDisk (state g new) → OnOk r (Deletes sql params (state g old) (state g new))) → answer ≡ answer_on r (table_written write.ClearsSources) → ChangesScratch g write.ClearsSources old new answer
  sources_emptied text is =
      statement_changes write.ClearsSources (Deletes sql params) text is (λ schema has. deletes_writes schema sql (table_in schema scratch_source) []
      (text schema (tree_named schema scratch_source.name) has.source_is (source_quiet schema has)))
      (λ machine scratch stands allows limit does. sources_cleared sql machine scratch (state g old) (state g new) stands limit text (subst (λ p. Deletes sql p (state g old) (state g new)) is does))
      (λ machine scratch stands does. tt)

  pub binaries_emptied : DeletesAmong scratch_binary sql [] 0 → params ≡ [] → RunsStatement g sql params old new r
      → (HasCleanDisk (state g new) → OnOk r (Deletes sql params (state g old) (state g new))) → answer ≡ answer_on r (table_written write.ClearsBinaries) → ChangesScratch g write.ClearsBinaries old new answer
  binaries_emptied text is =
      statement_changes write.ClearsBinaries (Deletes sql params) text is (λ schema has. deletes_writes schema sql (table_in schema scratch_binary) []
      (text schema (tree_named schema scratch_binary.name) has.binary_is (binary_quiet schema has)))
      (λ machine scratch stands allows limit does. binaries_cleared sql machine scratch (state g old) (state g new) stands limit text (subst (λ p. Deletes sql p (state g old) (state g new)) is does))
      (λ machine scratch stands does. tt)
