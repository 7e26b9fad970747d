use Rattle.std.proofs.Common.{ap, not, subst, ◌∙◌, [], Ok, Err, Global}
use Rattle.sqlite.specs.Held.{state}
use Rattle.wb_store.specs.Lookups.{ReadsTable}
use Rattle.wb_store.proofs.ReadLemmas.{asks_in, handed_on}
use Rattle.wb_store.proofs.ScratchLemmas.{counted-is_nonempty, one_row_found, tests_nothing, tests_rows, none_given}
use Rattle.wb_store.proofs.scratch.has_row.Goals as goal

pub returns-in_err-rows : goal.returns-in_err-rows
returns-in_err-rows g c = record {
  tests = λ query for_one on text.
      tests_nothing (asks_in query text (none_given query for_one))
      (subst (λ table. ReadsTable {X = Global} g.S.Store table c.args.sql.now [] c.args.conn.now c.rows_of.new.conn (Err c.in_err-rows.field-0.0)) on c.in_err-rows.ensures.reads)
      (handed_on c.from_residual.result c.from_residual.ensures.1);
}

pub returns : goal.returns
returns g c =
    let db = (state g.S.Store c.args.conn.now).now in
    record {
      tests = λ query for_one on text.
          tests_rows (asks_in query text (none_given query for_one)) (subst (λ table. ReadsTable g.S.Store table c.args.sql.now [] c.args.conn.now c.rows_of.new.conn (Ok c.in_ok-rows.rows)) on c.in_ok-rows.ensures.reads)
          (λ a. ap not c.is_empty.ensures ∙ counted-is_nonempty c.in_ok-rows.rows ∙ one_row_found query db c.in_ok-rows.rows.items for_one a);
    }
