use Rattle.sqlite.specs.Values.{bound}
use Rattle.sqlite.specs.Held.{state}
use Rattle.wb_sql.proofs.CallLemmas.{on_ok}
use Rattle.wb_sql.proofs.UpdateLemmas.{updates_rows}
use Rattle.wb_sql.proofs.changes.update.Goals as goal

pub returns-clause-ok : goal.returns-clause-ok
returns-clause-ok g c clean =
    on_ok c.run.result (updates_rows c.args.sql.now (bound c.args.params.now) (state g.S.Store c.args.conn.now) (state g.S.Store c.run.new.conn)) (c.run.ensures.runs.ok clean)
