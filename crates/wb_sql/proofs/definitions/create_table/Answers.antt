use Rattle.sqlite.specs.Held.{state}
use Rattle.wb_sql.proofs.CallLemmas.{on_ok}
use Rattle.wb_sql.proofs.DefinitionLemmas.{creates_table}
use Rattle.wb_sql.proofs.definitions.create_table.Goals as goal

pub returns-clause-ok : goal.returns-clause-ok
returns-clause-ok g c clean =
    on_ok c.run.result (creates_table c.args.sql.now (state g.S.Store c.args.conn.now) (state g.S.Store c.run.new.conn)) (c.run.ensures.runs.ok clean)
