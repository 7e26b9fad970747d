use Rattle.sqlite.specs.Held.{state}
use Rattle.sqlite.proofs.StateLemmas.{survives_weaker}
use Rattle.wb_sql.proofs.CallLemmas.{on_ok}
use Rattle.wb_sql.proofs.SavepointLemmas.{goes_back, back_commits_nothing}
use Rattle.wb_sql.proofs.savepoints.back_to.Goals as goal

pub returns : goal.returns
returns g c =
    let old = state g.S.Store c.args.conn.now in
    let new = state g.S.Store c.run_on_part.new.conn in
    record {
      runs = record {
        ok = λ clean need. on_ok c.run_on_part.result (goes_back old new) (c.run_on_part.ensures.ran clean);
        err = c.run_on_part.ensures.err;
        ended = c.run_on_part.ensures.ended;
        survives = survives_weaker old new _ _ (λ clean db made. absurd (back_commits_nothing old db made.1)) c.run_on_part.ensures.survives;
      };
    }
