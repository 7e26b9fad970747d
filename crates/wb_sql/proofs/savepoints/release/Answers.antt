use Rattle.sqlite.specs.Held.{state}
use Rattle.sqlite.proofs.StateLemmas.{survives_weaker}
use Rattle.wb_sql.proofs.CallLemmas.{on_ok}
use Rattle.wb_sql.proofs.SavepointLemmas.{releases, release_commits_nothing}
use Rattle.wb_sql.proofs.savepoints.release.Goals as goal

pub returns : goal.returns
returns g c =
    let old = state g.S.Store c.args.conn.now in
    let new = state g.S.Store c.run_on_part.new.conn in
    record {
      runs = record {
        ok = λ clean saved. on_ok c.run_on_part.result (releases old new saved) (c.run_on_part.ensures.ran clean);
        err = c.run_on_part.ensures.err;
        ended = c.run_on_part.ensures.ended;
        survives = survives_weaker old new _ _ (λ clean db made saved. release_commits_nothing old db saved made.1) c.run_on_part.ensures.survives;
      };
    }
