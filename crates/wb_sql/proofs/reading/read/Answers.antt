use Rattle.sqlite.specs.Held.{state}
use Rattle.sqlite.specs.Values.{bound}
use Rattle.sqlite.proofs.StateLemmas.{survives_weaker}
use Rattle.sqlite.proofs.Callers.{never_commits}
use Rattle.wb_sql.proofs.ReadingLemmas.{answered, answered_same, failed_kept}
use Rattle.wb_sql.proofs.reading.read.Goals as goal

pub returns : goal.returns
returns g c =
    let sql = c.args.sql.now in
    let params = bound c.args.params.now in
    let old = state g.S.Store c.args.conn.now in
    let new = state g.S.Store c.query_all.new.self in
    record {
      runs = record {
        answers = λ clean. answered sql params old new c.query_all.result (c.query_all.ensures.ok clean);
        shown = c.query_all.ensures.ok;
        same = λ clean plain. answered_same sql params old new c.query_all.result plain (c.query_all.ensures.ok clean);
        err = λ clean. failed_kept sql params old new c.query_all.result (c.query_all.ensures.err clean);
        survives = survives_weaker old new _ _ (λ clean db made plain. never_commits sql params old db plain made) c.query_all.ensures.survives;
      };
    }
