use Rattle.wb_sql.proofs.SettledLemmas.{left_by, settled_by_close}
use Rattle.wb_sql.proofs.files.close.Goals as goal

pub returns-in-Ok-clause-settled : goal.returns-in-Ok-clause-settled
returns-in-Ok-clause-settled g c = λ clean. settled_by_close c.args.conn c.in-Ok.files (c.in-Ok.ensures.copied clean)

pub returns-in-Err-clause-err : goal.returns-in-Err-clause-err
returns-in-Err-clause-err g c = record {
  last = c.in-Err.store;
  given = c.close.ensures;
  closed = c.in-Err.ensures.err.0;
  cause = c.in-Err.ensures.err.1;
  kept = λ clean numbered.
      left_by c.in-Err.store c.close.result _ c.close.ensures (λ _. numbered) c.in-Err.ensures.err.0.sound c.in-Err.ensures.err.0.quiet.outcomes clean;
}
