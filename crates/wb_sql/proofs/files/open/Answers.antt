use Rattle.wb_sql.proofs.HandedBackLemmas.{clean_left, keep_database}
use Rattle.wb_sql.proofs.SettledLemmas.{found_by_open, settled_alone}
use Rattle.wb_sql.proofs.files.open.Goals as goal

pub returns-in-Ok-clause-found : goal.returns-in-Ok-clause-found
returns-in-Ok-clause-found g c = λ clean. found_by_open c.in-Ok.conn c.args.files g.met.D.Disk.seen_may_stay (c.in-Ok.ensures.found clean)

pub returns-in-Ok-clause-alone : goal.returns-in-Ok-clause-alone
returns-in-Ok-clause-alone g c = λ clean. settled_alone c.in-Ok.conn c.args.files g.met.D.Disk.seen_may_stay (c.in-Ok.ensures.opened clean).0.is_open

pub returns-in-Err-clause-err : goal.returns-in-Err-clause-err
returns-in-Err-clause-err g c = record {
  rest = c.in-Err.left;
  given = c.into_files.ensures;
  clean = clean_left {g = g.D.Disk} c.in-Err.left c.into_files.result c.into_files.ensures;
  cause = c.in-Err.ensures.cause;
  unharmed = c.in-Err.ensures.unharmed;
  kept = keep_database {g = g.D.Disk} c.args.files c.into_files.result c.in-Err.left c.into_files.ensures c.in-Err.ensures.unharmed;
}
