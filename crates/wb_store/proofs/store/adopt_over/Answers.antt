use Rattle.wb_store.proofs.«store».adopt_over.Goals as goal

pub returns-in-Err-clause-refused : goal.returns-in-Err-clause-refused
returns-in-Err-clause-refused g c = record {
  at = c.in-Err.refused.conn;
  refused = c.in-Err.ensures.refused;
  clean = c.surrender.ensures.clean;
  left = c.surrender.ensures.left;
}
