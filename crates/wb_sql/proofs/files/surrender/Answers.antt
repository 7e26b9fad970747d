use Rattle.std.proofs.Common.{arith}
use Rattle.wb_sql.proofs.SettledLemmas.{clean_by, left_by}
use Rattle.wb_sql.proofs.files.surrender.Goals as goal

pub returns : goal.returns
returns g c = record {
  left = left_by c.into_store.result c.close.result _ c.close.ensures c.into_store.ensures.numbered c.into_store.ensures.sound c.into_store.ensures.quiet.outcomes;
  clean = λ clean. (let sure = clean_by c.into_store.result c.close.result c.close.ensures clean in omega (arith, c.into_store.ensures.quiet.clean, sure));
}
