use Rattle.std.proofs.Common.{refl}
use Rattle.sqlite_tied.specs.Compute.{everything}
use Rattle.sqlite_resolve.specs.Compile.{first}
use Rattle.wb_sql.specs.Tables.{source_state, state_order}
use Rattle.wb_sql.proofs.CreateLemmas.{index_among}
use Rattle.wb_sql.proofs.first_schema.queue_order.Goals as goal

pub returns : goal.returns
unfolding first everything
returns c = index_among source_state state_order _ (record {
  def = _;
  start = _;
  stop = _;
  tail = _;
  ends = refl;
  first_is = refl;
  on = refl;
  name_is = refl;
  others = refl;
  own = refl;
  defined = λ tree. refl;
  alone = refl;
})
