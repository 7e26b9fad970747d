use Rattle.std.proofs.Common.{refl}
use Rattle.sqlite_tied.specs.Compute.{everything}
use Rattle.sqlite_resolve.specs.Compile.{first}
use Rattle.wb_sql.specs.Tables.{source_state}
use Rattle.wb_sql.proofs.CreateLemmas.{table_among}
use Rattle.wb_sql.proofs.first_schema.source_state.Goals as goal

pub returns : goal.returns
unfolding first everything
returns c = table_among source_state _ (record {
  def = _;
  start = _;
  stop = _;
  tail = _;
  ends = refl;
  first_is = refl;
  name_is = refl;
  own = refl;
  defined = refl;
  plain = refl;
  alone = refl;
  uncounted = refl;
})
