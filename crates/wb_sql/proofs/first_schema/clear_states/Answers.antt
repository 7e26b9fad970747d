use Rattle.std.proofs.Common.{refl, []}
use Rattle.sqlite_tied.specs.Compute.{everything}
use Rattle.sqlite_resolve.specs.Compile.{first}
use Rattle.wb_sql.specs.Tables.{source_state}
use Rattle.wb_sql.proofs.AmongLemmas.{deletes_among}
use Rattle.wb_sql.proofs.first_schema.clear_states.Goals as goal

pub returns : goal.returns
unfolding first everything
returns c = deletes_among source_state _ [] (record {
  tests = [];
  names = [];
  start = 0;
  stop = 24;
  tail = 24;
  ends = refl;
  counted = refl;
  first_is = refl;
  tests_are = λ tree. tt;
  small = refl;
  typed = λ tree. refl;
  terms_are = λ tree. refl;
  still = record { uncounted = refl; unstamped = refl; untimed = refl };
})
