use Rattle.std.proofs.Common.{refl, [], codes, ◌∷◌}
use Rattle.sqlite_tied.specs.Compute.{everything}
use Rattle.sqlite_resolve.specs.Compile.{first}
use Rattle.wb_sql.specs.Tables.{scratch_binary}
use Rattle.wb_sql.proofs.ScratchLemmas.{deletes_up_to}
use Rattle.wb_sql.proofs.scratch.remove_binaries.Goals as goal

pub returns : goal.returns
unfolding first everything
returns c = deletes_up_to scratch_binary _ (record {
  names = codes "?1" ∷ [];
  start = 0;
  stop = 42;
  tail = 42;
  ends = refl;
  counted = refl;
  first_is = refl;
  column_is = λ tree. record { named = refl; is = refl };
  typed = λ tree. refl;
  place = λ tree. refl;
  term_is = λ tree. refl;
  still = record { uncounted = refl; unstamped = refl; untimed = refl };
})
