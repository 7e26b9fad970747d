use Rattle.std.proofs.Common.{refl, [], codes, ◌∷◌}
use Rattle.sqlite_tied.specs.Compute.{everything}
use Rattle.sqlite_resolve.specs.Compile.{first}
use Rattle.wb_sql.specs.Tables.{arch, text}
use Rattle.wb_sql.specs.OfficeStatements.{has_arch_name}
use Rattle.wb_sql.proofs.AmongLemmas.{deletes_among}
use Rattle.wb_sql.proofs.statements.remove_arch.Goals as goal

pub returns : goal.returns
unfolding first everything
returns c = deletes_among arch _ has_arch_name (record {
  tests = (0, text (codes "name"), 1) ∷ [];
  names = codes "?1" ∷ [];
  start = 0;
  stop = 32;
  tail = 32;
  ends = refl;
  counted = refl;
  first_is = refl;
  tests_are = λ tree. record { column = record { named = refl; is = refl }; place = refl; plain = refl };
  small = refl;
  typed = λ tree. refl;
  terms_are = λ tree. refl;
  still = record { uncounted = refl; unstamped = refl; untimed = refl };
})
