use Rattle.std.proofs.Common.{refl, [], codes, ◌∷◌}
use Rattle.sqlite_tied.specs.Compute.{everything}
use Rattle.sqlite_resolve.specs.Compile.{first}
use Rattle.wb_sql.specs.Tables.{builder, text}
use Rattle.wb_sql.specs.OfficeStatements.{has_pair}
use Rattle.wb_sql.proofs.AmongLemmas.{deletes_among}
use Rattle.wb_sql.proofs.statements.remove_builder.Goals as goal

pub returns : goal.returns
unfolding first everything
returns c = deletes_among builder _ has_pair (record {
  tests = (0, text (codes "name"), 1) ∷ (1, text (codes "arch"), 2) ∷ [];
  names = codes "?1" ∷ codes "?2" ∷ [];
  start = 0;
  stop = 49;
  tail = 49;
  ends = refl;
  counted = refl;
  first_is = refl;
  tests_are = λ tree. (record { column = record { named = refl; is = refl }; place = refl; plain = refl }, record { column = record { named = refl; is = refl }; place = refl; plain = refl });
  small = refl;
  typed = λ tree. refl;
  terms_are = λ tree. refl;
  still = record { uncounted = refl; unstamped = refl; untimed = refl };
})
