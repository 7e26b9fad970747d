use Rattle.std.proofs.Common.{refl}
use Rattle.sqlite_tied.specs.Compute.{everything}
use Rattle.sqlite_resolve.specs.Compile.{first}
use Rattle.wb_sql.proofs.FormatLemmas.{asks_format}
use Rattle.wb_sql.proofs.statements.office_format.Goals as goal

pub returns : goal.returns
unfolding first everything
returns c = asks_format _ 0 25 25 refl refl
