use Rattle.std.proofs.Common.{rules}
use Rattle.wb_sql.proofs.EndingLemmas.{kept_or_undone}
use Rattle.wb_sql.proofs.savepoints.run_on_part.Goals as goal

pub returns-in_err-execute-clause-err : goal.returns-in_err-execute-clause-err
returns-in_err-execute-clause-err g c clean inside = search (rules, kept_or_undone)
