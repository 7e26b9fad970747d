use Rattle.wb_merge.proofs.ReportReadLemmas.{report-read, report-refused}
use Rattle.wb_merge.proofs.laws.the_first_bad_line_decides.Goals as goal

pub returns-clause-read : goal.returns-clause-read
returns-clause-read c = report-read

pub returns-clause-refused : goal.returns-clause-refused
returns-clause-refused c = report-refused
