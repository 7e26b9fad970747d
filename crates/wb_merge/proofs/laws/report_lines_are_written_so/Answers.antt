use Rattle.wb_merge.proofs.ReportGrammarLemmas.{line-written}
use Rattle.wb_merge.proofs.laws.report_lines_are_written_so.Goals as goal

pub returns : goal.returns
returns c = record { written = line-written }
