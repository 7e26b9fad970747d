use Rattle.wb_rows.proofs.FaultLemmas.{passed}
use Rattle.wb_rows.proofs.ScratchLemmas.{no_source_priority, no_source_section}
use Rattle.wb_rows.proofs.scratch.source_labels_of.Goals as goal

pub returns-in_err-priority-clause-refused : goal.returns-in_err-priority-clause-refused
returns-in_err-priority-clause-refused c =
    passed _ c.from_residual.result c.from_residual.ensures.1 (λ is. no_source_priority c.args.row.now (c.in_err-priority.ensures.refused is))

pub returns-in_err-section-clause-refused : goal.returns-in_err-section-clause-refused
returns-in_err-section-clause-refused c =
    passed _ c.from_residual-in_err-section.result c.from_residual-in_err-section.ensures.1 (λ is. no_source_section c.args.row.now (c.in_err-section.ensures.refused is))
