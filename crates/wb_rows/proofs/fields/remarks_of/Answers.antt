use Rattle.wb_rows.proofs.FaultLemmas.{passed}
use Rattle.wb_rows.proofs.ReadLemmas.{no_note, no_message}
use Rattle.wb_rows.proofs.fields.remarks_of.Goals as goal

pub returns-in_err-note-clause-refused : goal.returns-in_err-note-clause-refused
returns-in_err-note-clause-refused c =
    passed _ c.from_residual.result c.from_residual.ensures.1 (λ is. no_note c.args.row.now (c.in_err-note.ensures.refused is))

pub returns-in_err-message-clause-refused : goal.returns-in_err-message-clause-refused
returns-in_err-message-clause-refused c =
    passed _ c.from_residual-in_err-message.result c.from_residual-in_err-message.ensures.1 (λ is. no_message c.args.row.now (c.in_err-message.ensures.refused is))
