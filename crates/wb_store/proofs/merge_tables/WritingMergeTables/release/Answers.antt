use Rattle.std.proofs.Common.{sym, subst}
use Rattle.wb_sql.specs.Savepoints.{IsSaved, Releases, release_text}
use Rattle.wb_store.specs.Savepoints.{CallsPart}
use Rattle.wb_store.proofs.PartLemmas.{part_called}
use Rattle.wb_store.proofs.ReadLemmas.{handed_on}
use Rattle.wb_store.proofs.merge_tables.WritingMergeTables.release.Goals as goal

pub returns-in_err-answer_on-clause-calls : goal.returns-in_err-answer_on-clause-calls
returns-in_err-answer_on-clause-calls g c saved =
    rw (← c.store.view_is) (subst (λ r. CallsPart g.S.Store release_text IsSaved Releases c.store.inside.conn
    c.release-answered.new.conn r) (sym (handed_on c.from_residual.result c.from_residual.ensures.1))
    (part_called c.release-answered.ensures.runs c.in_err-answer_on.ensures.value))

pub returns-clause-calls : goal.returns-clause-calls
returns-clause-calls g c saved = rw (← c.store.view_is)
    (part_called c.release-answered.ensures.runs c.in_ok-answer_on.ensures.value)
