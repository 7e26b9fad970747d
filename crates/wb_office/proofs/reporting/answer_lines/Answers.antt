use Rattle.std.proofs.Common.{◌≡◌, ◌∙◌, ◌+◌, ℕ, List, ap, refl, sym, subst, length, map as each, Ok}
use Rattle.std.proofs.lemmas.List.{length-map}
use Rattle.wb_states.specs.declared.command.Command.TheVariants as of
use Rattle.wb_states.specs.declared.counts.Counts.{Counts}
use Rattle.wb_states.specs.declared.keyed.KeyedRecord.{KeyedRecord}
use Rattle.wb_states.specs.declared.reply.Reply.TheVariants.{Reported}
use Rattle.wb_states.specs.Lookups.{entry_of}
use Rattle.wb_merge.specs.Changes.{NotesBetween}
use Rattle.wb_merge.specs.Report.{Lines}
use Rattle.wb_merge.specs.Reported.{records_reported, rows_reported}
use Rattle.wb_step.specs.Step.{lines_said}
use Rattle.wb_store.specs.Finds.{Finds}
use Rattle.wb_office.specs.Answers.{Answers}
use Rattle.wb_office.specs.Rows.{IsAccepted}
use Rattle.wb_office.proofs.AnswerLemmas.{answered_in, found, unread}
use Rattle.wb_office.proofs.BatchLemmas.{batch_done, batch_not_kept}
use Rattle.wb_office.proofs.ReportLemmas.{report_is, report_noted, report_reply}
use Rattle.wb_office.proofs.reporting.answer_lines.Goals as goal

pub returns-in-Err-clause-answers : goal.returns-in-Err-clause-answers
returns-in-Err-clause-answers g c = unread g.S.Store (of.Report c.args.report.now) c.args.store.now c.find_rows.new.store c.find_rows.new.store
    (subst (Finds g.S.Store (λ machine rows. (each entry_of rows.items ≡ rows_reported machine.records c.args.report.now.arch c.args.lines.now)
    × NotesBetween c.no_changes-changes.result c.find_rows.new.changes machine.records
    (records_reported machine.records c.args.report.now.arch c.args.lines.now) c.args.report.now.arch) c.args.store.now c.find_rows.new.store) c.in-Err.is c.find_rows.ensures.finds)

pub returns-in-Ok-keep_batch-clause-answers : goal.returns-in-Ok-keep_batch-clause-answers
returns-in-Ok-keep_batch-clause-answers g c =
    let rows = each entry_of c.deref.result.now in
    let after : Counts = record { handed = c.args.counts.handed; accepted = c.args.counts.accepted + 1 } in
    let number : length rows ≡ c.len-changed.result =
    length-map c.deref.result.now entry_of ∙ ap (λ (l : List KeyedRecord). length l) c.deref.ensures.value ∙ sym c.in-Ok.rows.ok.0 ∙ sym c.len-changed.ensures in
    answered_in g.S.Store (of.Report c.args.report.now) c.args.store.now c.find_rows.new.store c.keep_batch.new.store _
    c.in-Ok.ensures.finds
    (λ machine given found. (given, ap (each entry_of) c.deref.ensures.value ∙ found.0 ∙ ap (rows_reported machine.records c.args.report.now.arch) c.requires.lines))
    (subst (λ (n : ℕ). Answers g.S.Store (λ machine. IsAccepted c.args.counts c.args.report.now machine × (rows ≡ rows_reported machine.records c.args.report.now.arch (lines_said c.args.report.now.text)))
    (of.Report c.args.report.now) c.find_rows.new.store c.keep_batch.new.store
    (Ok (record { reply = Reported (c.args.counts.accepted + 1) n; counts = after }))) number
    (batch_done after (of.Report c.args.report.now) (Reported (c.args.counts.accepted + 1) (length rows))
    c.find_rows.new.store c.keep_batch.new.store
    (λ machine given. report_is c.args.counts after c.args.report.now rows machine (refl, refl) given.0 given.1)
    (λ machine is. report_reply is)
    c.requires.utf8 (c.in-Ok-keep_batch.ensures.keeps (of.Report c.args.report.now))))

pub returns-in-Ok-keep_batch-clause-noted : goal.returns-in-Ok-keep_batch-clause-noted
returns-in-Ok-keep_batch-clause-noted g c = λ clean machine consistent settled given.
    let keeps = c.in-Ok-keep_batch.ensures.keeps (of.Report c.args.report.now) in
    let at = found g.S.Store c.args.store.now c.find_rows.new.store c.in-Ok.ensures.finds (keeps.was_clean clean) consistent settled in
    report_noted c.args.notes.now c.note_changes.new.notes c.no_changes-changes.result c.find_rows.new.changes machine c.args.report.now given.1
    c.no_changes-changes.ensures.value
    (subst (λ (lines : Lines). NotesBetween c.no_changes-changes.result c.find_rows.new.changes machine.records
    (records_reported machine.records c.args.report.now.arch lines) c.args.report.now.arch) c.requires.lines at.1.1)
    c.note_changes.ensures.value

pub returns-in-Err-keep_batch-clause-answers : goal.returns-in-Err-keep_batch-clause-answers
returns-in-Err-keep_batch-clause-answers g c =
    let rows = each entry_of c.deref.result.now in
    answered_in g.S.Store (of.Report c.args.report.now) c.args.store.now c.find_rows.new.store c.keep_batch.new.store
    {Given = λ machine. IsAccepted c.args.counts c.args.report.now machine
    × (rows ≡ rows_reported machine.records c.args.report.now.arch (lines_said c.args.report.now.text))} _
    c.in-Ok.ensures.finds
    (λ machine given found. (given, ap (each entry_of) c.deref.ensures.value ∙ found.0 ∙ ap (rows_reported machine.records c.args.report.now.arch) c.requires.lines))
    (batch_not_kept (record { handed = c.args.counts.handed; accepted = c.args.counts.accepted + 1 })
    (of.Report c.args.report.now) c.find_rows.new.store c.keep_batch.new.store
    c.in-Err-keep_batch.failure
    (λ machine given. report_is c.args.counts (record {
      handed = c.args.counts.handed;
      accepted = c.args.counts.accepted
          + 1;
    }) c.args.report.now rows machine (refl, refl) given.0 given.1)
    (c.in-Err-keep_batch.ensures.keeps (of.Report c.args.report.now)))
