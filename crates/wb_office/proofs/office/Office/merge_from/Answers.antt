use Rattle.std.proofs.Common.{◌≡◌, None, Some, subst}
use Rattle.wb_archive.specs.Readers.{archs_refusal}
use Rattle.wb_store.proofs.ReadLemmas.{handed_on}
use Rattle.wb_office.proofs.ListApplyLemmas.{lists_applied, lists_applied_noted, lists_not_applied, names_not_applied}
use Rattle.wb_office.proofs.office.Office.merge_from.Goals as goal

pub returns-in_err-check_archs-clause-applies : goal.returns-in_err-check_archs-clause-applies
returns-in_err-check_archs-clause-applies g c =
    names_not_applied g.S.Store g.R.Read.remaining c.args.sources c.args.parts.items c.args.self.now.is_closed c.args.self.now.known c.args.self.now.store c.if-self.false
    c.in_err-check_archs.field-0.0 (subst (λ lists. archs_refusal lists ≡ Some c.in_err-check_archs.field-0.0) c.as_slice.ensures.value c.in_err-check_archs.ensures.refused)
    c.from_residual.result (handed_on c.from_residual.result c.from_residual.ensures.1)

pub returns-in-Ok-clause-applies : goal.returns-in-Ok-clause-applies
returns-in-Ok-clause-applies g c =
    lists_applied g.S.Store g.R.Read.remaining c.args.sources c.args.parts.items c.args.self.now.is_closed c.args.self.now.known c.args.self.now.store c.if-self.false
    (subst (λ lists. archs_refusal lists ≡ None) c.as_slice.ensures.value c.in_ok-check_archs.ensures.ok)
    c.answer_lists.new.store c.answer_lists.new.known c.in-Ok.reply c.in-Ok.ensures.responds

pub returns-in-Ok-clause-noted : goal.returns-in-Ok-clause-noted
returns-in-Ok-clause-noted g c =
    lists_applied_noted g.S.Store g.R.Read.remaining c.args.sources c.args.parts.items c.args.self.now.is_closed c.args.self.now.known c.args.self.now.store c.if-self.false
    (subst (λ lists. archs_refusal lists ≡ None) c.as_slice.ensures.value c.in_ok-check_archs.ensures.ok)
    c.no_notes-notes.result c.answer_lists.new.notes c.answer_lists.new.store c.answer_lists.new.known c.in-Ok.reply
    c.no_notes-notes.ensures.value c.in-Ok.ensures.noted

pub returns-in-Err-clause-applies : goal.returns-in-Err-clause-applies
returns-in-Err-clause-applies g c =
    lists_not_applied g.S.Store g.R.Read.remaining c.args.sources c.args.parts.items c.args.self.now.is_closed c.args.self.now.known c.args.self.now.store c.if-self.false
    (subst (λ lists. archs_refusal lists ≡ None) c.as_slice.ensures.value c.in_ok-check_archs.ensures.ok)
    c.answer_lists.new.store c.end-refusal.new.store c.end-refusal.result.1 c.answer_lists.new.known c.in-Err.failure c.end-refusal.result.0 c.in-Err.ensures.responds c.end-refusal.ensures.ends
