-- The report of what the file gave, or it is at fault.
use Rattle.std.proofs.Common.{◌∙◌, ap, ap₂, subst, inr, IfSome}
use Rattle.std.specs.Str.{IsUtf8}
use Rattle.std.proofs.lemmas.Bool.{false≢true}
use Rattle.std.proofs.lemmas.Str.{IsUtf8-string_bytes}
use Rattle.wb_states.specs.Forms.{Report}
use Rattle.wb_daemon.specs.Reports.{MayReadList}
use Rattle.wb_daemon.proofs.report.report_of.Goals as goal

pub returns-clause-value : goal.returns-clause-value
returns-clause-value g c =
    let may_read = g.L.Lists.may_read c.args.lists.now in
    let given = subst (λ found. IfSome found (λ bytes. MayReadList may_read c.args.file.now bytes.items)) c.in-Some.is c.in_ok-bytes.ensures.value in
    let same = ap (λ vec. vec.items) c.in-Ok.ensures.ok in (
      c.in-Some.bytes.items,
      given,
      subst IsUtf8 same (IsUtf8-string_bytes c.in-Ok.text),
      ap₂ (λ arch text. Report arch text) c.in_ok-clone.ensures.cases (c.from.ensures ∙ same),
    )

pub returns-in_default-from_utf8-clause-refused : goal.returns-in_default-from_utf8-clause-refused
returns-in_default-from_utf8-clause-refused g c =
    let may_read = g.L.Lists.may_read c.args.lists.now in
    let given = subst (λ found. IfSome found (λ bytes. MayReadList may_read c.args.file.now bytes.items)) c.in-Some.is c.in_ok-bytes.ensures.value in
    inr (c.in-Some.bytes.items, given, λ utf8. absurd (false≢true (c.in_default-from_utf8.ensures.succeeds utf8)))
