use Rattle.std.proofs.Common.{◌≡◌, ◌∙◌, not, sym, ap}
use Rattle.std.specs.FinMap as finite
use Rattle.deb_text.specs.Text.{text_cmp}
use Rattle.deb_text.proofs.KeyLemmas.{text_cmp_total, text_cmp-same}
use Rattle.deb_text.proofs.MapLemmas.{one-inserted}
use Rattle.wb_merge.specs.Report.{Lines}
use Rattle.wb_merge.proofs.ReportLemmas.{unread-adds, unread-bad, read-adds, read-bad}
use Rattle.wb_merge.proofs.report.add_line.Goals as goal

pub returns-then-is_blank_line-clause-value : goal.returns-then-is_blank_line-clause-value
returns-then-is_blank_line-clause-value c =
    unread-adds (finite.from_entries {R = text_cmp} c.args.lines.now.entries) c.args.line.now c.in_ok-read.field-0
    c.in_ok-read.ensures.value c.in_default.is

pub returns-then-is_blank_line-clause-ok : goal.returns-then-is_blank_line-clause-ok
returns-then-is_blank_line-clause-ok c =
    unread-bad (finite.from_entries {R = text_cmp} c.args.lines.now.entries) c.args.line.now c.in_ok-read.field-0
    c.in_ok-read.ensures.value c.in_default.is c.as_bytes.result.now c.is_blank_line.result c.as_bytes.ensures.value c.is_blank_line.ensures
    ∙ ap not c.if-is_blank_line.true

pub returns-in_default-clause-bad : goal.returns-in_default-clause-bad
returns-in_default-clause-bad c = λ _.
    unread-bad (finite.from_entries {R = text_cmp} c.args.lines.now.entries) c.args.line.now c.in_ok-read.field-0
    c.in_ok-read.ensures.value c.in_default.is c.as_bytes.result.now c.is_blank_line.result c.as_bytes.ensures.value c.is_blank_line.ensures
    ∙ ap not c.if-is_blank_line.false

pub returns-then-is_repeated-clause-bad : goal.returns-then-is_repeated-clause-bad
returns-then-is_repeated-clause-bad c = λ _.
    read-bad (finite.from_entries {R = text_cmp} c.args.lines.now.entries) c.args.line.now c.in_ok-read.field-0 c.in-Some.read
    c.in_ok-read.ensures.value c.in-Some.is
    ∙ sym c.is_repeated.ensures ∙ c.if-is_repeated.true

pub returns-clause-value : goal.returns-clause-value
returns-clause-value c =
    let old : Lines = finite.from_entries {R = text_cmp} c.args.lines.now.entries in
    let source : c.in_ok-clone.field-0 ≡ c.in-Some.read.source = c.in_ok-clone.ensures.cases in
    one-inserted text_cmp_total text_cmp-same c.args.lines.now.entries c.insert.new.self.entries c.in_ok-clone.field-0 c.in-Some.read
    c.in_ok-insert.ensures.updates.0
    ∙ ap (λ name. finite.insert old name c.in-Some.read) source
    ∙ read-adds old c.args.line.now c.in_ok-read.field-0 c.in-Some.read c.in_ok-read.ensures.value c.in-Some.is

pub returns-clause-ok : goal.returns-clause-ok
returns-clause-ok c =
    read-bad (finite.from_entries {R = text_cmp} c.args.lines.now.entries) c.args.line.now c.in_ok-read.field-0 c.in-Some.read
    c.in_ok-read.ensures.value c.in-Some.is
    ∙ sym c.is_repeated.ensures ∙ c.if-is_repeated.false
