use Rattle.std.proofs.Common.{◌≡◌, ◌<◌, ◌∙◌, ap, arith, length}
use Rattle.std.specs.Prelude.{not}
use Rattle.deb_control.proofs.RunLemmas.{begins_paragraph-nil, begins_paragraph-test}
use Rattle.deb_control.proofs.lines.after_line.Goals as goal

pub returns-then-is_empty-clause-none : goal.returns-then-is_empty-clause-none
returns-then-is_empty-clause-none c =
    let none : length c.args.bytes.now ≡ 0 = grind (arith, c.is_empty.ensures, c.if-is_empty.true) in
    begins_paragraph-nil c.args.bytes.now none

pub returns-then-is_blank_line-clause-none : goal.returns-then-is_blank_line-clause-none
returns-then-is_blank_line-clause-none c =
    let some : 0 < length c.args.bytes.now = grind (arith, c.is_empty.ensures, c.if-is_empty.false) in
    begins_paragraph-test c.args.bytes.now c.split_line.result.0.now c.is_blank_line.result some c.split_line.ensures.line c.is_blank_line.ensures
    ∙ ap not c.if-is_blank_line.true

pub returns-clause-some : goal.returns-clause-some
returns-clause-some c =
    let some : 0 < length c.args.bytes.now = grind (arith, c.is_empty.ensures, c.if-is_empty.false) in
    begins_paragraph-test c.args.bytes.now c.split_line.result.0.now c.is_blank_line.result some c.split_line.ensures.line c.is_blank_line.ensures
    ∙ ap not c.if-is_blank_line.false
