use Rattle.std.proofs.Common.{◌≡◌, ◌<◌, ◌∙◌, arith, length}
use Rattle.deb_control.proofs.RunLemmas.{begins_separator-nil, begins_separator-test}
use Rattle.deb_control.proofs.lines.after_separator.Goals as goal

pub returns-then-is_empty-clause-none : goal.returns-then-is_empty-clause-none
returns-then-is_empty-clause-none c =
    let none : length c.args.bytes.now ≡ 0 = grind (arith, c.is_empty.ensures, c.if-is_empty.true) in
    begins_separator-nil c.args.bytes.now none

pub returns-then-is_blank_line-clause-some : goal.returns-then-is_blank_line-clause-some
returns-then-is_blank_line-clause-some c =
    let some : 0 < length c.args.bytes.now = grind (arith, c.is_empty.ensures, c.if-is_empty.false) in
    begins_separator-test c.args.bytes.now c.split_line.result.0.now c.is_blank_line.result some c.split_line.ensures.line c.is_blank_line.ensures
    ∙ c.if-is_blank_line.true

pub returns-clause-none : goal.returns-clause-none
returns-clause-none c =
    let some : 0 < length c.args.bytes.now = grind (arith, c.is_empty.ensures, c.if-is_empty.false) in
    begins_separator-test c.args.bytes.now c.split_line.result.0.now c.is_blank_line.result some c.split_line.ensures.line c.is_blank_line.ensures
    ∙ c.if-is_blank_line.false
