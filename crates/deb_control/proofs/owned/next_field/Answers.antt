use Rattle.std.proofs.Common.{◌≡◌, ◌<◌, ◌∙◌, sym, ap, arith, length, rules, ◌∷◌}
use Rattle.deb_control.specs.Lines.{lines_in}
use Rattle.deb_control.specs.Fields.{FieldText, fields_of}
use Rattle.deb_control.proofs.OwnedLemmas.{fields_of-more, fields_of-first, fields_of-none}
use Rattle.deb_control.proofs.owned.next_field.Goals as goal

pub returns-then-not-is_continuation_line-clause-some : goal.returns-then-not-is_continuation_line-clause-some
returns-then-not-is_continuation_line-clause-some c =
    let some : 0 < length c.loop-left.left.now = grind (arith, c.is_empty.ensures, c.loop-left-test.true) in
    sym c.loop-left.invariant.1
    ∙ fields_of-first c.loop-left.left.now c.split_text.result.0.now c.split_text.result.1.now some c.split_text.ensures.line c.split_text.ensures.rest
    (sym c.is_continuation_line.ensures ∙ c.if-not-is_continuation_line.true)
    ∙ ap (λ (field : FieldText). field ∷ fields_of (lines_in c.split_text.result.1.now)) (sym c.field_at.ensures)

pub loop-left-preserved : goal.loop-left-preserved
loop-left-preserved c =
    let some : 0 < length c.loop-left.left.now = grind (arith, c.is_empty.ensures, c.loop-left-test.true) in (
      search rules,
      fields_of-more c.loop-left.left.now c.split_text.result.0.now c.split_text.result.1.now some c.split_text.ensures.line c.split_text.ensures.rest
          (sym c.is_continuation_line.ensures ∙ c.if-not-is_continuation_line.false)
          ∙ c.loop-left.invariant.1,
    )

pub returns-clause-none : goal.returns-clause-none
returns-clause-none c =
    let none : length c.loop-left.left.now ≡ 0 = grind (arith, c.is_empty.ensures, c.loop-left-test.false) in
    sym c.loop-left.invariant.1 ∙ fields_of-none c.loop-left.left.now none
