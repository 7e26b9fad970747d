use Rattle.std.proofs.Common.{◌≡◌, ◌<◌, ◌∙◌, sym, arith, length}
use Rattle.deb_control.proofs.RunLemmas.{paragraphs_in-empty, begins_paragraph-else}
use Rattle.deb_control.proofs.lines.next_paragraph.Goals as goal

pub returns-then-is_empty-clause-none : goal.returns-then-is_empty-clause-none
returns-then-is_empty-clause-none c =
    let none : length c.without_separators-start.result.now ≡ 0 = grind (arith, c.is_empty.ensures, c.if-is_empty.true) in
    sym c.without_separators-start.ensures.same ∙ paragraphs_in-empty c.without_separators-start.result.now none

pub cut_paragraph-requires : goal.cut_paragraph-requires
cut_paragraph-requires c =
    let some : 0 < length c.without_separators-start.result.now = grind (arith, c.is_empty.ensures, c.if-is_empty.false) in
    begins_paragraph-else c.without_separators-start.result.now some c.without_separators-start.ensures.first
