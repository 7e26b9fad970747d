use Rattle.std.proofs.Common.{subst}
use Rattle.deb_control.specs.Pieces.{ReadsRun}
use Rattle.deb_control.specs.declared.source.RunRead.{RunRead}
use Rattle.deb_control.proofs.FeedLemmas.{refuses-first, refuses-large}
use Rattle.deb_control.proofs.feed.read_next.Goals as goal

pub returns-in-TooLarge-clause-refused : goal.returns-in-TooLarge-clause-refused
returns-in-TooLarge-clause-refused g c = λ _ _.
    refuses-large c.args.source.now c.read_paragraph.new.self
    (subst (λ (r : RunRead). ReadsRun r c.args.source.now c.read_paragraph.new.self) c.in-TooLarge.is c.in_ok-read_paragraph.ensures.value).value

pub returns-in_err-paragraph-in-Paragraph-clause-refused : goal.returns-in_err-paragraph-in-Paragraph-clause-refused
returns-in_err-paragraph-in-Paragraph-clause-refused g c =
    refuses-first c.args.source.now c.read_paragraph.new.self c.in-Paragraph.bytes.items c.from_residual-in_err-paragraph-in-Paragraph.result c.in_err-paragraph-in-Paragraph.field-0.0
    c.from_residual-in_err-paragraph-in-Paragraph.ensures.1
    (subst (λ (r : RunRead). ReadsRun r c.args.source.now c.read_paragraph.new.self) c.in-Paragraph.is c.in_ok-read_paragraph.ensures.value).value
    c.in_err-paragraph-in-Paragraph.ensures.refused
