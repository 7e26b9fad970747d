use Rattle.deb_control.proofs.ReadLemmas.{reading_of-large, reading_of-not_utf8}
use Rattle.deb_control.proofs.paragraph.Paragraph.read.Goals as goal

pub returns-then-bytes-gt-PARAGRAPH_LIMIT-clause-refused : goal.returns-then-bytes-gt-PARAGRAPH_LIMIT-clause-refused
returns-then-bytes-gt-PARAGRAPH_LIMIT-clause-refused c = λ _. reading_of-large c.args.bytes.now c.if-bytes-gt-PARAGRAPH_LIMIT.true

pub returns-in_default-clause-refused : goal.returns-in_default-clause-refused
returns-in_default-clause-refused c = λ _. reading_of-not_utf8 c.args.bytes.now c.if-bytes-gt-PARAGRAPH_LIMIT.false c.in_default.ensures.cases.0
