use Rattle.deb_control.proofs.TextLineLemmas.{lines-are, lines-only}
use Rattle.deb_control.proofs.laws.texts_are_lines.Goals as goal

pub returns-clause-are : goal.returns-clause-are
returns-clause-are c = lines-are

pub returns-clause-only : goal.returns-clause-only
returns-clause-only c = lines-only
