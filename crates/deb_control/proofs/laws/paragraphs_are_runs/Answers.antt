use Rattle.deb_control.proofs.ParagraphLemmas.{HaveParagraphs-paragraphs_in, paragraphs_in-HaveParagraphs}
use Rattle.deb_control.proofs.laws.paragraphs_are_runs.Goals as goal

pub returns-clause-are : goal.returns-clause-are
returns-clause-are c = HaveParagraphs-paragraphs_in

pub returns-clause-only : goal.returns-clause-only
returns-clause-only c = paragraphs_in-HaveParagraphs
