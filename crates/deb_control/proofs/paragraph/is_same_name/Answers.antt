use Rattle.std.specs.Bool.{one_answer}
use Rattle.std.proofs.lemmas.Slice.Eq.{bytes_eq-Decides}
use Rattle.deb_control.proofs.paragraph.is_same_name.Goals as goal

pub returns : goal.returns
returns c = one_answer _ _ c.eq_ignore_ascii_case.ensures.test (bytes_eq-Decides _ _)
