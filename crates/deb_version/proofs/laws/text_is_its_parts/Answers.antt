use Rattle.deb_version.proofs.LawLemmas.{text_parts}
use Rattle.deb_version.proofs.laws.text_is_its_parts.Goals as goal

pub returns : goal.returns
returns c = text_parts
