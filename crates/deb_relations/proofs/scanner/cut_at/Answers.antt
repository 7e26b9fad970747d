use Rattle.std.proofs.lemmas.Str.Pattern.{split_parts}
use Rattle.deb_relations.proofs.ScannerLemmas.{cut-parts}
use Rattle.deb_relations.proofs.scanner.cut_at.Goals as goal

pub returns : goal.returns
returns c = cut-parts c.args.mark c.args.text.now c.split_once.result (split_parts c.args.mark c.args.text.now c.split_once.result c.split_once.ensures.cases c.requires)
