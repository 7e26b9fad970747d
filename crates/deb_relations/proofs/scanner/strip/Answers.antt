use Rattle.std.proofs.lemmas.Str.Pattern.{strip_prefix_char}
use Rattle.deb_relations.proofs.ScannerLemmas.{strip-is}
use Rattle.deb_relations.proofs.scanner.strip.Goals as goal

pub returns : goal.returns
returns c = strip-is c.args.mark c.args.text.now c.strip_prefix.result (strip_prefix_char c.args.mark c.args.text.now c.strip_prefix.result c.strip_prefix.ensures.cases c.requires)
