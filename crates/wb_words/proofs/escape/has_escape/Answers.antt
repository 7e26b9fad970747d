-- The test of the words is that of their texts.
use Rattle.std.proofs.Common.{◌∙◌, codes}
use Rattle.std.specs.Str.{bytes_eq}
use Rattle.clap.proofs.WalkLemmas.{list_any-map}
use Rattle.wb_words.proofs.escape.has_escape.Goals as goal

pub returns : goal.returns
returns c = record { value = c.contains.ensures.value ∙ list_any-map (λ word. bytes_eq word (codes "--")) (λ word. word.now) c.args.words.now }
