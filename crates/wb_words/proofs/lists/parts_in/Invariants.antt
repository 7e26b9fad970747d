use Rattle.std.proofs.Common.{◌≡◌, ◌++◌, map, drop}
use Rattle.std.specs.Prelude.{option_map}
use Rattle.wb_words.specs.Arguments.{parts_in}
use Rattle.wb_words.proofs.lists.parts_in.Given as goal

abbrev pub invariant-loop-word : goal.invariant-loop-word
invariant-loop-word l = option_map (λ parts. l.parts ++ parts)
    (parts_in (map (λ word. word.now) (drop l.word-index l.words)))
    ≡ parts_in (map (λ word. word.now) l.words)
