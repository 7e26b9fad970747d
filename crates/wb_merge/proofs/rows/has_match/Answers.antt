-- The chain gives the parts between tabs of the parts between spaces.
use Rattle.std.proofs.Common.{◌∙◌, eqb, lit<, rules, tests}
use Rattle.std.specs.List.{slice_split}
use Rattle.std.proofs.lemmas.Iterator.Splits.{YieldsList-from_str_split}
use Rattle.std.proofs.lemmas.Iterator.Adapters.{YieldsList-from_flat_map}
use Rattle.std.proofs.lemmas.Iterator.Consumers.{YieldsList-at}
use Rattle.std.proofs.lemmas.Iterator.Search.{any_from_yields_List}
use Rattle.deb_relations.specs.Arch.{arch_matches}
use Rattle.wb_merge.proofs.WordLemmas.{passes_as_word, any-word}
use Rattle.wb_merge.proofs.rows.has_match.Goals as goal

pub returns : goal.returns
returns c =
    any_from_yields_List (passes_as_word (λ word. arch_matches word c.args.arch.now)) _ _ c.any.result c.any.ensures.ran
    (YieldsList-from_flat_map _ _ _ (λ x. x.now) (slice_split (λ b. eqb b 9)) _ (λ x u q k. (search rules, λ j e. YieldsList-at e (YieldsList-from_str_split 9 x.now (lit< tt) (search rules) (search rules) (search rules))))
    (YieldsList-at c.flat_map.ensures.source (YieldsList-from_str_split 32 c.args.words.now (lit< tt) c.split.ensures.text c.split.ensures.has_more c.split.ensures.pattern))
    c.flat_map.ensures.closure c.flat_map.ensures.front c.flat_map.ensures.back c.flat_map.ensures.done)
    (λ x b q k. search (rules, tests))
    ∙ any-word (λ word. arch_matches word c.args.arch.now) c.args.words.now
