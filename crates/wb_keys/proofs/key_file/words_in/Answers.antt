-- The chain gives the parts between tabs of the parts between spaces.
use Rattle.std.proofs.Common.{◌≡◌, map, filter, rules, tests, lit<, eqb, ap, ◌∙◌, IfOk}
use Rattle.std.specs.List.{slice_split, flat_map}
use Rattle.std.proofs.lemmas.Iterator.Splits.{YieldsList-from_str_split}
use Rattle.std.proofs.lemmas.Iterator.Adapters.{YieldsList-from_flat_map}
use Rattle.std.proofs.lemmas.Iterator.Consumers.{YieldsList-at, YieldsList-from_filter, map_from_collect}
use Rattle.std.proofs.lemmas.Result.{IfOk-weaker}
use Rattle.deb_text.specs.Lists.{is_nonempty}
use Rattle.deb_text.specs.Lines.{words_in}
use Rattle.deb_text.proofs.WordLemmas.{is_nonempty-length, tabs-spaces}
use Rattle.wb_keys.proofs.key_file.words_in.Goals as goal

pub returns : goal.returns
unfolding words_in
returns c =
    let cut : IfOk c.collect.result (λ words. map (λ w. w.now) words.items
    ≡ filter is_nonempty (flat_map (slice_split (λ b. eqb b 9)) (slice_split (λ b. eqb b 32) c.args.text.now))) =
    map_from_collect _ c.collect.ensures.ran
    (YieldsList-from_filter _ is_nonempty
    (YieldsList-at c.filter.ensures.source
    (YieldsList-from_flat_map _ _ _ (λ x. x.now) (slice_split (λ b. eqb b 9)) _
    (λ x u q k. (
      search rules,
      λ j e. YieldsList-at e
          (YieldsList-from_str_split 9 x.now (lit< tt) (search rules) (search rules) (search rules)),
    ))
    (YieldsList-at c.flat_map.ensures.source (YieldsList-from_str_split 32 c.args.text.now (lit< tt)
    c.split.ensures.text c.split.ensures.has_more c.split.ensures.pattern))
    c.flat_map.ensures.closure c.flat_map.ensures.front c.flat_map.ensures.back c.flat_map.ensures.done))
    c.filter.ensures.closure (λ x r q k. search (rules, tests, is_nonempty-length))) in
    record {
      value = IfOk-weaker c.collect.result _ _
          (λ words h. h ∙ ap (filter is_nonempty) (tabs-spaces c.args.text.now)) cut;
    }
