use Rattle.std.proofs.Common.{◌≡◌, ◌∙◌, refl, ap, arith, rules, Bor, List, [], ℕ, Option, None, Some, option_map, unwrap_or}
use Rattle.std.proofs.lemmas.Iterator.Consumers.{nth_from_yields_List}
use Rattle.std.proofs.lemmas.Iterator.Splits.{YieldsList-from_str_split}
use Rattle.wb_api.proofs.route.part_at.Goals as goal

-- the text of a part that may be missing
text_of-unwrap_or : (part : Option (Bor (List ℕ))) (other : Bor (List ℕ))
    → (unwrap_or part other).now ≡ unwrap_or (option_map (λ (p : Bor (List ℕ)). p.now) part) other.now
text_of-unwrap_or None other = refl
text_of-unwrap_or (Some part) other = refl

pub returns : goal.returns
returns c =
    let found = nth_from_yields_List c.nth.result c.nth.new.self c.args.count c.nth.ensures.ran
    (YieldsList-from_str_split 47 c.args.target.now (omega arith) (search rules) (search rules) (search rules)) in
    record {
      value = ap (λ (p : Bor (List ℕ)). p.now) c.unwrap_or.ensures ∙ text_of-unwrap_or c.nth.result _
          ∙ ap (λ (text : Option (List ℕ)). unwrap_or text []) found;
    }
