use Rattle.std.proofs.Common.{subst, sym, ◌∙◌}
use Rattle.wb_merge.specs.Listing.{IsGreatest, listed_cmp, candidates}
use Rattle.wb_merge.proofs.GreatestLemmas.{best-is, best-only, listed_cmp_total}
use Rattle.wb_merge.proofs.WholeLemmas.{listed-get}
use Rattle.wb_merge.proofs.laws.listed_is_greatest.Goals as goal

pub returns : goal.returns
returns c = record {
  is = λ arch sources packages name.
      subst (IsGreatest listed_cmp (candidates arch sources name)) (sym (listed-get arch sources packages name)) (best-is listed_cmp_total (candidates arch sources name));
  only = λ arch sources packages name found greatest.
      best-only listed_cmp_total (candidates arch sources name) found greatest ∙ sym (listed-get arch sources packages name);
}
