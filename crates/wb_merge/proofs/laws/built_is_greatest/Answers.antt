use Rattle.std.proofs.Common.{subst, sym, ◌∙◌}
use Rattle.wb_merge.specs.Listing.{IsGreatest, built_cmp, builds}
use Rattle.wb_merge.proofs.GreatestLemmas.{best-is, best-only, built_cmp_total}
use Rattle.wb_merge.proofs.WholeLemmas.{built-get}
use Rattle.wb_merge.proofs.laws.built_is_greatest.Goals as goal

pub returns : goal.returns
returns c = record {
  is = λ arch sources packages name.
      subst (IsGreatest built_cmp (builds arch packages name)) (sym (built-get arch sources packages name)) (best-is built_cmp_total (builds arch packages name));
  only = λ arch sources packages name found greatest.
      best-only built_cmp_total (builds arch packages name) found greatest ∙ sym (built-get arch sources packages name);
}
