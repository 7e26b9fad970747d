use Rattle.std.proofs.Common.{◌≡◌, ◌∙◌, ap, List, ℕ}
use Rattle.std.specs.Map.{lookup}
use Rattle.std.specs.BTreeMap.{is_at}
use Rattle.std.specs.Ordering.{is_gt, ordering_then, nat_cmp}
use Rattle.deb_text.specs.Text.{text_cmp}
use Rattle.deb_version.specs.Order.{version_cmp}
use Rattle.wb_merge.specs.Rows.{BinaryParagraph}
use Rattle.wb_merge.specs.Listing.{built_cmp, built_as}
use Rattle.wb_merge.proofs.OfferLemmas.{better-some, better-none}
use Rattle.wb_merge.proofs.offers.is_later_build.Goals as goal

pub returns-in-Some : goal.returns-in-Some
returns-in-Some c =
    let number : c.row.inside.number ≡ c.args.row.now.number = ap (λ (row : BinaryParagraph). row.number) c.row.view_is in
    let later : c.is_gt.result ≡ is_gt (ordering_then (version_cmp c.args.row.now.source_version c.in-Some.best.now.version) (nat_cmp c.args.row.now.number c.in-Some.best.now.number)) =
    cc (c.is_gt.ensures, c.then.ensures, c.cmp.ensures, c.compare.ensures, c.source_version.ensures, number) in
    better-some built_cmp c.args.built.now.entries c.args.row.now.source c.in-Some.best.now (built_as c.args.row.now) c.is_gt.result
    (c.in-Some.ensures.value ∙ ap (λ (name : List ℕ). lookup (is_at (text_cmp name)) c.args.built.now.entries) c.source.ensures)
    later

pub returns-in-None : goal.returns-in-None
returns-in-None c =
    better-none built_cmp c.args.built.now.entries c.args.row.now.source (built_as c.args.row.now)
    (c.in-None.ensures.value ∙ ap (λ (name : List ℕ). lookup (is_at (text_cmp name)) c.args.built.now.entries) c.source.ensures)
