use Rattle.std.proofs.Common.{◌∙◌, ap}
use Rattle.std.specs.Map.{lookup}
use Rattle.std.specs.BTreeMap.{is_at}
use Rattle.std.specs.Ordering.{is_gt}
use Rattle.deb_text.specs.Text.{text_cmp}
use Rattle.deb_version.specs.Order.{version_cmp}
use Rattle.wb_merge.specs.Rows.{SourceParagraph}
use Rattle.wb_merge.specs.Listing.{listed_cmp, listed_as}
use Rattle.wb_merge.proofs.OfferLemmas.{better-some, better-none}
use Rattle.wb_merge.proofs.offers.is_later_source.Goals as goal

pub returns-in-Some : goal.returns-in-Some
returns-in-Some c = λ arch.
    better-some listed_cmp c.args.listed.now.entries c.args.row.now.name c.in-Some.best.now (listed_as arch c.args.row.now) c.is_gt.result
    (c.in-Some.ensures.value ∙ ap (λ (row : SourceParagraph). lookup (is_at (text_cmp row.name)) c.args.listed.now.entries) c.row.view_is)
    (c.is_gt.ensures ∙ ap is_gt c.compare.ensures ∙ ap (λ (row : SourceParagraph). is_gt (version_cmp row.version c.in-Some.best.now.version)) c.row.view_is)

pub returns-in-None : goal.returns-in-None
returns-in-None c = λ arch.
    better-none listed_cmp c.args.listed.now.entries c.args.row.now.name (listed_as arch c.args.row.now)
    (c.in-None.ensures.value ∙ ap (λ (row : SourceParagraph). lookup (is_at (text_cmp row.name)) c.args.listed.now.entries) c.row.view_is)
