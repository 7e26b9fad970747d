use Rattle.std.proofs.Common.{◌≡◌, ◌∙◌, ap, Option, List, ℕ, sym}
use Rattle.std.specs.FinMap as finite
use Rattle.deb_text.specs.Text.{text_cmp}
use Rattle.deb_text.proofs.KeyLemmas.{text_cmp_total, text_cmp-same}
use Rattle.deb_text.proofs.MapLemmas.{one-inserted}
use Rattle.wb_merge.specs.declared.listing.Listed.{Listed}
use Rattle.wb_merge.specs.Rows.{SourceParagraph}
use Rattle.wb_merge.specs.Listing.{listed_as, listed_with}
use Rattle.wb_merge.proofs.OfferLemmas.{source-other, source-kept, source-new}
use Rattle.wb_merge.proofs.offers.offer_source.Goals as goal

pub returns-then-not-is_listed-clause-value : goal.returns-then-not-is_listed-clause-value
returns-then-not-is_listed-clause-value c =
    source-other c.args.arch.now _ c.args.row (sym c.is_listed.ensures ∙ c.if-not-is_listed.true)

pub returns-then-not-is_later_source-clause-value : goal.returns-then-not-is_later_source-clause-value
returns-then-not-is_later_source-clause-value c =
    source-kept c.args.arch.now _ c.args.row (sym c.is_listed.ensures ∙ c.if-not-is_listed.false)
    (sym (c.is_later_source.ensures c.args.arch.now) ∙ c.if-not-is_later_source.true)

pub returns-clause-value : goal.returns-clause-value
returns-clause-value c =
    let old : finite.FinMap text_cmp Listed = finite.from_entries {R = text_cmp} c.args.listed.now.entries in
    let name : c.in_ok-name.name ≡ c.args.row.name = c.in_ok-name.ensures.cases ∙ ap (λ (row : SourceParagraph). row.name) c.row.view_is in
    let found : c.listed_with.result ≡ listed_as c.args.arch.now c.args.row =
    c.listed_with.ensures.value ∙ ap (λ (depends : Option (List ℕ)). listed_with depends c.args.row) c.in_ok-depends.ensures.value in
    one-inserted text_cmp_total text_cmp-same c.args.listed.now.entries c.insert.new.self.entries c.in_ok-name.name c.listed_with.result
    c.in_ok-insert.ensures.updates.0
    ∙ (λ i. finite.insert old (name i) (found i))
    ∙ source-new c.args.arch.now old c.args.row (sym c.is_listed.ensures ∙ c.if-not-is_listed.false)
    (sym (c.is_later_source.ensures c.args.arch.now) ∙ c.if-not-is_later_source.false)
