use Rattle.std.proofs.Common.{◌≡◌, ◌∙◌, ap, bytes_eq, sym}
use Rattle.std.specs.FinMap as finite
use Rattle.deb_text.specs.Text.{text_cmp}
use Rattle.deb_text.proofs.KeyLemmas.{text_cmp_total, text_cmp-same}
use Rattle.deb_text.proofs.MapLemmas.{one-inserted}
use Rattle.wb_merge.specs.declared.listing.Built.{Built}
use Rattle.wb_merge.specs.Rows.{BinaryParagraph}
use Rattle.wb_merge.specs.Listing.{built_as}
use Rattle.wb_merge.proofs.OfferLemmas.{differ, agree, build-other, build-kept, build-new}
use Rattle.wb_merge.proofs.offers.offer_build.Goals as goal

pub returns-then-ne-clause-value : goal.returns-then-ne-clause-value
returns-then-ne-clause-value c =
    build-other c.args.arch.now _ c.args.row.now
    (sym (ap (λ (row : BinaryParagraph). bytes_eq c.args.arch.now.name row.arch) c.row.view_is) ∙ differ _ c.ne.result c.ne.ensures c.if-ne.true)

pub returns-then-not-is_later_build-clause-value : goal.returns-then-not-is_later_build-clause-value
returns-then-not-is_later_build-clause-value c =
    build-kept c.args.arch.now _ c.args.row.now
    (sym (ap (λ (row : BinaryParagraph). bytes_eq c.args.arch.now.name row.arch) c.row.view_is) ∙ agree _ c.ne.result c.ne.ensures c.if-ne.false)
    (sym c.is_later_build.ensures ∙ c.if-not-is_later_build.true)

pub returns-clause-value : goal.returns-clause-value
returns-clause-value c =
    let old : finite.FinMap text_cmp Built = finite.from_entries {R = text_cmp} c.args.built.now.entries in
    let name : c.in_ok-clone-2.field-0 ≡ c.args.row.now.source = c.in_ok-clone-2.ensures.cases ∙ c.source.ensures in
    let version : c.in_ok-clone.field-0 ≡ c.args.row.now.source_version = c.in_ok-clone.ensures.cases ∙ c.source_version.ensures in
    let number : c.row.inside.number ≡ c.args.row.now.number = ap (λ (row : BinaryParagraph). row.number) c.row.view_is in
    let made : Built = record { version = c.in_ok-clone.field-0; number = c.row.inside.number } in
    let found : made ≡ built_as c.args.row.now = λ i. record { version = version i; number = number i } in
    one-inserted text_cmp_total text_cmp-same c.args.built.now.entries c.insert.new.self.entries c.in_ok-clone-2.field-0
    (record { version = c.in_ok-clone.field-0; number = c.row.inside.number })
    c.in_ok-insert.ensures.updates.0
    ∙ (λ i. finite.insert old (name i) (found i))
    ∙ build-new c.args.arch.now old c.args.row.now
    (sym (ap (λ (row : BinaryParagraph). bytes_eq c.args.arch.now.name row.arch) c.row.view_is) ∙ agree _ c.ne.result c.ne.ensures c.if-ne.false)
    (sym c.is_later_build.ensures ∙ c.if-not-is_later_build.false)
