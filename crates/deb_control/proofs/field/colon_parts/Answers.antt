use Rattle.std.proofs.Common.{◌∙◌, sym}
use Rattle.deb_control.proofs.LineFeedLemmas.{colon-cut}
use Rattle.deb_control.proofs.field.colon_parts.Goals as goal

pub range-requires-clause-end_boundary : goal.range-requires-clause-end_boundary
range-requires-clause-end_boundary c =
    (colon-cut c.as_bytes.result.now c.args.line.now c.in-Some.at c.as_bytes.ensures.value c.utf8.line (sym c.colon_place.ensures ∙ c.in-Some.is)).here

pub range_from-requires : goal.range_from-requires
range_from-requires c =
    λ _. (colon-cut c.as_bytes.result.now c.args.line.now c.in-Some.at c.as_bytes.ensures.value c.utf8.line (sym c.colon_place.ensures ∙ c.in-Some.is)).behind
