use Rattle.std.proofs.Common.{◌∙◌, sym}
use Rattle.deb_control.proofs.LineFeedLemmas.{line_feed-cut}
use Rattle.deb_control.proofs.lines.split_text.Goals as goal

pub range-requires-clause-end_boundary : goal.range-requires-clause-end_boundary
range-requires-clause-end_boundary c = (line_feed-cut c.as_bytes.result.now c.args.text.now c.in-Some.at c.as_bytes.ensures.value c.utf8.text (sym c.line_feed_place.ensures ∙ c.in-Some.is)).here

pub range_from-requires : goal.range_from-requires
range_from-requires c =
    λ _. (line_feed-cut c.as_bytes.result.now c.args.text.now c.in-Some.at c.as_bytes.ensures.value c.utf8.text (sym c.line_feed_place.ensures ∙ c.in-Some.is)).behind
