use Rattle.deb_control.proofs.LineFeedLemmas.{feed-place}
use Rattle.deb_control.proofs.lines.line_feed_place.Goals as goal

pub returns : goal.returns
returns c = feed-place c.args.bytes.now c.memchr.result c.memchr.ensures
