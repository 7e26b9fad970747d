use Rattle.deb_control.proofs.LineFeedLemmas.{colon-place}
use Rattle.deb_control.proofs.field.colon_place.Goals as goal

pub returns : goal.returns
returns c = colon-place c.args.bytes.now c.memchr.result c.memchr.ensures
