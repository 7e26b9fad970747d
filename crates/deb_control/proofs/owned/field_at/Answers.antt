use Rattle.std.proofs.Common.{◌∙◌}
use Rattle.deb_control.proofs.OwnedLemmas.{field_of-none, trim-nil}
use Rattle.deb_control.proofs.owned.field_at.Goals as goal

pub returns-in-None : goal.returns-in-None
returns-in-None c = c.new-in-None.ensures ∙ field_of-none c.args.line.now c.args.rest.now _ c.in-None.ensures.none trim-nil
