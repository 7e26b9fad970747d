use Rattle.std.proofs.Common.{ap, ◌∙◌}
use Rattle.deb_version.specs.Syntax.{epoch_of, parts_of}
use Rattle.deb_version.proofs.version.Version.epoch.Goals as goal

pub returns : goal.returns
unfolding parts_of
returns c = c.self.invariant.number ∙ ap epoch_of c.self.view_is
