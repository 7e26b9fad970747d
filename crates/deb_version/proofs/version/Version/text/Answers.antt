use Rattle.std.proofs.Common.{ap, ◌∙◌, sym}
use Rattle.deb_version.specs.Syntax.{fault_of}
use Rattle.deb_version.proofs.ReadingLemmas.{reading_of-ok}
use Rattle.deb_version.proofs.version.Version.text.Goals as goal

pub returns-clause-ok : goal.returns-clause-ok
returns-clause-ok c = reading_of-ok c.args.self.now (ap fault_of (sym c.self.view_is) ∙ c.self.invariant.faultless)
