use Rattle.deb_version.proofs.VersionGrammarLemmas.{versions-is, versions-only}
use Rattle.deb_version.proofs.laws.versions_are_read.Goals as goal

pub returns-clause-is : goal.returns-clause-is
returns-clause-is c = versions-is

pub returns-clause-only : goal.returns-clause-only
returns-clause-only c = versions-only
