use Rattle.deb_version.specs.declared.fault.VersionFault.TheVariants.{RevisionBad, UpstreamBad}
use Rattle.deb_version.proofs.BadPlaceLemmas.{refused-stands}
use Rattle.deb_version.proofs.laws.bad_characters_stand_in_the_text.Goals as goal

pub returns-clause-upstream : goal.returns-clause-upstream
returns-clause-upstream c = λ text place e. refused-stands text (UpstreamBad place) e

pub returns-clause-revision : goal.returns-clause-revision
returns-clause-revision c = λ text place e. refused-stands text (RevisionBad place) e
