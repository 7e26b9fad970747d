use Rattle.std.proofs.Common.{◌≡◌, ◌≢◌, Err, IsOk, ap, sym, subst, ◌∙◌}
use Rattle.deb_version.specs.Syntax.{reading_of}
use Rattle.deb_version.specs.declared.fault.VersionFault.TheVariants.{Memory}
use Rattle.wb_step.proofs.TextLemmas.{read-refused, version-memory}
use Rattle.wb_step.proofs.texts.read_version.Goals as goal

pub returns-in-Err-clause-refused : goal.returns-in-Err-clause-refused
returns-in-Err-clause-refused c =
    let reads : c.in-Err.fault ≢ Memory → reading_of c.args.text.now ≡ Err c.in-Err.fault =
    λ differs. ap reading_of (sym c.as_str.ensures) ∙ c.in-Err.ensures.refused differs in
    rw c.version_refused.ensures.value (read-refused c.args.text.now c.in-Err.fault reads)

pub returns-in-Err-clause-memory : goal.returns-in-Err-clause-memory
returns-in-Err-clause-memory c =
    let reads : c.in-Err.fault ≡ Memory → IsOk (reading_of c.args.text.now) =
    λ none. subst IsOk (ap reading_of c.as_str.ensures) (c.in-Err.ensures.memory none) in
    rw c.version_refused.ensures.value (version-memory c.args.text.now c.in-Err.fault reads)
