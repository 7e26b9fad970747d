use Rattle.std.proofs.Common.{◌∙◌, sym, ap}
use Rattle.deb_relations.specs.Reading.{reading_of}
use Rattle.wb_archive.proofs.WaitLemmas.{waits-met}
use Rattle.wb_archive.proofs.waits.are_waits_met.Goals as goal

pub returns-clause-value : goal.returns-clause-value
returns-clause-value g c = λ at clean holds.
    waits-met at.now.binaries c.args.waits.now _ c.deref.result.now _ c.satisfied.result
    (ap reading_of (sym c.as_str.ensures) ∙ c.in-Ok.ensures.ok) (c.deref.ensures.value ∙ c.in_ok-names.ensures.value)
    (c.in_ok-available.ensures.value at clean holds) c.satisfied.ensures.value
