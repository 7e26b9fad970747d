use Rattle.std.proofs.Common.{◌∙◌, IfSome, Option, sym, subst}
use Rattle.std.specs.Map.Iter.{deref}
use Rattle.std.specs.Option.{option_map}
use Rattle.wb_states.specs.declared.record.Record.{Record}
use Rattle.wb_archive.specs.Tables.{HasFittingTake}
use Rattle.wb_archive.proofs.DecideLemmas.{found-decided}
use Rattle.wb_archive.proofs.FittingLemmas.{found-fits}
use Rattle.wb_archive.proofs.StopLemmas.{asked-ok, asked-value}
use Rattle.wb_archive.proofs.deciding.found.Goals as goal

pub returns-in-Ok-clause-value : goal.returns-in-Ok-clause-value
returns-in-Ok-clause-value g c = λ at clean holds was.
    let laws = g.met.T.MergeTables in
    let went = asked-ok _ c.binaries_of.result c.asked-2.result c.in_ok-binaries.binaries c.asked-2.ensures c.in_ok-binaries.was c.binaries_of.ensures.follows in
    let middle = laws.clean c.sources_named.new.self c.binaries_of.new.self went clean in
    let gone = asked-ok _ c.sources_named.result c.asked.result c.in_ok-sources.sources c.asked.ensures c.in_ok-sources.was c.sources_named.ensures.follows in
    let first = laws.clean c.is_met.new.tables c.sources_named.new.self gone middle in
    let held = c.in_ok-is_met.ensures.same at first holds in
    let later = asked-ok _ c.sources_named.result c.asked.result c.in_ok-sources.sources c.asked.ensures c.in_ok-sources.was (c.sources_named.ensures.same at middle held) in
    found-decided c.args.arch.now at.now c.args.name.now (option_map deref c.args.old) c.in_ok-is_met.is_met c.deref.result.now c.deref-2.result.now c.in-Ok.new
    was (c.in_ok-is_met.ensures.value at first holds)
    (c.deref.ensures.value ∙ asked-value _ c.sources_named.result c.asked.result c.in_ok-sources.sources c.asked.ensures c.in_ok-sources.was (c.sources_named.ensures.value at middle held))
    (c.deref-2.ensures.value ∙ asked-value _ c.binaries_of.result c.asked-2.result c.in_ok-binaries.binaries c.asked-2.ensures c.in_ok-binaries.was (c.binaries_of.ensures.value at clean later))
    c.in-Ok.ensures.value

pub returns-in-Ok-clause-given : goal.returns-in-Ok-clause-given
returns-in-Ok-clause-given g c =
    subst (λ (new : Option Record). IfSome new HasFittingTake) (sym c.in-Ok.ensures.value)
    (found-fits c.args.arch.now (option_map deref c.args.old) c.args.name.now c.deref.result.now c.deref-2.result.now c.in_ok-is_met.is_met c.requires.given)
