use Rattle.wb_archive.proofs.WaitedLemmas.{waited-step}
use Rattle.wb_archive.proofs.waited.add_names.Goals as goal

pub loop-name-preserved : goal.loop-name-preserved
loop-name-preserved c = λ other.
    waited-step c.loop-name.waited c.insert.new.self c.name-item.result c.in_ok-clone.field-0 c.args.names.now c.loop-name.name-index _ c.loop-name-test.true c.name-item.is
    c.in_ok-clone.ensures.cases c.in_ok-insert.ensures.updates other (c.loop-name.invariant other)
