use Rattle.deb_control.proofs.RunLemmas.{passed_none, passed_more, first_paragraph, length-behind_paragraph, length-behind_line}
use Rattle.deb_control.proofs.lines.cut_paragraph.Goals as goal

pub loop-rest-init : goal.loop-rest-init
loop-rest-init c = passed_none c.args.bytes.now

pub loop-rest-smaller : goal.loop-rest-smaller
loop-rest-smaller c = rw c.in-Some.ensures.rest (length-behind_line c.loop-rest.left.now c.in-Some.ensures.some)

pub loop-rest-preserved : goal.loop-rest-preserved
loop-rest-preserved c = rw c.in-Some.ensures.rest (passed_more c.args.bytes.now c.loop-rest.left.now c.loop-rest.invariant c.in-Some.ensures.some)

pub returns-clause-cut : goal.returns-clause-cut
returns-clause-cut c = first_paragraph c.args.bytes.now c.loop-rest.left.now c.requires c.in_default.ensures.none c.loop-rest.invariant

pub returns-clause-shorter : goal.returns-clause-shorter
returns-clause-shorter c = length-behind_paragraph c.args.bytes.now c.loop-rest.left.now c.requires c.in_default.ensures.none c.loop-rest.invariant
