use Rattle.std.proofs.Common.{◌∙◌, sym, rules}
use Rattle.deb_control.proofs.BlankLemmas.{trim_start-kept, trim_start-blank, length-after_blank}
use Rattle.wb_merge.proofs.report_line.without_blank_start.Goals as goal

pub loop-rest-smaller : goal.loop-rest-smaller
loop-rest-smaller c = rw c.in-Some.ensures.rest (length-after_blank c.loop-rest.left.now c.in-Some.ensures.some)

pub loop-rest-preserved : goal.loop-rest-preserved
loop-rest-preserved c =
    (search rules, rw c.in-Some.ensures.rest (trim_start-blank c.loop-rest.left.now c.in-Some.ensures.some) ∙ c.loop-rest.invariant.1)

pub returns : goal.returns
returns c = sym (trim_start-kept c.loop-rest.left.now c.in_default.ensures.none) ∙ c.loop-rest.invariant.1
