use Rattle.std.proofs.Common.{◌∙◌, ◌<◌, arith, length}
use Rattle.deb_control.proofs.RunLemmas.{paragraphs_in-behind, length-behind_separator}
use Rattle.deb_control.proofs.lines.without_separators.Goals as goal

pub loop-rest-smaller : goal.loop-rest-smaller
loop-rest-smaller c = rw c.in-Some.ensures.rest (length-behind_separator c.loop-rest.left.now c.in-Some.ensures.some)

pub loop-rest-preserved : goal.loop-rest-preserved
loop-rest-preserved c =
    let fewer : length c.in-Some.rest.now < length c.loop-rest.left.now =
    rw c.in-Some.ensures.rest (length-behind_separator c.loop-rest.left.now c.in-Some.ensures.some) in
    record {
      same = rw c.in-Some.ensures.rest (paragraphs_in-behind c.loop-rest.left.now c.in-Some.ensures.some) ∙ c.loop-rest.invariant.same;
      shorter = omega arith;
    }
