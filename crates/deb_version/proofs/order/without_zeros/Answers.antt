use Rattle.std.proofs.Common.{◌≡◌, ◌∙◌, get_or, arith, rules}
use Rattle.deb_version.proofs.NumberLemmas.{zero_step}
use Rattle.deb_version.proofs.order.without_zeros.Goals as goal

pub loop-rest-preserved : goal.loop-rest-preserved
loop-rest-preserved c =
    let is : get_or c.loop-rest.rest.now 0 0 ≡ 48 = search rules in
    let step = zero_step c.loop-rest.rest.now (omega arith) is in
    (step.value ∙ c.loop-rest.invariant.0, λ all. step.others (c.loop-rest.invariant.1 all))
