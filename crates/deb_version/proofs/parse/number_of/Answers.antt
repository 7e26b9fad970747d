use Rattle.std.proofs.Common.{lit<, get_or, sym, ◌∙◌, arith}
use Rattle.deb_version.proofs.NumberLemmas.{value_of-is, with_digit-is, digit_step}
use Rattle.deb_version.proofs.parse.number_of.Goals as goal

pub loop-rest-init : goal.loop-rest-init
loop-rest-init c = (sym (value_of-is _), lit< tt, c.requires)

pub returns-then-next : goal.returns-then-next
returns-then-next c =
    let step = digit_step c.loop-rest.value c.loop-rest.rest.now (omega arith) c.loop-rest.invariant.2 in
    omega (arith, step.next, with_digit-is c.loop-rest.value (get_or c.loop-rest.rest.now 0 0), c.loop-rest.invariant.0, c.from.ensures, c.from-in-len1-up.ensures)

pub loop-rest-preserved : goal.loop-rest-preserved
loop-rest-preserved c =
    let step = digit_step c.loop-rest.value c.loop-rest.rest.now (omega arith) c.loop-rest.invariant.2 in (
      rw (c.from.ensures, c.from-in-len1-up.ensures) (step.value ∙ c.loop-rest.invariant.0),
      omega arith,
      step.others,
    )
