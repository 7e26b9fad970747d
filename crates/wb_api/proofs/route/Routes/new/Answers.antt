use Rattle.std.proofs.Common.{◌≡◌, ◌∙◌, ap, refl, true, []}
use Rattle.matchit.proofs.OnLiterals.{matchit_on_literals}
use Rattle.wb_api.specs.Routes.{all_fit, routes, table, with_all}
use Rattle.wb_api.proofs.route.Routes.new.Goals as goal

pub invariant_of-result : goal.invariant_of-result
unfolding routes
invariant_of-result c = c.in-Ok.ensures.value ∙ ap (λ rows. with_all rows table) c.new-router.ensures

all_fit-table : all_fit [] table ≡ true
unfolding matchit_on_literals
all_fit-table = refl

pub returns-in-Err : goal.returns-in-Err
returns-in-Err c = record { err = c.in-Err.ensures.err (ap (λ rows. all_fit rows table) c.new-router.ensures ∙ all_fit-table) }
