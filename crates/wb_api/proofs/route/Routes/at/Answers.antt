use Rattle.std.proofs.Common.{◌∙◌, ap, arith, sym}
use Rattle.matchit.specs.Router.{map_key}
use Rattle.matchit.specs.Seek.{first}
use Rattle.wb_api.specs.Routes.{value_of}
use Rattle.wb_api.proofs.RouterLemmas.{finds_route}
use Rattle.wb_api.proofs.route.Routes.at.Goals as goal

pub returns-in-Ok : goal.returns-in-Ok
returns-in-Ok c = record {
  value = sym (ap (map_key value_of) c.in-Ok.ensures.found) ∙ ap (λ rows. map_key value_of (first rows c.args.target.now)) c.self.invariant
      ∙ finds_route c.args.target.now (λ i. let fits = c.type_inv.target i in omega (arith, fits));
}

pub returns-in-Err : goal.returns-in-Err
returns-in-Err c = record {
  value = sym (ap (map_key value_of) c.in-Err.ensures.missing) ∙ ap (λ rows. map_key value_of (first rows c.args.target.now)) c.self.invariant
      ∙ finds_route c.args.target.now (λ i. let fits = c.type_inv.target i in omega (arith, fits));
}
