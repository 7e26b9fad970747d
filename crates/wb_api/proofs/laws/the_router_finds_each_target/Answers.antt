use Rattle.wb_api.proofs.RouterLemmas.{finds_route}
use Rattle.wb_api.proofs.laws.the_router_finds_each_target.Goals as goal

pub returns : goal.returns
returns c = record { value = finds_route }
