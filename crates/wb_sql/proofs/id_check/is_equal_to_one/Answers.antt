use Rattle.std.proofs.Common.{arith}
use Rattle.wb_sql.proofs.IdCheckLemmas.{compares, compared}
use Rattle.wb_sql.proofs.id_check.is_equal_to_one.Goals as goal

pub returns-then-nodes-ge2 : goal.returns-then-nodes-ge2
returns-then-nodes-ge2 c =
    let is = c.compares_id_with_one.ensures.value in
    record { value = (λ yes. compares c.args.nodes.now c.args.root (omega arith) (is.0 yes), λ e. is.1 (compared c.args.nodes.now c.args.root e).1) }
