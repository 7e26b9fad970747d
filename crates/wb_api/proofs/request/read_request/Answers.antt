-- What was read of the input decides what it means, whatever is left.
use Rattle.wb_api.proofs.ReadLemmas.{front_from, lacks_from, within_from}
use Rattle.wb_api.proofs.RequestLemmas.{means_head, means_large, means_malformed}
use Rattle.std.proofs.Common.{rules, arith}
use Rattle.wb_api.proofs.request.read_request.Goals as goal

pub returns-in-Malformed-clause-value : goal.returns-in-Malformed-clause-value
returns-in-Malformed-clause-value g c =
    let took = c.in-Malformed.ensures.value in
    means_malformed c.args.service.now c.args.reader.now.bytes _ took.0 took.2 took.1 took.3

pub returns-in-TooLarge-clause-value : goal.returns-in-TooLarge-clause-value
returns-in-TooLarge-clause-value g c =
    let took = c.in-TooLarge.ensures.value in
    means_large c.args.service.now c.args.reader.now.bytes _ took.0 took.1 took.2

pub returns-in-Whole-clause-value : goal.returns-in-Whole-clause-value
returns-in-Whole-clause-value g c =
    let took = c.in-Whole.ensures.value in
    means_head c.args.service.now _ _ _ _ took.2 _ took.1 (search (rules, arith)) took.3
    c.receive_rest.ensures.memory c.receive_rest.ensures.shown c.receive_rest.ensures.value

pub returns-in-Whole-clause-front : goal.returns-in-Whole-clause-front
returns-in-Whole-clause-front g c =
    let took = c.in-Whole.ensures.value in
    λ failed. front_from c.args.service.now _ _ _ _ _ took.2 took.1 (search (rules, arith)) took.3
    (c.receive_rest.ensures.front failed took.2 took.3)

pub returns-in-Whole-clause-bound : goal.returns-in-Whole-clause-bound
returns-in-Whole-clause-bound g c =
    let took = c.in-Whole.ensures.value in
    within_from c.args.service.now _ _ _ _ _ took.2 took.1 (search (rules, arith)) took.3
    (c.receive_rest.ensures.bound took.2 took.3)

pub returns-in-Whole-clause-memory : goal.returns-in-Whole-clause-memory
returns-in-Whole-clause-memory g c =
    let took = c.in-Whole.ensures.value in
    λ lacks. lacks_from c.args.service.now _ _ _ _ _ took.2 took.1 (search (rules, arith)) took.3
    (c.receive_rest.ensures.lacks lacks took.2 took.3)
