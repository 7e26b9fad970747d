use Rattle.std.proofs.Common.{◌∙◌, arith}
use Rattle.std.proofs.lemmas.Grind.{common_steps}
use Rattle.wb_api.proofs.RequestLemmas.{body_cut, body_here, body_whole}
use Rattle.wb_api.proofs.request.receive_body.Goals as goal

pub returns-then-length-already-clause-value : goal.returns-then-length-already-clause-value
returns-then-length-already-clause-value g c =
    body_here c.args.reader.now.bytes c.args.already.now _ c.args.kind c.args.length _ c.receive_asked.ensures.value
    c.if-length-already.true (grind (arith, common_steps))

pub returns-in-Whole-clause-value : goal.returns-in-Whole-clause-value
returns-in-Whole-clause-value g c =
    let took = c.in-Whole.ensures.value in
    body_whole c.args.reader.now.bytes _ c.args.already.now took.0 c.as_slice.result.now c.args.kind c.args.length _
    took.1 took.2 (c.as_slice.ensures.value ∙ took.3) c.receive_asked-in-Whole.ensures.value

pub returns-in-Cut-clause-value : goal.returns-in-Cut-clause-value
returns-in-Cut-clause-value g c =
    let took = c.in-Cut.ensures.value in
    body_cut c.args.reader.now.bytes _ c.args.already.now took.0 c.args.kind c.args.length took.1 took.2 took.3
