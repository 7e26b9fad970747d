-- What the front of the bytes is says what has come.
use Rattle.std.proofs.Common.{arith}
use Rattle.wb_api.proofs.ComingLemmas.{ends-at, front-by, settled-crowded, settled-end, settled-malformed, settled-unfinished, settled-whole, some-came, wanted-limited}
use Rattle.wb_api.proofs.coming.coming_of.Goals as goal

pub returns-in-Whole-clause-front : goal.returns-in-Whole-clause-front
returns-in-Whole-clause-front c = λ waits.
    let head = c.in-Whole.ensures.value in
    front-by c.args.service.now c.args.bytes.now c.in-Whole.count head.0 c.body_coming.result head.1
    c.body_coming.ensures.head c.body_coming.ensures.body waits

pub returns-in-Whole-clause-body : goal.returns-in-Whole-clause-body
returns-in-Whole-clause-body c = λ total is.
    let head = c.in-Whole.ensures.value in
    let ends = c.body_coming.ensures.body total head.0 is head.1 in
    let limit = wanted-limited c.args.service.now head.0 in
    let end = ends-at c.args.service.now c.args.bytes.now c.in-Whole.count total head.0 head.1 ends.1 ends.2 in
    (ends.0, omega (arith, ends.1, ends.2), end)

pub returns-in-Whole-clause-whole : goal.returns-in-Whole-clause-whole
returns-in-Whole-clause-whole c = λ is.
    let head = c.in-Whole.ensures.value in
    settled-whole c.args.service.now c.args.bytes.now c.in-Whole.count head.0 head.1
    (c.body_coming.ensures.whole head.0 is head.1)

pub returns-in-Whole-clause-come : goal.returns-in-Whole-clause-come
returns-in-Whole-clause-come c = λ total more is come.
    let head = c.in-Whole.ensures.value in
    let ends = c.body_coming.ensures.body total head.0 is head.1 in
    settled-end c.args.service.now c.args.bytes.now more total
    (ends-at c.args.service.now c.args.bytes.now c.in-Whole.count total head.0 head.1 ends.1 ends.2) come

pub returns-in-Unfinished-clause-whole : goal.returns-in-Unfinished-clause-whole
returns-in-Unfinished-clause-whole c = λ is.
    settled-unfinished c.args.service.now c.args.bytes.now (some-came c.args.bytes.now c.if-is_empty.ensures)
    c.in-Unfinished.ensures.value.0 (c.head_coming.ensures.whole is)

pub returns-in-Crowded-clause-whole : goal.returns-in-Crowded-clause-whole
returns-in-Crowded-clause-whole c = λ is.
    settled-crowded c.args.service.now c.args.bytes.now (some-came c.args.bytes.now c.if-is_empty.ensures)
    c.in-Crowded.ensures.value (c.head_coming-in-Crowded.ensures.whole is)

pub returns-in-Malformed-clause-whole : goal.returns-in-Malformed-clause-whole
returns-in-Malformed-clause-whole c = λ _.
    settled-malformed c.args.service.now c.args.bytes.now (some-came c.args.bytes.now c.if-is_empty.ensures)
    c.in-Malformed.ensures.value
