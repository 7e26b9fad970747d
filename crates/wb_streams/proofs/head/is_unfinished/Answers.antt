-- There is room for all fields that so few bytes can have.
use Rattle.std.proofs.Common.{Err, ap, arith}
use Rattle.wb_streams.proofs.HeadLemmas.{few_fields}
use Rattle.wb_streams.proofs.head.is_unfinished.Goals as goal

pub returns-in-Err-clause-ended : goal.returns-in-Err-clause-ended
returns-in-Err-clause-ended c = λ _ none. c.in-Err.ensures.invalid
    (λ many. few_fields c.args.bytes.now 2730 c.requires (omega arith) (c.in-Err.ensures.too_many (ap Err many)))
