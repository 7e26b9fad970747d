-- What is written, with what is still to be written, is what was there and all records of the queue.
use Rattle.std.proofs.Common.{◌≡◌, ◌++◌, drop}
use Rattle.std.specs.Prelude.{codes}
use Rattle.std.specs.String.{string_bytes}
use Rattle.std.specs.List.{flat_map}
use Rattle.wb_api.specs.Queries.{waiting_text}
use Rattle.wb_api.proofs.query.write_queue.Given as goal

abbrev pub invariant-loop-row : goal.invariant-loop-row
invariant-loop-row l =
    string_bytes l.out ++ flat_map (λ y. codes "," ++ waiting_text y) (drop l.row-index l.others)
    ≡ string_bytes l.initial.out ++ flat_map (λ y. codes "," ++ waiting_text y) l.others
