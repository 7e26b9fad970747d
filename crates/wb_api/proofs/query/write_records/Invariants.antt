-- What is written, with what is still to be written, is what was there and all records.
use Rattle.std.proofs.Common.{◌≡◌, ◌++◌, drop}
use Rattle.std.specs.Prelude.{codes}
use Rattle.std.specs.String.{string_bytes}
use Rattle.std.specs.List.{flat_map}
use Rattle.wb_api.specs.Queries.{record_text}
use Rattle.wb_api.proofs.query.write_records.Given as goal

abbrev pub invariant-loop-row : goal.invariant-loop-row
invariant-loop-row l =
    string_bytes l.out ++ flat_map (λ y. codes "," ++ record_text y) (drop l.row-index l.others)
    ≡ string_bytes l.initial.out ++ flat_map (λ y. codes "," ++ record_text y) l.others
