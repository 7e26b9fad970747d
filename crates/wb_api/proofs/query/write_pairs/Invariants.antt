-- What is written, with what is still to be written, is what was there and all builders.
use Rattle.std.proofs.Common.{◌≡◌, ◌++◌, drop}
use Rattle.std.specs.Prelude.{codes}
use Rattle.std.specs.String.{string_bytes}
use Rattle.std.specs.List.{flat_map}
use Rattle.wb_api.specs.Queries.{pair_text}
use Rattle.wb_api.proofs.query.write_pairs.Given as goal

abbrev pub invariant-loop-pair : goal.invariant-loop-pair
invariant-loop-pair l =
    string_bytes l.out ++ flat_map (λ y. codes "," ++ pair_text y) (drop l.pair-index l.others)
    ≡ string_bytes l.initial.out ++ flat_map (λ y. codes "," ++ pair_text y) l.others
