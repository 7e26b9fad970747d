-- What is written, with what is still to be written, is what was there and all architectures.
use Rattle.std.proofs.Common.{◌≡◌, ◌++◌, drop}
use Rattle.std.specs.Prelude.{codes}
use Rattle.std.specs.String.{string_bytes}
use Rattle.std.specs.List.{flat_map}
use Rattle.wb_api.specs.Queries.{arch_text}
use Rattle.wb_api.proofs.query.write_archs.Given as goal

abbrev pub invariant-loop-arch : goal.invariant-loop-arch
invariant-loop-arch l =
    string_bytes l.out ++ flat_map (λ y. codes "," ++ arch_text y) (drop l.arch-index l.others)
    ≡ string_bytes l.initial.out ++ flat_map (λ y. codes "," ++ arch_text y) l.others
