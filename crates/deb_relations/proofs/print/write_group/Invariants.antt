use Rattle.std.proofs.Common.{◌≡◌, ◌++◌, drop}
use Rattle.std.specs.Prelude.{codes}
use Rattle.std.specs.String.{string_bytes}
use Rattle.std.specs.List.{flat_map}
use Rattle.deb_relations.specs.Printing.{alternative_text}
use Rattle.deb_relations.proofs.print.write_group.Given as goal

abbrev pub invariant-loop-a : goal.invariant-loop-a
invariant-loop-a l =
    string_bytes l.out ++ flat_map (λ y. codes " | " ++ alternative_text y) (drop l.a-index l.others)
    ≡ string_bytes l.initial.out ++ flat_map (λ y. codes " | " ++ alternative_text y) l.others
