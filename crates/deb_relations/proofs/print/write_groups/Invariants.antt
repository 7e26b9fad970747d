use Rattle.std.proofs.Common.{◌≡◌, ◌++◌, drop}
use Rattle.std.specs.Prelude.{codes}
use Rattle.std.specs.String.{string_bytes}
use Rattle.std.specs.List.{flat_map}
use Rattle.deb_relations.specs.Printing.{group_text}
use Rattle.deb_relations.proofs.print.write_groups.Given as goal

abbrev pub invariant-loop-group : goal.invariant-loop-group
invariant-loop-group l =
    string_bytes l.out ++ flat_map (λ y. codes ", " ++ group_text y) (drop l.group-index l.others)
    ≡ string_bytes l.initial.out ++ flat_map (λ y. codes ", " ++ group_text y) l.others
