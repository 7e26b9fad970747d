use Rattle.std.proofs.Common.{◌≡◌, ◌++◌, drop}
use Rattle.std.specs.Prelude.{codes}
use Rattle.std.specs.String.{string_bytes}
use Rattle.std.specs.List.{flat_map}
use Rattle.deb_relations.specs.Printing.{term_text}
use Rattle.deb_relations.proofs.print.write_terms.Given as goal

abbrev pub invariant-loop-term : goal.invariant-loop-term
invariant-loop-term l =
    string_bytes l.out ++ flat_map (λ y. codes " " ++ term_text y) (drop l.term-index l.others)
    ≡ string_bytes l.initial.out ++ flat_map (λ y. codes " " ++ term_text y) l.others
