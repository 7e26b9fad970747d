use Rattle.std.proofs.Common.{◌≡◌, drop}
use Rattle.std.specs.List.{list_any}
use Rattle.deb_relations.specs.Arch.{arch_matches}
use Rattle.deb_relations.proofs.reduce.has_match.Given as goal

abbrev pub invariant-loop-term : goal.invariant-loop-term
invariant-loop-term l =
    list_any (λ t. arch_matches t.word l.arch) (drop l.term-index l.terms) ≡ list_any (λ t. arch_matches t.word l.arch) l.terms
