use Rattle.std.proofs.Common.{◌≡◌, drop, not}
use Rattle.std.specs.Prelude.{if◌then◌else◌}
use Rattle.std.specs.List.{list_all}
use Rattle.deb_relations.proofs.parse.are_signed.Given as goal

abbrev pub invariant-loop-term : goal.invariant-loop-term
invariant-loop-term l =
    list_all (λ other. if l.negated then other.negated else not other.negated) (drop l.term-index l.terms)
    ≡ list_all (λ other. if l.negated then other.negated else not other.negated) l.terms
