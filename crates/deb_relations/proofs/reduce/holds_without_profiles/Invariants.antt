use Rattle.std.proofs.Common.{◌≡◌, drop}
use Rattle.std.specs.List.{list_all}
use Rattle.deb_relations.proofs.reduce.holds_without_profiles.Given as goal

abbrev pub invariant-loop-term : goal.invariant-loop-term
invariant-loop-term l = list_all (λ t. t.negated) (drop l.term-index l.terms) ≡ list_all (λ t. t.negated) l.terms
