use Rattle.std.proofs.Common.{◌≡◌, drop}
use Rattle.std.specs.List.{list_any}
use Rattle.deb_relations.specs.Reduction.{holds_without_profiles}
use Rattle.deb_relations.proofs.reduce.has_held.Given as goal

abbrev pub invariant-loop-terms : goal.invariant-loop-terms
invariant-loop-terms l = list_any holds_without_profiles (drop l.terms-index l.lists) ≡ list_any holds_without_profiles l.lists
