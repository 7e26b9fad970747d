use Rattle.std.proofs.Common.{◌≡◌, drop}
use Rattle.std.specs.List.{list_any}
use Rattle.deb_relations.specs.Satisfaction.{meets_restriction}
use Rattle.deb_relations.proofs.available.is_alternative_met.Given as goal

abbrev pub invariant-loop-version : goal.invariant-loop-version
invariant-loop-version l =
    list_any (meets_restriction l.a.restriction) (drop l.version-index l.version-items) ≡ list_any (meets_restriction l.a.restriction) l.version-items
