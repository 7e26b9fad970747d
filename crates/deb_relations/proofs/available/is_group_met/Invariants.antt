use Rattle.std.proofs.Common.{◌≡◌, drop}
use Rattle.std.specs.List.{list_any}
use Rattle.deb_relations.specs.Satisfaction.{is_alternative_met}
use Rattle.deb_relations.proofs.available.is_group_met.Given as goal

abbrev pub invariant-loop-a : goal.invariant-loop-a
invariant-loop-a l = list_any (is_alternative_met l.available) (drop l.a-index l.group) ≡ list_any (is_alternative_met l.available) l.group
