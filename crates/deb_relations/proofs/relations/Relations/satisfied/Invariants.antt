use Rattle.std.proofs.Common.{◌≡◌, drop}
use Rattle.std.specs.List.{list_all}
use Rattle.deb_relations.specs.Satisfaction.{is_group_met}
use Rattle.deb_relations.proofs.relations.Relations.satisfied.Given as goal

abbrev pub invariant-loop-group : goal.invariant-loop-group
invariant-loop-group l =
    list_all (is_group_met l.available) (drop l.group-index l.group-items) ≡ list_all (is_group_met l.available) l.group-items
