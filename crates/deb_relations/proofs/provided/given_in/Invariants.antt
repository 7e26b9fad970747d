use Rattle.std.proofs.Common.{◌≡◌, ◌++◌, drop}
use Rattle.std.specs.List.{filter_map}
use Rattle.deb_relations.specs.Provided.{given_by_group}
use Rattle.deb_relations.proofs.provided.given_in.Given as goal

abbrev pub invariant-loop-group : goal.invariant-loop-group
invariant-loop-group l =
    l.found.items ++ filter_map given_by_group (drop l.group-index l.groups) ≡ filter_map given_by_group l.groups
