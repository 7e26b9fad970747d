use Rattle.std.proofs.Common.{◌≡◌, ◌++◌, drop, map, filter}
use Rattle.deb_relations.specs.Reduction.{reduced_group}
use Rattle.deb_text.specs.Lists.{is_nonempty}
use Rattle.deb_relations.proofs.relations.Relations.reduce.Given as goal

abbrev pub invariant-loop-group : goal.invariant-loop-group
invariant-loop-group l =
    l.made ++ filter is_nonempty (map (reduced_group l.arch) (drop l.group-index l.group-items))
    ≡ filter is_nonempty (map (reduced_group l.arch) l.group-items)
