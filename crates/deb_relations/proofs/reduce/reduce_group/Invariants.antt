use Rattle.std.proofs.Common.{◌≡◌, ◌++◌, drop, map, filter}
use Rattle.deb_relations.specs.Reduction.{is_kept, without_lists}
use Rattle.deb_relations.proofs.reduce.reduce_group.Given as goal

abbrev pub invariant-loop-a : goal.invariant-loop-a
invariant-loop-a l =
    l.made ++ map without_lists (filter (is_kept l.arch) (drop l.a-index l.group)) ≡ map without_lists (filter (is_kept l.arch) l.group)
