use Rattle.std.proofs.Common.{◌≡◌, drop, map, []}
use Rattle.std.specs.BTreeSet.{contains}
use Rattle.std.specs.List.{fold, flat_map}
use Rattle.deb_text.specs.Text.{text_cmp}
use Rattle.deb_relations.specs.declared.relations.Alternative.{Alternative}
use Rattle.deb_relations.specs.Satisfaction.{with_name, IsNameTest}
use Rattle.deb_relations.proofs.relations.Relations.names.Given as goal

abbrev pub invariant-loop-group : goal.invariant-loop-group
invariant-loop-group l =
    (fold with_name l.found.items (flat_map (λ group. map (λ (a : Alternative). a.name) group) (drop l.group-index l.group-items))
    ≡ fold with_name [] (flat_map (λ group. map (λ (a : Alternative). a.name) group) l.group-items))
    × IsNameTest (contains text_cmp l.known) l.found.items
