use Rattle.std.proofs.Common.{◌≡◌, drop, map}
use Rattle.std.specs.BTreeSet.{contains}
use Rattle.std.specs.List.{fold}
use Rattle.deb_text.specs.Text.{text_cmp}
use Rattle.deb_relations.specs.declared.relations.Alternative.{Alternative}
use Rattle.deb_relations.specs.Satisfaction.{with_name, IsNameTest}
use Rattle.deb_relations.proofs.named.add_names.Given as goal

abbrev pub invariant-loop-a : goal.invariant-loop-a
invariant-loop-a l =
    (fold with_name l.found.items (map (λ (a : Alternative). a.name) (drop l.a-index l.group))
    ≡ fold with_name l.initial.found.items (map (λ (a : Alternative). a.name) l.group))
    × IsNameTest (contains text_cmp l.known) l.found.items
