use Rattle.std.proofs.Common.{◌≡◌, ◌++◌, drop}
use Rattle.std.specs.BTreeSet.{contains}
use Rattle.std.specs.List.{filter_map}
use Rattle.deb_text.specs.Text.{text_cmp}
use Rattle.deb_relations.specs.Provided.{wanted_by}
use Rattle.deb_relations.proofs.provided.wanted_in.Given as goal

abbrev pub invariant-loop-group : goal.invariant-loop-group
invariant-loop-group l =
    l.found.items ++ filter_map (wanted_by (contains text_cmp l.wanted)) (drop l.group-index l.groups)
    ≡ filter_map (wanted_by (contains text_cmp l.wanted)) l.groups
