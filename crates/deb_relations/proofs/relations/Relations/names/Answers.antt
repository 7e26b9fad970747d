use Rattle.std.proofs.Common.{◌∙◌, ap, sym, map}
use Rattle.std.specs.List.{fold, flat_map}
use Rattle.std.proofs.lemmas.List.{at_drop_all}
use Rattle.deb_relations.specs.declared.relations.Alternative.{Alternative}
use Rattle.deb_relations.specs.Satisfaction.{names_of, with_name}
use Rattle.deb_relations.proofs.NamedLemmas.{names_of-fold}
use Rattle.deb_relations.proofs.relations.Relations.names.Goals as goal

pub returns-clause-value : goal.returns-clause-value
returns-clause-value c =
    sym (at_drop_all (λ groups. fold with_name c.loop-group.found.items (flat_map (λ group. map (λ (a : Alternative). a.name) group) groups))
    c.as_slice-group-items.result.now c.loop-group.group-index c.loop-group-test.false)
    ∙ c.loop-group.invariant.0
    ∙ names_of-fold c.as_slice-group-items.result.now
    ∙ ap names_of (c.as_slice-group-items.ensures ∙ c.self.view_is)
