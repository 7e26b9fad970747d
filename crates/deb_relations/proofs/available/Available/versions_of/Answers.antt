use Rattle.std.proofs.Common.{◌∙◌, sym, Some, None}
use Rattle.deb_relations.proofs.MapLemmas.{versions-found}
use Rattle.deb_relations.proofs.available.Available.versions_of.Goals as goal

pub returns-in-Some : goal.returns-in-Some
returns-in-Some c =
    c.as_slice.ensures
    ∙ sym (versions-found c.args.self.now c.self.inside.versions.entries c.args.name.now (Some c.in-Some.list.now) c.self.view_is (sym c.in-Some.ensures.value))

pub returns-in-None : goal.returns-in-None
returns-in-None c = sym (versions-found c.args.self.now c.self.inside.versions.entries c.args.name.now None c.self.view_is (sym c.in-None.ensures.value))
