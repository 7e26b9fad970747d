use Rattle.std.proofs.Common.{◌∙◌, sym, ap, List, ℕ, ◌++◌, ◌∷◌, []}
use Rattle.deb_relations.specs.Satisfaction.{is_among}
use Rattle.deb_relations.proofs.NamedLemmas.{known-push}
use Rattle.deb_relations.proofs.named.add_name.Goals as goal

pub returns-clause-known : goal.returns-clause-known
returns-clause-known c other =
    known-push c.args.known.now c.insert.new.self c.args.found.now.items c.in_ok-clone.field-0 c.requires c.in_ok-insert.ensures.updates other
    ∙ ap (λ (name : List ℕ). is_among other (c.args.found.now.items ++ name ∷ [])) (c.in_ok-clone.ensures.cases ∙ sym c.in_ok-clone-2.ensures.cases)
    ∙ ap (is_among other) (sym c.in_ok-push.ensures.items)
