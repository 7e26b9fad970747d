use Rattle.std.proofs.Common.{◌≡◌, rules, Some}
use Rattle.deb_relations.specs.Grammar.{is_white}
use Rattle.deb_relations.specs.Reader.{skip, strip}
use Rattle.deb_relations.proofs.BegunLemmas.{memory-to, profile-inside}
use Rattle.deb_relations.proofs.parse.profile_of.Goals as goal

pub returns-in-Some-clause-memory : goal.returns-in-Some-clause-memory
returns-in-Some-clause-memory c =
    let opened : strip 60 (skip is_white c.args.piece.now) ≡ Some c.in-Some.inside.now = search rules in
    memory-to c.terms_of.result (profile-inside c.args.piece.now c.in-Some.inside.now opened) c.terms_of.ensures.memory
