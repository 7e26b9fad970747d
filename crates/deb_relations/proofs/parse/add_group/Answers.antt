use Rattle.std.proofs.Common.{◌≡◌, true, rules}
use Rattle.deb_relations.specs.Grammar.{is_not_blank}
use Rattle.deb_relations.proofs.BegunLemmas.{group-begun, where-wanted}
use Rattle.deb_relations.proofs.parse.add_group.Goals as goal

pub returns-in_err-push-clause-memory : goal.returns-in_err-push-clause-memory
unfolding is_not_blank
returns-in_err-push-clause-memory c =
    let not_blank : is_not_blank c.args.piece.now ≡ true = search rules in
    where-wanted _ (not_blank, group-begun c.args.piece.now c.in_ok-read_group.field-0 c.in_ok-read_group.ensures.ok)
