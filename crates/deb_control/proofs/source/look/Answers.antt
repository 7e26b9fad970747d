use Rattle.std.proofs.Common.{◌∙◌, take, sym, subst}
use Rattle.deb_control.specs.Pieces.{IsEnded}
use Rattle.deb_control.proofs.SourceLemmas.{ended-at, free-without, take-within, length-within}
use Rattle.deb_control.proofs.source.look.Goals as goal

pub returns-in-Some-clause-kind : goal.returns-in-Some-clause-kind
returns-in-Some-clause-kind c =
    let is = sym c.in-Some.is ∙ c.line_feed_place.ensures in
    subst IsEnded (take-within c.args.shown.now c.min-within.result c.in-Some.at is) (ended-at (take c.min-within.result c.args.shown.now) c.in-Some.at is)

pub returns-in-None-clause-kind : goal.returns-in-None-clause-kind
returns-in-None-clause-kind c =
    (free-without (take c.min-within.result c.args.shown.now) (sym c.in-None.is ∙ c.line_feed_place.ensures), λ room. length-within c.args.shown.now c.min-within.result c.args.most c.requires c.min-within.ensures room)
