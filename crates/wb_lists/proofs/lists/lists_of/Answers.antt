-- The lists that were opened, or the first that cannot be.
use Rattle.std.proofs.Common.{subst, inr, IfNone, IfSome}
use Rattle.wb_lists.specs.Lists.{OpensList, OpensParts, LacksPart}
use Rattle.wb_lists.proofs.ListLemmas.{LacksPart-more}
use Rattle.wb_lists.proofs.OpenedLemmas.{OpensParts-more, some-left}
use Rattle.wb_lists.proofs.lists.lists_of.Goals as goal

pub returns-clause-value : goal.returns-clause-value
returns-clause-value g c =
    let before = g.L.Lists.may_read c.args.lists.now in
    let now = g.L.Lists.may_read c.open.new.self in
    let remaining = g.L.List.Read.remaining in
    let found = subst (λ found. IfSome found (λ list. OpensList before c.as_str.result.now (remaining list))) c.in-Some.is c.in_ok-sources.ensures.value in
    let sources = subst (λ name. OpensList before name (remaining c.in-Some.sources)) c.as_str.ensures found in
    let parts = subst (λ found. IfSome found (λ parts. OpensParts now remaining c.args.parts.now parts.items)) c.in-Some-2.is c.in_ok-parts.ensures.value in
    (sources, OpensParts-more before now remaining c.open.ensures.kept c.args.parts.now c.in-Some-2.parts.items parts)

pub returns-in_default-2-clause-refused : goal.returns-in_default-2-clause-refused
returns-in_default-2-clause-refused g c =
    let before = g.L.Lists.may_read c.args.lists.now in
    let now = g.L.Lists.may_read c.open.new.self in
    let remaining = g.L.List.Read.remaining in
    let found = subst (λ found. IfSome found (λ list. OpensList before c.as_str.result.now (remaining list))) c.in-Some.is c.in_ok-sources.ensures.value in
    let sources = subst (λ name. OpensList before name (remaining c.in-Some.sources)) c.as_str.ensures found in
    let left = some-left (remaining c.in-Some.sources) in
    let missed = subst (λ found. IfNone found (LacksPart now c.args.parts.now)) c.in_default-2.is c.in_ok-parts.ensures.refused in
    inr (left.0, sources left.0 left.1, LacksPart-more before now c.open.ensures.kept c.args.parts.now missed)
