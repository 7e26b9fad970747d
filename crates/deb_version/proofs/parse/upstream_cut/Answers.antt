use Rattle.std.proofs.Common.{◌+◌, sym, ◌∙◌, ap}
use Rattle.std.proofs.lemmas.List.{take_rest}
use Rattle.std.specs.Option.{option_or}
use Rattle.deb_version.specs.Syntax.{rest_fault, revision_fault}
use Rattle.deb_version.proofs.CutLemmas.{cut_whole, cut_at}
use Rattle.deb_version.proofs.parse.upstream_cut.Goals as goal

pub returns-in-Some-fault_in_upstream-clause-refused : goal.returns-in-Some-fault_in_upstream-clause-refused
unfolding rest_fault
returns-in-Some-fault_in_upstream-clause-refused c =
    let whole = cut_whole c.args.text.now c.rest_from-rest.result.now c.rest_from-rest.ensures c.in_default.ensures in
    let fault = c.in-Some-fault_in_upstream.ensures in
    whole.1 ∙ rw c.requires.place at (sym fault)

pub returns-in-None-clause-value : goal.returns-in-None-clause-value
returns-in-None-clause-value c = (cut_whole c.args.text.now c.rest_from-rest.result.now c.rest_from-rest.ensures c.in_default.ensures).0

pub returns-in-None-clause-ok : goal.returns-in-None-clause-ok
unfolding rest_fault
returns-in-None-clause-ok c =
    let whole = cut_whole c.args.text.now c.rest_from-rest.result.now c.rest_from-rest.ensures c.in_default.ensures in
    let fault = c.in-None.ensures in
    whole.1 ∙ rw c.requires.place at (sym fault)

pub returns-in-Some-fault_in_upstream-2-clause-refused : goal.returns-in-Some-fault_in_upstream-2-clause-refused
unfolding rest_fault
returns-in-Some-fault_in_upstream-2-clause-refused c =
    let cut = cut_at c.args.text.now c.rest_from-rest.result.now c.in-Some.hyphen c.rest_from-rest.ensures c.in-Some.ensures in
    let first = c.in-Some-fault_in_upstream-2.ensures in
    let upstream = cut.upstream ∙ rw c.requires.place at (sym first) in
    ap (λ f. option_or f (revision_fault c.args.text.now)) upstream

pub returns-in-Some-fault_in_revision-clause-refused : goal.returns-in-Some-fault_in_revision-clause-refused
unfolding rest_fault
returns-in-Some-fault_in_revision-clause-refused c =
    let cut = cut_at c.args.text.now c.rest_from-rest.result.now c.in-Some.hyphen c.rest_from-rest.ensures c.in-Some.ensures in
    let first = c.in_default-fault_in_upstream.ensures in
    let upstream = cut.upstream ∙ rw c.requires.place at (sym first) in
    let second = c.in-Some-fault_in_revision.ensures in
    let revision = cut.revision ∙ rw (c.requires.place, take_rest) at (sym second) in
    ap (λ f. option_or f (revision_fault c.args.text.now)) upstream ∙ revision

pub returns-in-None-fault_in_revision-clause-value : goal.returns-in-None-fault_in_revision-clause-value
returns-in-None-fault_in_revision-clause-value c =
    let cut = cut_at c.args.text.now c.rest_from-rest.result.now c.in-Some.hyphen c.rest_from-rest.ensures c.in-Some.ensures in
    ap (λ n. n + c.in-Some.hyphen) c.requires.place ∙ cut.end

pub returns-in-None-fault_in_revision-clause-ok : goal.returns-in-None-fault_in_revision-clause-ok
unfolding rest_fault
returns-in-None-fault_in_revision-clause-ok c =
    let cut = cut_at c.args.text.now c.rest_from-rest.result.now c.in-Some.hyphen c.rest_from-rest.ensures c.in-Some.ensures in
    let first = c.in_default-fault_in_upstream.ensures in
    let upstream = cut.upstream ∙ rw c.requires.place at (sym first) in
    let second = c.in-None-fault_in_revision.ensures in
    let revision = cut.revision ∙ rw (c.requires.place, take_rest) at (sym second) in
    ap (λ f. option_or f (revision_fault c.args.text.now)) upstream ∙ revision
