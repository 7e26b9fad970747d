-- What the office answered to the merge of the opened lists is told, or that one cannot be opened, or that there is no
-- memory.
use Rattle.std.proofs.Common.{◌≡◌, ◌∙◌, ◌==◌, not, subst, sym, inl, inr, refl, arith, IfSome, IfNone}
use Rattle.std.proofs.lemmas.Bool.Decides.{nat_tests}
use Rattle.std.proofs.lemmas.Option.{IfSome_then}
use Rattle.wb_step.specs.Offices.{Open}
use Rattle.wb_lists.specs.Lists.{LacksMerge, OpensMerge}
use Rattle.wb_api.specs.Exchange.{response_of_answer}
use Rattle.wb_api.proofs.MergeAnswerLemmas.{merge-leads, merge-lost}
use Rattle.wb_api.proofs.merge_answer.answer_merge.Goals as goal

pub returns-in-Ok-Some-clause-value : goal.returns-in-Ok-Some-clause-value
returns-in-Ok-Some-clause-value g c =
    let may_read = g.L.Lists.may_read c.args.lists.now in
    let remaining = g.L.List.Read.remaining in
    let opens = subst (λ parts. OpensMerge may_read remaining c.args.names.now.sources parts c.in-Ok-Some.field-0-0)
    c.as_slice.ensures
    (subst (λ found. IfSome found (λ opened. OpensMerge may_read remaining c.args.names.now.sources
    c.as_slice.result.now opened))
    c.in-Ok-Some.field-0-is c.in-Ok-Some.ensures.value) in
    let e = c.merge_from-answered.ensures in
    IfSome_then c.merged_answer.result c.merged_answer.ensures.value (λ answer told.
    merge-leads may_read remaining c.args.names.now c.in-Ok-Some.field-0-0 opens
    g.O.CarryOut.is_clean g.O.CarryOut.is_closed g.O.CarryOut.stands_at g.O.CarryOut.leaves c.args.office.now
    c.merge_from-answered.new.self
    (not (c.accepted_count.result == c.accepted_count-accepted.result)) c.merge_from-answered.result
    (response_of_answer answer) told
    e.reply e.refused e.memory e.closed e.store (λ was. (e.shut was).1) e.stands
    (λ same machine after clean stands at.
    let equal : c.accepted_count.result ≡ c.accepted_count-accepted.result = grind (arith, nat_tests, same) in
    sym (c.accepted_count.ensures.value after clean at) ∙ equal
    ∙ c.accepted_count-accepted.ensures.value machine (e.clean clean) stands))

pub returns-in-Ok-Some-clause-memory : goal.returns-in-Ok-Some-clause-memory
returns-in-Ok-Some-clause-memory g c = λ is before clean stands.
    let may_read = g.L.Lists.may_read c.args.lists.now in
    let remaining = g.L.List.Read.remaining in
    let opens = subst (λ parts. OpensMerge may_read remaining c.args.names.now.sources parts c.in-Ok-Some.field-0-0)
    c.as_slice.ensures
    (subst (λ found. IfSome found (λ opened. OpensMerge may_read remaining c.args.names.now.sources
    c.as_slice.result.now opened))
    c.in-Ok-Some.field-0-is c.in-Ok-Some.ensures.value) in
    let e = c.merge_from-answered.ensures in
    let lost = c.merged_answer.ensures.memory is in
    let now = merge-lost may_read remaining c.args.names.now c.in-Ok-Some.field-0-0 opens before
    (g.O.CarryOut.stands_at c.merge_from-answered.new.self) c.merge_from-answered.result lost.1
    (e.reply before clean stands)
    (λ after at same.
    let equal : c.accepted_count.result ≡ c.accepted_count-accepted.result =
    c.accepted_count.ensures.value after clean at ∙ same
    ∙ sym (c.accepted_count-accepted.ensures.value before (e.clean clean) stands) in
    let none : ⊥ = grind (arith, nat_tests, equal, lost.0) in none) in
    (now.0, now.1.0, (now.1.1.0, now.1.1.1.0, now.1.1.1.1))

pub returns-in-Ok-None-clause-value : goal.returns-in-Ok-None-clause-value
returns-in-Ok-None-clause-value g c = λ before clean stands.
    let may_read = g.L.Lists.may_read c.args.lists.now in
    let lacks = subst (λ parts. LacksMerge may_read c.args.names.now.sources parts) c.as_slice.ensures
    (subst (λ found. IfNone found (LacksMerge may_read c.args.names.now.sources c.as_slice.result.now))
    c.in-Ok-None.field-0-is c.in-Ok-None.ensures.refused) in
    (before, Open, stands, (inl (inr (inl (lacks, c.fault_answer.ensures.value before)), refl), λ open_still. refl))

pub returns-in-Err-clause-value : goal.returns-in-Err-clause-value
returns-in-Err-clause-value g c = λ before clean stands.
    (before, Open, stands, (inl (inr (inr (c.memory_answer.ensures.value before)), refl), λ open_still. refl))
