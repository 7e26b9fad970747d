-- What the office answered to the merge of the opened lists is told, or that one cannot be opened, or that there is no memory.
use Rattle.std.proofs.Common.{◌≡◌, ◌∙◌, ◌==◌, not, subst, sym, inl, inr, refl, arith, IfSome, IfNone}
use Rattle.std.proofs.lemmas.Bool.Decides.{nat_tests}
use Rattle.std.proofs.lemmas.Option.{IfSome_then}
use Rattle.wb_step.specs.Offices.{Shut, InDoubt}
use Rattle.wb_lists.specs.Lists.{LacksMerge, OpensMerge}
use Rattle.wb_lists.proofs.OpenedLemmas.{opened-leaves}
use Rattle.wb_daemon.proofs.TellLemmas.{lost-merge, refused-said, tells-merge, tells-store}
use Rattle.wb_daemon.proofs.answer.answer_merge.Goals as goal

pub returns-in-Ok-None-clause-value : goal.returns-in-Ok-None-clause-value
returns-in-Ok-None-clause-value g c = λ _ before clean stands.
    let may_read = g.L.Lists.may_read c.args.lists.now in
    let lacks = subst (λ found. IfNone found (LacksMerge may_read c.args.sources.now c.args.parts.now)) c.in-Ok-None.field-0-is c.in-Ok-None.ensures.refused in
    (before, stands, inl (inr (lacks, c.file_answer.ensures.value before)))

pub returns-in-Err-clause-value : goal.returns-in-Err-clause-value
returns-in-Err-clause-value g c = λ _ before clean stands. (before, stands, inr (tt, c.memory_answer.ensures.value before))

pub returns-in-Ok-Some-clause-value : goal.returns-in-Ok-Some-clause-value
returns-in-Ok-Some-clause-value g c =
    let may_read = g.L.Lists.may_read c.args.lists.now in
    let remaining = g.L.List.Read.remaining in
    let opens = subst (λ found. IfSome found (λ opened. OpensMerge may_read remaining c.args.sources.now c.args.parts.now opened))
    c.in-Ok-Some.field-0-is c.in-Ok-Some.ensures.value in
    IfSome_then c.tell.result c.tell.ensures.value (λ answer told goes before clean stands.
    let now = tells-merge may_read remaining c.args.sources.now c.args.parts.now c.in-Ok-Some.field-0-0 opens before
    (g.O.CarryOut.stands_at c.merge_from-answered.new.self) (not (c.accepted_count.result == c.accepted_count-accepted.result))
    c.merge_from-answered.result answer told goes
    (c.merge_from-answered.ensures.reply before clean stands) (c.merge_from-answered.ensures.refused before clean stands)
    (c.merge_from-answered.ensures.memory before clean stands)
    (λ same after at.
    let equal : c.accepted_count.result ≡ c.accepted_count-accepted.result = grind (arith, nat_tests, same) in
    sym (c.accepted_count.ensures.value after clean at) ∙ equal
    ∙ c.accepted_count-accepted.ensures.value before (c.merge_from-answered.ensures.clean clean) stands) in
    (now.0, now.1.0, now.1.1))

pub returns-in-Ok-Some-clause-memory : goal.returns-in-Ok-Some-clause-memory
returns-in-Ok-Some-clause-memory g c = λ e before clean stands.
    let may_read = g.L.Lists.may_read c.args.lists.now in
    let remaining = g.L.List.Read.remaining in
    let opens = subst (λ found. IfSome found (λ opened. OpensMerge may_read remaining c.args.sources.now c.args.parts.now opened))
    c.in-Ok-Some.field-0-is c.in-Ok-Some.ensures.value in
    let lost = c.tell.ensures.memory e in
    let now = lost-merge may_read remaining c.args.sources.now c.args.parts.now c.in-Ok-Some.field-0-0 opens before
    (g.O.CarryOut.stands_at c.merge_from-answered.new.self) c.merge_from-answered.result lost.1
    (c.merge_from-answered.ensures.reply before clean stands)
    (λ after at same.
    let equal : c.accepted_count.result ≡ c.accepted_count-accepted.result =
    c.accepted_count.ensures.value after clean at ∙ same
    ∙ sym (c.accepted_count-accepted.ensures.value before (c.merge_from-answered.ensures.clean clean) stands) in
    let none : ⊥ = grind (arith, nat_tests, equal, lost.0) in none) in
    (now.0, now.1.0, (now.1.1.0, now.1.1.1.0, now.1.1.1.1))

pub returns-in-Ok-Some-clause-stops : goal.returns-in-Ok-Some-clause-stops
returns-in-Ok-Some-clause-stops g c =
    let may_read = g.L.Lists.may_read c.args.lists.now in
    let remaining = g.L.List.Read.remaining in
    let opens = subst (λ found. IfSome found (λ opened. OpensMerge may_read remaining c.args.sources.now c.args.parts.now opened))
    c.in-Ok-Some.field-0-is c.in-Ok-Some.ensures.value in
    IfSome_then c.tell.result c.tell.ensures.value (λ answer told stops before clean stands.
    elim (tells-store _ _ c.merge_from-answered.result answer told stops) [
      | inl (is, said) ↦
          let left = opened-leaves may_read remaining c.args.sources.now c.args.parts.now c.in-Ok-Some.field-0-0 opens before before (inl refl) in (
            before,
            Shut,
            c.merge_from-answered.ensures.closed before clean stands is,
            inr (left.0, left.1.0, inl (inl (said before), refl)),
          )
      | inr (fault, (is, said)) ↦
          let doubt = c.merge_from-answered.ensures.store before clean stands fault is in
          let left = opened-leaves may_read remaining c.args.sources.now c.args.parts.now c.in-Ok-Some.field-0-0 opens before doubt.0 doubt.1.0 in (
            before,
            InDoubt left.0 fault,
            subst (λ machine. g.O.CarryOut.leaves c.merge_from-answered.new.self before machine fault) left.1.1 doubt.1.1,
            inr (left.0, left.1.0, refused-said before (λ f. InDoubt left.0 f) fault answer said),
          )
    ])
