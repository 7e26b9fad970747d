-- What the office answered is told; a reply that finds no memory is to an accepted command, or repeats an assignment and changed nothing.
use Rattle.std.proofs.Common.{◌≡◌, ◌∙◌, ◌==◌, not, subst, sym, inl, inr, refl, arith}
use Rattle.std.proofs.lemmas.Bool.Decides.{nat_tests}
use Rattle.std.proofs.lemmas.Option.{IfSome_then}
use Rattle.wb_step.specs.Offices.{Shut, InDoubt}
use Rattle.wb_daemon.specs.Turn.{Tells}
use Rattle.wb_daemon.proofs.TellLemmas.{lost-command, refused-said, tells-command, tells-store}
use Rattle.wb_daemon.proofs.answer.answer_to.Goals as goal

pub returns-clause-value : goal.returns-clause-value
returns-clause-value g c =
    IfSome_then c.tell.result c.tell.ensures.value (λ answer told goes before clean stands.
    let now = tells-command before c.args.command.now (not (c.accepted_count.result == c.accepted_count-accepted.result)) (g.O.CarryOut.stands_at c.carry_out-answered.new.self) c.carry_out-answered.result answer
    (subst (λ name. Tells name (not (c.accepted_count.result == c.accepted_count-accepted.result)) c.carry_out-answered.result answer) c.name.ensures.value told) goes
    (c.carry_out-answered.ensures.reply before clean stands) (c.carry_out-answered.ensures.refused before clean stands)
    (c.carry_out-answered.ensures.memory before clean stands)
    (λ same after at.
    let equal : c.accepted_count.result ≡ c.accepted_count-accepted.result = grind (arith, nat_tests, same) in
    sym (c.accepted_count.ensures.value after clean at) ∙ equal
    ∙ c.accepted_count-accepted.ensures.value before (c.carry_out-answered.ensures.clean clean) stands) in
    (now.0, now.1.0, now.1.1))

pub returns-clause-memory : goal.returns-clause-memory
returns-clause-memory g c = λ e before clean stands.
    let lost = c.tell.ensures.memory e in
    let now = lost-command before c.args.command.now (g.O.CarryOut.stands_at c.carry_out-answered.new.self) c.carry_out-answered.result lost.1
    (c.carry_out-answered.ensures.reply before clean stands)
    (λ after at same.
    let equal : c.accepted_count.result ≡ c.accepted_count-accepted.result =
    c.accepted_count.ensures.value after clean at ∙ same
    ∙ sym (c.accepted_count-accepted.ensures.value before (c.carry_out-answered.ensures.clean clean) stands) in
    let none : ⊥ = grind (arith, nat_tests, equal, lost.0) in none) in
    (now.0, now.1.0, now.1.1)

pub returns-clause-stops : goal.returns-clause-stops
returns-clause-stops g c =
    IfSome_then c.tell.result c.tell.ensures.value (λ answer told stops before clean stands.
    elim (tells-store c.name.result.now _ c.carry_out-answered.result answer told stops) [
      | inl (is, said) ↦ (before, Shut, c.carry_out-answered.ensures.closed before clean stands is, inl (inl (said before), refl))
      | inr (fault, (is, said)) ↦ (
        before,
        InDoubt c.args.command.now fault,
        c.carry_out-answered.ensures.store before clean stands fault is,
        refused-said before (λ f. InDoubt c.args.command.now f) fault answer said,
      )
    ])
