use Rattle.std.proofs.Common.{◌≡◌, ◌+◌, ◌∙◌, sym, ap, ℕ, nat_le, ◌||◌, false}
use Rattle.std.proofs.lemmas.Result.{err_from_is_err_and}
use Rattle.std.proofs.lemmas.Bool.{or_parts}
use Rattle.wb_states.specs.declared.moves.Move.TheVariants as to
use Rattle.wb_states.specs.declared.record.Record.{Record}
use Rattle.wb_states.specs.Limits.{count_limit}
use Rattle.wb_states.specs.Moves.{record_after_move}
use Rattle.wb_step.specs.Step.{assignment_of}
use Rattle.wb_step.proofs.AssignmentLemmas.{assignment_step-refused, assignment_step-Spent, take-any}
use Rattle.wb_step.proofs.builder.prepare_assignment.Goals as goal

pub returns-in_err-after-clause-refused : goal.returns-in_err-after-clause-refused
returns-in_err-after-clause-refused c =
    let p = err_from_is_err_and c.from_residual.result c.from_residual.ensures.1 in
    rw (p.1, p.2) (λ differs. assignment_step-refused c.args.office.now c.args.builder.now ((c.args.arch.now, c.args.source.now), c.args.current.now) _
    (take-any c.args.builder.now (c.args.office.now.handed + 1) c.next_take-take_number.result c.args.current.now ∙ c.in_err-after.ensures.refused differs))

pub returns-then-is_assignment_spent-clause-refused : goal.returns-then-is_assignment_spent-clause-refused
returns-then-is_assignment_spent-clause-refused c = λ _.
    assignment_step-Spent c.args.office.now c.args.builder.now ((c.args.arch.now, c.args.source.now), c.args.current.now)
    (take-any c.args.builder.now (c.args.office.now.handed + 1) c.next_take-take_number.result c.args.current.now ∙ c.in_ok-after.ensures.ok)
    (sym c.is_assignment_spent.ensures.value ∙ c.if-is_assignment_spent.true)

pub returns-clause-value : goal.returns-clause-value
returns-clause-value c =
    let room : (nat_le count_limit c.args.office.now.accepted || nat_le count_limit c.args.office.now.handed) ≡ false =
    sym c.is_assignment_spent.ensures.value ∙ c.if-is_assignment_spent.false in
    let moved : c.in_ok-after.after ≡ record_after_move (to.Take c.args.builder.now (c.args.office.now.handed + 1)) c.args.current.now =
    c.in_ok-after.ensures.value
    ∙ ap (λ (k : ℕ). record_after_move (to.Take c.args.builder.now k) c.args.current.now) (c.next_take-take_number.ensures.value (or_parts _ _ room).1) in
    c.in_ok-make_assigned.ensures.value ∙ ap (λ (after : Record). ((c.args.arch.now, c.args.source.now), after)) moved

pub returns-clause-reply : goal.returns-clause-reply
returns-clause-reply c =
    let room : (nat_le count_limit c.args.office.now.accepted || nat_le count_limit c.args.office.now.handed) ≡ false =
    sym c.is_assignment_spent.ensures.value ∙ c.if-is_assignment_spent.false in
    c.in_ok-make_assigned.ensures.reply
    ∙ ap (λ (k : ℕ). assignment_of ((c.args.arch.now, c.args.source.now), c.args.current.now) k) (c.next_take-take_number.ensures.value (or_parts _ _ room).1)

pub returns-clause-ok : goal.returns-clause-ok
returns-clause-ok c =
    take-any c.args.builder.now (c.args.office.now.handed + 1) c.next_take-take_number.result c.args.current.now ∙ c.in_ok-after.ensures.ok

pub returns-clause-room : goal.returns-clause-room
returns-clause-room c = sym c.is_assignment_spent.ensures.value ∙ c.if-is_assignment_spent.false
