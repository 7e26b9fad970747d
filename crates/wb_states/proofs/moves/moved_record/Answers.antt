use Rattle.std.proofs.Common.{rules, ◌≡◌, refl}
use Rattle.wb_states.specs.Moves.{record_after_move, set_by, in_state, goal_of}
use Rattle.wb_states.proofs.moves.moved_record.Goals as goal

pub returns-clause-value : goal.returns-clause-value
unfolding record_after_move
returns-clause-value c =
    let copied : c.in_ok-after.after ≡ c.args.current.now = search rules in
    let settled : c.enter_state.new.self ≡ in_state (goal_of c.args.change.now) (set_by c.args.change.now c.args.current.now) =
    rw (c.enter_state.ensures.value, c.goal.ensures, c.in_ok-set.ensures.ok, copied) refl in
    λ i. record (settled i) { note = c.in_ok-after-2.ensures i }
