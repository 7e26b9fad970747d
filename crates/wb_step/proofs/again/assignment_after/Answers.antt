use Rattle.std.proofs.Common.{◌∙◌, Some, ap, option_map}
use Rattle.std.specs.List.{find}
use Rattle.wb_states.specs.Holds.{building_after, is_building_after}
use Rattle.std.specs.Map.Iter.{deref_pair}
use Rattle.wb_step.specs.Outcomes.{held_assignment}
use Rattle.wb_step.specs.Step.{assignment_of}
use Rattle.wb_step.proofs.again.assignment_after.Goals as goal

pub returns-in-None : goal.returns-in-None
unfolding building_after
returns-in-None c = record {
  value = ap (option_map held_assignment) (c.in-None.ensures.value
      ∙ ap (find (is_building_after c.args.arch.now c.args.after)) c.in_ok-held.ensures.value);
}

pub returns-in_ok-made-in-Some : goal.returns-in_ok-made-in-Some
unfolding building_after
returns-in_ok-made-in-Some c = record {
  value = ap Some (c.in_ok-made-in-Some.ensures.value ∙ ap (assignment_of (deref_pair (c.in-Some.key, c.in-Some.current))) c.unwrap_or-take_number.ensures)
      ∙ ap (option_map held_assignment) (c.in-Some.ensures.value
      ∙ ap (find (is_building_after c.args.arch.now c.args.after)) c.in_ok-held.ensures.value);
}
