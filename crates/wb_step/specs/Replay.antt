-- The state after a list of commands.
use Rattle.std.specs.Prelude.{List}
use Rattle.std.specs.List.{fold}
use Rattle.wb_states.specs.declared.command.Command.{Command}
use Rattle.wb_states.specs.Machine.{Machine}
use Rattle.wb_step.specs.Step.{step}

-- the state after each command in turn
abbrev pub replay : Machine → List Command → Machine
replay = fold (λ machine command. (step machine command).1)
