-- Which commands may be answered with the refusal `Memory` though the machine did not refuse them so.
use Rattle.std.specs.Prelude.{◌≡◌, ◌⊎◌, false, IsOk, Err}
use Rattle.wb_states.specs.Machine.{Machine}
use Rattle.wb_states.specs.declared.command.Command.{Command}
use Rattle.wb_states.specs.declared.refusal.Refusal.{Refusal}
use Rattle.wb_step.specs.Checks.{MayWantMemory}
use Rattle.wb_step.specs.Step.{step}
use Rattle.wb_api.specs.Encoding.{is_plain}

-- a command whose answer may be that memory ran out: it may need memory, or its refusal has more than a number and a
-- name, or its reply repeats an assignment
abbrev pub MayLackMemory : Machine → Command → Type 0
MayLackMemory machine command =
    (MayWantMemory command
    ⊎ ((refusal : Refusal) × ((step machine command).0 ≡ Err refusal) × (is_plain refusal ≡ false)))
    ⊎ (IsOk (step machine command).0 × ((step machine command).1 ≡ machine))
