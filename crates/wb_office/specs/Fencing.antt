-- What lives of an office find, as states in which each hold has one holder, after hand-outs whose take numbers rise.
use Rattle.std.specs.Prelude.{◌≡◌, ◌⊎◌, ℕ, ◌+◌, ⊤, List, [], ◌∷◌, ◌++◌, length, Some}
use Rattle.wb_states.specs.declared.command.Command.{Command}
use Rattle.wb_states.specs.Machine.{Machine}
use Rattle.wb_step.specs.HandOuts.{Ends, HandOut, HasTakesByState, Rise, hand_out, hand_outs}
use Rattle.wb_step.specs.Replay.{replay}
use Rattle.wb_step.specs.Step.{step}
use Rattle.wb_rows.specs.declared.cell.TableRow.{TableRow}
use Rattle.wb_office.specs.declared.history.Found.{Found}
use Rattle.wb_office.specs.declared.history.Found.TheVariants.{Opened, Refused}
use Rattle.wb_office.specs.Files.{IsFound}
use Rattle.wb_office.specs.Lives.{AreAccepted}

-- a source package that was handed out twice on an architecture was given up between the two
abbrev pub HoldsEnd : Machine → List Command → Type 0
HoldsEnd machine commands =
    (before : List Command) (first : Command) (between : List Command) (second : Command) (after : List Command) (given later : HandOut)
    → commands ≡ before ++ first ∷ between ++ second ∷ after
    → hand_out (replay machine before) first ≡ Some given → hand_out (replay machine (before ++ first ∷ between)) second ≡ Some later
    → given.key ≡ later.key → Ends (step (replay machine before) first).1 between given

-- what an opening found is a consistent state, after commands that stand, from one of two states on: each of them was
-- accepted, and so many are counted; the take numbers of what they handed out rise from above those that were given
-- before, and each hold ended before the next one on the same source package and architecture began
pub record IsFenced (one other : Machine) (accepted : ℕ) (rows : List TableRow) : Type 0 where
  pub began : Machine
  pub which : (began ≡ one) ⊎ (began ≡ other)
  pub standing : List Command
  pub found : IsFound (replay began standing) accepted rows
  pub were_accepted : AreAccepted began standing
  pub counted : accepted ≡ began.accepted + length standing
  pub rise : Rise began.handed (hand_outs began standing)
  pub ended : HasTakesByState began → HoldsEnd began standing

-- so is what each opening found
abbrev pub AreFenced : Machine → Machine → List Found → Type 0
AreFenced one other [] = ⊤
AreFenced one other (Refused fault ∷ more) = ⊤
AreFenced one other (Opened accepted rows outcomes ∷ more) = IsFenced one other accepted rows × AreFenced one other more
