-- Why a merge stops, and why a list is refused.
use Rattle.std.specs.Prelude.{◌≡◌, ⊤, Result, OnOk, IfErr}
use Rattle.deb_control.specs.declared.fault.ControlFault.{ControlFault}
use Rattle.wb_states.specs.declared.refusal.Refusal.{Refusal}
use Rattle.wb_states.specs.declared.refusal.Refusal.TheVariants.{BadListing}
use Rattle.wb_states.specs.declared.refusal.ListKind.{ListKind}
use Rattle.wb_states.specs.declared.refusal.ListingFault.TheVariants.{Control}
use Rattle.wb_archive.specs.declared.fault.BadList.{BadList}
use Rattle.wb_archive.specs.declared.fault.MergeFault.{MergeFault}
use Rattle.wb_archive.specs.declared.fault.MergeFault.TheVariants.{Memory, Tables}
use Rattle.wb_archive.specs.declared.fault.ReadFault.{ReadFault}
use Rattle.wb_archive.specs.declared.fault.ReadFault.TheVariants.{Memory as NoMemory, Bad}

-- the refusal for the fault of a list
abbrev pub refusal_of : BadList → Refusal
refusal_of bad = BadListing bad.which bad.paragraph bad.fault

-- the fault of a list for a fault of its reader
abbrev pub control_bad : ListKind → ControlFault → BadList
control_bad which fault = record { which = which; paragraph = fault.paragraph; fault = Control fault.kind }

-- the fault of a list is that its reader broke there, with a fault of which this is so
pub record IsBreak (Breaks : ControlFault → Type 0) (bad : BadList) : Type 0 where
  pub broke : ControlFault
  pub breaks : Breaks broke
  pub is : bad ≡ control_bad bad.which broke

-- what is so of the fault of a list that was read
abbrev pub IfBad : ReadFault → (BadList → Type 0) → Type 0
IfBad NoMemory P = ⊤
IfBad (Bad bad) P = P bad

-- calls on tables went from the first to the second and then stopped: memory ran out, or the next call failed with this fault
abbrev pub StopsAs : {T F : Type 0} → (T → T → Type 0) → (T → T → F → Type 0) → T → T → MergeFault F → Type 0
StopsAs Follows Fails old new Memory = Follows old new
StopsAs Follows Fails old new (Tables fault) = Fails old new fault

-- calls on tables led from the first to the second: all succeeded, or they stopped there as is said of the fault
pub record Advances {T X F : Type 0} (Follows : T → T → Type 0) (Stops : T → T → F → Type 0) (old new : T) (result : Result X F) : Type 0 where
  pub follows : OnOk result (Follows old new)
  pub stops : IfErr result (Stops old new)
