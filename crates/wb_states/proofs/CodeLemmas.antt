-- The numbers and the names of states and of refusals tell them apart.
use Rattle.std.proofs.Common.{◌≡◌, ◌↔◌, ℕ, cond, List, [], refl, sym, ap, ◌∙◌, nat_eq, bytes_eq}
use Rattle.std.specs.Prelude.{codes}
use Rattle.wb_states.specs.declared.refusal.Refusal.{Refusal}
use Rattle.wb_states.specs.declared.refusal.Refusal.TheVariants.{UnknownArch, UnknownBuilder, WrongArch, UnknownSource, OtherVersion, WrongState, QueueEmpty, NotHeld, AfterAhead, AlreadyThere, BadName, BadVersion, BadRelations, BadNumber, BadListing, BadReport, TextTooLong, Spent, RepeatedArch, StillHeld, Closed, Store, Memory}
use Rattle.wb_states.specs.declared.state.State.{State}
use Rattle.wb_states.specs.declared.state.State.TheVariants.{NeedsBuild, Building, Built, Uploaded, Installed, DepWait, BdUninstallable, Failed, NotForUs, BuildAttempted}
use Rattle.wb_states.specs.Refusals.{code_of_refusal, name_of_refusal}
use Rattle.wb_states.specs.State.{code_of, name_of}

-- what is read back from a text or a number determines it
told-apart : {X Y : Type 0} (write : X → Y) (read : Y → X) → ((x : X) → read (write x) ≡ x) → (one other : X) → write one ≡ write other → one ≡ other
told-apart write read back one other e = sym (back one) ∙ ap read e ∙ back other

-- ---- states

-- the state of a number
abbrev state_at : ℕ → State
state_at code =
    (cond (nat_eq code 0) NeedsBuild
    (cond (nat_eq code 1) Building
    (cond (nat_eq code 2) Built
    (cond (nat_eq code 3) Uploaded
    (cond (nat_eq code 4) Installed
    (cond (nat_eq code 5) DepWait
    (cond (nat_eq code 6) BdUninstallable
    (cond (nat_eq code 7) Failed
    (cond (nat_eq code 8) NotForUs
    BuildAttempted)))))))))

state_at-code_of : (state : State) → state_at (code_of state) ≡ state
state_at-code_of NeedsBuild = refl
state_at-code_of Building = refl
state_at-code_of Built = refl
state_at-code_of Uploaded = refl
state_at-code_of Installed = refl
state_at-code_of DepWait = refl
state_at-code_of BdUninstallable = refl
state_at-code_of Failed = refl
state_at-code_of NotForUs = refl
state_at-code_of BuildAttempted = refl

pub code_of-differ : (one other : State) → code_of one ≡ code_of other → one ≡ other
code_of-differ = told-apart code_of state_at state_at-code_of

-- the state of a name
abbrev state_named : List ℕ → State
state_named name =
    (cond (bytes_eq name (codes "Needs-Build")) NeedsBuild
    (cond (bytes_eq name (codes "Building")) Building
    (cond (bytes_eq name (codes "Built")) Built
    (cond (bytes_eq name (codes "Uploaded")) Uploaded
    (cond (bytes_eq name (codes "Installed")) Installed
    (cond (bytes_eq name (codes "Dep-Wait")) DepWait
    (cond (bytes_eq name (codes "BD-Uninstallable")) BdUninstallable
    (cond (bytes_eq name (codes "Failed")) Failed
    (cond (bytes_eq name (codes "Not-For-Us")) NotForUs
    BuildAttempted)))))))))

state_named-name_of : (state : State) → state_named (name_of state) ≡ state
state_named-name_of NeedsBuild = refl
state_named-name_of Building = refl
state_named-name_of Built = refl
state_named-name_of Uploaded = refl
state_named-name_of Installed = refl
state_named-name_of DepWait = refl
state_named-name_of BdUninstallable = refl
state_named-name_of Failed = refl
state_named-name_of NotForUs = refl
state_named-name_of BuildAttempted = refl

pub name_of-differ : (one other : State) → name_of one ≡ name_of other → one ≡ other
name_of-differ = told-apart name_of state_named state_named-name_of

-- ---- refusals

-- the name of a refusal of a number
abbrev name_at : ℕ → List ℕ
name_at code =
    (cond (nat_eq code 1) (codes "UnknownArch")
    (cond (nat_eq code 2) (codes "UnknownBuilder")
    (cond (nat_eq code 3) (codes "WrongArch")
    (cond (nat_eq code 4) (codes "UnknownSource")
    (cond (nat_eq code 5) (codes "OtherVersion")
    (cond (nat_eq code 6) (codes "WrongState")
    (cond (nat_eq code 7) (codes "QueueEmpty")
    (cond (nat_eq code 8) (codes "NotHeld")
    (cond (nat_eq code 9) (codes "AfterAhead")
    (cond (nat_eq code 10) (codes "AlreadyThere")
    (cond (nat_eq code 11) (codes "BadName")
    (cond (nat_eq code 12) (codes "BadVersion")
    (cond (nat_eq code 13) (codes "BadRelations")
    (cond (nat_eq code 14) (codes "BadNumber")
    (cond (nat_eq code 15) (codes "BadListing")
    (cond (nat_eq code 16) (codes "BadReport")
    (cond (nat_eq code 17) (codes "TextTooLong")
    (cond (nat_eq code 18) (codes "Spent")
    (cond (nat_eq code 22) (codes "RepeatedArch")
    (cond (nat_eq code 23) (codes "StillHeld")
    (cond (nat_eq code 19) (codes "Closed")
    (cond (nat_eq code 20) (codes "Memory")
    (cond (nat_eq code 21) (codes "Store")
    [])))))))))))))))))))))))

name_at-code : (refusal : Refusal) → name_at (code_of_refusal refusal) ≡ name_of_refusal refusal
name_at-code UnknownArch = refl
name_at-code UnknownBuilder = refl
name_at-code WrongArch = refl
name_at-code UnknownSource = refl
name_at-code (OtherVersion have) = refl
name_at-code (WrongState state) = refl
name_at-code QueueEmpty = refl
name_at-code NotHeld = refl
name_at-code (AfterAhead handed) = refl
name_at-code AlreadyThere = refl
name_at-code BadName = refl
name_at-code (BadVersion fault) = refl
name_at-code (BadRelations fault) = refl
name_at-code BadNumber = refl
name_at-code (BadListing which paragraph fault) = refl
name_at-code (BadReport line) = refl
name_at-code TextTooLong = refl
name_at-code Spent = refl
name_at-code RepeatedArch = refl
name_at-code StillHeld = refl
name_at-code Closed = refl
name_at-code Memory = refl
name_at-code (Store fault) = refl

-- the number of a refusal of a name
abbrev code_at : List ℕ → ℕ
code_at name =
    (cond (bytes_eq name (codes "UnknownArch")) 1
    (cond (bytes_eq name (codes "UnknownBuilder")) 2
    (cond (bytes_eq name (codes "WrongArch")) 3
    (cond (bytes_eq name (codes "UnknownSource")) 4
    (cond (bytes_eq name (codes "OtherVersion")) 5
    (cond (bytes_eq name (codes "WrongState")) 6
    (cond (bytes_eq name (codes "QueueEmpty")) 7
    (cond (bytes_eq name (codes "NotHeld")) 8
    (cond (bytes_eq name (codes "AfterAhead")) 9
    (cond (bytes_eq name (codes "AlreadyThere")) 10
    (cond (bytes_eq name (codes "BadName")) 11
    (cond (bytes_eq name (codes "BadVersion")) 12
    (cond (bytes_eq name (codes "BadRelations")) 13
    (cond (bytes_eq name (codes "BadNumber")) 14
    (cond (bytes_eq name (codes "BadListing")) 15
    (cond (bytes_eq name (codes "BadReport")) 16
    (cond (bytes_eq name (codes "TextTooLong")) 17
    (cond (bytes_eq name (codes "Spent")) 18
    (cond (bytes_eq name (codes "RepeatedArch")) 22
    (cond (bytes_eq name (codes "StillHeld")) 23
    (cond (bytes_eq name (codes "Closed")) 19
    (cond (bytes_eq name (codes "Memory")) 20
    (cond (bytes_eq name (codes "Store")) 21
    0)))))))))))))))))))))))

code_at-name : (refusal : Refusal) → code_at (name_of_refusal refusal) ≡ code_of_refusal refusal
code_at-name UnknownArch = refl
code_at-name UnknownBuilder = refl
code_at-name WrongArch = refl
code_at-name UnknownSource = refl
code_at-name (OtherVersion have) = refl
code_at-name (WrongState state) = refl
code_at-name QueueEmpty = refl
code_at-name NotHeld = refl
code_at-name (AfterAhead handed) = refl
code_at-name AlreadyThere = refl
code_at-name BadName = refl
code_at-name (BadVersion fault) = refl
code_at-name (BadRelations fault) = refl
code_at-name BadNumber = refl
code_at-name (BadListing which paragraph fault) = refl
code_at-name (BadReport line) = refl
code_at-name TextTooLong = refl
code_at-name Spent = refl
code_at-name RepeatedArch = refl
code_at-name StillHeld = refl
code_at-name Closed = refl
code_at-name Memory = refl
code_at-name (Store fault) = refl

pub code_of_refusal-name : (one other : Refusal) → (code_of_refusal one ≡ code_of_refusal other) ↔ (name_of_refusal one ≡ name_of_refusal other)
code_of_refusal-name one other = (
  λ e. sym (name_at-code one) ∙ ap name_at e ∙ name_at-code other,
  λ e. sym (code_at-name one) ∙ ap code_at e ∙ code_at-name other,
)
