-- The states of a source package on an architecture: wanna-build's names, and a number for each.
use Rattle.std.specs.Prelude.{ℕ, Bool, true, false, List, [], ◌∷◌, codes, bytes_eq, find, Option}
use Rattle.wb_states.specs.declared.state.State.{State}
use Rattle.wb_states.specs.declared.state.State.TheVariants.{NeedsBuild, Building, Built, Uploaded, Installed, DepWait, BdUninstallable, Failed, NotForUs, BuildAttempted}

-- the number of a state
abbrev pub code_of : State → ℕ
code_of NeedsBuild = 0
code_of Building = 1
code_of Built = 2
code_of Uploaded = 3
code_of Installed = 4
code_of DepWait = 5
code_of BdUninstallable = 6
code_of Failed = 7
code_of NotForUs = 8
code_of BuildAttempted = 9

-- the name of a state (wanna-build)
abbrev pub name_of : State → List ℕ
name_of NeedsBuild = codes "Needs-Build"
name_of Building = codes "Building"
name_of Built = codes "Built"
name_of Uploaded = codes "Uploaded"
name_of Installed = codes "Installed"
name_of DepWait = codes "Dep-Wait"
name_of BdUninstallable = codes "BD-Uninstallable"
name_of Failed = codes "Failed"
name_of NotForUs = codes "Not-For-Us"
name_of BuildAttempted = codes "Build-Attempted"

-- the states, by their numbers
abbrev pub states : List State
states =
    NeedsBuild ∷ Building ∷ Built ∷ Uploaded ∷ Installed ∷ DepWait ∷ BdUninstallable ∷ Failed ∷ NotForUs ∷ BuildAttempted ∷ []

-- the state of this name, if a state has it (wanna-build)
abbrev pub state_named : List ℕ → Option State
state_named name = find (λ state. bytes_eq name (name_of state)) states

-- the state in which a source package waits in the queue for a builder
abbrev pub is_needs_build : State → Bool
is_needs_build NeedsBuild = true
is_needs_build _ = false

-- the states in which a builder holds a source package
abbrev pub is_held : State → Bool
is_held Building = true
is_held Built = true
is_held Uploaded = true
is_held _ = false

-- the state in which a source package waits for others
abbrev pub is_dep_wait : State → Bool
is_dep_wait DepWait = true
is_dep_wait _ = false

-- the state of what the archive has
abbrev pub is_installed : State → Bool
is_installed Installed = true
is_installed _ = false

-- the state of what is not to be built on the architecture
abbrev pub is_not_for_us : State → Bool
is_not_for_us NotForUs = true
is_not_for_us _ = false
