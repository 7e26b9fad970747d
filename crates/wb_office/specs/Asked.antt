-- What an office is asked, command by command, and what it answers.
use Rattle.std.specs.Prelude.{◌≡◌, List, [], ◌∷◌, ◌++◌}
use Rattle.sqlite_trees.specs.declared.store.Store.{Ghosts}
use Rattle.wb_states.specs.declared.command.Command.{Command}
use Rattle.wb_office.specs.declared.office.Office.{Office}
use Rattle.wb_office.specs.Applies.{Applies}
use Rattle.wb_office.specs.Lives.{Outcome}

-- an office was asked this command, and answered it so
abbrev pub IsAsked : {S : Type 0} → Ghosts S → Command → Outcome → Office S → Office S → Type 0
IsAsked g command outcome old new = Applies g command old.is_closed old.known old.store new.is_closed new.known new.store outcome

-- an office was asked these commands, each once and one after another, and answered each so
abbrev pub AreAsked : {S : Type 0} → Ghosts S → List Command → List Outcome → Office S → Office S → Type 0
AreAsked g [] [] old new = new ≡ old
AreAsked g [] (outcome ∷ outcomes) old new = ⊥
AreAsked g (command ∷ commands) [] old new = ⊥
AreAsked {S} g (command ∷ commands) (outcome ∷ outcomes) old new =
    (mid : Office S) × IsAsked g command outcome old mid × AreAsked g commands outcomes mid new

-- an office was asked these commands, with these outcomes after those before
abbrev pub IsLedThrough : {S : Type 0} → Ghosts S → List Command → List Outcome → List Outcome → Office S → Office S → Type 0
IsLedThrough g commands before after old new =
    (outcomes : List Outcome) × (after ≡ before ++ outcomes) × AreAsked g commands outcomes old new
