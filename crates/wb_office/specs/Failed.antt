-- Why an office is closed: its store failed.
use Rattle.std.specs.Prelude.{◌≡◌, ◌⊎◌, ℕ, List, Option}
use Rattle.sqlite_trees.specs.declared.store.Store.{Ghosts}
use Rattle.sqlite.specs.Held.{Held, state}
use Rattle.wb_states.specs.declared.command.Command.{Command}
use Rattle.wb_states.specs.declared.refusal.Refusal.TheVariants.{Store}
use Rattle.wb_states.specs.declared.store_fault.StoreFault.{StoreFault}
use Rattle.wb_states.specs.Machine.{IsConsistent, Machine}
use Rattle.wb_archive.specs.declared.merge_from.ArchList.{ArchList}
use Rattle.wb_store.specs.Finds.{FailsToFind}
use Rattle.wb_store.specs.Settled.{IsSettled}
use Rattle.wb_office.specs.declared.answer.Failure.{Failure}
use Rattle.wb_office.specs.Answers.{IsLeft}
use Rattle.wb_office.specs.Applies.{refusal_for, refusal_of}
use Rattle.wb_office.specs.ListAnswers.{AreListsLeft}

-- an office in this state is over the connection, which is open and in no transaction
pub record IsOfficeOver {S : Type 0} (g : Ghosts S) (machine : Machine) (conn : Held S) : Type 0 where
  pub consistent : IsConsistent machine
  pub settled : IsSettled machine (state g conn)

-- a command was not carried out over an office in this state, for this fault: a look-up or a write failed with it, or
-- the commit
abbrev pub FailsToCarryOut : {S : Type 0} → Ghosts S → Machine → StoreFault → Held S → Type 0
FailsToCarryOut {S} g machine fault new =
    (command : Command) × (old : Held S) × IsOfficeOver g machine old × (failure : Failure) × IsLeft g machine command old new failure × (Store fault ≡ refusal_of failure)

-- a query was not answered over an office in this state, for this fault: a look-up failed with it
abbrev pub FailsToAnswer : {S : Type 0} → Ghosts S → Machine → StoreFault → Held S → Type 0
FailsToAnswer {S} g machine fault new = (old : Held S) × IsOfficeOver g machine old × (told : StoreFault) × FailsToFind g old new told × (Store fault ≡ refusal_for told)

-- a merge of lists was not made over an office in this state, for this fault: a look-up or a call of the merge failed
-- with it, or the commit; of the readers it is told what is known of their bytes
abbrev pub FailsToMergeLists : {S : Type 0} → Ghosts S → Machine → StoreFault → Held S → Type 0
FailsToMergeLists {S} g machine fault new =
    (sources : Option (List ℕ)) × (lists : List (ArchList (Option (List ℕ)))) × (old : Held S) × IsOfficeOver g machine old × (failure : Failure)
    × AreListsLeft g (λ known. known) sources lists machine old new failure × (Store fault ≡ refusal_of failure)

-- the store of an office in this state failed with this fault, for a command, for a query or for a merge of lists
abbrev pub HasFailed : {S : Type 0} → Ghosts S → Machine → StoreFault → Held S → Type 0
HasFailed g machine fault new = FailsToCarryOut g machine fault new ⊎ (FailsToAnswer g machine fault new ⊎ FailsToMergeLists g machine fault new)
