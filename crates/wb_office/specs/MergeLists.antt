-- A merge of lists in a transaction of the office: what it reads, what it makes of the office, and why it is not made.
use Rattle.std.specs.Prelude.{◌≡◌, ◌⊎◌, ⊤, ℕ, ◌+◌, ◌≤◌, true, false, nat_le, List, Option, None, Some, Result, Vec}
use Rattle.std.specs.Prelude.{IsTrue, IfOk, IfErr, OnOk}
use Rattle.std.specs.List.{AllByRecursion}
use Rattle.sqlite_trees.specs.declared.store.Store.{Ghosts}
use Rattle.sqlite.specs.Held.{Held, state}
use Rattle.sqlite.specs.State.{HasCleanDisk, Survives}
use Rattle.deb_control.specs.declared.fault.ControlFault.{ControlFault}
use Rattle.deb_control.specs.Paragraphs.{ReaderState}
use Rattle.wb_states.specs.declared.command.Part.{Part}
use Rattle.wb_states.specs.declared.counts.Counts.{Counts}
use Rattle.wb_states.specs.declared.refusal.Refusal.{Refusal}
use Rattle.wb_states.specs.declared.refusal.Refusal.TheVariants.{Spent}
use Rattle.wb_states.specs.declared.reply.PartReply.{PartReply}
use Rattle.wb_states.specs.declared.store_fault.StoreFault.{StoreFault}
use Rattle.wb_states.specs.declared.store_fault.StoreFault.TheVariants.{Memory}
use Rattle.wb_states.specs.declared.store_fault.Table.TheVariants.{Office}
use Rattle.wb_states.specs.Limits.{count_limit}
use Rattle.wb_states.specs.Machine.{Machine}
use Rattle.wb_states.specs.Refusals.{is_of_store}
use Rattle.wb_merge.specs.declared.changes.ArchChanges.{ArchChanges}
use Rattle.wb_merge.specs.Changes.{NotesChanges}
use Rattle.wb_merge.specs.Merged.{Records}
use Rattle.wb_step.specs.Parts.{part_replies, records_after}
use Rattle.wb_archive.specs.declared.fault.MergeFault.{MergeFault}
use Rattle.wb_archive.specs.declared.fault.MergeFault.TheVariants as merge_fault
use Rattle.wb_archive.specs.declared.merge.PartList.{PartList}
use Rattle.wb_archive.specs.Merges.{IsMergeOfLists, IsPartUnread, IsUnread}
use Rattle.wb_archive.specs.Readers.{refusal_by}
use Rattle.wb_store.specs.Calls.{FailsToWrite}
use Rattle.wb_store.specs.Faults.{IsUnfit}
use Rattle.wb_store.specs.Merging.{Scratch}
use Rattle.wb_store.specs.MergeRuns.{FailsAfter, RunsTo}
use Rattle.wb_store.specs.Settled.{IsBackAt, IsUnderWay, IsUnderWayWith}
use Rattle.wb_store.specs.Stands.{StandsFor}
use Rattle.wb_store.specs.Writes as write
use Rattle.wb_office.specs.declared.merge_lists.Stop.{Stop}
use Rattle.wb_office.specs.declared.merge_lists.Stop.TheVariants.{Failed, Refused}
use Rattle.wb_office.specs.Turns.{IsNoOffice}

-- ---- what is read

-- lists that are to be read into an office: none was read yet, and each part has the words that its architecture has
-- there, if it was added
pub record AreListsToRead {R : Type 0} (MayStand : R → ReaderState → Type 0) (sources : R) (parts : List (PartList R)) (machine : Machine) : Type 0 where
  pub unread : IsUnread MayStand sources
  pub are_parts : AllByRecursion (IsPartUnread MayStand machine) parts

-- ---- what it makes of an office

-- these are the replies to a merge of lists, and the records after it
abbrev pub AreListsDone : {R : Type 0} → (R → ReaderState → Type 0) → (R → ControlFault → Type 0) → R → List (PartList R) → Machine → List PartReply → Records → Type 0
AreListsDone MayStand Breaks sources parts machine replies last =
    IsMergeOfLists MayStand Breaks machine (λ records. records ≡ last) sources parts machine.records replies

-- the same, and what leads from the records before to those after it is noted, unless nothing is noted any longer
abbrev pub AreListsNoted : {R X : Type 0} → (R → ReaderState → Type 0) → (R → ControlFault → Type 0) → R
    → List (PartList R) → Option (Vec ArchChanges X) → Option (Vec ArchChanges X) → Machine → List PartReply → Records
    → Type 0
AreListsNoted MayStand Breaks sources parts before after machine replies last =
    AreListsDone MayStand Breaks sources parts machine replies last × NotesChanges before after machine.records last

-- the same of lists whose texts are known: what the lists say
pub record AreTextsDone (sources : List ℕ) (parts : List Part) (machine : Machine) (replies : List PartReply) (last : Records) : Type 0 where
  pub replies_are : replies ≡ part_replies machine sources parts machine.records
  pub last_is : last ≡ records_after machine sources parts machine.records

-- the fault for which a merge stopped, as that of the store
abbrev pub fault_in : MergeFault StoreFault → StoreFault
fault_in merge_fault.Memory = Memory
fault_in (merge_fault.Tables fault) = fault

-- the counts after a merge
abbrev pub counted : Counts → Counts
counted counts = record { handed = counts.handed; accepted = counts.accepted + 1 }

-- an office after a merge of these records, with the counts before it
abbrev pub merged_office : Counts → Records → Machine → Machine
merged_office counts last machine = record machine { records = last; handed = counts.handed; accepted = counts.accepted + 1 }

-- a merge is accepted by an office with these counts, and these are the replies and the records after it
pub record IsAcceptedMerge (Done : Machine → List PartReply → Records → Type 0) (counts : Counts) (machine : Machine) (replies : List PartReply) (last : Records) : Type 0 where
  pub done : Done machine replies last
  pub good : refusal_by replies ≡ None
  pub room : nat_le count_limit counts.accepted ≡ false

-- a merge is refused by an office with these counts: no part was merged, or no more command can be counted
pub record IsRefusedMerge (Done : Machine → List PartReply → Records → Type 0) (counts : Counts) (machine : Machine) (refusal : Refusal) : Type 0 where
  pub replies : List PartReply
  pub last : Records
  pub done : Done machine replies last
  pub why : (refusal_by replies ≡ Some refusal) ⊎ ((refusal_by replies ≡ None) × (refusal ≡ Spent) × (nat_le count_limit counts.accepted ≡ true))

-- ---- in a transaction

-- a merge was made in a transaction, with these replies
pub record IsMergedIn {S : Type 0} (g : Ghosts S) (Done : Machine → List PartReply → Records → Type 0) (counts : Counts) (machine : Machine) (replies : List PartReply) (old new : Held S) : Type 0 where
  pub last : Records
  pub accepted : IsAcceptedMerge Done counts machine replies last
  pub runs : RunsTo g old new
  pub stands : StandsFor (merged_office counts last machine) (state g new).now

-- why a merge is not made in a transaction: memory ran out; a call of it failed, or the counts, which are above the
-- limit or whose write failed
abbrev pub FailsToMerge : {S : Type 0} → Ghosts S → Counts → Held S → Held S → StoreFault → Type 0
FailsToMerge {S} g counts old new fault =
    (fault ≡ Memory)
    ⊎ (FailsAfter g old new fault
    ⊎ (IsUnfit Office (counts.handed ≤ count_limit) fault
    ⊎ ((mid : Held S) × (RunsTo g old mid × FailsToWrite (write.SetsCounts counts.handed (counts.accepted + 1)) (state g mid) (state g new) fault))))

-- the transaction from the state `before` is under way, with some of what it was to write and rows of the lists, or it
-- is taken back
abbrev pub IsLeftWithLists : {S : Type 0} → Ghosts S → Machine → Held S → Type 0
IsLeftWithLists g before new = ((now : Machine) × ((kept : Scratch) × IsUnderWayWith before now kept (state g new))) ⊎ IsBackAt before (state g new)

-- what is so of the refusal for which a merge stopped, if it did for one
abbrev pub IfRefused : (Refusal → Type 0) → Stop → Type 0
IfRefused P (Refused refusal) = P refusal
IfRefused P (Failed fault) = ⊤

-- what is so of the fault for which a merge stopped, if it did for one
abbrev pub IfFailed : (StoreFault → Type 0) → Stop → Type 0
IfFailed P (Refused refusal) = ⊤
IfFailed P (Failed fault) = P fault

-- a merge of lists of which an office may read the one and of which the other comes, in a transaction: if it succeeds,
-- the database stands for the office after it; if it stops, it is refused, or a call of it failed, and the transaction
-- is under way or taken back; and a crash leaves no more than before
pub record MergesLists {S X : Type 0} (g : Ghosts S) (Ready : Machine → Type 0) (Done : Machine → List PartReply → Records → Type 0) (counts : Counts) (old new : Held S)
    (result : Result (Vec PartReply X) Stop) : Type 0 where
  pub ok : HasCleanDisk (state g new) → (machine : Machine) → StandsFor machine (state g old).now → Ready machine
      → IfOk result (λ replies. IsMergedIn g Done counts machine replies.items old new)
  pub room : OnOk result (nat_le count_limit counts.accepted ≡ false)
  pub refused : HasCleanDisk (state g new) → (machine : Machine) → StandsFor machine (state g old).now → Ready machine
      → IfErr result (IfRefused (IsRefusedMerge Done counts machine))
  pub kind : IfErr result (IfRefused (λ refusal. is_of_store refusal ≡ false))
  pub cause : HasCleanDisk (state g new) → IsTrue old.in_transaction → (machine : Machine) → StandsFor machine (state g old).now
      → IfErr result (IfFailed (FailsToMerge g counts old new))
  pub left : HasCleanDisk (state g new) → (before now : Machine) → IsUnderWay before now (state g old) → IfErr result (λ _. IsLeftWithLists g before new)
  pub survives : Survives (state g old) (state g new) (λ _. IsNoOffice g old)
