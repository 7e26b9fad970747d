-- A merge of lists that readers give: what it answers, and what it makes of the office.
use Rattle.std.specs.Prelude.{◌≡◌, ◌⊎◌, ℕ, ◌+◌, Bool, true, false, not, ◌||◌, nat_le, List, [], ◌∷◌, bytes_eq, codes, Option, None, Some, if◌then◌else◌, Ok, Err, IsOk}
use Rattle.std.specs.FinMap as finite
use Rattle.std.specs.List.{AllZip, list_any}
use Rattle.deb_control.specs.FeedState.{FeedState, fresh}
use Rattle.deb_control.specs.Source.{MayBeLeft}
use Rattle.deb_control.specs.declared.fault.ControlFault.{ControlFault}
use Rattle.deb_control.specs.declared.fault.ControlFaultKind.TheVariants.{Read}
use Rattle.deb_text.specs.Lists.{IsIn}
use Rattle.deb_text.specs.Options.{first_some}
use Rattle.wb_states.specs.declared.command.Part.{Part}
use Rattle.wb_states.specs.declared.refusal.Refusal.{Refusal}
use Rattle.wb_states.specs.declared.refusal.Refusal.TheVariants.{BadName, RepeatedArch, Spent, UnknownArch}
use Rattle.wb_states.specs.declared.reply.PartEnd.{PartEnd}
use Rattle.wb_states.specs.declared.reply.PartEnd.TheVariants as end
use Rattle.wb_states.specs.declared.reply.PartReply.{PartReply}
use Rattle.wb_states.specs.declared.reply.Reply.{Reply}
use Rattle.wb_states.specs.declared.reply.Reply.TheVariants.{Merged}
use Rattle.wb_states.specs.Forms.{Merge}
use Rattle.wb_states.specs.Limits.{count_limit}
use Rattle.wb_states.specs.Machine.{Machine}
use Rattle.wb_states.specs.Names.{is_arch_name}
use Rattle.wb_merge.specs.Merged.{Records}
use Rattle.wb_step.specs.Checks.{text_refusal, when}
use Rattle.wb_step.specs.Parts.{is_merged}
use Rattle.wb_step.specs.Step.{Outcome, step}
use Rattle.wb_archive.specs.declared.fault.BadList.{BadList}
use Rattle.wb_archive.specs.declared.merge.PartList.{PartList}
use Rattle.wb_archive.specs.declared.merge_from.ArchList.{ArchList}
use Rattle.wb_archive.specs.Feeds.{IsFeedBreak}
use Rattle.wb_archive.specs.Merges.{ArePartsDone, IsGiven, IsSourcesRead}

-- ---- the names of the architectures

-- the name of an architecture is malformed
abbrev pub has_bad_arch : {R : Type 0} → List (ArchList R) → Bool
has_bad_arch {R} lists = list_any (λ (list : ArchList R). not (is_arch_name list.arch)) lists

-- two lists are for one architecture
abbrev pub has_repeated_arch : {R : Type 0} → List (ArchList R) → Bool
has_repeated_arch [] = false
has_repeated_arch {R} (list ∷ lists) = list_any (λ (other : ArchList R). bytes_eq list.arch other.arch) lists || has_repeated_arch lists

-- the refusal of a merge for the names of its architectures, the first in the one order
abbrev pub archs_refusal : {R : Type 0} → List (ArchList R) → Option Refusal
archs_refusal lists = first_some (when (has_bad_arch lists) BadName ∷ when (has_repeated_arch lists) RepeatedArch ∷ [])

-- ---- what is answered

-- the refusal of a part, if it was refused
abbrev pub refusal_in : PartEnd → Option Refusal
refusal_in (end.Merged counts) = None
refusal_in (end.Refused refusal) = Some refusal

-- why a merge with these replies is refused: no part was merged, and this is why the first was not; one without parts has no architecture
abbrev pub refusal_by : List PartReply → Option Refusal
refusal_by [] = Some UnknownArch
refusal_by (reply ∷ replies) = if list_any (λ (r : PartReply). is_merged r.end) (reply ∷ replies) then None else refusal_in reply.end

-- the office after a merge that is accepted, of these records
abbrev pub merged_office : Machine → Records → Machine
merged_office machine last = record machine { records = last; accepted = machine.accepted + 1 }

-- the answer to a merge with these replies, and the office after it, by why it is refused, if it is, and by whether no more command can be counted
abbrev pub outcome_by : Option Refusal → Bool → Machine → List PartReply → Records → Outcome
outcome_by (Some refusal) is_full machine replies last = (Err refusal, machine)
outcome_by None true machine replies last = (Err Spent, machine)
outcome_by None false machine replies last = (Ok (Merged (machine.accepted + 1) replies), merged_office machine last)

-- the same by the replies alone
abbrev pub merge_outcome : Machine → List PartReply → Records → Outcome
merge_outcome machine replies last = outcome_by (refusal_by replies) (nat_le count_limit machine.accepted) machine replies last

-- a merge of lists with these texts, whose readers broke with no other faults than such, came to this: Sources was read or is refused, and each part was merged or refused in its order
pub record ComesTo (SourcesBreak : ControlFault → Type 0) (PartBreaks : Part → ControlFault → Type 0) (text : List ℕ) (parts : List Part) (machine : Machine) (outcome : Outcome)
    : Type 0 where
  pub bad : Option BadList
  pub read : IsSourcesRead SourcesBreak text bad
  pub replies : List PartReply
  pub last : Records
  pub done : ArePartsDone (IsGiven PartBreaks machine text bad) parts machine.records replies last
  pub is : outcome ≡ merge_outcome machine replies last

-- a merge of lists with these texts is answered so, and leaves the office so: its names are refused, or its lists are read
abbrev pub IsMergeOfTexts : (ControlFault → Type 0) → (Part → ControlFault → Type 0) → List ℕ → List Part → Machine → Outcome → Type 0
IsMergeOfTexts SourcesBreak PartBreaks text parts machine outcome =
    ((refusal : Refusal) × ((text_refusal (Merge text parts) ≡ Some refusal) × (outcome ≡ (Err refusal, machine))))
    ⊎ ((text_refusal (Merge text parts) ≡ None) × ComesTo SourcesBreak PartBreaks text parts machine outcome)

-- a list could not be read on, whatever its reader is
abbrev pub IsOfRead : ControlFault → Type 0
IsOfRead fault = fault.kind ≡ Read

-- ---- readers

-- a list could not be read on: a read of its reader failed, or as many bytes were read of it as may be, and more follow
abbrev pub IsReadFault : {R : Type 0} → (R → Option (List ℕ)) → R → ControlFault → Type 0
IsReadFault remaining reader fault = IsFeedBreak (fresh (remaining reader)) fault

-- the list of the part's architecture, among these, could not be read on
abbrev pub IsPartReadFault : {R : Type 0} → (R → Option (List ℕ)) → List (ArchList R) → Part → ControlFault → Type 0
IsPartReadFault {R} remaining lists of fault = (list : ArchList R) × IsIn list lists × (list.arch ≡ of.arch) × IsReadFault remaining list.packages fault

-- a list is this part of a merge: for its architecture, and with the bytes that its reader has, if those are known
pub record IsListOf {R : Type 0} (remaining : R → Option (List ℕ)) (list : ArchList R) (part : Part) : Type 0 where
  pub arch : part.arch ≡ list.arch
  pub packages : MayBeLeft (remaining list.packages) part.packages

-- a part that is to be read is this list: for its architecture, with the words that this has in the office, if it was added, and of the same bytes
pub record IsFeedOf {R : Type 0} (remaining : R → Option (List ℕ)) (machine : Machine) (list : ArchList R) (part : PartList FeedState) : Type 0 where
  pub arch : part.arch ≡ list.arch
  pub words : part.words ≡ finite.get machine.archs list.arch
  pub packages : part.packages ≡ fresh (remaining list.packages)

-- a merge of what readers give is answered so, and leaves the office so: as that of the bytes that they have, if those are known, and of some if not
pub record IsMergeOf {R : Type 0} (remaining : R → Option (List ℕ)) (sources : R) (lists : List (ArchList R)) (machine : Machine) (outcome : Outcome) : Type 0 where
  pub text : List ℕ
  pub is : MayBeLeft (remaining sources) text
  pub parts : List Part
  pub are : AllZip (IsListOf remaining) lists parts
  pub answers : IsMergeOfTexts (IsReadFault remaining sources) (IsPartReadFault remaining lists) text parts machine outcome

-- what a merge of what readers give may leave of the office if its commit is in doubt, beside the office as it was
abbrev pub MayLeave : {R : Type 0} → (R → Option (List ℕ)) → R → List (ArchList R) → Machine → Machine → Type 0
MayLeave remaining sources lists machine after =
    (after ≡ machine) ⊎ ((reply : Reply) × IsMergeOf remaining sources lists machine (Ok reply, after))

-- ---- as the step of a command

-- a list that stands for one that could not be read on: one line that is no field, so that it is refused (Debian Policy 5.1)
unfoldable pub unread_list : List ℕ
unread_list = codes "-"

-- a part is this part, or stands for it with a list that could not be read on
pub record StandsForPart (part other : Part) : Type 0 where
  pub arch : other.arch ≡ part.arch
  pub packages : (other.packages ≡ part.packages) ⊎ (other.packages ≡ unread_list)

-- a merge that came to this left the office as the step of a command does: of the merge of these lists, of which some could not be read on
pub record IsAsStep (text : List ℕ) (parts : List Part) (machine : Machine) (outcome : Outcome) : Type 0 where
  pub others : List Part
  pub stand : AllZip StandsForPart parts others
  pub left : outcome.1 ≡ (step machine (Merge text others)).1
  pub accepted : IsOk outcome.0 → IsOk (step machine (Merge text others)).0
