-- A whole merge: which parts its readers have, and what became of each.
use Rattle.std.specs.Prelude.{◌≡◌, ◌⊎◌, ℕ, List, [], ◌∷◌, ◌++◌, Option, None, Some, Result, Err, IsOk}
use Rattle.std.specs.FinMap as finite
use Rattle.std.specs.List.{AllZip}
use Rattle.deb_control.specs.declared.fault.ControlFault.{ControlFault}
use Rattle.deb_control.specs.Lines.{lines_of, paragraphs_in}
use Rattle.deb_control.specs.Paragraphs.{ReaderState, begun}
use Rattle.deb_relations.specs.declared.arch.ArchWords.{ArchWords}
use Rattle.deb_text.specs.Lists.{IsIn}
use Rattle.wb_states.specs.declared.arch.OsCpu.{OsCpu}
use Rattle.wb_states.specs.declared.command.Part.{Part}
use Rattle.wb_states.specs.declared.refusal.ListKind.TheVariants.{Packages, Sources}
use Rattle.wb_states.specs.declared.refusal.Refusal.{Refusal}
use Rattle.wb_states.specs.declared.refusal.Refusal.TheVariants.{UnknownArch}
use Rattle.wb_states.specs.declared.reply.PartEnd.{PartEnd}
use Rattle.wb_states.specs.declared.reply.PartReply.{PartReply}
use Rattle.wb_states.specs.Machine.{Machine, with_words}
use Rattle.wb_merge.specs.Listing.{ArchiveListing}
use Rattle.wb_merge.specs.Merged.{Records}
use Rattle.wb_merge.specs.Scratch.{binary_rows_at, kept_sources, source_row_at}
use Rattle.wb_step.specs.Parts.{end_with, listing_for, records_with}
use Rattle.wb_archive.specs.declared.fault.BadList.{BadList}
use Rattle.wb_archive.specs.declared.merge.PartList.{PartList}
use Rattle.wb_archive.specs.Faults.{refusal_of}
use Rattle.wb_archive.specs.Parts.{IsPartDone}
use Rattle.wb_archive.specs.Reads.{IsBrokenOff, IsRefused}

-- ---- the lists that readers have

-- a reader may stand before the first paragraph of a text
abbrev pub MayBeginAt : {R : Type 0} → (R → ReaderState → Type 0) → R → List ℕ → Type 0
MayBeginAt MayStand reader text = MayStand reader (begun (paragraphs_in (lines_of text)))

-- a reader stands before the first paragraph of a text, and may stand nowhere else
abbrev pub BeginsAt : {R : Type 0} → (R → ReaderState → Type 0) → R → List ℕ → Type 0
BeginsAt MayStand reader text = (place : ReaderState) → MayStand reader place → place ≡ begun (paragraphs_in (lines_of text))

-- a reader stands before the first paragraph, whatever its text is
abbrev pub IsUnread : {R : Type 0} → (R → ReaderState → Type 0) → R → Type 0
IsUnread MayStand reader =
    (place : ReaderState) → MayStand reader place → (text : List ℕ) × (place ≡ begun (paragraphs_in (lines_of text)))

-- a part whose list was not read yet, with the words of its architecture in this office, if it was added
pub record IsPartUnread {R : Type 0} (MayStand : R → ReaderState → Type 0) (machine : Machine) (part : PartList R) : Type 0 where
  pub words : part.words ≡ finite.get machine.archs part.arch
  pub unread : IsUnread MayStand part.packages

-- a part whose list is to be read is this part of a merge, with the words of its architecture in this office, if it was added, and with a text at which its reader begins
pub record IsPartOf {R : Type 0} (Begins : R → List ℕ → Type 0) (machine : Machine) (part : PartList R) (of : Part) : Type 0 where
  pub arch : part.arch ≡ of.arch
  pub words : part.words ≡ finite.get machine.archs of.arch
  pub begins : Begins part.packages of.packages

-- the architecture of a part, if it was added
abbrev pub arch_of : List ℕ → Option OsCpu → List ArchWords
arch_of name None = []
arch_of name (Some words) = with_words name words ∷ []

-- the architectures of parts, of those that were added
abbrev pub archs_of_parts : {R : Type 0} → List (PartList R) → List ArchWords
archs_of_parts [] = []
archs_of_parts (part ∷ parts) = arch_of part.arch part.words ++ archs_of_parts parts

-- ---- what became of them

-- a Sources list of this text was read, or is refused with this fault: its first, or that its reader broke before one was read
abbrev pub IsSourcesRead : (ControlFault → Type 0) → List ℕ → Option BadList → Type 0
IsSourcesRead Breaks text None = IsOk (kept_sources text)
IsSourcesRead Breaks text (Some bad) = IsRefused Breaks Sources source_row_at (begun (paragraphs_in (lines_of text))) bad

-- the list of a part could not be read on: its reader broke at a paragraph before which none has a fault
abbrev pub IsPartBrokenOff : (ControlFault → Type 0) → Part → OsCpu → BadList → Type 0
IsPartBrokenOff Breaks of words bad = IsBrokenOff Breaks Packages (binary_rows_at (with_words of.arch words))
    (begun (paragraphs_in (lines_of of.packages))) bad

-- a part was given this listing, by the words of its architecture, if it was added, and why Sources is refused, if it is:
-- first UnknownArch, then the fault of Sources, and then what the lists have, or a refusal since the reader of Packages broke
abbrev pub IsGivenBy : (ControlFault → Type 0) → List ℕ → Part → Option OsCpu → Option BadList → Result ArchiveListing Refusal → Type 0
IsGivenBy Breaks text of None bad given = given ≡ Err UnknownArch
IsGivenBy Breaks text of (Some words) (Some bad) given = given ≡ Err (refusal_of bad)
IsGivenBy Breaks text of (Some words) None given =
    (given ≡ listing_for text of (Some words)) ⊎ ((bad : BadList) × (IsPartBrokenOff Breaks of words bad × (given ≡ Err (refusal_of bad))))

-- the same in this office, of parts of which the reader of each broke with such faults
abbrev pub IsGiven : (Part → ControlFault → Type 0) → Machine → List ℕ → Option BadList → Part → Result ArchiveListing Refusal → Type 0
IsGiven Breaks machine text bad of given = IsGivenBy (Breaks of) text of (finite.get machine.archs of.arch) bad given

-- the reader of a list of the part's architecture, among these, broke with this fault
abbrev pub BreaksFor : {R : Type 0} → (R → ControlFault → Type 0) → List (PartList R) → Part → ControlFault → Type 0
BreaksFor {R} Breaks parts of fault = (list : PartList R) × IsIn list parts × (list.arch ≡ of.arch) × Breaks list.packages fault

-- the parts were merged or refused in their order, each by the listing that it was given, from the first records to the last
abbrev pub ArePartsDone : (Part → Result ArchiveListing Refusal → Type 0) → List Part → Records → List PartReply → Records → Type 0
ArePartsDone Gives [] records [] last = last ≡ records
ArePartsDone Gives [] records (reply ∷ replies) last = ⊥
ArePartsDone Gives (part ∷ parts) records [] last = ⊥
ArePartsDone Gives (part ∷ parts) records (reply ∷ replies) last =
    (listing : Result ArchiveListing Refusal) × (Gives part listing
    × ((reply ≡ record { arch = part.arch; end = end_with records part.arch listing })
    × ArePartsDone Gives parts (records_with records part.arch listing) replies last))

-- the parts were merged or refused in their order, and the tables have the records after them
pub record IsMergeDone (Gives : Part → Result ArchiveListing Refusal → Type 0) (Holds : Records → Type 0) (parts : List Part) (records : Records) (replies : List PartReply) : Type 0 where
  pub last : Records
  pub done : ArePartsDone Gives parts records replies last
  pub holds : Holds last

-- a part was merged or refused, its list being a text at which its reader may have begun
pub record IsPartMerged {R : Type 0} (MayStand : R → ReaderState → Type 0) (machine : Machine) (Gives : Part → Result ArchiveListing Refusal → Type 0) (Holds : Records → Type 0)
    (part : PartList R) (records : Records) (end : PartEnd) : Type 0 where
  pub of : Part
  pub is : IsPartOf (MayBeginAt MayStand) machine part of
  pub done : IsPartDone (Gives of) Holds records of.arch end

-- the parts were merged or refused in their order, their lists being texts at which their readers may have begun
pub record IsMergeOfParts {R : Type 0} (MayStand : R → ReaderState → Type 0) (machine : Machine) (Gives : Part → Result ArchiveListing Refusal → Type 0) (Holds : Records → Type 0)
    (parts : List (PartList R)) (records : Records) (replies : List PartReply) : Type 0 where
  pub given : List Part
  pub are : AllZip (IsPartOf (MayBeginAt MayStand) machine) parts given
  pub done : IsMergeDone Gives Holds given records replies

-- lists were merged: there are a text of Sources and one of each part, at which their readers may have begun; Sources was
-- read or is refused; and each part was merged or refused by the listing that these gave
pub record IsMergeOfLists {R : Type 0} (MayStand : R → ReaderState → Type 0) (Breaks : R → ControlFault → Type 0) (machine : Machine) (Holds : Records → Type 0)
    (sources : R) (parts : List (PartList R)) (records : Records) (replies : List PartReply) : Type 0 where
  pub text : List ℕ
  pub begins : MayBeginAt MayStand sources text
  pub bad : Option BadList
  pub read : IsSourcesRead (Breaks sources) text bad
  pub merged : IsMergeOfParts MayStand machine (IsGiven (BreaksFor Breaks parts) machine text bad) Holds parts records replies

-- what a merge of lists with these texts made of the records: Sources was read or is refused, and the parts were merged or refused in their order
pub record IsMergeOfKnown (SourcesBreak : ControlFault → Type 0) (PartBreaks : Part → ControlFault → Type 0) (machine : Machine) (Holds : Records → Type 0) (text : List ℕ)
    (given : List Part) (records : Records) (replies : List PartReply) : Type 0 where
  pub bad : Option BadList
  pub read : IsSourcesRead SourcesBreak text bad
  pub done : IsMergeDone (IsGiven PartBreaks machine text bad) Holds given records replies
