-- What is kept of the paragraphs that a reader has ahead.
use Rattle.std.specs.Prelude.{◌≡◌, ◌⊎◌, ℕ, ◌+◌, List, [], ◌∷◌, Option, None, Some, Result, Ok, Err}
use Rattle.deb_control.specs.declared.fault.ControlFault.{ControlFault}
use Rattle.deb_control.specs.declared.fault.ControlFaultKind.TheVariants.{Ended}
use Rattle.deb_control.specs.Fields.{FieldText}
use Rattle.deb_control.specs.Paragraphs.{Answer, ReaderState, step}
use Rattle.deb_relations.specs.declared.arch.ArchWords.{ArchWords}
use Rattle.wb_states.specs.declared.refusal.Refusal.{Refusal}
use Rattle.wb_states.specs.declared.refusal.Refusal.TheVariants.{BadListing}
use Rattle.wb_states.specs.declared.refusal.ListKind.{ListKind}
use Rattle.wb_states.specs.declared.refusal.ListKind.TheVariants.{Sources, Packages}
use Rattle.wb_states.specs.declared.refusal.ListingFault.TheVariants.{Control}
use Rattle.wb_states.specs.declared.scratch.SourceRow.{SourceRow}
use Rattle.wb_states.specs.declared.scratch.BinaryRow.{BinaryRow}
use Rattle.wb_merge.specs.Scratch.{binary_rows_at, kept_behind, source_row_at}
use Rattle.wb_archive.specs.declared.fault.BadList.{BadList}
use Rattle.wb_archive.specs.Faults.{IsBreak, refusal_of}

-- ---- where a reader may stand

-- a reader may stand at a place of which this is so
abbrev pub MayStandWhere : {R : Type 0} → (R → ReaderState → Type 0) → R → (ReaderState → Type 0) → Type 0
MayStandWhere MayStand reader P = (place : ReaderState) × (MayStand reader place × P place)

-- a call of a reader gave this answer: wherever the reader may stand after it, it may have stood at a place whose answer this is and that leads there
abbrev pub AnswersFrom : {R : Type 0} → (R → ReaderState → Type 0) → R → R → Answer → Type 0
AnswersFrom MayStand old new answer =
    (after : ReaderState) → MayStand new after → MayStandWhere MayStand old (λ before. step before ≡ (answer, after))

-- ---- what is kept of what is ahead

-- what is kept of each of the paragraphs ahead after so many, or the refusal for the first that has a fault; a reader that ended is refused
abbrev pub kept_ahead : {X : Type 0} → ListKind → (ℕ → List FieldText → Result X Refusal) → ℕ → Option (List (List (List ℕ))) → Result (List X) Refusal
kept_ahead which row_at passed None = Err (BadListing which passed (Control Ended))
kept_ahead which row_at passed (Some paragraphs) = kept_behind which row_at passed paragraphs

-- what is kept of each paragraph that a reader has ahead, or the refusal for the first that has a fault
abbrev pub kept_at : {X : Type 0} → ListKind → (ℕ → List FieldText → Result X Refusal) → ReaderState → Result (List X) Refusal
kept_at which row_at place = kept_ahead which row_at place.passed place.ahead

-- what is kept of a Sources list of which a reader has the paragraphs ahead
abbrev pub sources_at : ReaderState → Result (List SourceRow) Refusal
sources_at place = kept_at Sources source_row_at place

-- what is kept, paragraph by paragraph, of a Packages list of an architecture of which a reader has the paragraphs ahead
abbrev pub packages_at : ArchWords → ReaderState → Result (List (List BinaryRow)) Refusal
packages_at arch place = kept_at Packages (binary_rows_at arch) place

-- ---- paragraph by paragraph

-- from one place to another paragraphs were read of which these are kept, each without a fault
abbrev pub ReadsTo : {X : Type 0} → (ℕ → List FieldText → Result X Refusal) → List X → ReaderState → ReaderState → Type 0
ReadsTo row_at [] place after = after ≡ place
ReadsTo row_at (row ∷ rows) place after =
    (fields : List FieldText) × ((next : ReaderState) × ((step place ≡ (Ok (Some fields), next))
    × ((row_at (place.passed + 1) fields ≡ Ok row) × ReadsTo row_at rows next after)))

-- a call of a reader gave a paragraph of which this is kept: wherever the reader may stand after it, it may have stood before that paragraph
abbrev pub GivesRow : {R X : Type 0} → (R → ReaderState → Type 0) → (ℕ → List FieldText → Result X Refusal) → R → X → R → Type 0
GivesRow MayStand row_at old row new =
    (after : ReaderState) → MayStand new after → MayStandWhere MayStand old (λ before. ReadsTo row_at (row ∷ []) before after)

-- ---- a list that is refused

-- the paragraphs from a place on were read up to the one of this number, each without a fault
pub record IsReadUpTo {X : Type 0} (row_at : ℕ → List FieldText → Result X Refusal) (place : ReaderState) (number : ℕ) : Type 0 where
  pub rows : List X
  pub last : ReaderState
  pub reads : ReadsTo row_at rows place last
  pub next : number ≡ last.passed + 1

-- the fault of this list is that its reader broke, and the paragraphs before that were read, each without a fault
pub record IsBrokenOff {X : Type 0} (Breaks : ControlFault → Type 0) (which : ListKind) (row_at : ℕ → List FieldText → Result X Refusal) (place : ReaderState) (bad : BadList)
    : Type 0 where
  pub broke : IsBreak Breaks bad
  pub list : bad.which ≡ which
  pub read : IsReadUpTo row_at place bad.paragraph

-- this list is refused: for its first fault, or since its reader broke before one was read
abbrev pub IsRefused : {X : Type 0} → (ControlFault → Type 0) → ListKind → (ℕ → List FieldText → Result X Refusal) → ReaderState → BadList → Type 0
IsRefused Breaks which row_at place bad = IsBrokenOff Breaks which row_at place bad ⊎ (kept_at which row_at place ≡ Err (refusal_of bad))
