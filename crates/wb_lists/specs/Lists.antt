-- The files of the lists that a merge names, the bytes that they may be read as, and what their merge comes to.
use Rattle.std.specs.Prelude.{◌≡◌, ◌⊎◌, ⊤, ℕ, List, ◌∷◌, ◌++◌, Option, IfSome}
use Rattle.std.specs.List.{AllZip}
use Rattle.wb_states.specs.declared.command.Command.{Command}
use Rattle.wb_states.specs.declared.command.Part.{Part}
use Rattle.wb_states.specs.Forms.{Merge}
use Rattle.wb_states.specs.Machine.{Machine}
use Rattle.wb_step.specs.Step.{Outcome}
use Rattle.wb_archive.specs.declared.merge_from.ArchList.{ArchList}
use Rattle.wb_archive.specs.Readers.{IsMergeOfTexts, IsOfRead, StandsForPart}
use Rattle.wb_lists.specs.declared.lists.MergeLists.{MergeLists}
use Rattle.wb_lists.specs.declared.names.PartNames.{PartNames}

-- what is known of the files: which bytes the file of a name may be read as, and which names have a file that may not
-- be opened or, for a report, whose reading may fail
pub record MayRead : Type 1 where
  pub reads : List ℕ → List ℕ → Type 0
  pub fails : List ℕ → Type 0

-- nothing is known: each file may be read as any bytes, and may fail
abbrev pub any_lists : MayRead
any_lists = record { reads = λ _ _. ⊤; fails = λ _. ⊤ }

-- there is no file: none can be opened
abbrev pub no_lists : MayRead
no_lists = record { reads = λ _ _. ⊥; fails = λ _. ⊤ }

-- these are all the bytes that a reader has left, if those are known
abbrev pub IsAllOf : Option (List ℕ) → List ℕ → Type 0
IsAllOf known bytes = IfSome known (λ left. bytes ≡ left)

-- a reader was opened over the file of this name: what it reads to its end is what the file may be read as
abbrev pub OpensList : MayRead → List ℕ → Option (List ℕ) → Type 0
OpensList may_read name known = (bytes : List ℕ) → IsAllOf known bytes → may_read.reads name bytes

-- whatever a file may be read as later, it might be read as before, and a file that may fail later might fail before
abbrev pub MayReadLess : MayRead → MayRead → Type 0
MayReadLess old new =
    ((name bytes : List ℕ) → new.reads name bytes → old.reads name bytes)
    × ((name : List ℕ) → new.fails name → old.fails name)

-- ---- a merge

-- a part of a merge, with the bytes that the list which is named for it may be read as
abbrev pub MayReadPart : MayRead → PartNames → Part → Type 0
MayReadPart may_read names part = (part.arch ≡ names.arch) × may_read.reads names.packages part.packages

-- the parts of a merge, in the order in which they are named
abbrev pub MayReadParts : MayRead → List PartNames → List Part → Type 0
MayReadParts may_read names parts = AllZip (MayReadPart may_read) names parts

-- the merge of what the lists of these names may be read as, of which some could not be read on
pub record MayReadMerge (may_read : MayRead) (sources : List ℕ) (names : List PartNames) (command : Command)
    : Type 0 where
  pub text : List ℕ
  pub reads : may_read.reads sources text
  pub parts : List Part
  pub are : MayReadParts may_read names parts
  pub others : List Part
  pub stand : AllZip StandsForPart parts others
  pub is : command ≡ Merge text others

-- the list of a part of a merge was opened, for the architecture that is named
abbrev pub OpensPart : {R : Type 0} → MayRead → (R → Option (List ℕ)) → PartNames → ArchList R → Type 0
OpensPart may_read remaining names list =
    (list.arch ≡ names.arch) × OpensList may_read names.packages (remaining list.packages)

-- the lists of the parts of a merge were opened, in the order in which they are named
abbrev pub OpensParts : {R : Type 0} → MayRead → (R → Option (List ℕ)) → List PartNames → List (ArchList R) → Type 0
OpensParts may_read remaining names lists = AllZip (OpensPart may_read remaining) names lists

-- the lists of a merge were opened: its Sources list, and those of its parts
abbrev pub OpensMerge : {R : Type 0} → MayRead → (R → Option (List ℕ)) → List ℕ → List PartNames → MergeLists R → Type 0
OpensMerge may_read remaining sources names opened =
    OpensList may_read sources (remaining opened.sources) × OpensParts may_read remaining names opened.parts.items

-- the list of a part of a merge may not be opened, and those of the parts before it were
pub record LacksPart (may_read : MayRead) (names : List PartNames) : Type 0 where
  pub before : List PartNames
  pub name : PartNames
  pub after : List PartNames
  pub parts : List Part
  pub is : names ≡ before ++ name ∷ after
  pub given : MayReadParts may_read before parts
  pub lacks : may_read.fails name.packages

-- the first list that may not be opened of those that are named for a merge: its Sources list, or, after that was
-- opened, the list of a part
abbrev pub LacksMerge : MayRead → List ℕ → List PartNames → Type 0
LacksMerge may_read sources names =
    may_read.fails sources ⊎ ((bytes : List ℕ) × may_read.reads sources bytes × LacksPart may_read names)

-- a merge of the lists of these names came to this: that of bytes that they may be read as, of which some could not be
-- read on
pub record IsMergeAs (may_read : MayRead) (sources : List ℕ) (names : List PartNames)
    (machine : Machine) (outcome : Outcome) : Type 0 where
  pub text : List ℕ
  pub reads : may_read.reads sources text
  pub parts : List Part
  pub are : MayReadParts may_read names parts
  pub comes : IsMergeOfTexts IsOfRead (λ _. IsOfRead) text parts machine outcome
