-- The lives of an office over files, one after another: what each opening finds, and what the files hold after them.
use Rattle.std.specs.Prelude.{◌≡◌, ◌⊎◌, Bool, true, false, List, [], ◌∷◌, ◌++◌, Result, Ok, Err, IsTrue}
use Rattle.sqlite_disk.specs.declared.Disk.{Ghosts}
use Rattle.sqlite_disk.specs.declared.Files.{Files}
use Rattle.sqlite_store.specs.declared.store.FileStore.{FileStore}
use Rattle.sqlite_store.specs.FileStore.{view}
use Rattle.sqlite.specs.Recovery.{Image}
use Rattle.sqlite.specs.WalFiles.{outcomes as crash_outcomes}
use Rattle.sqlite_wal.specs.Reads.{AreClean}
use Rattle.wb_states.specs.declared.command.Command.{Command}
use Rattle.wb_states.specs.declared.store_fault.StoreFault.{StoreFault}
use Rattle.wb_states.specs.Machine.{Machine, empty_office}
use Rattle.wb_step.specs.Replay.{replay}
use Rattle.wb_office.specs.declared.history.Found.{Found}
use Rattle.wb_office.specs.declared.history.Found.TheVariants.{Opened, Refused}
use Rattle.wb_office.specs.declared.office.Office.{Office}
use Rattle.wb_store.specs.declared.refused.RefusedFiles.{RefusedFiles}
use Rattle.wb_store.specs.Files.{AreNew, LeaveOffice}
use Rattle.wb_office.specs.Files.{HasFailedWith, HoldOne, IsFaultOfLife, IsFound, IsLife, IsNotClosed, IsSureLife}
use Rattle.wb_office.specs.Lives.{LeavesStanding}
use Rattle.wb_office.specs.Offices.{HasCleanFiles}

-- a state at which lives began, and the commands that stand so far
abbrev pub Course : Type 0
Course = Machine × List Command

-- the state that they lead to
abbrev pub reached : Course → Machine
reached course = replay course.0 course.1

-- the same course with some commands more
abbrev pub onward : Course → List Command → Course
onward course later = (course.0, course.1 ++ later)

-- each opening finds one of two courses, the one or the other, at the state that it leads to: so many commands were
-- accepted, and the tables have exactly the rows of that state. The commands that stand after the life, which are those
-- that stood before it and those that it leaves standing, with or without the one at which the store failed, are the
-- two courses of which the next opening finds one. These two are left at the end
abbrev pub Finds : (Machine → Machine → StoreFault → Type 0) → Course → Course → List (List Command) → List Found → Course → Course → Type 0
Finds Failed one other lives [] first second = (first ≡ one) × (second ≡ other)
Finds Failed one other [] (found ∷ more) first second = ⊥
Finds Failed one other (commands ∷ lives) (Refused fault ∷ more) first second = (first ≡ one) × (second ≡ other)
Finds Failed one other (commands ∷ lives) (Opened accepted rows outcomes ∷ more) first second =
    (at : Course) × ((at ≡ one) ⊎ (at ≡ other)) × IsFound (reached at) accepted rows
    × ((kept : List Command) × (left : List Command)
    × LeavesStanding (Failed (replay (reached at) kept) (replay (reached at) left)) (reached at) commands outcomes kept
    × LeavesStanding (Failed (replay (reached at) kept) (replay (reached at) left)) (reached at) commands outcomes left
    × Finds Failed (onward at kept) (onward at left) lives more first second)

-- how lives ended, with the files that were handed back last: the last life left them; or its opening was refused, of
-- which this is what it began with and what it handed back, before the power was cut; or its office was not closed
pub data Last {D : Type 0} (g : Ghosts D) : Type 0 where
  Given : Files D → Last g
  Unopened : Files D → StoreFault → Files D → Files D → Last g
  Unclosed : Office (FileStore D g) → RefusedFiles D → Files D → Last g

-- what was read of the disk until then was what was written to it
abbrev pub IsCleanLast : {D : Type 0} {g : Ghosts D} → Last g → Type 0
IsCleanLast {g = g} (Given back) = AreClean g back.log back.db
IsCleanLast {g = g} (Unopened files fault left back) = AreClean g files.log files.db
IsCleanLast (Unclosed office refused back) = HasCleanFiles office

-- there is one thing found for each life, up to the first whose opening is refused or whose office is not closed, and
-- that is the last; all before it were opened
abbrev pub AreLived : {D : Type 0} {g : Ghosts D} → List (List Command) → List Found → Files D → Last g → Type 0
AreLived [] [] back (Given files) = back ≡ files
AreLived [] [] back (Unopened files fault left last) = ⊥
AreLived [] [] back (Unclosed office refused last) = ⊥
AreLived [] (found ∷ more) back last = ⊥
AreLived (commands ∷ lives) [] back last = ⊥
AreLived {g = g} (commands ∷ lives) (Refused fault ∷ more) back (Given files) = ⊥
AreLived {g = g} (commands ∷ lives) (Refused fault ∷ more) back (Unopened files why left last) =
    (more ≡ []) × (back ≡ last) × (fault ≡ why) × IsFaultOfLife g files fault left
AreLived {g = g} (commands ∷ lives) (Refused fault ∷ more) back (Unclosed office refused last) = ⊥
AreLived (commands ∷ lives) (Opened accepted rows outcomes ∷ more) back (Unclosed office refused last) =
    ((more ≡ []) × (back ≡ last) × IsNotClosed office refused) ⊎ AreLived lives more back (Unclosed office refused last)
AreLived (commands ∷ lives) (Opened accepted rows outcomes ∷ more) back last = AreLived lives more back last

-- the files that were handed back last hold one of two states: also after an opening that was refused, unless it was
-- mistaken about the files or had no database to open; and after a closing that failed, if the tables are numbered
-- still
abbrev pub LeavesAt : {D : Type 0} {g : Ghosts D} → Last g → Machine → Machine → Type 0
LeavesAt {g = g} (Given back) one other = HoldOne g back one other
LeavesAt {g = g} (Unopened files fault left back) one other =
    (why : IsFaultOfLife g files fault left) → IsSureLife g files fault left why → AreClean g back.log back.db
    → LeaveOffice g back one other ⊎ ((one ≡ empty_office) × AreNew g files)
LeavesAt {g = g} (Unclosed office refused back) one other =
    (why : IsNotClosed office refused) → IsTrue (view why.1.unclosed.last).is_numbered → AreClean g back.log back.db → LeaveOffice g back one other

-- what lives from one of two states found, and what they left
pub record IsFoundAfter {D : Type 0} {g : Ghosts D} (one other : Course) (lives : List (List Command)) (found : List Found) (last : Last g) : Type 0 where
  pub first : Course
  pub second : Course
  pub finds : Finds (HasFailedWith g) one other lives found first second
  pub left : LeavesAt last (reached first) (reached second)

-- lives on these files: how they ended, and, if the disk is clean until then, what they found and left, whatever the
-- files held
pub record HasLived {D : Type 0} (g : Ghosts D) (files : Files D) (lives : List (List Command)) (found : List Found) (back : Files D) : Type 0 where
  pub last : Last g
  pub lived : AreLived lives found back last
  pub clean : IsCleanLast last → AreClean g files.log files.db
  pub finds : IsCleanLast last → (one other : Course) → HoldOne g files (reached one) (reached other) → ∥ IsFoundAfter one other lives found last ∥₁

-- ---- one life after another

-- the power was cut once, and handed these files back: a crash of them leaves no more
abbrev pub IsCut : {D P : Type 0} → Ghosts D → (P → Files D → Files D → P → Type 0) → Files D → P → Files D → P → Type 0
IsCut g hands_back left before back after =
    hands_back before left back after
    × (AreClean g back.log back.db → AreClean g left.log left.db) × ((image : Image) → crash_outcomes g back.log back.db image → crash_outcomes g left.log left.db image)

-- the power was cut once after a life whose office was closed or given up, and lives go on; or after one whose office
-- was not closed, and they end
abbrev pub IsCutAfter : {D P : Type 0} → Ghosts D → (P → Files D → Files D → P → Type 0) → Result (Files D) (RefusedFiles D) → P → Bool → Files D → P → Type 0
IsCutAfter g hands_back (Ok left) before goes_on back after = (goes_on ≡ true) × IsCut g hands_back left before back after
IsCutAfter g hands_back (Err refused) before goes_on back after = (goes_on ≡ false) × IsCut g hands_back refused.files before back after

-- one life was lived on these files, or its opening was refused, and lives end; the power was cut once after it
abbrev pub IsLivedOnce : {D P : Type 0} → Ghosts D → (P → Files D → Files D → P → Type 0) → Files D → P → List Command → Found → Bool → Files D → P → Type 0
IsLivedOnce {D} g hands_back files before commands (Refused fault) goes_on back after =
    (goes_on ≡ false) × ((left : Files D) × IsFaultOfLife g files fault left × IsCut g hands_back left before back after)
IsLivedOnce {D} g hands_back files before commands (Opened accepted rows outcomes) goes_on back after =
    (given : Result (Files D) (RefusedFiles D)) × IsLife g files commands accepted rows outcomes given × IsCutAfter g hands_back given before goes_on back after

-- lives, one after another: the first on these files, and each other on those that the cut of the power after the one
-- before handed back; the last is the first after which lives end, if there is one. This is what each found, and these
-- files come back at the end
abbrev pub AreLivedInTurn : {D P : Type 0} → Ghosts D → (P → Files D → Files D → P → Type 0) → Files D → P → List (List Command) → List Found → Files D → P → Type 0
AreLivedInTurn g hands_back files before [] [] back after = (back ≡ files) × (after ≡ before)
AreLivedInTurn g hands_back files before [] (found ∷ more) back after = ⊥
AreLivedInTurn g hands_back files before (commands ∷ lives) [] back after = ⊥
AreLivedInTurn {D} {P} g hands_back files before (commands ∷ lives) (found ∷ more) back after =
    (IsLivedOnce g hands_back files before commands found false back after × (more ≡ []))
    ⊎ ((next : Files D) × (mid : P) × IsLivedOnce g hands_back files before commands found true next mid × AreLivedInTurn g hands_back next mid lives more back after)
