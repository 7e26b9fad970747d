-- What the files of an office hold before and after lives of it.
use Rattle.std.specs.Prelude.{◌≡◌, ◌⊎◌, ⊤, ℕ, false, List, None, Option, Result, map, IfErr, IfOk}
use Rattle.std.proofs.Common.{inl, inr}
use Rattle.std.specs.Result.{result_ok}
use Rattle.sqlite_disk.specs.declared.Disk.{Ghosts}
use Rattle.sqlite_disk.specs.declared.Files.{Files}
use Rattle.sqlite_store.specs.declared.store.FileStore.{FileStore}
use Rattle.sqlite.specs.Files.{file_state, over_files}
use Rattle.sqlite.specs.Held.{Held}
use Rattle.sqlite.specs.State.{HasCleanDisk}
use Rattle.sqlite_wal.specs.Reads.{AreClean}
use Rattle.wb_sql.specs.HandedBack.{IsMistaken}
use Rattle.wb_sql.specs.Settled.{LeaveOnly}
use Rattle.wb_states.specs.declared.command.Command.{Command}
use Rattle.wb_states.specs.Machine.{IsConsistent, Machine, empty_office}
use Rattle.wb_step.specs.Replay.{replay}
use Rattle.wb_states.specs.declared.store_fault.StoreFault.{StoreFault}
use Rattle.wb_states.specs.declared.store_fault.StoreFault.TheVariants.{Memory}
use Rattle.wb_rows.specs.declared.cell.TableRow.{TableRow}
use Rattle.wb_rows.specs.Shown.{row_of}
use Rattle.wb_store.specs.declared.refused.RefusedFiles.{RefusedFiles}
use Rattle.wb_store.specs.Files.{AreNew, AreRefused, AreUnclosed, LeaveOffice}
use Rattle.wb_store.specs.Merging.{no_merge}
use Rattle.wb_store.specs.Settled.{AreSettledAt, LeavesEither, StandsForTrees}
use Rattle.wb_store.specs.TableRows.{FailsToShowOne, table_rows}
use Rattle.wb_office.specs.declared.office.Office.{Office}
use Rattle.wb_office.specs.Asked.{AreAsked}
use Rattle.wb_office.specs.Lives.{EndsLife, LeavesStanding, Outcome, fails_for_some}
use Rattle.wb_office.specs.Offices.{HasCleanFiles, HasLeftOne, IsAt, IsOpenOffice}
use Rattle.wb_office.specs.Standing.{LeavesOne}

-- an opening of the files finds the office in the one state or in the other: a crash leaves no third; or no database
-- was made in them, and the one is the empty office
abbrev pub HoldOne : {D : Type 0} → Ghosts D → Files D → Machine → Machine → Type 0
HoldOne g files one other = LeaveOffice g files one other ⊎ ((one ≡ empty_office) × AreNew g files)

-- the store of an office over such files failed with this fault, and a crash leaves one of these two states
abbrev pub HasFailedWith : {D : Type 0} → Ghosts D → Machine → Machine → StoreFault → Type 0
HasFailedWith {D} g = fails_for_some (HasLeftOne {g = g})

-- a life began at one of two states, and a crash of its files leaves the office as commands that stand after that life
-- leave it
pub record IsLeftByLife {D : Type 0} (g : Ghosts D) (one other : Machine) (commands : List Command) (outcomes : List Outcome) (files : Files D) : Type 0 where
  pub began : Machine
  pub which : (began ≡ one) ⊎ (began ≡ other)
  pub first : List Command
  pub second : List Command
  pub first_stands : LeavesStanding (HasFailedWith g (replay began first) (replay began second)) began commands outcomes first
  pub second_stands : LeavesStanding (HasFailedWith g (replay began first) (replay began second)) began commands outcomes second
  pub left : LeaveOffice g files (replay began first) (replay began second)

-- the same, without saying which states and commands they are
abbrev pub LeavesLife : {D : Type 0} → Ghosts D → Machine → Machine → List Command → List Outcome → Files D → Type 0
LeavesLife g one other commands outcomes files = ∥ IsLeftByLife g one other commands outcomes files ∥₁

-- ---- a life

-- these files hold what the office leaves
pub record AreOf {D : Type 0} (g : Ghosts D) (office : Office (FileStore D g)) (files : Files D) : Type 0 where
  pub clean : AreClean g files.log files.db → HasCleanFiles office
  pub stands : AreClean g files.log files.db → (machine : Machine) → IsAt office machine → LeaveOnly g files (StandsForTrees machine)
  pub either : AreClean g files.log files.db → (before after : Machine) → LeavesOne before after office.is_closed (file_state office.store)
      → LeaveOnly g files (λ db. StandsForTrees before db ⊎ StandsForTrees after db)

-- the closing of an open office failed, and its files were handed out
abbrev pub IsNotClosed : {D : Type 0} {g : Ghosts D} → Office (FileStore D g) → RefusedFiles D → Type 0
IsNotClosed office refused = (office.is_closed ≡ false) × AreUnclosed office.store refused.fault refused.files

-- these files were closed: if a crash left one of two states of the office before, then all crashes leave the one now,
-- or all leave the other
abbrev pub AreClosedFiles : {D : Type 0} (g : Ghosts D) → Office (FileStore D g) → Files D → Type 0
AreClosedFiles g office files =
    AreClean g files.log files.db → (before after : Machine) → LeavesEither before after (file_state office.store) → AreSettledAt g files before ⊎ AreSettledAt g files after

-- an office was closed, or given up if a fault had closed it, and its files hold what it leaves; or its closing failed
pub record GivesUp {D : Type 0} (g : Ghosts D) (office : Office (FileStore D g)) (given : Result (Files D) (RefusedFiles D)) : Type 0 where
  pub files : IfOk given (AreOf g office)
  pub closed : IsOpenOffice office → IfOk given (AreClosedFiles g office)
  pub unclosed : IfErr given (IsNotClosed office)

-- what an opening finds, beside this state: how many commands were accepted, and each row of the office's tables
pub record IsFound (machine : Machine) (accepted : ℕ) (rows : List TableRow) : Type 0 where
  pub consistent : IsConsistent machine
  pub count : accepted ≡ machine.accepted
  pub rows_are : map row_of rows ≡ table_rows machine no_merge

-- a life that began at this state led to this office
abbrev pub Ends : {D : Type 0} (g : Ghosts D) → Office (FileStore D g) → List Command → List Outcome → Machine → Type 0
Ends g office commands outcomes machine = EndsLife IsAt HasLeftOne machine commands outcomes office

-- the same for one of two states, without saying for which
abbrev pub IsEither : (Machine → Type 0) → Machine → Machine → Type 0
IsEither IsSo one other = ∥ (IsSo one ⊎ IsSo other) ∥₁

-- an office that answers commands, over these files: it stands at one of the two states that they hold, and its
-- connection has no limit of steps
pub record IsOpenOver {D : Type 0} (g : Ghosts D) (files : Files D) (office : Office (FileStore D g)) : Type 0 where
  pub opened : IsOpenOffice office
  pub unlimited : office.store.step_limit ≡ None
  pub clean : HasCleanFiles office → AreClean g files.log files.db
  pub stands : HasCleanFiles office → (one other : Machine) → HoldOne g files one other → IsEither (IsAt office) one other

-- a session on these files: the office that was opened over them, which was asked each command; and that office at the
-- end, and what it was led through from what the files held
pub record IsSession {D : Type 0} (g : Ghosts D) (files : Files D) (commands : List Command) (outcomes : List Outcome) (left : Option (Files D)) : Type 0 where
  pub opened : Office (FileStore D g)
  pub office : Office (FileStore D g)
  pub over : IsOpenOver g files opened
  pub asked : AreAsked over_files commands outcomes opened office
  pub clean : HasCleanFiles office → AreClean g files.log files.db
  pub ends : HasCleanFiles office → (one other : Machine) → HoldOne g files one other → IsEither (Ends g office commands outcomes) one other
  pub all : Result (Files D) (RefusedFiles D)
  pub given : GivesUp g office all
  pub left_is : left ≡ result_ok all

-- the same for a life, with what its opening finds
pub record IsLife {D : Type 0} (g : Ghosts D) (files : Files D) (commands : List Command) (accepted : ℕ) (rows : List TableRow) (outcomes : List Outcome)
    (given : Result (Files D) (RefusedFiles D)) : Type 0 where
  pub opened : Office (FileStore D g)
  pub office : Office (FileStore D g)
  pub over : IsOpenOver g files opened
  pub asked : AreAsked over_files commands outcomes opened office
  pub clean : HasCleanFiles office → AreClean g files.log files.db
  pub ends : HasCleanFiles office → (one other : Machine) → HoldOne g files one other
      → IsEither (λ machine. IsFound machine accepted rows × Ends g office commands outcomes machine) one other
  pub gives : GivesUp g office given

-- an open office was asked commands, and closed
pub record LivesOn {D : Type 0} (g : Ghosts D) (opened : Office (FileStore D g)) (commands : List Command) (outcomes : List Outcome) (given : Result (Files D) (RefusedFiles D)) : Type 0 where
  pub office : Office (FileStore D g)
  pub asked : AreAsked over_files commands outcomes opened office
  pub clean : HasCleanFiles office → HasCleanFiles opened
  pub ends : HasCleanFiles office → (machine : Machine) → IsAt opened machine → Ends g office commands outcomes machine
  pub gives : GivesUp g office given

-- the same, with what an open office showed before it: how many commands were accepted, and each row of its tables
pub record LivesFound {D : Type 0} (g : Ghosts D) (opened : Office (FileStore D g)) (commands : List Command) (accepted : ℕ) (rows : List TableRow) (outcomes : List Outcome)
    (given : Result (Files D) (RefusedFiles D)) : Type 0 where
  pub shown : Office (FileStore D g)
  pub still : shown.is_closed ≡ opened.is_closed
  pub limit : shown.store.step_limit ≡ opened.store.step_limit
  pub clean : HasCleanFiles shown → HasCleanFiles opened
  pub rows_are : HasCleanFiles shown → (machine : Machine) → IsAt opened machine → (map row_of rows ≡ table_rows machine no_merge) × IsAt shown machine
  pub count : (machine : Machine) → HasCleanFiles opened → IsAt opened machine → accepted ≡ machine.accepted
  pub lives : LivesOn g shown commands outcomes given

-- the rows of one of the tables of an office were not shown, for this fault; it was given up, and its files hold what
-- it left
pub record IsGivenUp {D : Type 0} (g : Ghosts D) (office : Office (FileStore D g)) (fault : StoreFault) (left : Files D) : Type 0 where
  pub ended : Held (FileStore D g)
  pub clean : HasCleanDisk (file_state ended) → HasCleanFiles office
  pub fails : HasCleanDisk (file_state ended) → (machine : Machine) → IsAt office machine → FailsToShowOne over_files office.store ended fault
  pub given : AreClean g left.log left.db → HasCleanDisk (file_state ended)
  pub stands : AreClean g left.log left.db → (machine : Machine) → IsAt office machine → LeaveOnly g left (StandsForTrees machine)

-- That a look-up failed says little by itself: over tables that are no office's each look-up fails. So this has the
-- office that was opened over the files, which stands at a state that they hold, if they hold one of two; from that its
-- tables are there (`HasOffice`). Of other files no clause says which tables a store has that was opened over them.

-- an office was opened over the files, and given up since its rows were not shown; the files that were handed back keep
-- its state
pub record IsUnshown {D : Type 0} (g : Ghosts D) (files : Files D) (fault : StoreFault) (left : Files D) : Type 0 where
  pub office : Office (FileStore D g)
  pub over : IsOpenOver g files office
  pub given_up : IsGivenUp g office fault left
  pub kept : AreClean g left.log left.db → (one other : Machine) → HoldOne g files one other → LeaveOffice g left one other

-- the fault of a life that is refused, and the files that are handed back: that of memory, before they were opened;
-- that of their opening; or, while the disk is clean, that of a table whose rows are not shown
abbrev pub IsFaultOfLife : {D : Type 0} → (g : Ghosts D) → Files D → StoreFault → Files D → Type 0
IsFaultOfLife g files fault left = ((fault ≡ Memory) × (left ≡ files)) ⊎ (AreRefused g files fault left ⊎ IsUnshown g files fault left)

-- the opening of a life that was refused was not mistaken about the files
abbrev pub IsSureLife : {D : Type 0} (g : Ghosts D) (files : Files D) (fault : StoreFault) (left : Files D) → IsFaultOfLife g files fault left → Type 0
IsSureLife g files fault left (inl memory) = ⊤
IsSureLife g files fault left (inr (inl (inl unopened))) = ¬ IsMistaken files unopened.unopened.rest
IsSureLife g files fault left (inr (inl (inr over))) = ⊤
IsSureLife g files fault left (inr (inr unshown)) = ⊤
