-- An office over two files, the database and its log: what is found in them, and why they are not opened or closed.
use Rattle.std.specs.Prelude.{◌≡◌, ◌⊎◌, [], Err, None}
use Rattle.sqlite_disk.specs.declared.Disk.{Ghosts}
use Rattle.sqlite_disk.specs.declared.Files.{Files}
use Rattle.sqlite_store.specs.declared.store.FileStore.{FileStore}
use Rattle.sqlite.specs.declared.error.Error.{Error}
use Rattle.sqlite.specs.declared.error.Error.TheVariants.{SqliteFailure}
use Rattle.sqlite.specs.declared.error.ErrorCode.TheVariants.{CannotOpen, Closed, DatabaseBusy, DiskFull, OutOfMemory, SystemIoFailure, TooBig}
use Rattle.sqlite.specs.Tree.{Trees}
use Rattle.sqlite.specs.Files.{file_state, over_files, IsOpened}
use Rattle.sqlite.specs.Held.{Held}
use Rattle.sqlite.specs.State.{HasCleanDisk}
use Rattle.sqlite_wal.specs.Reads.{AreClean}
use Rattle.wb_sql.specs.HandedBack.{IsMistaken, IsUnclosed, IsUnopened}
use Rattle.wb_sql.specs.Settled.{AreSettled, LeaveOnly}
use Rattle.wb_states.specs.declared.store_fault.StoreFault.{StoreFault}
use Rattle.wb_states.specs.declared.store_fault.StoreFault.TheVariants.{Device, Memory, NotOffice}
use Rattle.wb_states.specs.declared.store_fault.Table.TheVariants.{Office}
use Rattle.wb_states.specs.Machine.{Machine, empty_office}
use Rattle.wb_store.specs.Faults.{fault_of}
use Rattle.wb_store.specs.Opening.{PreparesOffice}
use Rattle.wb_store.specs.Preparing.{HoldOffice, IsFoundAt}

-- the fault of the store if files are not opened because of this error
abbrev pub opening_fault : Error → StoreFault
opening_fault (SqliteFailure OutOfMemory) = Memory
opening_fault (SqliteFailure CannotOpen) = Device
opening_fault (SqliteFailure DatabaseBusy) = Device
opening_fault (SqliteFailure SystemIoFailure) = Device
opening_fault (SqliteFailure DiskFull) = Device
opening_fault (SqliteFailure TooBig) = Device
opening_fault (SqliteFailure Closed) = Device
opening_fault _ = NotOffice

-- whatever a crash leaves of the files, it is one database, which holds the office in this state, or the empty office of which no table is made yet
abbrev pub AreFoundAt : {D : Type 0} → Ghosts D → Files D → Machine → Type 0
AreFoundAt g files machine = (db : Trees) × HoldOffice machine db × AreSettled g files db

-- whatever a crash leaves of the files is a database, which holds the office in the one state or in the other
abbrev pub LeaveOffice : {D : Type 0} → Ghosts D → Files D → Machine → Machine → Type 0
LeaveOffice g files one other = LeaveOnly g files (λ db. HoldOffice one db ⊎ HoldOffice other db)

-- no database was made in the files yet: the file of the database is empty
abbrev pub AreNew : {D : Type 0} → Ghosts D → Files D → Type 0
AreNew g files = g.seen files.db ≡ []

-- files that were handed back hold the office in the one state or in the other, if the files before them did
abbrev pub KeepOffice : {D : Type 0} → Ghosts D → Files D → Files D → Type 0
KeepOffice g files back = (one other : Machine) → LeaveOffice g files one other → LeaveOffice g back one other

-- the files were not opened as a database, because of the error that has this fault, and handed back as they were left; unless the opening was mistaken, they keep the
-- office
pub record AreUnopened {D : Type 0} (g : Ghosts D) (files : Files D) (fault : StoreFault) (back : Files D) : Type 0 where
  pub error : Error
  pub is : fault ≡ opening_fault error
  pub unopened : IsUnopened g files error back
  pub kept : AreClean g back.log back.db → ¬ IsMistaken files unopened.rest → KeepOffice g files back

-- a connection over the files finds what they hold
abbrev pub IsOver : {D : Type 0} → (g : Ghosts D) → Files D → Held (FileStore D g) → Type 0
IsOver g files conn = HasCleanDisk (file_state conn) → IsOpened conn × ((machine : Machine) → AreFoundAt g files machine → IsFoundAt machine (file_state conn))

-- an opening of an office over the connection was refused, and its files handed back: a crash of them finds what it could find when the search for the office ended
pub record AreGivenUp {D : Type 0} {g : Ghosts D} (conn : Held (FileStore D g)) (fault : StoreFault) (back : Files D) : Type 0 where
  pub at : Held (FileStore D g)
  pub refused : PreparesOffice over_files conn at (Err fault)
  pub clean : AreClean g back.log back.db → HasCleanDisk (file_state at)
  pub left : AreClean g back.log back.db → LeaveOnly g back (file_state at).may_leave

-- the files were opened, without a limit of steps, the office was refused, and the files were handed back: they keep
-- the office, and an empty one if no database was made
-- in them
pub record AreRefusedOver {D : Type 0} (g : Ghosts D) (files : Files D) (fault : StoreFault) (back : Files D) : Type 0 where
  pub conn : Held (FileStore D g)
  pub opened : IsOver g files conn
  pub unlimited : conn.step_limit ≡ None
  pub given_up : AreGivenUp conn fault back
  pub clean : AreClean g back.log back.db → AreClean g files.log files.db
  pub kept : AreClean g back.log back.db → KeepOffice g files back
  pub new : AreClean g back.log back.db → AreNew g files → LeaveOffice g back empty_office empty_office

-- files were refused with this fault, and handed back
abbrev pub AreRefused : {D : Type 0} → Ghosts D → Files D → StoreFault → Files D → Type 0
AreRefused g files fault back = AreUnopened g files fault back ⊎ AreRefusedOver g files fault back

-- the files of the connection were not closed, because of the error that has this fault, and handed back
pub record AreUnclosed {D : Type 0} {g : Ghosts D} (conn : Held (FileStore D g)) (fault : StoreFault) (back : Files D) : Type 0 where
  pub error : Error
  pub is : fault ≡ fault_of error Office
  pub unclosed : IsUnclosed conn error back

-- the fault of an opening whose files were dropped
abbrev pub IsFaultOfOpening : {D : Type 0} → Ghosts D → Files D → StoreFault → Type 0
IsFaultOfOpening {D} g files fault = (back : Files D) × AreRefused g files fault back

-- the fault of a closing whose files were dropped
abbrev pub IsFaultOfClosing : {D : Type 0} {g : Ghosts D} → Held (FileStore D g) → StoreFault → Type 0
IsFaultOfClosing {D} conn fault = (back : Files D) × AreUnclosed conn fault back
