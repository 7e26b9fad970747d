-- An office over files: at which state it stands, and whether its disk is clean.
use Rattle.std.specs.Prelude.{◌≡◌, false}
use Rattle.sqlite_disk.specs.declared.Disk.{Ghosts}
use Rattle.sqlite_store.specs.declared.store.FileStore.{FileStore}
use Rattle.sqlite.specs.Files.{file_state, over_files}
use Rattle.sqlite.specs.State.{HasCleanDisk}
use Rattle.wb_states.specs.declared.store_fault.StoreFault.{StoreFault}
use Rattle.wb_states.specs.Machine.{Machine}
use Rattle.wb_office.specs.declared.office.Office.{Office}
use Rattle.wb_office.specs.Failed.{HasFailed}
use Rattle.wb_office.specs.Standing.{LeavesOne, StandsAt}

-- what the office read of its files was what was written to them
abbrev pub HasCleanFiles : {D : Type 0} {g : Ghosts D} → Office (FileStore D g) → Type 0
HasCleanFiles office = HasCleanDisk (file_state office.store)

-- the office stands at this state
abbrev pub IsAt : {D : Type 0} {g : Ghosts D} → Office (FileStore D g) → Machine → Type 0
IsAt office machine = StandsAt machine office.is_closed office.known (file_state office.store)

-- the office answers commands: no fault of its store has closed it
abbrev pub IsOpenOffice : {D : Type 0} {g : Ghosts D} → Office (FileStore D g) → Type 0
IsOpenOffice office = office.is_closed ≡ false

-- the office is closed, since its store failed with this fault while it stood at the state before, and a crash leaves
-- the one state or the other
abbrev pub HasLeftOne : {D : Type 0} {g : Ghosts D} → Office (FileStore D g) → Machine → Machine → StoreFault → Type 0
HasLeftOne office before after fault = LeavesOne before after office.is_closed (file_state office.store) × HasFailed over_files before fault office.store
