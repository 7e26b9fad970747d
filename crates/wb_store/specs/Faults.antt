-- What an error of `sqlite`, and a row that is none of an office, are to the store of the office.
use Rattle.std.specs.Prelude.{◌≡◌, ◌⊎◌, ℕ, Result, Ok, Err}
use Rattle.sqlite.specs.declared.error.Error.{Error}
use Rattle.sqlite.specs.declared.error.Error.TheVariants.{SqliteFailure}
use Rattle.sqlite.specs.declared.error.ErrorCode.TheVariants.{OutOfMemory, SystemIoFailure, DiskFull, TooBig, Closed}
use Rattle.wb_states.specs.declared.store_fault.StoreFault.{StoreFault}
use Rattle.wb_states.specs.declared.store_fault.StoreFault.TheVariants.{Damaged, Memory, Device}
use Rattle.wb_states.specs.declared.store_fault.Table.{Table}

-- what is read from the table or written to it does not fit, for which no row is blamed
abbrev pub unfit : Table → StoreFault
unfit table = Damaged table 0

-- the fault of the store if a statement on the table fails with this error
abbrev pub fault_of : Error → Table → StoreFault
fault_of (SqliteFailure OutOfMemory) table = Memory
fault_of (SqliteFailure SystemIoFailure) table = Device
fault_of (SqliteFailure DiskFull) table = Device
fault_of (SqliteFailure TooBig) table = Device
fault_of (SqliteFailure Closed) table = Device
fault_of _ table = unfit table

-- what a statement on the table answered, with the fault of the store in place of an error
abbrev pub answer_on : {A : Type 0} → Result A Error → Table → Result A StoreFault
answer_on (Ok x) table = Ok x
answer_on (Err e) table = Err (fault_of e table)

-- memory ran out, or the row of this number is damaged, because it does not fit
abbrev pub IsBadRow : Table → ℕ → Type 0 → StoreFault → Type 0
IsBadRow table place Fits fault = (fault ≡ Memory) ⊎ ((fault ≡ Damaged table place) × ¬ Fits)

-- memory ran out, or what is read from the table or written to it does not fit; no row is blamed
abbrev pub IsUnfit : Table → Type 0 → StoreFault → Type 0
IsUnfit table = IsBadRow table 0
