-- The numbers and the names of the store's faults.
use Rattle.std.specs.Prelude.{ℕ, List, codes}
use Rattle.wb_states.specs.declared.store_fault.StoreFault.{StoreFault}
use Rattle.wb_states.specs.declared.store_fault.StoreFault.TheVariants.{NotOffice, NewerSchema, Damaged, Memory, Device}
use Rattle.wb_states.specs.declared.store_fault.Table.{Table}
use Rattle.wb_states.specs.declared.store_fault.Table.TheVariants.{Office, Arch, Builder, SourceRecord, ScratchSource, ScratchBinary, SourceState}

-- the name of a table
abbrev pub name_of_table : Table → List ℕ
name_of_table Office = codes "office"
name_of_table Arch = codes "arch"
name_of_table Builder = codes "builder"
name_of_table SourceRecord = codes "source_record"
name_of_table ScratchSource = codes "scratch_source"
name_of_table ScratchBinary = codes "scratch_binary"
name_of_table SourceState = codes "source_state"

-- the number of a fault
abbrev pub code_of_store_fault : StoreFault → ℕ
code_of_store_fault NotOffice = 1
code_of_store_fault NewerSchema = 2
code_of_store_fault (Damaged table row) = 3
code_of_store_fault Memory = 4
code_of_store_fault Device = 5

-- the name of a fault
abbrev pub name_of_store_fault : StoreFault → List ℕ
name_of_store_fault NotOffice = codes "NotOffice"
name_of_store_fault NewerSchema = codes "NewerSchema"
name_of_store_fault (Damaged table row) = codes "Damaged"
name_of_store_fault Memory = codes "Memory"
name_of_store_fault Device = codes "Device"
