-- The numbers and the names of the refusals.
use Rattle.std.specs.Prelude.{◌≡◌, ◌≢◌, ℕ, Bool, true, false, List, codes}
use Rattle.deb_control.specs.Faults.{fault_name}
use Rattle.wb_states.specs.declared.refusal.Refusal.{Refusal}
use Rattle.wb_states.specs.declared.refusal.Refusal.TheVariants.{UnknownArch, UnknownBuilder, WrongArch, UnknownSource, OtherVersion, WrongState, QueueEmpty, NotHeld, AfterAhead, AlreadyThere, BadName, BadVersion, BadRelations, BadNumber, BadListing, BadReport, TextTooLong, Spent, RepeatedArch, StillHeld, Closed, Store, Memory}
use Rattle.wb_states.specs.declared.store_fault.StoreFault.{StoreFault}
use Rattle.wb_states.specs.declared.store_fault.StoreFault.TheVariants.{Memory as NoMemory}
use Rattle.wb_states.specs.declared.refusal.ListKind.{ListKind}
use Rattle.wb_states.specs.declared.refusal.ListKind.TheVariants.{Sources, Packages}
use Rattle.wb_states.specs.declared.refusal.ListField.{ListField}
use Rattle.wb_states.specs.declared.refusal.ListField.TheVariants.{Package, Version, Architecture, Priority, Section, Source}
use Rattle.wb_states.specs.declared.refusal.ListingFault.{ListingFault}
use Rattle.wb_states.specs.declared.refusal.ListingFault.TheVariants.{Control, Missing, BadValue}

-- the number of a refusal
abbrev pub code_of_refusal : Refusal → ℕ
code_of_refusal UnknownArch = 1
code_of_refusal UnknownBuilder = 2
code_of_refusal WrongArch = 3
code_of_refusal UnknownSource = 4
code_of_refusal (OtherVersion have) = 5
code_of_refusal (WrongState state) = 6
code_of_refusal QueueEmpty = 7
code_of_refusal NotHeld = 8
code_of_refusal (AfterAhead handed) = 9
code_of_refusal AlreadyThere = 10
code_of_refusal BadName = 11
code_of_refusal (BadVersion fault) = 12
code_of_refusal (BadRelations fault) = 13
code_of_refusal BadNumber = 14
code_of_refusal (BadListing which paragraph fault) = 15
code_of_refusal (BadReport line) = 16
code_of_refusal TextTooLong = 17
code_of_refusal Spent = 18
code_of_refusal RepeatedArch = 22
code_of_refusal StillHeld = 23
code_of_refusal Closed = 19
code_of_refusal Memory = 20
code_of_refusal (Store fault) = 21

-- the name of a refusal
abbrev pub name_of_refusal : Refusal → List ℕ
name_of_refusal UnknownArch = codes "UnknownArch"
name_of_refusal UnknownBuilder = codes "UnknownBuilder"
name_of_refusal WrongArch = codes "WrongArch"
name_of_refusal UnknownSource = codes "UnknownSource"
name_of_refusal (OtherVersion have) = codes "OtherVersion"
name_of_refusal (WrongState state) = codes "WrongState"
name_of_refusal QueueEmpty = codes "QueueEmpty"
name_of_refusal NotHeld = codes "NotHeld"
name_of_refusal (AfterAhead handed) = codes "AfterAhead"
name_of_refusal AlreadyThere = codes "AlreadyThere"
name_of_refusal BadName = codes "BadName"
name_of_refusal (BadVersion fault) = codes "BadVersion"
name_of_refusal (BadRelations fault) = codes "BadRelations"
name_of_refusal BadNumber = codes "BadNumber"
name_of_refusal (BadListing which paragraph fault) = codes "BadListing"
name_of_refusal (BadReport line) = codes "BadReport"
name_of_refusal TextTooLong = codes "TextTooLong"
name_of_refusal Spent = codes "Spent"
name_of_refusal RepeatedArch = codes "RepeatedArch"
name_of_refusal StillHeld = codes "StillHeld"
name_of_refusal Closed = codes "Closed"
name_of_refusal Memory = codes "Memory"
name_of_refusal (Store fault) = codes "Store"

-- the machine gives this refusal: it is not out of memory, which is the one fault of a store that is kept in memory
abbrev pub IsOfMachine : Refusal → Type 0
IsOfMachine refusal = refusal ≢ Memory

-- whether an office is closed after this refusal: its store failed, or it was closed before
abbrev pub is_of_store : Refusal → Bool
is_of_store Closed = true
is_of_store (Store fault) = true
is_of_store refusal = false

-- the refusal of a command whose store has a fault: out of memory is the same for both
abbrev pub IsOfStore : StoreFault → Refusal → Type 0
IsOfStore fault refusal = (fault ≡ NoMemory → refusal ≡ Memory) × (fault ≢ NoMemory → refusal ≡ Store fault)

-- the name of a list in the archive
abbrev pub name_of_list : ListKind → List ℕ
name_of_list Sources = codes "Sources"
name_of_list Packages = codes "Packages"

-- the name of a field of a list (Debian Policy 5.6)
abbrev pub name_of_field : ListField → List ℕ
name_of_field Package = codes "Package"
name_of_field Version = codes "Version"
name_of_field Architecture = codes "Architecture"
name_of_field Priority = codes "Priority"
name_of_field Section = codes "Section"
name_of_field Source = codes "Source"

-- the name of what is wrong with a paragraph of a list
abbrev pub name_of_listing_fault : ListingFault → List ℕ
name_of_listing_fault (Control kind) = fault_name kind
name_of_listing_fault (Missing field) = codes "Missing"
name_of_listing_fault (BadValue field) = codes "BadValue"
