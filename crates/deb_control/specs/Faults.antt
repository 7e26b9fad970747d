-- The names of the faults of control data.
use Rattle.std.specs.Prelude.{ℕ, List, codes}
use Rattle.deb_control.specs.declared.fault.ControlFaultKind.{ControlFaultKind}
use Rattle.deb_control.specs.declared.fault.ControlFaultKind.TheVariants.{TooLarge, NotUtf8, Orphan, NoColon, BadName, Duplicate, Read, Memory, Ended}

-- the name of a fault, in ASCII
abbrev pub fault_name : ControlFaultKind → List ℕ
fault_name TooLarge = codes "TooLarge"
fault_name NotUtf8 = codes "NotUtf8"
fault_name Orphan = codes "Orphan"
fault_name NoColon = codes "NoColon"
fault_name BadName = codes "BadName"
fault_name Duplicate = codes "Duplicate"
fault_name Read = codes "Read"
fault_name Memory = codes "Memory"
fault_name Ended = codes "Ended"
