-- The faults of relations: their names, and what a fault of a version becomes.
use Rattle.std.specs.Prelude.{ℕ, List, codes}
use Rattle.deb_version.specs.declared.fault.VersionFault.{VersionFault}
use Rattle.deb_version.specs.declared.fault.VersionFault.TheVariants as version
use Rattle.deb_relations.specs.declared.fault.RelationFault.{RelationFault}
use Rattle.deb_relations.specs.declared.fault.RelationFault.TheVariants.{BadName, BadOperator, BadVersion, Mixed, Unclosed, EmptyAlternative, Stray, TooLong, Memory}

-- the name of a fault, without what it carries
abbrev pub fault_name : RelationFault → List ℕ
fault_name BadName = codes "BadName"
fault_name BadOperator = codes "BadOperator"
fault_name (BadVersion fault) = codes "BadVersion"
fault_name Mixed = codes "Mixed"
fault_name Unclosed = codes "Unclosed"
fault_name EmptyAlternative = codes "EmptyAlternative"
fault_name (Stray place) = codes "Stray"
fault_name TooLong = codes "TooLong"
fault_name Memory = codes "Memory"

-- the fault of a version as a fault of relations; out of memory stays out of memory
abbrev pub fault_from_version : VersionFault → RelationFault
fault_from_version version.Memory = Memory
fault_from_version fault = BadVersion fault
