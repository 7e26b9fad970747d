-- The names of the faults of versions.
use Rattle.std.specs.Prelude.{ℕ, List, codes}
use Rattle.deb_version.specs.declared.fault.VersionFault.{VersionFault}
use Rattle.deb_version.specs.declared.fault.VersionFault.TheVariants.{Empty, EpochEmpty, EpochNotNumber, EpochTooLarge, UpstreamEmpty, UpstreamBad, RevisionEmpty, RevisionBad, TooLong, Memory}

-- the name of a fault, without its place
abbrev pub fault_name : VersionFault → List ℕ
fault_name Empty = codes "Empty"
fault_name EpochEmpty = codes "EpochEmpty"
fault_name EpochNotNumber = codes "EpochNotNumber"
fault_name EpochTooLarge = codes "EpochTooLarge"
fault_name UpstreamEmpty = codes "UpstreamEmpty"
fault_name (UpstreamBad place) = codes "UpstreamBad"
fault_name RevisionEmpty = codes "RevisionEmpty"
fault_name (RevisionBad place) = codes "RevisionBad"
fault_name TooLong = codes "TooLong"
fault_name Memory = codes "Memory"
