-- What two files, the database and its log, hold, and what a crash or a power cut may leave of them.
use Rattle.sqlite_disk.specs.declared.Disk.{Ghosts}
use Rattle.sqlite_disk.specs.declared.Files.{Files}
use Rattle.sqlite.specs.Tree.{Trees}
use Rattle.sqlite.specs.Recovery.{Image}
use Rattle.sqlite.specs.WalFiles.{outcomes}
use Rattle.sqlite.specs.Files.{HoldsDatabase}

-- whatever a crash leaves of the files holds a database with one of these contents
abbrev pub LeaveOnly : {D : Type 0} → Ghosts D → Files D → (Trees → Type 0) → Type 0
LeaveOnly g files Allowed = (image : Image) → outcomes g files.log files.db image → ∥ ((db : Trees) × Allowed db × HoldsDatabase image db) ∥₁

-- whatever a crash leaves of the files holds a database with this content
abbrev pub AreSettled : {D : Type 0} → Ghosts D → Files D → Trees → Type 0
AreSettled g files db = (image : Image) → outcomes g files.log files.db image → ∥ HoldsDatabase image db ∥₁
