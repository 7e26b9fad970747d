-- What the rights of a builder and of an architecture reach, apart from the table of needs.
use Rattle.std.specs.Prelude.{◌≡◌, ◌⊎◌, ℕ, List, Some, None}
use Rattle.wb_states.specs.declared.command.Command.{Command}
use Rattle.wb_states.specs.declared.command.Command.TheVariants as of
use Rattle.wb_states.specs.declared.command.Next.{Next}
use Rattle.wb_states.specs.declared.command.Report.{Report}
use Rattle.wb_states.specs.declared.command.Take.{Take}
use Rattle.wb_states.specs.Holds.{holder_of}
use Rattle.wb_states.specs.Machine.{Machine}
use Rattle.wb_states.specs.Subject.{subject_of, Source, Taken}
use Rattle.wb_keys.specs.declared.right.Kind.TheVariants.{Porter}
use Rattle.wb_keys.specs.Rights.{kind_of}

-- the command takes the head of a queue in the name of the builder
abbrev pub TakesHead : List ℕ → Command → Type 0
TakesHead builder command = (fields : Next) × (command ≡ of.Next fields) × (fields.builder ≡ builder)

-- the command takes a source package in the name of the builder
abbrev pub TakesSource : List ℕ → Command → Type 0
TakesSource builder command = (fields : Take) × (command ≡ of.Take fields) × (fields.builder ≡ builder)

-- the command reports under a take number that the builder holds, or nobody
abbrev pub ReportsOwn : List ℕ → Machine → Command → Type 0
ReportsOwn builder machine command =
    (take_number : ℕ) × (subject_of command ≡ Taken take_number)
    × ((holder_of machine take_number ≡ None) ⊎ (holder_of machine take_number ≡ Some builder))

-- a command of the builder: it takes in its name, or reports under a take number that it holds, or nobody
abbrev pub IsOfBuilder : List ℕ → Machine → Command → Type 0
IsOfBuilder builder machine command =
    TakesHead builder command ⊎ (TakesSource builder command ⊎ ReportsOwn builder machine command)

-- the command is the report of the architecture
abbrev pub ReportsArch : List ℕ → Command → Type 0
ReportsArch arch command = (fields : Report) × (command ≡ of.Report fields) × (fields.arch ≡ arch)

-- the command moves a source package of the architecture
abbrev pub MovesSource : List ℕ → Command → Type 0
MovesSource arch command =
    (source : List ℕ) × (subject_of command ≡ Source arch source) × (kind_of command ≡ Porter)

-- a command for the source packages of the architecture
abbrev pub IsForArch : List ℕ → Command → Type 0
IsForArch arch command = ReportsArch arch command ⊎ MovesSource arch command
