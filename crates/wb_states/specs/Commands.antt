-- The names of the commands, which are those of the subcommands that ask for them.
use Rattle.std.specs.Prelude.{ℕ, List, codes}
use Rattle.wb_states.specs.declared.command.Command.{Command}
use Rattle.wb_states.specs.declared.command.Command.TheVariants.{AddArch, AddBuilder, RemoveArch, RemoveBuilder, Enter, Next, Take, Built, Uploaded, Waits, PutBack, Attempted, GiveBack, DepWait, Fail, NotForUs, Rebuild, BuildPriority, Forget, Merge, Report}

-- the name of a command
abbrev pub name_of_command : Command → List ℕ
name_of_command (AddArch fields) = codes "add-arch"
name_of_command (AddBuilder fields) = codes "add-builder"
name_of_command (RemoveArch fields) = codes "remove-arch"
name_of_command (RemoveBuilder fields) = codes "remove-builder"
name_of_command (Enter fields) = codes "enter"
name_of_command (Next fields) = codes "next"
name_of_command (Take fields) = codes "take"
name_of_command (Built fields) = codes "built"
name_of_command (Uploaded fields) = codes "uploaded"
name_of_command (Waits fields) = codes "waits"
name_of_command (PutBack fields) = codes "put-back"
name_of_command (Attempted fields) = codes "attempted"
name_of_command (GiveBack fields) = codes "give-back"
name_of_command (DepWait fields) = codes "dep-wait"
name_of_command (Fail fields) = codes "fail"
name_of_command (NotForUs fields) = codes "not-for-us"
name_of_command (Rebuild fields) = codes "rebuild"
name_of_command (BuildPriority fields) = codes "build-priority"
name_of_command (Forget fields) = codes "forget"
name_of_command (Merge fields) = codes "merge"
name_of_command (Report fields) = codes "report"
