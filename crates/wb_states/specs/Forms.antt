-- The commands by their fields, one after another.
use Rattle.std.specs.Prelude.{ℕ, ℤ, List, Option}
use Rattle.wb_states.specs.declared.command.Command.{Command}
use Rattle.wb_states.specs.declared.command.Command.TheVariants as of
use Rattle.wb_states.specs.declared.command.Part.{Part}

-- an architecture is added
abbrev pub AddArch : List ℕ → List ℕ → List ℕ → Command
AddArch name os cpu = of.AddArch (record { name = name; os = os; cpu = cpu })

-- a builder is added
abbrev pub AddBuilder : List ℕ → List ℕ → Command
AddBuilder name arch = of.AddBuilder (record { name = name; arch = arch })

-- an architecture is taken away
abbrev pub RemoveArch : List ℕ → Command
RemoveArch name = of.RemoveArch (record { name = name })

-- a builder may build no more for an architecture
abbrev pub RemoveBuilder : List ℕ → List ℕ → Command
RemoveBuilder name arch = of.RemoveBuilder (record { name = name; arch = arch })

-- a source package is entered
abbrev pub Enter : List ℕ → List ℕ → List ℕ → List ℕ → List ℕ → Command
Enter arch source version priority section = of.Enter (record { arch = arch; source = source; version = version; priority = priority; section = section })

-- a builder asks for the head of a queue
abbrev pub Next : List ℕ → List ℕ → Option ℕ → Command
Next arch builder after = of.Next (record { arch = arch; builder = builder; after = after })

-- a builder takes a source package
abbrev pub Take : List ℕ → List ℕ → List ℕ → List ℕ → Command
Take arch builder source version = of.Take (record { arch = arch; builder = builder; source = source; version = version })

-- a holder built it
abbrev pub Built : ℕ → Command
Built take_number = of.Built (record { take_number = take_number })

-- a holder uploaded it
abbrev pub Uploaded : ℕ → Command
Uploaded take_number = of.Uploaded (record { take_number = take_number })

-- a holder lets it wait
abbrev pub Waits : ℕ → List ℕ → Command
Waits take_number relations = of.Waits (record { take_number = take_number; relations = relations })

-- a holder puts it back
abbrev pub PutBack : ℕ → Command
PutBack take_number = of.PutBack (record { take_number = take_number })

-- a holder reports a failed build
abbrev pub Attempted : ℕ → List ℕ → Command
Attempted take_number reason = of.Attempted (record { take_number = take_number; reason = reason })

-- a source package is given back
abbrev pub GiveBack : List ℕ → List ℕ → List ℕ → Command
GiveBack arch source version = of.GiveBack (record { arch = arch; source = source; version = version })

-- a source package waits for others
abbrev pub DepWait : List ℕ → List ℕ → List ℕ → List ℕ → Command
DepWait arch source version relations = of.DepWait (record { arch = arch; source = source; version = version; relations = relations })

-- a person found that its build fails
abbrev pub Fail : List ℕ → List ℕ → List ℕ → List ℕ → Command
Fail arch source version note = of.Fail (record { arch = arch; source = source; version = version; note = note })

-- it is not to be built
abbrev pub NotForUs : List ℕ → List ℕ → List ℕ → List ℕ → Command
NotForUs arch source version note = of.NotForUs (record { arch = arch; source = source; version = version; note = note })

-- it is built once more
abbrev pub Rebuild : List ℕ → List ℕ → List ℕ → ℕ → List ℕ → Command
Rebuild arch source version number message = of.Rebuild (record { arch = arch; source = source; version = version; number = number; message = message })

-- it gets another build priority
abbrev pub BuildPriority : List ℕ → List ℕ → List ℕ → ℤ → Command
BuildPriority arch source version value = of.BuildPriority (record { arch = arch; source = source; version = version; value = value })

-- its record is taken away
abbrev pub Forget : List ℕ → List ℕ → List ℕ → Command
Forget arch source version = of.Forget (record { arch = arch; source = source; version = version })

-- lists are merged
abbrev pub Merge : List ℕ → List Part → Command
Merge sources parts = of.Merge (record { sources = sources; parts = parts })

-- a report of an architecture is carried out
abbrev pub Report : List ℕ → List ℕ → Command
Report arch text = of.Report (record { arch = arch; text = text })
