-- The free texts of a command, which are UTF-8 as each text of a program is.
use Rattle.std.specs.Prelude.{ℕ, List, Option, Some, None, IfSome}
use Rattle.std.specs.List.{AllByRecursion}
use Rattle.std.specs.Str.{IsUtf8}
use Rattle.wb_states.specs.declared.command.Command.{Command}
use Rattle.wb_step.specs.Arguments.{Import, Lines, arguments_of}

-- a note, a reason or a message, or else the lines of a report
abbrev pub free_text : Option (List ℕ) → Option Import → Option (List ℕ)
free_text (Some text) imports = Some text
free_text None (Some (Lines report)) = Some report.text
free_text None imports = None

-- the note, the reason, the message or the report that a command brings is UTF-8
abbrev pub HasUtf8Texts : Command → Type 0
HasUtf8Texts command = IfSome (free_text (arguments_of command).text (arguments_of command).imports) IsUtf8

-- the note, the reason, the message or the report that each of some commands brings is UTF-8
abbrev pub HaveUtf8Texts : List Command → Type 0
HaveUtf8Texts = AllByRecursion HasUtf8Texts
