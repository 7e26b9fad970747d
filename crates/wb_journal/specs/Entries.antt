-- The lines of a journal: JSON texts (RFC 8259) with their keys in byte order and no space.
use Rattle.std.specs.Prelude.{ℕ, List, [], ◌++◌, Option, None, Some, codes, decimal}
use Rattle.json.specs.Print.{quoted}
use Rattle.serde_json.specs.Written.{compact_text}
use Rattle.wb_api.specs.Encoding.{reply_text}
use Rattle.wb_states.specs.Commands.{name_of_command}
use Rattle.wb_merge.specs.declared.changes.ArchChanges.{ArchChanges}
use Rattle.wb_states.specs.declared.command.Command.{Command}
use Rattle.wb_states.specs.declared.command.Command.TheVariants.{Merge, Report}
use Rattle.wb_states.specs.declared.reply.PartReply.{PartReply}
use Rattle.wb_states.specs.declared.reply.Reply.{Reply}
use Rattle.wb_states.specs.declared.reply.Reply.TheVariants.{Done, Job, Again, Reported, Merged}
use Rattle.wb_journal.specs.Changes.{merge_object_text, parts_text, replies_text, report_object_text}
use Rattle.wb_journal.specs.Commands.{value_of_command}

-- how many commands were accepted, by a reply
abbrev pub accepted_of : Reply → ℕ
accepted_of (Done accepted) = accepted
accepted_of (Job accepted assignment) = accepted
accepted_of (Again accepted assignment) = accepted
accepted_of (Reported accepted changed) = accepted
accepted_of (Merged accepted parts) = accepted

-- the text of a time, or `null` if the clock showed none
abbrev pub time_text : Option (List ℕ) → List ℕ
time_text None = codes "null"
time_text (Some time) = quoted time

-- the member with the name of who gave a command, which comes after another; nothing if that is not known
abbrev pub by_text : Option (List ℕ) → List ℕ
by_text None = []
by_text (Some name) = codes ",\"by\":" ++ quoted name

-- the line of a command of this name and with the object of this text, accepted at this time, with who gave it and its
-- reply
unfoldable pub line_text : Option (List ℕ) → Option (List ℕ) → List ℕ → List ℕ → Reply → List ℕ
line_text by time name object reply =
    codes "{\"accepted\":" ++ decimal (accepted_of reply)
    ++ codes ",\"answer\":" ++ reply_text name reply
    ++ by_text by
    ++ codes ",\"command\":" ++ object
    ++ codes ",\"time\":" ++ time_text time
    ++ codes "}\n"

-- the text of the object of a command: its name and its arguments; of a merge the architectures and of a report the
-- number of bytes, each with the changes that are known
abbrev pub object_text : List ArchChanges → Command → List ℕ
object_text changes (Merge given) = merge_object_text (parts_text changes given.parts)
object_text changes (Report given) = report_object_text changes given
object_text changes command = compact_text (value_of_command command)

-- the line of a command that was accepted at this time, with who gave it, its reply and what it changed
abbrev pub entry_text : Option (List ℕ) → Option (List ℕ) → List ArchChanges → Command → Reply → List ℕ
entry_text by time changes command reply =
    line_text by time (name_of_command command) (object_text changes command) reply

-- the parts of a merge to which this is the reply; no other command has any
abbrev pub parts_of : Reply → List PartReply
parts_of (Done accepted) = []
parts_of (Job accepted assignment) = []
parts_of (Again accepted assignment) = []
parts_of (Reported accepted changed) = []
parts_of (Merged accepted parts) = parts

-- the line of a merge that was accepted at this time, by its reply, with who gave it and what it changed
abbrev pub merge_text : Option (List ℕ) → Option (List ℕ) → List ArchChanges → Reply → List ℕ
merge_text by time changes reply =
    line_text by time (codes "merge") (merge_object_text (replies_text changes (parts_of reply))) reply
