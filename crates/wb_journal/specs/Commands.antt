-- The objects of commands in a journal (RFC 8259), before they are printed. An argument has the name that it has in the
-- body of a request.
use Rattle.std.specs.Prelude.{ℕ, List, Option, None, Some, map, codes, length}
use Rattle.serde_json.specs.Data.{Data, Items, null, number, unsigned, string, array, object, member, no_members}
use Rattle.serde_json.specs.Find.{of_integer}
use Rattle.serde_json.specs.View.{items_of}
use Rattle.wb_states.specs.declared.command.Command.{Command}
use Rattle.wb_states.specs.declared.command.Command.TheVariants.{AddArch, AddBuilder, RemoveArch, RemoveBuilder}
use Rattle.wb_states.specs.declared.command.Command.TheVariants.{Enter, Next, Take, Built, Uploaded, Waits, PutBack}
use Rattle.wb_states.specs.declared.command.Command.TheVariants.{Attempted, GiveBack, DepWait, Fail, NotForUs}
use Rattle.wb_states.specs.declared.command.Command.TheVariants.{Rebuild, BuildPriority, Forget, Merge, Report}
use Rattle.wb_states.specs.declared.command.Held.{Held}
use Rattle.wb_states.specs.declared.command.Part.{Part}
use Rattle.wb_states.specs.declared.command.SetAside.{SetAside}

-- the value of a number that may be missing
abbrev pub number_or_null : Option ℕ → Data
number_or_null None = null
number_or_null (Some n) = number (unsigned n)

-- the object of a command of this name that a holder gives by its take number alone
abbrev pub value_of_held : List ℕ → Held → Data
value_of_held name given = object
    (member (codes "command") (string name)
    (member (codes "take") (number (unsigned given.take_number)) no_members))

-- the object of a command of this name that names a source package on an architecture and its version, with nothing
-- more
abbrev pub named_value : List ℕ → List ℕ → List ℕ → List ℕ → Data
named_value name arch source version = object
    (member (codes "arch") (string arch)
    (member (codes "command") (string name)
    (member (codes "source") (string source)
    (member (codes "version") (string version) no_members))))

-- the object of a command of this name that names a source package on an architecture and its version, with a note
abbrev pub noted_value : List ℕ → SetAside → Data
noted_value name given = object
    (member (codes "arch") (string given.arch)
    (member (codes "command") (string name)
    (member (codes "note") (string given.note)
    (member (codes "source") (string given.source)
    (member (codes "version") (string given.version) no_members)))))

-- the object of a part of a merge, by its architecture
abbrev pub part_value : List ℕ → Data
part_value arch = object (member (codes "arch") (string arch) no_members)

-- the object of a part of a merge
abbrev pub value_of_part : Part → Data
value_of_part part = part_value part.arch

-- the objects of the parts of a merge, in their order
abbrev pub values_of_parts : List Part → Items
values_of_parts parts = items_of (map value_of_part parts)

-- the object of a merge with these objects of its parts
abbrev pub merge_value : Items → Data
merge_value parts = object
    (member (codes "command") (string (codes "merge"))
    (member (codes "parts") (array parts) no_members))

-- the object of a command: its name and its arguments; of a merge the architectures, and of a report how many bytes it
-- has
abbrev pub value_of_command : Command → Data
value_of_command (AddArch given) = object
    (member (codes "command") (string (codes "add-arch"))
    (member (codes "cpu") (string given.cpu)
    (member (codes "name") (string given.name)
    (member (codes "os") (string given.os) no_members))))
value_of_command (AddBuilder given) = object
    (member (codes "arch") (string given.arch)
    (member (codes "command") (string (codes "add-builder"))
    (member (codes "name") (string given.name) no_members)))
value_of_command (RemoveArch given) = object
    (member (codes "command") (string (codes "remove-arch"))
    (member (codes "name") (string given.name) no_members))
value_of_command (RemoveBuilder given) = object
    (member (codes "arch") (string given.arch)
    (member (codes "command") (string (codes "remove-builder"))
    (member (codes "name") (string given.name) no_members)))
value_of_command (Enter given) = object
    (member (codes "arch") (string given.arch)
    (member (codes "command") (string (codes "enter"))
    (member (codes "priority") (string given.priority)
    (member (codes "section") (string given.section)
    (member (codes "source") (string given.source)
    (member (codes "version") (string given.version) no_members))))))
value_of_command (Next given) = object
    (member (codes "after") (number_or_null given.after)
    (member (codes "arch") (string given.arch)
    (member (codes "builder") (string given.builder)
    (member (codes "command") (string (codes "next")) no_members))))
value_of_command (Take given) = object
    (member (codes "arch") (string given.arch)
    (member (codes "builder") (string given.builder)
    (member (codes "command") (string (codes "take"))
    (member (codes "source") (string given.source)
    (member (codes "version") (string given.version) no_members)))))
value_of_command (Built given) = value_of_held (codes "built") given
value_of_command (Uploaded given) = value_of_held (codes "uploaded") given
value_of_command (Waits given) = object
    (member (codes "command") (string (codes "waits"))
    (member (codes "relations") (string given.relations)
    (member (codes "take") (number (unsigned given.take_number)) no_members)))
value_of_command (PutBack given) = value_of_held (codes "put-back") given
value_of_command (Attempted given) = object
    (member (codes "command") (string (codes "attempted"))
    (member (codes "reason") (string given.reason)
    (member (codes "take") (number (unsigned given.take_number)) no_members)))
value_of_command (GiveBack given) = named_value (codes "give-back") given.arch given.source given.version
value_of_command (DepWait given) = object
    (member (codes "arch") (string given.arch)
    (member (codes "command") (string (codes "dep-wait"))
    (member (codes "relations") (string given.relations)
    (member (codes "source") (string given.source)
    (member (codes "version") (string given.version) no_members)))))
value_of_command (Fail given) = noted_value (codes "fail") given
value_of_command (NotForUs given) = noted_value (codes "not-for-us") given
value_of_command (Rebuild given) = object
    (member (codes "arch") (string given.arch)
    (member (codes "command") (string (codes "rebuild"))
    (member (codes "message") (string given.message)
    (member (codes "number") (number (unsigned given.number))
    (member (codes "source") (string given.source)
    (member (codes "version") (string given.version) no_members))))))
value_of_command (BuildPriority given) = object
    (member (codes "arch") (string given.arch)
    (member (codes "command") (string (codes "build-priority"))
    (member (codes "source") (string given.source)
    (member (codes "value") (number (of_integer given.value))
    (member (codes "version") (string given.version) no_members)))))
value_of_command (Forget given) = named_value (codes "forget") given.arch given.source given.version
value_of_command (Merge given) = merge_value (values_of_parts given.parts)
value_of_command (Report given) = object
    (member (codes "arch") (string given.arch)
    (member (codes "bytes") (number (unsigned (length given.text)))
    (member (codes "command") (string (codes "report")) no_members)))
