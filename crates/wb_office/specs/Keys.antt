-- Which record a command puts, so that it can be read and written by its key.
use Rattle.std.specs.Prelude.{Option, Some, None}
use Rattle.std.specs.Option.{option_map}
use Rattle.wb_states.specs.declared.command.Command.{Command}
use Rattle.wb_states.specs.Machine.{Machine, Key}
use Rattle.wb_states.specs.Queue.{Entry}
use Rattle.wb_states.specs.Subject.{Subject, Nothing, Source, Taken, Head, Held, subject_of}
use Rattle.wb_step.specs.Targets.{first_named}

-- the key of what was found
abbrev pub key_of : Option Entry → Option Key
key_of = option_map (λ entry. entry.0)

-- the key of the record that is put: that of a source package which is named, or else that of the record which is found
abbrev pub key_at : Subject → Option Entry → Option Key
key_at Nothing first = None
key_at (Source arch source) first = Some (arch, source)
key_at (Taken take_number) first = key_of first
key_at (Head next) first = key_of first
key_at (Held builder) first = None

-- the key of the record that a command other than a merge puts if it is accepted: it names the key, or the record is at
-- the head of a queue, or held under a take number
abbrev pub key_put : Machine → Command → Option Key
key_put machine command = key_at (subject_of command) (first_named machine (subject_of command))
