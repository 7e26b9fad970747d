-- What is appended to a journal: commands that were accepted, each with who gave it, its reply and what it changed.
use Rattle.std.specs.Prelude.{ℕ, nat_le, Bool, true, false, List, [], ◌∷◌, length, map, Option, None, Some}
use Rattle.std.specs.Prelude.{Result, Ok, Err, if◌then◌else◌}
use Rattle.wb_merge.specs.declared.changes.ArchChanges.{ArchChanges}
use Rattle.wb_merge.specs.declared.changes.RecordChange.{RecordChange}
use Rattle.wb_states.specs.declared.command.Command.{Command}
use Rattle.wb_states.specs.declared.command.Command.TheVariants.{Merge}
use Rattle.wb_states.specs.declared.refusal.Refusal.{Refusal}
use Rattle.wb_states.specs.declared.reply.Reply.{Reply}
use Rattle.wb_states.specs.declared.reply.Reply.TheVariants.{Done, Job, Again, Reported, Merged}

-- the reply is to a command that was carried out, and not to a retry
abbrev pub is_new : Reply → Bool
is_new (Done accepted) = true
is_new (Job accepted assignment) = true
is_new (Again accepted assignment) = false
is_new (Reported accepted changed) = true
is_new (Merged accepted parts) = true

-- a merge of lists that readers gave, as an entry has it: the lists are not kept
abbrev pub merge_of_readers : Command
merge_of_readers = Merge (record { sources = []; parts = [] })

-- who has this name: nobody who is known if it is longer than 64 bytes, which no name of a key is (this project's own)
abbrev pub asker_named : List ℕ → Option (List ℕ)
asker_named name = if nat_le (length name) 64 then Some name else None

-- who gives commands, by the name that is said, or none
abbrev pub asker_of : Option (List ℕ) → Option (List ℕ)
asker_of None = None
asker_of (Some name) = asker_named name

-- what was changed on an architecture, as an entry has it: what became of each record, in the order of the names of
-- the source packages
pub record Noted : Type 0 where
  pub arch : List ℕ
  pub records : List (List ℕ × RecordChange)

-- changes as an entry has them
abbrev pub noted : ArchChanges → Noted
noted changes = record { arch = changes.arch; records = changes.records.entries }

-- an entry: a command that was accepted, the name of who gave it, or none if that is not known, its reply, and what it
-- changed, architecture by architecture, or nothing if that is not known
pub record Entry : Type 0 where
  pub by : Option (List ℕ)
  pub command : Command
  pub reply : Reply
  pub changes : List Noted

-- the entries of a command with its answer and what it changed: one if it was accepted, none if it was refused, and
-- none for a retry
abbrev pub entries_of_command : Option (List ℕ) → Command → List ArchChanges → Result Reply Refusal → List Entry
entries_of_command by command changes (Ok reply) =
    if is_new reply then record { by = by; command = command; reply = reply; changes = map noted changes } ∷ [] else []
entries_of_command by command changes (Err refusal) = []

-- the entries of a merge of lists that readers gave, with its answer and what it changed: one if it was accepted, and
-- none if it was refused
abbrev pub entries_of_merge : Option (List ℕ) → List ArchChanges → Result Reply Refusal → List Entry
entries_of_merge by changes (Ok reply) =
    record { by = by; command = merge_of_readers; reply = reply; changes = map noted changes } ∷ []
entries_of_merge by changes (Err refusal) = []
