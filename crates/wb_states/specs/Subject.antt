-- Which records each command names: by a source package, by a take number, as the head of a queue, or by their holder.
use Rattle.std.specs.Prelude.{ℕ, List}
use Rattle.wb_states.specs.declared.command.Command.{Command}
use Rattle.wb_states.specs.declared.command.Command.TheVariants as of
use Rattle.wb_states.specs.declared.command.Next.{Next}
use Rattle.wb_states.specs.declared.subject.Subject.{Subject as Named}
use Rattle.wb_states.specs.declared.subject.Subject.TheVariants as named

-- what a command names
pub data Subject : Type 0 where
  -- no record by itself: the command adds an architecture or a builder, or its lists, its report or the architecture
  -- that it takes away name them
  Nothing : Subject
  -- the record of a source package: the architecture and the source package
  Source : List ℕ → List ℕ → Subject
  -- the record that is held under a take number
  Taken : ℕ → Subject
  -- the head of a queue, and what a builder that asks again holds
  Head : Next → Subject
  -- the records that a builder holds
  Held : List ℕ → Subject

-- the records that a command names
abbrev pub subject_of : Command → Subject
subject_of (of.AddArch fields) = Nothing
subject_of (of.AddBuilder fields) = Nothing
subject_of (of.RemoveArch fields) = Nothing
subject_of (of.RemoveBuilder fields) = Held fields.name
subject_of (of.Enter fields) = Source fields.arch fields.source
subject_of (of.Next fields) = Head fields
subject_of (of.Take fields) = Source fields.arch fields.source
subject_of (of.Built fields) = Taken fields.take_number
subject_of (of.Uploaded fields) = Taken fields.take_number
subject_of (of.Waits fields) = Taken fields.take_number
subject_of (of.PutBack fields) = Taken fields.take_number
subject_of (of.Attempted fields) = Taken fields.take_number
subject_of (of.GiveBack fields) = Source fields.arch fields.source
subject_of (of.DepWait fields) = Source fields.arch fields.source
subject_of (of.Fail fields) = Source fields.arch fields.source
subject_of (of.NotForUs fields) = Source fields.arch fields.source
subject_of (of.Rebuild fields) = Source fields.arch fields.source
subject_of (of.BuildPriority fields) = Source fields.arch fields.source
subject_of (of.Forget fields) = Source fields.arch fields.source
subject_of (of.Merge fields) = Nothing
subject_of (of.Report fields) = Nothing

-- the records that are named, in a program by what it refers to
abbrev pub subject_named : Named → Subject
subject_named named.Nothing = Nothing
subject_named (named.Source arch source) = Source arch.now source.now
subject_named (named.Taken take_number) = Taken take_number
subject_named (named.Head next) = Head next.now
subject_named (named.Held builder) = Held builder.now
