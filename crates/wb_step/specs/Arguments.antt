-- What each command brings besides the records that it names. Each of these is checked alike, whatever the command is.
use Rattle.std.specs.Prelude.{ℕ, ℤ, List, Option, Some, None}
use Rattle.wb_states.specs.declared.command.AddArch.{AddArch}
use Rattle.wb_states.specs.declared.command.AddBuilder.{AddBuilder}
use Rattle.wb_states.specs.declared.command.Command.{Command}
use Rattle.wb_states.specs.declared.command.Command.TheVariants as of
use Rattle.wb_states.specs.declared.command.Enter.{Enter}
use Rattle.wb_states.specs.declared.command.Forget.{Forget}
use Rattle.wb_states.specs.declared.command.Merge.{Merge}
use Rattle.wb_states.specs.declared.command.RemoveArch.{RemoveArch}
use Rattle.wb_states.specs.declared.command.RemoveBuilder.{RemoveBuilder}
use Rattle.wb_states.specs.declared.command.Report.{Report}

-- what a command adds
pub data Addition : Type 0 where
  -- an architecture with its words
  Arch : AddArch → Addition
  -- a builder for an architecture
  Builder : AddBuilder → Addition
  -- a record of a source package
  Package : Enter → Addition

-- what a command takes away
pub data Removal : Type 0 where
  -- an architecture, with its builders' pairs and its records
  OfArch : RemoveArch → Removal
  -- a builder from an architecture
  OfBuilder : RemoveBuilder → Removal
  -- the record of a source package
  OfPackage : Forget → Removal

-- what a command imports that may change many records
pub data Import : Type 0 where
  -- the lists of a merge
  Lists : Merge → Import
  -- the lines of a report
  Lines : Report → Import

-- what a command may bring: an architecture that must be there, a builder that may build for it and is handed a record,
-- a version, relations, the number of a rebuild, a build priority, a note, a reason or a message, what it adds, what it
-- takes away, and what it imports
pub record Arguments : Type 0 where
  pub arch : Option (List ℕ)
  pub builder : Option (List ℕ)
  pub version : Option (List ℕ)
  pub relations : Option (List ℕ)
  pub number : Option ℕ
  pub build_priority : Option ℤ
  pub text : Option (List ℕ)
  pub adds : Option Addition
  pub removes : Option Removal
  pub imports : Option Import

-- nothing
abbrev pub no_arguments : Arguments
no_arguments = record {
  arch = None;
  builder = None;
  version = None;
  relations = None;
  number = None;
  build_priority = None;
  text = None;
  adds = None;
  removes = None;
  imports = None;
}

-- an architecture that must be there, and a version
abbrev pub version_arguments : List ℕ → List ℕ → Arguments
version_arguments arch version = record no_arguments { arch = Some arch; version = Some version }

-- what a command brings
abbrev pub arguments_of : Command → Arguments
arguments_of (of.AddArch fields) = record no_arguments { adds = Some (Arch fields) }
arguments_of (of.AddBuilder fields) = record no_arguments { arch = Some fields.arch; adds = Some (Builder fields) }
arguments_of (of.RemoveArch fields) = record no_arguments { arch = Some fields.name; removes = Some (OfArch fields) }
arguments_of (of.RemoveBuilder fields) = record no_arguments
    { arch = Some fields.arch; removes = Some (OfBuilder fields) }
arguments_of (of.Enter fields) = record (version_arguments fields.arch fields.version) { adds = Some (Package fields) }
arguments_of (of.Next fields) = record no_arguments { arch = Some fields.arch; builder = Some fields.builder }
arguments_of (of.Take fields) = record (version_arguments fields.arch fields.version) { builder = Some fields.builder }
arguments_of (of.Built fields) = no_arguments
arguments_of (of.Uploaded fields) = no_arguments
arguments_of (of.Waits fields) = record no_arguments { relations = Some fields.relations }
arguments_of (of.PutBack fields) = no_arguments
arguments_of (of.Attempted fields) = record no_arguments { text = Some fields.reason }
arguments_of (of.GiveBack fields) = version_arguments fields.arch fields.version
arguments_of (of.DepWait fields) = record (version_arguments fields.arch fields.version) { relations = Some fields.relations }
arguments_of (of.Fail fields) = record (version_arguments fields.arch fields.version) { text = Some fields.note }
arguments_of (of.NotForUs fields) = record (version_arguments fields.arch fields.version) { text = Some fields.note }
arguments_of (of.Rebuild fields) =
    record (version_arguments fields.arch fields.version) { number = Some fields.number; text = Some fields.message }
arguments_of (of.BuildPriority fields) = record (version_arguments fields.arch fields.version) { build_priority = Some fields.value }
arguments_of (of.Forget fields) =
    record (version_arguments fields.arch fields.version) { removes = Some (OfPackage fields) }
arguments_of (of.Merge fields) = record no_arguments { imports = Some (Lists fields) }
arguments_of (of.Report fields) = record no_arguments { arch = Some fields.arch; imports = Some (Lines fields) }
