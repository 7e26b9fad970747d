-- What is known of a command for which memory is wanted.
use Rattle.std.specs.Option.{option_or}
use Rattle.std.proofs.Common.{◌≡◌, ℕ, ◌||◌, Bool, true, false, nat_eq, nat_lt, length, List, [], ◌∷◌, Option, Some, None, Result, Ok, Err, IfErr, refl, ap, ◌∙◌, option_map, option_and_then, cond}
use Rattle.deb_version.specs.declared.fault.VersionFault.{VersionFault}
use Rattle.deb_version.specs.Syntax.{fault_of}
use Rattle.wb_states.specs.Forms.{AddArch, AddBuilder, Enter, Next, Take, Attempted, Built, Uploaded, Waits, PutBack}
use Rattle.wb_states.specs.Forms.{GiveBack, DepWait, Rebuild, Forget, RemoveBuilder}
use Rattle.wb_states.specs.declared.command.Command.{Command}
use Rattle.wb_states.specs.declared.refusal.Refusal.{Refusal}
use Rattle.wb_states.specs.declared.refusal.Refusal.TheVariants.{Memory, BadName, BadVersion}
use Rattle.wb_states.specs.Limits.{note_limit, rebuild_limit, relations_limit}
use Rattle.wb_states.specs.Machine.{Machine}
use Rattle.deb_text.specs.Options.{first_some}
use Rattle.deb_text.proofs.OptionLemmas.{first_some-None}
use Rattle.wb_step.specs.Checks.{MayWantMemory, first_refusal, has_bad_request, has_bad_take, has_long_relations, lines_refusal, report_refusal, unread_lines, when, text_checks, text_refusal, key_refusal}
use Rattle.wb_states.specs.Names.{has_bad_key}
use Rattle.wb_merge.specs.Report.{report_takes_memory}
use Rattle.wb_step.specs.Arguments.{Import, Lists, Lines, arguments_of}
use Rattle.wb_step.proofs.PassLemmas.{passes, when-None, option_map-None}

-- what is known on a way is known of each refusal that comes of it
pub wanted : {X P : Type 0} (answer : Result X Refusal) → P → IfErr answer (λ refusal. refusal ≡ Memory → P)
wanted (Ok x) known = tt
wanted (Err refusal) known = λ _. known

-- a source package whose names and version are not refused
pub key-good : (arch source version : List ℕ) → key_refusal arch source version ≡ None → (has_bad_key arch source ≡ false) × (fault_of version ≡ None)
unfolding text_refusal
key-good arch source version is =
    let both = first_some-None (when (has_bad_key arch source) BadName ∷ option_map BadVersion (fault_of version) ∷ []) is in
    (when-None _ _ both.0, option_map-None BadVersion _ both.1.0)

-- such a package is known where memory is what is wanted in the end
pub key-wanted : (arch source version : List ℕ) (later refusal : Refusal) → option_or (key_refusal arch source version) (Some later) ≡ Some refusal → refusal ≡ Memory
    → key_refusal arch source version ≡ None
unfolding text_refusal
key-wanted arch source version later refusal is none = either (has_bad_key arch source) (fault_of version) (is ∙ ap Some none) where
  either : (b : Bool) (fault : Option VersionFault)
      → option_or (first_some (when b BadName ∷ option_map BadVersion fault ∷ [])) (Some later) ≡ Some Memory
      → first_some (when b BadName ∷ option_map BadVersion fault ∷ []) ≡ None
  either true fault e = cc
  either false None e = refl
  either false (Some fault) e = cc

-- what is imported whose report is not refused
unread : (imports : Option Import) → option_and_then lines_refusal imports ≡ None → option_and_then unread_lines imports ≡ None
unread None is = refl
unread (Some (Lists merge)) is = refl
unread (Some (Lines report)) is = at (report_takes_memory report.text) (report_refusal report.text) is where
  at : (b : Bool) (refused : Option Refusal) → refused ≡ None → cond b None refused ≡ None
  at true refused e = refl
  at false refused e = e

-- a command whose texts are not refused, and whose relations are not too long
pub want-text : (command : Command) → text_refusal command ≡ None → has_long_relations command ≡ false → MayWantMemory command
unfolding text_refusal
want-text command is short =
    let none = first_some-None (text_checks command) is in
    record {
      names = when-None _ _ none.0;
      version = option_map-None BadVersion _ none.1.0;
      relations = short;
      number = when-None _ _ none.1.1.1.0;
      short = when-None _ _ none.1.1.1.1.0;
      parts = when-None _ _ none.1.1.1.1.1.1.0;
      report = unread (arguments_of command).imports none.1.1.1.1.1.0;
    }

pub want-AddArch : (machine : Machine) (name os cpu : List ℕ) → first_refusal machine (AddArch name os cpu) ≡ None → MayWantMemory (AddArch name os cpu)
want-AddArch machine name os cpu is =
    let pass = passes machine (AddArch name os cpu) is in
    record { names = pass.names; version = refl; relations = refl; number = refl; short = refl; parts = refl; report = refl }

pub want-AddBuilder : (machine : Machine) (name arch : List ℕ) → first_refusal machine (AddBuilder name arch) ≡ None → MayWantMemory (AddBuilder name arch)
want-AddBuilder machine name arch is =
    let pass = passes machine (AddBuilder name arch) is in
    record { names = pass.names; version = refl; relations = refl; number = refl; short = refl; parts = refl; report = refl }

pub want-RemoveBuilder : (machine : Machine) (name arch : List ℕ)
    → first_refusal machine (RemoveBuilder name arch) ≡ None → MayWantMemory (RemoveBuilder name arch)
want-RemoveBuilder machine name arch is =
    let pass = passes machine (RemoveBuilder name arch) is in
    record { names = pass.names; version = refl; relations = refl; number = refl; short = refl; parts = refl; report = refl }

pub want-Enter : (machine : Machine) (arch source version priority section : List ℕ) → first_refusal machine (Enter arch source version priority section) ≡ None
    → MayWantMemory (Enter arch source version priority section)
want-Enter machine arch source version priority section is =
    let pass = passes machine (Enter arch source version priority section) is in
    record { names = pass.names; version = pass.version; relations = refl; number = refl; short = refl; parts = refl; report = refl }

-- a builder that asks for the head of a queue
pub want-Next : (arch builder : List ℕ) (after : Option ℕ) → has_bad_request arch builder ≡ false → MayWantMemory (Next arch builder after)
want-Next arch builder after good = record { names = good; version = refl; relations = refl; number = refl; short = refl; parts = refl; report = refl }

-- a builder that takes a source package by its name
pub want-Take : (arch builder source version : List ℕ) → has_bad_take arch builder source ≡ false → fault_of version ≡ None
    → MayWantMemory (Take arch builder source version)
want-Take arch builder source version good read =
    record { names = good; version = read; relations = refl; number = refl; short = refl; parts = refl; report = refl }

-- a holder that names nothing but its take number
pub want-Built : (take_number : ℕ) → MayWantMemory (Built take_number)
want-Built take_number = record { names = refl; version = refl; relations = refl; number = refl; short = refl; parts = refl; report = refl }

pub want-Uploaded : (take_number : ℕ) → MayWantMemory (Uploaded take_number)
want-Uploaded take_number = record { names = refl; version = refl; relations = refl; number = refl; short = refl; parts = refl; report = refl }

pub want-PutBack : (take_number : ℕ) → MayWantMemory (PutBack take_number)
want-PutBack take_number = record { names = refl; version = refl; relations = refl; number = refl; short = refl; parts = refl; report = refl }

pub want-Attempted : (take_number : ℕ) (reason : List ℕ) → nat_lt note_limit (length reason) ≡ false → MayWantMemory (Attempted take_number reason)
want-Attempted take_number reason short =
    record { names = refl; version = refl; relations = refl; number = refl; short = short; parts = refl; report = refl }

pub want-Waits : (take_number : ℕ) (relations : List ℕ) → nat_lt relations_limit (length relations) ≡ false → MayWantMemory (Waits take_number relations)
want-Waits take_number relations short =
    record { names = refl; version = refl; relations = short; number = refl; short = refl; parts = refl; report = refl }

pub want-GiveBack : (arch source version : List ℕ) → key_refusal arch source version ≡ None → MayWantMemory (GiveBack arch source version)
want-GiveBack arch source version key =
    let good = key-good arch source version key in
    record { names = good.0; version = good.1; relations = refl; number = refl; short = refl; parts = refl; report = refl }

pub want-Forget : (arch source version : List ℕ) → key_refusal arch source version ≡ None
    → MayWantMemory (Forget arch source version)
want-Forget arch source version key =
    let good = key-good arch source version key in
    record { names = good.0; version = good.1; relations = refl; number = refl; short = refl; parts = refl; report = refl }

pub want-DepWait : (arch source version relations : List ℕ) → key_refusal arch source version ≡ None → nat_lt relations_limit (length relations) ≡ false
    → MayWantMemory (DepWait arch source version relations)
want-DepWait arch source version relations key short =
    let good = key-good arch source version key in
    record { names = good.0; version = good.1; relations = short; number = refl; short = refl; parts = refl; report = refl }

pub want-Rebuild : (arch source version : List ℕ) (number : ℕ) (message : List ℕ) → key_refusal arch source version ≡ None
    → (nat_eq number 0 || nat_lt rebuild_limit number) ≡ false → nat_lt note_limit (length message) ≡ false
    → MayWantMemory (Rebuild arch source version number message)
want-Rebuild arch source version number message key within short =
    let good = key-good arch source version key in
    record { names = good.0; version = good.1; relations = refl; number = within; short = short; parts = refl; report = refl }
