-- No number of a command is a float, so its text is that of its object.
use Rattle.std.proofs.Common.{◌≡◌, List, [], ◌∷◌, false, refl}
use Rattle.std.specs.Prelude.{ℕ, ℤ, Option, None, Some, pos, negsuc}
use Rattle.serde_json.specs.Find.{is_float, of_integer}
use Rattle.serde_json.specs.Written.{compact_text, has_float, items_have_float}
use Rattle.wb_merge.specs.declared.changes.ArchChanges.{ArchChanges}
use Rattle.wb_states.specs.declared.command.Command.{Command}
use Rattle.wb_states.specs.declared.command.Command.TheVariants.{AddArch, AddBuilder, Attempted, BuildPriority, Built}
use Rattle.wb_states.specs.declared.command.Command.TheVariants.{DepWait, Enter, Fail, Forget, GiveBack, Merge, Next}
use Rattle.wb_states.specs.declared.command.Command.TheVariants.{NotForUs, PutBack, Rebuild, RemoveArch, RemoveBuilder}
use Rattle.wb_states.specs.declared.command.Command.TheVariants.{Report, Take, Uploaded, Waits}
use Rattle.wb_states.specs.declared.command.Merge.{Merge as AnyMerge}
use Rattle.wb_states.specs.declared.command.Part.{Part}
use Rattle.wb_states.specs.declared.command.Report.{Report as AnyReport}
use Rattle.wb_journal.specs.Commands.{number_or_null, value_of_command, values_of_parts}
use Rattle.wb_journal.specs.Entries.{object_text}

is_float-of_integer : (z : ℤ) → is_float (of_integer z) ≡ false
is_float-of_integer (pos n) = refl
is_float-of_integer (negsuc n) = refl

has_float-number_or_null : (n : Option ℕ) → has_float (number_or_null n) ≡ false
has_float-number_or_null None = refl
has_float-number_or_null (Some n) = refl

items_have_float-values_of_parts : (parts : List Part) → items_have_float (values_of_parts parts) ≡ false
items_have_float-values_of_parts [] = refl
items_have_float-values_of_parts (part ∷ parts) = items_have_float-values_of_parts parts

-- no number of a command is a float
pub has_float-value_of_command : (command : Command) → has_float (value_of_command command) ≡ false
has_float-value_of_command (AddArch given) = refl
has_float-value_of_command (AddBuilder given) = refl
has_float-value_of_command (RemoveArch given) = refl
has_float-value_of_command (RemoveBuilder given) = refl
has_float-value_of_command (Enter given) = refl
has_float-value_of_command (Next given) = rw (has_float-number_or_null given.after) refl
has_float-value_of_command (Take given) = refl
has_float-value_of_command (Built given) = refl
has_float-value_of_command (Uploaded given) = refl
has_float-value_of_command (Waits given) = refl
has_float-value_of_command (PutBack given) = refl
has_float-value_of_command (Attempted given) = refl
has_float-value_of_command (GiveBack given) = refl
has_float-value_of_command (DepWait given) = refl
has_float-value_of_command (Fail given) = refl
has_float-value_of_command (NotForUs given) = refl
has_float-value_of_command (Rebuild given) = refl
has_float-value_of_command (BuildPriority given) = rw (is_float-of_integer given.value) refl
has_float-value_of_command (Forget given) = refl
has_float-value_of_command (Merge given) = rw (items_have_float-values_of_parts given.parts) refl
has_float-value_of_command (Report given) = refl

pub ruleset floats_of_commands = (has_float-value_of_command)

-- the object of a command that is no merge and no report has its name and its arguments alone
pub object-plain : (changes : List ArchChanges) (command : Command) → ((given : AnyMerge) → command ≡ Merge given → ⊥)
    → ((given : AnyReport) → command ≡ Report given → ⊥)
    → compact_text (value_of_command command) ≡ object_text changes command
object-plain changes (AddArch given) merge report = refl
object-plain changes (AddBuilder given) merge report = refl
object-plain changes (RemoveArch given) merge report = refl
object-plain changes (RemoveBuilder given) merge report = refl
object-plain changes (Enter given) merge report = refl
object-plain changes (Next given) merge report = refl
object-plain changes (Take given) merge report = refl
object-plain changes (Built given) merge report = refl
object-plain changes (Uploaded given) merge report = refl
object-plain changes (Waits given) merge report = refl
object-plain changes (PutBack given) merge report = refl
object-plain changes (Attempted given) merge report = refl
object-plain changes (GiveBack given) merge report = refl
object-plain changes (DepWait given) merge report = refl
object-plain changes (Fail given) merge report = refl
object-plain changes (NotForUs given) merge report = refl
object-plain changes (Rebuild given) merge report = refl
object-plain changes (BuildPriority given) merge report = refl
object-plain changes (Forget given) merge report = refl
object-plain changes (Merge given) merge report = absurd (merge given refl)
object-plain changes (Report given) merge report = absurd (report given refl)
