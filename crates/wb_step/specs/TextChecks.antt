-- What a check of a command's texts says.
use Rattle.std.specs.Prelude.{◌≡◌, Option, None, Some, Result, IfErr, OnOk, option_and_then}
use Rattle.wb_states.specs.declared.command.Command.{Command}
use Rattle.wb_states.specs.declared.refusal.Refusal.{Refusal}
use Rattle.wb_states.specs.declared.refusal.Refusal.TheVariants.{Memory}
use Rattle.wb_states.specs.Refusals.{IsOfMachine}
use Rattle.wb_merge.specs.Report.{Lines as LinesOf}
use Rattle.wb_step.specs.Arguments.{Import, Lists, Lines, arguments_of}
use Rattle.wb_step.specs.Checks.{MayWantMemory, text_refusal}
use Rattle.wb_step.specs.Step.{lines_said}

-- checks say whether there is a refusal and which is the first, unless memory runs out where there is none
pub record Tells {X : Type 0} (first : Option Refusal) (result : Result X Refusal) : Type 0 where
  pub ok : OnOk result (first ≡ None)
  pub refused : IfErr result (λ refusal. IsOfMachine refusal → first ≡ Some refusal)
  pub memory : IfErr result (λ refusal. refusal ≡ Memory → first ≡ None)

-- the texts of a command are tested: what is said is their first refusal, or that there is none; and memory runs out
-- only for a command whose texts no check without memory refuses
pub record ChecksTexts {X : Type 0} (command : Command) (result : Result X Refusal) : Type 0 where
  pub ok : OnOk result (text_refusal command ≡ None)
  pub passed : OnOk result (MayWantMemory command)
  pub refused : IfErr result (λ refusal. IsOfMachine refusal → text_refusal command ≡ Some refusal)
  pub memory : IfErr result (λ refusal. refusal ≡ Memory → MayWantMemory command)

-- the lines of what is imported, if it is a report
abbrev pub lines_imported : Import → Option LinesOf
lines_imported (Lists merge) = None
lines_imported (Lines report) = Some (lines_said report.text)

-- the lines of the report that a command brings
abbrev pub report_lines : Command → Option LinesOf
report_lines command = option_and_then lines_imported (arguments_of command).imports
