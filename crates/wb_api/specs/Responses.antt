-- What an office answers, in the form in which it is written: over HTTP, or as a line of a run.
use Rattle.std.specs.Prelude.{◌≡◌, ◌⊎◌, ℕ, Bool, false, List, codes, Result, Ok, Err}
use Rattle.wb_states.specs.Commands.{name_of_command}
use Rattle.wb_states.specs.Machine.{Machine}
use Rattle.wb_states.specs.Queries.{answer_of}
use Rattle.wb_states.specs.declared.command.Command.{Command}
use Rattle.wb_states.specs.declared.query.Answer.{Answer}
use Rattle.wb_states.specs.declared.query.Query.{Query}
use Rattle.wb_states.specs.declared.refusal.Refusal.{Refusal}
use Rattle.wb_states.specs.declared.refusal.Refusal.TheVariants.{Closed, Store, Memory}
use Rattle.wb_states.specs.declared.reply.Reply.{Reply}
use Rattle.wb_states.specs.declared.store_fault.StoreFault.{StoreFault}
use Rattle.wb_step.specs.Offices.{Standing, Shut}
use Rattle.wb_step.specs.Step.{Outcome, step}
use Rattle.wb_lists.specs.Lists.{IsMergeAs, MayRead}
use Rattle.wb_lists.specs.declared.names.PartNames.{PartNames}
use Rattle.wb_api.specs.Encoding.{is_plain, memory_text, refusal_text, reply_text}
use Rattle.wb_api.specs.Queries.{query_text}

-- a form of answers: the status of what is accepted or found, that of each refusal, and the bytes in which a text is
-- written
pub record Form : Type 0 where
  pub accepted : ℕ
  pub refused : Refusal → ℕ
  pub written : List ℕ → List ℕ

-- what is answered: the status, the text as it is written, and the state of the office after it
pub record Response : Type 0 where
  pub status : ℕ
  pub text : List ℕ
  pub machine : Machine

-- ---- what is answered

-- a refusal, which leaves the office as it was
abbrev pub refusal_response : Form → Machine → Refusal → Response
refusal_response form machine refusal =
    record { status = form.refused refusal; text = form.written (refusal_text refusal); machine = machine }

-- there is no memory for what was asked or for its answer, which leaves the office as it was
abbrev pub memory_response : Form → Machine → Response
memory_response form machine = record { status = form.refused Memory; text = form.written memory_text; machine = machine }

-- the office answers a command of this name, and is then in this state
abbrev pub reply_response : Form → List ℕ → Result Reply Refusal → Machine → Response
reply_response form name (Ok reply) after =
    record { status = form.accepted; text = form.written (reply_text name reply); machine = after }
reply_response form name (Err refusal) after = refusal_response form after refusal

-- what is answered to a command
abbrev pub command_response : Form → Machine → Command → Response
command_response form machine command =
    reply_response form (name_of_command command) (step machine command).0 (step machine command).1

-- what was found is answered, or the refusal
abbrev pub found_response : Form → Machine → Result Answer Refusal → Response
found_response form machine (Ok found) =
    record { status = form.accepted; text = form.written (query_text found); machine = machine }
found_response form machine (Err refusal) = refusal_response form machine refusal

-- what is answered to a query, which leaves the office as it was
abbrev pub query_response : Form → Machine → Query → Response
query_response form machine query = found_response form machine (answer_of machine query)

-- ---- what may be answered

-- the answer is a refusal, or that there is no memory for its text; a constant text needs none
abbrev pub IsRefusal : Form → Machine → Refusal → Response → Type 0
IsRefusal form machine refusal response =
    (response ≡ refusal_response form machine refusal) ⊎ ((is_plain refusal ≡ false) × (response ≡ memory_response form machine))

-- what was asked is refused because the office is closed or because its store failed with the fault that is told, and
-- the office then stands so
abbrev pub IsRefusedByStore : Form → Machine → (StoreFault → Standing) → Response → Standing → Type 0
IsRefusedByStore form machine failed response standing =
    (IsRefusal form machine Closed response × (standing ≡ Shut))
    ⊎ ((fault : StoreFault) × IsRefusal form machine (Store fault) response × (standing ≡ failed fault))

-- what may be answered to what was found, or to a refusal: that there is no memory is said only for the text of what
-- was found, or of a refusal with more than a number and a name
abbrev pub IsFoundAnswer : Form → Machine → Result Answer Refusal → Response → Type 0
IsFoundAnswer form machine (Ok found) response =
    (response ≡ found_response form machine (Ok found)) ⊎ (response ≡ memory_response form machine)
IsFoundAnswer form machine (Err refusal) response = IsRefusal form machine refusal response

-- what may be answered to a merge once the lists of these names were opened: what the merge of what they may be read as
-- comes to
abbrev pub IsMergeResponse : Form → MayRead → List ℕ → List PartNames → Machine → Response → Type 0
IsMergeResponse form may_read sources names machine response =
    (outcome : Outcome) × IsMergeAs may_read sources names machine outcome
    × (response ≡ reply_response form (codes "merge") outcome.0 outcome.1)

-- what may be told of what an office answered to a merge: that there is no memory is told only for the text of a reply
-- that was not counted, or of a refusal with
-- more than a number and a name
abbrev pub TellsMerge : Form → Bool → Result Reply Refusal → Machine → Response → Type 0
TellsMerge form is_counted (Ok reply) after response =
    (response ≡ reply_response form (codes "merge") (Ok reply) after)
    ⊎ ((is_counted ≡ false) × (response ≡ memory_response form after))
TellsMerge form is_counted (Err refusal) after response = IsRefusal form after refusal response
