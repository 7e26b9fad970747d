-- What a run over the lines of an input writes, and what it leaves of the office.
use Rattle.std.specs.Prelude.{◌≡◌, ℕ, ◌<◌, max, Bool, true, not, ◌&&◌, ◌⊎◌, if◌then◌else◌, List, [], ◌∷◌, ◌++◌, length, take, codes, Option, None, Some, IsTrue}
use Rattle.std.specs.List.{list_any}
use Rattle.std.specs.Str.{is_utf8}
use Rattle.std.specs.Io.KnownBytes.{Appends, Consumes, IsAtEnd}
use Rattle.wb_states.specs.Machine.{Machine}
use Rattle.wb_states.specs.declared.command.Command.{Command}
use Rattle.wb_states.specs.declared.query.Query.{Query}
use Rattle.wb_states.specs.declared.refusal.Refusal.TheVariants.{Store}
use Rattle.wb_step.specs.Step.{Outcome}
use Rattle.wb_words.specs.Words.{invocation_in}
use Rattle.wb_words.specs.declared.words.Invocation.{Invocation}
use Rattle.wb_words.specs.declared.words.Invocation.TheVariants.{Command as invocation_Command, Merge as invocation_Merge, Query as invocation_Query, Report as invocation_Report}
use Rattle.wb_lists.specs.declared.names.PartNames.{PartNames}
use Rattle.wb_api.specs.Encoding.{line_fault_text, file_fault_text}
use Rattle.wb_api.specs.Responses.{Form, IsRefusedByStore, Response, command_response, memory_response, query_response, reply_response}
use Rattle.deb_text.specs.Lines.{words_in, is_blank_line}
use Rattle.wb_streams.specs.Line.{is_long, input_lines, ended_in, with_line_feed}
use Rattle.wb_daemon.specs.Limits.{lines_limit, AreWithinLimit}
use Rattle.wb_lists.specs.Lists.{MayRead, MayReadMerge, IsAllOf, IsMergeAs, LacksMerge}
use Rattle.wb_daemon.specs.Reports.{MayReadReport, LacksReport}
use Rattle.wb_step.specs.Offices.{Accepts, Standing, Open, InDoubt, Failed}
use Rattle.wb_streams.specs.Streams.{Stream}
use Rattle.wb_daemon.specs.declared.message.Cause.{Cause}
use Rattle.wb_daemon.specs.declared.message.Cause.TheVariants as why

-- the form of answers to lines: the status 0 of what is accepted or found and 1 of a refusal, and a line feed after the text. A line that is no command has the
-- status 2, and one whose list cannot be opened, or whose report cannot be read, the status 3
abbrev pub on_line : Form
on_line = record { accepted = 0; refused = λ refusal. 1; written = with_line_feed }

-- nothing is said, and the office stays as it is
abbrev pub no_response : Machine → Response
no_response machine = record { text = []; machine = machine; status = 0 }

-- a line that is no command changes nothing
abbrev pub line_fault_response : Machine → Response
line_fault_response machine = record { text = with_line_feed line_fault_text; machine = machine; status = 2 }

-- a list that a line names cannot be opened, or its report cannot be read, which changes nothing
abbrev pub file_fault_response : Machine → Response
file_fault_response machine = record { text = with_line_feed file_fault_text; machine = machine; status = 3 }

-- what a line asks for: the line is UTF-8, and its words ask for it
unfoldable pub invocation_of_line : List ℕ → Option Invocation
invocation_of_line line = if is_utf8 line then invocation_in (words_in line) else None

-- the kinds of lines: blank ones, ones at fault, and requests for what they ask for
pub data LineKind : Type 0 where
  Blank : LineKind
  Fault : LineKind
  Request : Invocation → LineKind

-- the kind of a line whose words ask for this, or for nothing that there is
abbrev pub kind_of_invocation : Option Invocation → LineKind
kind_of_invocation None = Fault
kind_of_invocation (Some invocation) = Request invocation

-- the kind of a line: it is too long, or blank, or read as words
unfoldable pub kind_of_line : List ℕ → LineKind
kind_of_line line =
    if is_long line then Fault
    else (if is_blank_line line then Blank else kind_of_invocation (invocation_of_line line))

-- what is asked for is this command, or the merge that its lists may be read as, of which some could not be read on, or the report that its file may be read as
abbrev pub InvokesAs : MayRead → Invocation → Command → Type 0
InvokesAs may_read (invocation_Command invocation) command = command ≡ invocation
InvokesAs may_read (invocation_Query query) command = ⊥
InvokesAs may_read (invocation_Merge sources parts) command = MayReadMerge may_read sources parts command
InvokesAs may_read (invocation_Report arch file) command = MayReadReport may_read arch file command

-- what is asked for is refused by the store: a query, or a command, which is then in doubt
abbrev pub IsInvocationRefused : MayRead → Machine → Invocation → Response → Standing → Type 0
IsInvocationRefused may_read before invocation response standing =
    ((query : Query) × (invocation ≡ invocation_Query query) × IsRefusedByStore on_line before Failed response standing)
    ⊎ ((command : Command) × InvokesAs may_read invocation command × IsRefusedByStore on_line before (InDoubt command) response standing)

-- what may be said to a merge of the lists that a line names, once they were opened
abbrev pub IsMergeResponse : MayRead → List ℕ → List PartNames → Machine → Response → Type 0
IsMergeResponse may_read sources names machine response =
    (outcome : Outcome) × IsMergeAs may_read sources names machine outcome
    × (response ≡ reply_response on_line (codes "merge") outcome.0 outcome.1)

-- what may be said to what a line asks for: to a merge or a report that one of its files is at fault, too
abbrev pub IsInvocationResponse : MayRead → Machine → Invocation → Response → Type 0
IsInvocationResponse may_read machine (invocation_Command command) response = response ≡ command_response on_line machine command
IsInvocationResponse may_read machine (invocation_Query query) response = response ≡ query_response on_line machine query
IsInvocationResponse may_read machine (invocation_Merge sources parts) response =
    IsMergeResponse may_read sources parts machine response
    ⊎ (LacksMerge may_read sources parts × (response ≡ file_fault_response machine))
IsInvocationResponse may_read machine (invocation_Report arch file) response =
    ((command : Command) × MayReadReport may_read arch file command × (response ≡ command_response on_line machine command))
    ⊎ (LacksReport may_read file × (response ≡ file_fault_response machine))

-- what may be said to a line of this kind
abbrev pub IsResponseOfKind : MayRead → Machine → LineKind → Response → Type 0
IsResponseOfKind may_read machine Blank response = response ≡ no_response machine
IsResponseOfKind may_read machine Fault response = response ≡ line_fault_response machine
IsResponseOfKind may_read machine (Request invocation) response = IsInvocationResponse may_read machine invocation response

-- a line for whose words memory is needed
abbrev pub needs_memory : List ℕ → Bool
needs_memory line = not (is_long line) && (not (is_blank_line line) && is_utf8 line)

-- what was asked: of which kind it is, and whether its words need memory
pub record Asked : Type 0 where
  pub kind : LineKind
  pub needs_memory : Bool

-- what a line asked
abbrev pub asked_by : List ℕ → Asked
asked_by line = record { kind = kind_of_line line; needs_memory = needs_memory line }

-- what may be said to what was asked: that there is no memory for it is possible if its words need some
abbrev pub IsResponse : MayRead → Machine → Asked → Response → Type 0
IsResponse may_read machine asked response =
    IsResponseOfKind may_read machine asked.kind response ⊎ (IsTrue asked.needs_memory × (response ≡ memory_response on_line machine))

-- what was asked is a command
abbrev pub Invokes : MayRead → Asked → Command → Type 0
Invokes may_read asked command = (invocation : Invocation) × (asked.kind ≡ Request invocation) × InvokesAs may_read invocation command

-- what was asked is refused by the store
abbrev pub IsRefused : MayRead → Machine → Asked → Response → Standing → Type 0
IsRefused may_read machine asked response standing =
    (invocation : Invocation) × (asked.kind ≡ Request invocation) × IsInvocationRefused may_read machine invocation response standing

-- what is said to what was asked, and how the office then stands: it goes on, or the store refused what was asked
abbrev pub IsSaid : MayRead → Machine → Asked → Response → Standing → Type 0
IsSaid may_read machine asked response standing =
    (IsResponse may_read machine asked response × (standing ≡ Open)) ⊎ IsRefused may_read machine asked response standing

-- what may be said to a line: that there is no memory for it is possible at each line with words
abbrev pub IsLineResponse : MayRead → Machine → List ℕ → Response → Type 0
IsLineResponse may_read machine line response = IsResponse may_read machine (asked_by line) response

-- a line asks for a command
abbrev pub LineInvokes : MayRead → List ℕ → Command → Type 0
LineInvokes may_read line command = Invokes may_read (asked_by line) command

-- one thing is said, and then another; the greater status is that of both
abbrev pub followed : Response → Response → Response
followed first later = record {
  text = first.text ++ later.text;
  machine = later.machine;
  status = max first.status later.status;
}

-- what is said to lines in their order, from this state of the office on
abbrev pub Runs : MayRead → Machine → List (List ℕ) → Response → Type 0
Runs may_read machine [] whole = whole ≡ no_response machine
Runs may_read machine (line ∷ lines) whole =
    (response later : Response) × IsLineResponse may_read machine line response × Runs may_read response.machine lines later × (whole ≡ followed response later)

-- a run that ended with its input: what is said to each line was written, in order; the office is as it is after the lines, and the status is the greatest
abbrev pub RunEnds : MayRead → List ℕ → Option (List ℕ) → Option (List ℕ) → Machine → Machine → ℕ → Type 0
RunEnds may_read input old_text new_text before after status =
    (text : List ℕ) × Runs may_read before (input_lines input) (record { text = text; machine = after; status = status })
    × Appends old_text new_text text

-- a run that ended with its input: some input, which is what the reader had left if that is known
abbrev pub EndsInput : MayRead → Option (List ℕ) → Option (List ℕ) → Option (List ℕ) → Machine → Machine → ℕ → Type 0
EndsInput may_read known old_text new_text before after status =
    (input : List ℕ) × IsAllOf known input × AreWithinLimit (input_lines input)
    × RunEnds may_read input old_text new_text before after status

-- a run that stopped between two lines: every line that a line feed had ended was answered, and no more was acted on
abbrev pub StopsBetween : MayRead → List ℕ → Machine → List ℕ → Machine → Type 0
StopsBetween may_read seen before text after =
    (status : ℕ) × Runs may_read before (ended_in seen) (record { text = text; machine = after; status = status })

-- a run that stopped since more follows its last line: the greatest number of lines was answered, and a byte more was read
abbrev pub StopsAtLimit : MayRead → List ℕ → Machine → List ℕ → Machine → Type 0
StopsAtLimit may_read seen before text after =
    (acted : List ℕ) × (byte : ℕ) × (seen ≡ acted ++ byte ∷ []) × (length (ended_in acted) ≡ lines_limit)
    × StopsBetween may_read acted before text after

-- a run that did not begin: nothing was read, written or done
abbrev pub NeverBegins : List ℕ → Machine → List ℕ → Machine → Type 0
NeverBegins seen before text after = (seen ≡ []) × (text ≡ []) × (after ≡ before)

-- the lines that were acted on, of the bytes that were read: those that a line feed had ended, or all if nothing follows or one is too long
abbrev pub WereActedOn : List ℕ → Option (List ℕ) → List (List ℕ) → Type 0
WereActedOn seen left lines =
    (lines ≡ ended_in seen)
    ⊎ ((lines ≡ input_lines seen) × (IsAtEnd left ⊎ IsTrue (list_any is_long lines)))

-- a run that stopped within the answer to the last of these lines: only a front of it was written, and the office is as it is after that line
pub record StopsWithin (may_read : MayRead) (lines : List (List ℕ)) (before : Machine) (text : List ℕ) (after : Machine) (standing : Standing) : Type 0 where
  pub earlier : List (List ℕ)
  pub last : List ℕ
  pub answered : Response
  pub response : Response
  pub written : ℕ
  pub parts : lines ≡ earlier ++ last ∷ []
  pub runs : Runs may_read before earlier answered
  pub responds : IsSaid may_read answered.machine (asked_by last) response standing
  pub cut : written < length response.text
  pub front : text ≡ answered.text ++ take written response.text
  pub office : after ≡ response.machine

-- a run that stopped since there was no memory for the reply to the last of these lines: the command was accepted, and nothing of the reply was written
pub record StopsBeforeReply (may_read : MayRead) (lines : List (List ℕ)) (before : Machine) (text : List ℕ) (after : Machine) : Type 0 where
  pub earlier : List (List ℕ)
  pub last : List ℕ
  pub answered : Response
  pub command : Command
  pub parts : lines ≡ earlier ++ last ∷ []
  pub runs : Runs may_read before earlier answered
  pub invokes : LineInvokes may_read last command
  pub accepted : Accepts answered.machine command after
  pub unwritten : text ≡ answered.text

-- a run that stopped after the last of these lines, each of which was answered: what it asked was refused since the store failed or the office is closed
pub record StopsAfter (may_read : MayRead) (lines : List (List ℕ)) (before : Machine) (text : List ℕ) (after : Machine) (standing : Standing) : Type 0 where
  pub earlier : List (List ℕ)
  pub last : List ℕ
  pub answered : Response
  pub response : Response
  pub parts : lines ≡ earlier ++ last ∷ []
  pub runs : Runs may_read before earlier answered
  pub refused : IsRefused may_read answered.machine (asked_by last) response standing
  pub written : text ≡ answered.text ++ response.text
  pub office : after ≡ response.machine

-- a run that stopped for this cause: a read or a write failed, or there was no memory for a reply, or the store failed, or more follows its last line, or it has no room for a line
abbrev pub StopsFor : MayRead → Cause → List ℕ → Option (List ℕ) → Machine → List ℕ → Machine → Standing → Type 0
StopsFor may_read why.Read seen left before text after standing = StopsBetween may_read seen before text after × (standing ≡ Open)
StopsFor may_read why.Write seen left before text after standing =
    (lines : List (List ℕ)) × WereActedOn seen left lines × StopsWithin may_read lines before text after standing
StopsFor may_read why.Reply seen left before text after standing =
    (lines : List (List ℕ)) × WereActedOn seen left lines × StopsBeforeReply may_read lines before text after × (standing ≡ Open)
StopsFor may_read why.Store seen left before text after standing =
    (lines : List (List ℕ)) × WereActedOn seen left lines × StopsAfter may_read lines before text after standing
StopsFor may_read why.Lines seen left before text after standing = StopsAtLimit may_read seen before text after × (standing ≡ Open)
StopsFor may_read why.Room seen left before text after standing = NeverBegins seen before text after × (standing ≡ Open)

-- a run that stopped at the last line that it acted on: its answer was not written whole, or there is no memory for the reply, or the store failed
abbrev pub StopsInLine : MayRead → List ℕ → Option (List ℕ) → Machine → List ℕ → Machine → Standing → Type 0
StopsInLine may_read seen left before text after standing =
    StopsFor may_read why.Write seen left before text after standing
    ⊎ (StopsFor may_read why.Reply seen left before text after standing ⊎ StopsFor may_read why.Store seen left before text after standing)

-- a run that stopped for this cause before its input ended: what it had read, and what it wrote
abbrev pub RunStopsFor : MayRead → Cause → Option (List ℕ) → Option (List ℕ) → Option (List ℕ) → Option (List ℕ) → Machine → Machine → Standing → Type 0
RunStopsFor may_read cause old_input new_input old_text new_text before after standing =
    (seen text : List ℕ) × Consumes old_input new_input seen × Appends old_text new_text text
    × StopsFor may_read cause seen new_input before text after standing

-- the flags of the reader and the writer of a run, before and after: that of the reader is set if the run stopped for a failed read, that of the writer if it stopped for a failed write, and else they stay
abbrev pub FailsFor : Option Cause → Stream → Stream → Stream → Stream → Type 0
FailsFor (Some why.Read) input left old new = (left.failed ≡ true) × (new.failed ≡ old.failed)
FailsFor (Some why.Write) input left old new = (left.failed ≡ input.failed) × (new.failed ≡ true)
FailsFor (Some why.Reply) input left old new = (left.failed ≡ input.failed) × (new.failed ≡ old.failed)
FailsFor (Some why.Store) input left old new = (left.failed ≡ input.failed) × (new.failed ≡ old.failed)
FailsFor (Some why.Lines) input left old new = (left.failed ≡ input.failed) × (new.failed ≡ old.failed)
FailsFor (Some why.Room) input left old new = (left.failed ≡ input.failed) × (new.failed ≡ old.failed)
FailsFor None input left old new = (left.failed ≡ input.failed) × (new.failed ≡ old.failed)

-- a run ended with its input, and no read and no write of it failed
abbrev pub RunEndsWell : MayRead → Stream → Stream → Stream → Stream → Machine → Machine → ℕ → Type 0
RunEndsWell may_read input left old new before after status =
    EndsInput may_read input.bytes old.bytes new.bytes before after status × FailsFor None input left old new

-- a run stopped before its input ended: what it had read, what it wrote, why it stopped, and that a read or a write did fail if that is why
abbrev pub RunStops : MayRead → Stream → Stream → Stream → Stream → Machine → Machine → Standing → Type 0
RunStops may_read input left old new before after standing =
    (cause : Cause) × RunStopsFor may_read cause input.bytes left.bytes old.bytes new.bytes before after standing
    × FailsFor (Some cause) input left old new
