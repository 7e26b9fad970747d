-- What one turn of a run does: it reads a line and answers it.
use Rattle.std.specs.Prelude.{◌≡◌, ℕ, Bool, ◌≤◌, false, true, ◌⊎◌, List, ⊤, IsTrue, Option, None, Some, Result, Ok, Err}
use Rattle.std.specs.Cow.{cow_str_bytes}
use Rattle.std.specs.Io.KnownBytes.{Appends, Consumes, IsAtEnd}
use Rattle.wb_states.specs.Machine.{Machine}
use Rattle.wb_states.specs.declared.command.Command.{Command}
use Rattle.wb_states.specs.declared.query.Query.{Query}
use Rattle.wb_states.specs.Queries.{has_malformed_name}
use Rattle.wb_states.specs.declared.refusal.Refusal.{Refusal}
use Rattle.wb_states.specs.declared.refusal.Refusal.TheVariants.{Memory as refusal_Memory}
use Rattle.wb_states.specs.declared.reply.Reply.{Reply as AnyReply}
use Rattle.wb_states.specs.Refusals.{is_of_store}
use Rattle.wb_words.specs.declared.fault.WordsFault.{WordsFault}
use Rattle.wb_words.specs.declared.fault.WordsFault.TheVariants.{NoCommand, Memory}
use Rattle.wb_words.specs.declared.words.Invocation.{Invocation}
use Rattle.wb_words.specs.declared.words.Invocation.TheVariants.{Command as invocation_Command, Merge as invocation_Merge, Query as invocation_Query, Report as invocation_Report}
use Rattle.wb_api.specs.Encoding.{is_plain}
use Rattle.wb_api.specs.Memory.{MayLackMemory}
use Rattle.deb_text.specs.Lines.{IsOneLine}
use Rattle.wb_streams.specs.Line.{is_long, with_line_feed}
use Rattle.wb_streams.specs.Streams.{AppendsFront}
use Rattle.wb_lists.specs.Lists.{MayRead}
use Rattle.wb_step.specs.Offices.{Accepts, Standing, Open}
use Rattle.wb_api.specs.Responses.{command_response, memory_response, query_response, refusal_response, reply_response, Response}
use Rattle.wb_daemon.specs.Run.{Asked, Fault, Request, file_fault_response, IsInvocationResponse, IsRefused, IsResponse, IsSaid, Invokes, asked_by, EndsInput, RunStopsFor, on_line}
use Rattle.wb_daemon.specs.declared.answer.LineAnswer.{LineAnswer}
use Rattle.wb_daemon.specs.declared.message.Cause.{Cause}
use Rattle.wb_daemon.specs.declared.message.Cause.TheVariants.{Read, Write, Reply, Store, Lines, Room}
use Rattle.wb_daemon.specs.declared.run.RunEnd.{RunEnd}
use Rattle.wb_daemon.specs.declared.run.RunEnd.TheVariants.{Ended, Stopped}
use Rattle.wb_daemon.specs.declared.run.Turn.{Turn}
use Rattle.wb_daemon.specs.declared.run.Turn.TheVariants.{More, End, Stop}

-- what is said by an answer after which the office is in this state
abbrev pub response_of_answer : LineAnswer → Machine → Response
response_of_answer answer after = record { text = with_line_feed (cow_str_bytes answer.text); machine = after; status = answer.status }

-- this is said by an answer, whatever state the office is in after it
abbrev pub SaysEver : LineAnswer → (Machine → Response) → Type 0
SaysEver answer response = (after : Machine) → response_of_answer answer after ≡ response after

-- what is told of what the office answered to a command of this name: the reply, or the refusal; or that there is no memory for it, which is not told of a reply to a
-- command that was counted
abbrev pub Tells : List ℕ → Bool → Result AnyReply Refusal → LineAnswer → Type 0
Tells name is_counted (Ok reply) answer =
    (answer.stops ≡ false)
    × (SaysEver answer (reply_response on_line name (Ok reply)) ⊎ ((is_counted ≡ false) × SaysEver answer (memory_response on_line)))
Tells name is_counted (Err refusal) answer =
    (answer.stops ≡ is_of_store refusal)
    × ((¬ (refusal ≡ refusal_Memory) × SaysEver answer (λ after. refusal_response on_line after refusal))
    ⊎ (((refusal ≡ refusal_Memory) ⊎ (is_plain refusal ≡ false)) × SaysEver answer (memory_response on_line)))

-- whether what was asked of an office was refused since it is closed or since its store failed
abbrev pub is_refused_by_store : {X : Type 0} → Result X Refusal → Bool
is_refused_by_store (Ok x) = false
is_refused_by_store (Err refusal) = is_of_store refusal

-- what may be said to a command: that there is no memory for it is possible too
abbrev pub IsCommandResponseOrMemory : Machine → Command → Response → Type 0
IsCommandResponseOrMemory machine command response =
    (response ≡ command_response on_line machine command) ⊎ (MayLackMemory machine command × (response ≡ memory_response on_line machine))

-- what may be said to a query: that there is no memory for it is possible too, if no name in it is malformed
abbrev pub IsQueryResponseOrMemory : Machine → Query → Response → Type 0
IsQueryResponseOrMemory machine query response =
    (response ≡ query_response on_line machine query) ⊎ ((has_malformed_name query ≡ false) × (response ≡ memory_response on_line machine))

-- why the answer to what a line asks for may be that memory ran out: a command or a query as above, and files take memory
abbrev pub MayLackMemoryFor : Machine → Invocation → Type 0
MayLackMemoryFor machine (invocation_Command command) = MayLackMemory machine command
MayLackMemoryFor machine (invocation_Query query) = has_malformed_name query ≡ false
MayLackMemoryFor machine (invocation_Merge sources parts) = ⊤
MayLackMemoryFor machine (invocation_Report arch file) = ⊤

-- what may be said to what a line asks for: that there is no memory for it is possible too
abbrev pub IsInvocationResponseOrMemory : MayRead → Machine → Invocation → Response → Type 0
IsInvocationResponseOrMemory may_read machine invocation response =
    IsInvocationResponse may_read machine invocation response ⊎ (MayLackMemoryFor machine invocation × (response ≡ memory_response on_line machine))

-- what may be said to a command that a file was read for: it gave it, or it is at fault, or there is no memory for it
abbrev pub IsMadeResponse : {E : Type 0} → Result (Option Command) E → Machine → Response → Type 0
IsMadeResponse (Ok (Some command)) machine response = IsCommandResponseOrMemory machine command response
IsMadeResponse (Ok None) machine response = response ≡ file_fault_response machine
IsMadeResponse (Err lack) machine response = response ≡ memory_response on_line machine

-- what words were read as: they ask for this, or for nothing that there is, or there was no memory to read them
abbrev pub IsReadAs : Asked → Result Invocation WordsFault → Type 0
IsReadAs asked (Ok invocation) = (asked.kind ≡ Request invocation) × IsTrue asked.needs_memory
IsReadAs asked (Err NoCommand) = asked.kind ≡ Fault
IsReadAs asked (Err Memory) = IsTrue asked.needs_memory

-- what was asked was answered: what is said to it was written
abbrev pub Answers : MayRead → Asked → Machine → Machine → Option (List ℕ) → Option (List ℕ) → ℕ → Type 0
Answers may_read asked before after old new status =
    (text : List ℕ) × IsResponse may_read before asked (record { text = text; machine = after; status = status }) × Appends old new text

-- what was asked was acted on, but what is said to it was not written whole
abbrev pub AnswersInPart : MayRead → Asked → Machine → Machine → Standing → Option (List ℕ) → Option (List ℕ) → Type 0
AnswersInPart may_read asked before after standing old new =
    (response : Response) × IsSaid may_read before asked response standing × (after ≡ response.machine) × AppendsFront old new response.text

-- a command was asked for and accepted, but nothing of the reply was written
abbrev pub LacksReply : MayRead → Asked → Machine → Machine → Option (List ℕ) → Option (List ℕ) → Type 0
LacksReply may_read asked before after old new =
    (command : Command) × Invokes may_read asked command × Accepts before command after × (new ≡ old)

-- what was asked was answered: it was refused since the store failed or the office is closed
abbrev pub AnswersLast : MayRead → Asked → Machine → Machine → Standing → Option (List ℕ) → Option (List ℕ) → Type 0
AnswersLast may_read asked before after standing old new =
    (response : Response) × IsRefused may_read before asked response standing × (after ≡ response.machine) × Appends old new response.text

-- why a run stops at what was asked: a write failed, or there is no memory for the reply, or the store failed
abbrev pub StopsAt : MayRead → Asked → Machine → Machine → Standing → Option (List ℕ) → Option (List ℕ) → Cause → Type 0
StopsAt may_read asked before after standing old new Write = AnswersInPart may_read asked before after standing old new
StopsAt may_read asked before after standing old new Reply = LacksReply may_read asked before after old new × (standing ≡ Open)
StopsAt may_read asked before after standing old new Store = AnswersLast may_read asked before after standing old new
StopsAt may_read asked before after standing old new cause = ⊥

-- a run stops for this cause at a line that it read
abbrev pub IsCauseAtLine : Cause → Type 0
IsCauseAtLine Write = ⊤
IsCauseAtLine Reply = ⊤
IsCauseAtLine Store = ⊤
IsCauseAtLine cause = ⊥

-- what became of an answer: it was written whole, and the run goes on, or stops since the store failed; or a front of it was written
abbrev pub IsWritten : LineAnswer → Option (List ℕ) → Option (List ℕ) → Result ℕ Cause → Type 0
IsWritten answer old new (Ok status) =
    (status ≡ answer.status) × (answer.stops ≡ false) × Appends old new (with_line_feed (cow_str_bytes answer.text))
IsWritten answer old new (Err Write) = AppendsFront old new (with_line_feed (cow_str_bytes answer.text))
IsWritten answer old new (Err Store) = (answer.stops ≡ true) × Appends old new (with_line_feed (cow_str_bytes answer.text))
IsWritten answer old new (Err cause) = ⊥

-- a line and its line feed were taken from the reader
abbrev pub TookEndedLine : List ℕ → Option (List ℕ) → Option (List ℕ) → Type 0
TookEndedLine line old new = (is_long line ≡ false) × IsOneLine line × Consumes old new (with_line_feed line)

-- the last line was taken from the reader: nothing follows, or it is too long
abbrev pub TookLastLine : List ℕ → Option (List ℕ) → Option (List ℕ) → Type 0
TookLastLine line old new = IsOneLine line × Consumes old new line × (IsAtEnd new ⊎ (is_long line ≡ true))

-- why a turn stopped: a read failed within the line, or the run stops at the line
abbrev pub StopsTurn : MayRead → Cause → Machine → Machine → Standing → Option (List ℕ) → Option (List ℕ) → Option (List ℕ) → Option (List ℕ) → Type 0
StopsTurn may_read Read before after standing old_input new_input old new =
    (line : List ℕ) × IsOneLine line × Consumes old_input new_input line × (after ≡ before) × (new ≡ old) × (standing ≡ Open)
StopsTurn may_read cause before after standing old_input new_input old new =
    (line : List ℕ) × (TookEndedLine line old_input new_input ⊎ TookLastLine line old_input new_input)
    × StopsAt may_read (asked_by line) before after standing old new cause

-- what a turn did: a line was answered and more may follow, or the last line was answered, or the run stops
abbrev pub Turns : MayRead → Turn → Machine → Machine → Standing → Option (List ℕ) → Option (List ℕ) → Option (List ℕ) → Option (List ℕ) → Type 0
Turns may_read (More status) before after standing old_input new_input old new =
    (line : List ℕ) × TookEndedLine line old_input new_input × Answers may_read (asked_by line) before after old new status × (standing ≡ Open)
Turns may_read (End status) before after standing old_input new_input old new =
    (line : List ℕ) × TookLastLine line old_input new_input × Answers may_read (asked_by line) before after old new status × (standing ≡ Open)
Turns may_read (Stop cause) before after standing old_input new_input old new =
    StopsTurn may_read cause before after standing old_input new_input old new

-- what a run did: it ended with its input, or stopped before
abbrev pub Ran : MayRead → RunEnd → Machine → Machine → Standing → Option (List ℕ) → Option (List ℕ) → Option (List ℕ) → Option (List ℕ) → Type 0
Ran may_read (Ended status) before after standing old_input new_input old new =
    EndsInput may_read old_input old new before after status × (standing ≡ Open)
Ran may_read (Stopped cause) before after standing old_input new_input old new =
    RunStopsFor may_read cause old_input new_input old new before after standing

-- a status of a turn is at most 3
abbrev pub HasTurnStatus : Turn → Type 0
HasTurnStatus (More status) = status ≤ 3
HasTurnStatus (End status) = status ≤ 3
HasTurnStatus (Stop cause) = ⊤

-- a status of a run is at most 3
abbrev pub HasRunStatus : RunEnd → Type 0
HasRunStatus (Ended status) = status ≤ 3
HasRunStatus (Stopped cause) = ⊤

-- whether a run stops at a line since a write failed
abbrev pub fails_to_write : Result ℕ Cause → Bool
fails_to_write (Ok status) = false
fails_to_write (Err Read) = false
fails_to_write (Err Write) = true
fails_to_write (Err Reply) = false
fails_to_write (Err Store) = false
fails_to_write (Err Lines) = false
fails_to_write (Err Room) = false

-- why a turn stopped, if it did
abbrev pub cause_of_turn : Turn → Option Cause
cause_of_turn (More status) = None
cause_of_turn (End status) = None
cause_of_turn (Stop cause) = Some cause

-- why a run stopped, if it did
abbrev pub cause_of_end : RunEnd → Option Cause
cause_of_end (Ended status) = None
cause_of_end (Stopped cause) = Some cause
