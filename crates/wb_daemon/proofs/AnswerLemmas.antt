-- Lemmas on what may be said to a line.
use Rattle.std.proofs.Common.{◌≡◌, ℕ, Bool, true, false, not, ◌&&◌, cond, List, [], Option, None, Some, Result, Ok, Err, IfOk, IfErr, IfSome, IfNone, IsTrue, ◌⊎◌, inl, inr, refl, sym, ap, ◌∙◌, subst}
use Rattle.std.proofs.lemmas.Bool.{false≢true}
use Rattle.std.specs.Cow.{cow_str_bytes, IsBorrowedStr}
use Rattle.std.specs.declared.alloc.Global.{Global}
use Rattle.std.specs.declared.borrow.CowStr.{CowStr}
use Rattle.std.specs.Str.{is_utf8}
use Rattle.std.specs.Io.KnownBytes.{Appends}
use Rattle.wb_states.specs.Machine.{Machine}
use Rattle.wb_states.specs.Queries.{answer_of, has_malformed_name}
use Rattle.wb_states.specs.declared.query.Answer.{Answer}
use Rattle.wb_states.specs.declared.query.Query.{Query}
use Rattle.wb_states.specs.declared.command.Command.{Command}
use Rattle.wb_states.specs.Commands.{name_of_command}
use Rattle.wb_states.specs.declared.refusal.Refusal.{Refusal}
use Rattle.wb_states.specs.declared.refusal.Refusal.TheVariants.{Closed, Memory as refusal_Memory, Store}
use Rattle.wb_states.specs.Refusals.{IsOfMachine, is_of_store}
use Rattle.wb_states.specs.declared.reply.Reply.{Reply}
use Rattle.wb_states.specs.declared.store_fault.StoreFault.{StoreFault}
use Rattle.wb_step.proofs.CountedLemmas.{step-unchanged}
use Rattle.wb_step.proofs.OfficeLemmas.{is_of_store-cases, refusal-cases}
use Rattle.wb_step.specs.Step.{step}
use Rattle.wb_words.specs.Words.{invocation_in}
use Rattle.wb_words.specs.declared.fault.WordsFault.{WordsFault}
use Rattle.wb_words.specs.declared.fault.WordsFault.TheVariants.{NoCommand, Memory}
use Rattle.wb_words.specs.declared.words.Invocation.{Invocation}
use Rattle.wb_words.specs.declared.words.Invocation.TheVariants.{Command as invocation_Command, Merge as invocation_Merge, Query as invocation_Query, Report as invocation_Report}
use Rattle.wb_api.specs.Encoding.{line_fault_text, refusal_text, is_plain, IsMemoryText}
use Rattle.wb_api.proofs.ExchangeLemmas.{found-formed, plain-query}
use Rattle.wb_api.proofs.ResponseLemmas.{memory-refusal, said-as}
use Rattle.deb_text.specs.Lines.{words_in, is_blank_line}
use Rattle.wb_streams.specs.Line.{is_long, with_line_feed}
use Rattle.wb_lists.specs.Lists.{MayRead, MayReadLess}
use Rattle.wb_daemon.specs.Reports.{MayReadReport, LacksReport}
use Rattle.wb_step.specs.Offices.{Failed, Standing, Open, Shut}
use Rattle.wb_api.specs.Responses.{command_response, found_response, IsFoundAnswer, IsRefusal, IsRefusedByStore, memory_response, query_response, refusal_response, reply_response, Response}
use Rattle.wb_daemon.specs.Run.{Asked, IsInvocationResponse, IsLineResponse, IsRefused, IsResponse, IsSaid, InvokesAs, Invokes, IsResponseOfKind, LineKind, Blank, Fault, Request, asked_by, kind_of_line, kind_of_invocation, invocation_of_line, line_fault_response, needs_memory, on_line}
use Rattle.wb_daemon.specs.Turn.{Answers, is_refused_by_store, IsInvocationResponseOrMemory, IsMadeResponse, IsQueryResponseOrMemory, IsReadAs, AnswersInPart, IsWritten, TookEndedLine, TookLastLine, StopsAt, StopsTurn, Turns}
use Rattle.wb_streams.specs.Streams.{AppendsFront}
use Rattle.wb_daemon.specs.declared.answer.LineAnswer.{LineAnswer}
use Rattle.wb_daemon.specs.declared.message.Cause.{Cause}
use Rattle.wb_daemon.specs.declared.message.Cause.TheVariants as why
use Rattle.wb_daemon.specs.declared.run.Turn.{Turn}
use Rattle.wb_daemon.specs.declared.run.Turn.TheVariants.{More, End, Stop}
use Rattle.wb_streams.proofs.LineLemmas.{Appends-same}
use Rattle.wb_lists.proofs.ListLemmas.{MayReadMerge-more, LacksMerge-more}
use Rattle.wb_daemon.proofs.ReportLemmas.{LacksReport-more}
use Rattle.wb_lists.proofs.OpenedLemmas.{IsMergeAs-more}

-- ---- the kind of a line

kind_of_line-long : (line : List ℕ) → is_long line ≡ true → kind_of_line line ≡ Fault
unfolding kind_of_line
kind_of_line-long line h =
    ap (λ b. cond b Fault (cond (is_blank_line line) Blank (kind_of_invocation (invocation_of_line line)))) h

kind_of_line-blank : (line : List ℕ) → is_long line ≡ false → is_blank_line line ≡ true → kind_of_line line ≡ Blank
unfolding kind_of_line
kind_of_line-blank line h k =
    ap (λ b. cond b Fault (cond (is_blank_line line) Blank (kind_of_invocation (invocation_of_line line)))) h
    ∙ ap (λ b. cond b Blank (kind_of_invocation (invocation_of_line line))) k

kind_of_line-read : (line : List ℕ) → is_long line ≡ false → is_blank_line line ≡ false
    → kind_of_line line ≡ kind_of_invocation (invocation_of_line line)
unfolding kind_of_line
kind_of_line-read line h k =
    ap (λ b. cond b Fault (cond (is_blank_line line) Blank (kind_of_invocation (invocation_of_line line)))) h
    ∙ ap (λ b. cond b Blank (kind_of_invocation (invocation_of_line line))) k

-- what may be said to a line of its kind may be said to the line
IsLineResponse-kind : (may_read : MayRead) (machine : Machine) (line : List ℕ) (kind : LineKind) (response : Response) → kind_of_line line ≡ kind
    → IsResponseOfKind may_read machine kind response → IsLineResponse may_read machine line response
IsLineResponse-kind may_read machine line kind response e h = inl (subst (λ (x : LineKind). IsResponseOfKind may_read machine x response) (sym e) h)

needs_memory-read : (line : List ℕ) → is_long line ≡ false → is_blank_line line ≡ false → is_utf8 line ≡ true → IsTrue (needs_memory line)
needs_memory-read line h k u =
    ap (λ b. not b && (not (is_blank_line line) && is_utf8 line)) h
    ∙ ap (λ b. true && (not b && is_utf8 line)) k
    ∙ ap (λ b. true && (true && b)) u

needs_memory-long : (line : List ℕ) → is_long line ≡ true → needs_memory line ≡ false
needs_memory-long line h = ap (λ b. not b && (not (is_blank_line line) && is_utf8 line)) h

-- what may be said to a line that is too long may be said to every such line
pub IsLineResponse-long : (may_read : MayRead) (machine : Machine) (line other : List ℕ) (response : Response) → is_long line ≡ true → is_long other ≡ true
    → IsLineResponse may_read machine line response → IsLineResponse may_read machine other response
IsLineResponse-long may_read machine line other response h k (inl e) =
    inl (subst (λ (x : LineKind). IsResponseOfKind may_read machine x response) (kind_of_line-long line h ∙ sym (kind_of_line-long other k)) e)
IsLineResponse-long may_read machine line other response h k (inr p) = absurd (false≢true (sym (needs_memory-long line h) ∙ p.0))

utf8-invocation : (line : List ℕ) (invocation : Invocation) (b : Bool) → is_utf8 line ≡ b → invocation_of_line line ≡ Some invocation → b ≡ true
unfolding invocation_of_line
utf8-invocation line invocation true u e = refl
utf8-invocation line invocation false u e =
    let none : invocation_of_line line ≡ None = ap (λ b. cond b (invocation_in (words_in line)) None) u in
    let differ : Some invocation ≡ None = sym e ∙ none in
    cc

-- what may be said to what was read may be said to what was asked
pub IsResponse-read : (may_read : MayRead) (machine : Machine) (asked : Asked) (invocation : Invocation) (response : Response) → IsReadAs asked (Ok invocation)
    → IsInvocationResponseOrMemory may_read machine invocation response → IsResponse may_read machine asked response
IsResponse-read may_read machine asked invocation response was (inl p) =
    inl (subst (λ (kind : LineKind). IsResponseOfKind may_read machine kind response) (sym was.0) p)
IsResponse-read may_read machine asked invocation response was (inr p) = inr (was.1, p.1)

pub IsResponse-fault : (may_read : MayRead) (machine : Machine) (asked : Asked) (response : Response) → asked.kind ≡ Fault
    → response ≡ line_fault_response machine → IsResponse may_read machine asked response
IsResponse-fault may_read machine asked response was p = inl (subst (λ (kind : LineKind). IsResponseOfKind may_read machine kind response) (sym was) p)

pub IsResponse-memory : (may_read : MayRead) (machine : Machine) (asked : Asked) (response : Response) → IsTrue asked.needs_memory
    → response ≡ memory_response on_line machine → IsResponse may_read machine asked response
IsResponse-memory may_read machine asked response was p = inr (was, p)

pub IsResponse-unread : (may_read : MayRead) (machine : Machine) (asked : Asked) (fault : WordsFault) (response : Response) → IsReadAs asked (Err fault)
    → (fault ≡ NoCommand → response ≡ line_fault_response machine) → (fault ≡ Memory → response ≡ memory_response on_line machine) → IsResponse may_read machine asked response
IsResponse-unread may_read machine asked NoCommand response read fault memory = IsResponse-fault may_read machine asked response read (fault refl)
IsResponse-unread may_read machine asked Memory response read fault memory = IsResponse-memory may_read machine asked response read (memory refl)

-- what a line was read as is what was asked by it
pub IsReadAs-line : (line : List ℕ) (read : Result Invocation WordsFault) → is_long line ≡ false → is_blank_line line ≡ false
    → IfOk read (λ invocation. invocation_of_line line ≡ Some invocation)
    → IfErr read (λ fault. (fault ≡ Memory → ⊥) → invocation_of_line line ≡ None)
    → (read ≡ Err Memory → IsTrue (is_utf8 line)) → IsReadAs (asked_by line) read
IsReadAs-line line (Ok invocation) h k e none utf8 = (
  kind_of_line-read line h k ∙ ap kind_of_invocation e,
  needs_memory-read line h k (utf8-invocation line invocation (is_utf8 line) refl e),
)
IsReadAs-line line (Err NoCommand) h k e none utf8 = kind_of_line-read line h k ∙ ap kind_of_invocation (none (λ (same : NoCommand ≡ Memory). cc))
IsReadAs-line line (Err Memory) h k e none utf8 = needs_memory-read line h k (utf8 refl)

-- ---- lists that gave no more than they might

MayReadReport-more : (old new : MayRead) → MayReadLess old new → (arch file : List ℕ) (command : Command)
    → MayReadReport new arch file command → MayReadReport old arch file command
MayReadReport-more old new m arch file command g = (g.0, (m.0 file g.0 g.1.0, g.1.1), g.2, g.3)

InvokesAs-more : (old new : MayRead) → MayReadLess old new → (invocation : Invocation) (command : Command) → InvokesAs new invocation command → InvokesAs old invocation command
InvokesAs-more old new m (invocation_Command invocation) command h = h
InvokesAs-more old new m (invocation_Query query) command h = h
InvokesAs-more old new m (invocation_Merge sources parts) command h = MayReadMerge-more old new m sources parts command h
InvokesAs-more old new m (invocation_Report arch file) command h = MayReadReport-more old new m arch file command h

IsInvocationResponse-more : (old new : MayRead) → MayReadLess old new → (machine : Machine) (invocation : Invocation) (response : Response)
    → IsInvocationResponse new machine invocation response → IsInvocationResponse old machine invocation response
IsInvocationResponse-more old new m machine (invocation_Command command) response h = h
IsInvocationResponse-more old new m machine (invocation_Query query) response h = h
IsInvocationResponse-more old new m machine (invocation_Merge sources parts) response (inl h) =
    inl (h.0, IsMergeAs-more old new m sources parts machine h.0 h.1, h.2)
IsInvocationResponse-more old new m machine (invocation_Merge sources parts) response (inr h) =
    inr (LacksMerge-more old new m sources parts h.0, h.1)
IsInvocationResponse-more old new m machine (invocation_Report arch file) response (inl h) =
    inl (h.0, MayReadReport-more old new m arch file h.0 h.1, h.2)
IsInvocationResponse-more old new m machine (invocation_Report arch file) response (inr h) =
    inr (LacksReport-more old new m file h.0, h.1)

IsResponseOfKind-more : (old new : MayRead) → MayReadLess old new → (machine : Machine) (kind : LineKind) (response : Response)
    → IsResponseOfKind new machine kind response → IsResponseOfKind old machine kind response
IsResponseOfKind-more old new m machine Blank response h = h
IsResponseOfKind-more old new m machine Fault response h = h
IsResponseOfKind-more old new m machine (Request invocation) response h = IsInvocationResponse-more old new m machine invocation response h

IsResponse-more : (old new : MayRead) → MayReadLess old new → (machine : Machine) (asked : Asked) (response : Response)
    → IsResponse new machine asked response → IsResponse old machine asked response
IsResponse-more old new m machine asked response (inl h) = inl (IsResponseOfKind-more old new m machine asked.kind response h)
IsResponse-more old new m machine asked response (inr h) = inr h

pub Answers-more : (old new : MayRead) → MayReadLess old new → (asked : Asked) (before after : Machine) (a b : Option (List ℕ)) (status : ℕ)
    → Answers new asked before after a b status → Answers old asked before after a b status
Answers-more old new m asked before after a b status h = (h.0, IsResponse-more old new m before asked _ h.1, h.2)

Invokes-more : (old new : MayRead) → MayReadLess old new → (asked : Asked) (command : Command) → Invokes new asked command → Invokes old asked command
Invokes-more old new m asked command h = (h.0, h.1, InvokesAs-more old new m h.0 command h.2)

IsRefused-more : (old new : MayRead) → MayReadLess old new → (machine : Machine) (asked : Asked) (response : Response) (standing : Standing)
    → IsRefused new machine asked response standing → IsRefused old machine asked response standing
IsRefused-more old new m machine asked response standing (invocation, is, inl h) = (invocation, is, inl h)
IsRefused-more old new m machine asked response standing (invocation, is, inr h) =
    (invocation, is, inr (h.0, InvokesAs-more old new m invocation h.0 h.1, h.2))

IsSaid-more : (old new : MayRead) → MayReadLess old new → (machine : Machine) (asked : Asked) (response : Response) (standing : Standing)
    → IsSaid new machine asked response standing → IsSaid old machine asked response standing
IsSaid-more old new m machine asked response standing (inl h) = inl (IsResponse-more old new m machine asked response h.0, h.1)
IsSaid-more old new m machine asked response standing (inr h) = inr (IsRefused-more old new m machine asked response standing h)

AnswersInPart-more : (old new : MayRead) → MayReadLess old new → (asked : Asked) (before after : Machine) (standing : Standing) (a b : Option (List ℕ))
    → AnswersInPart new asked before after standing a b → AnswersInPart old asked before after standing a b
AnswersInPart-more old new m asked before after standing a b h = (h.0, IsSaid-more old new m before asked h.0 standing h.1, h.2, h.3)

pub StopsAt-more : (old new : MayRead) → MayReadLess old new → (asked : Asked) (before after : Machine) (standing : Standing) (a b : Option (List ℕ)) (cause : Cause)
    → StopsAt new asked before after standing a b cause → StopsAt old asked before after standing a b cause
StopsAt-more old new m asked before after standing a b why.Read h = absurd h
StopsAt-more old new m asked before after standing a b why.Write h = AnswersInPart-more old new m asked before after standing a b h
StopsAt-more old new m asked before after standing a b why.Reply h = ((h.0.0, Invokes-more old new m asked h.0.0 h.0.1, h.0.2, h.0.3), h.1)
StopsAt-more old new m asked before after standing a b why.Store h = (h.0, IsRefused-more old new m before asked h.0 standing h.1, h.2, h.3)
StopsAt-more old new m asked before after standing a b why.Lines h = absurd h
StopsAt-more old new m asked before after standing a b why.Room h = absurd h

StopsTurn-more : (old new : MayRead) → MayReadLess old new → (cause : Cause) (before after : Machine) (standing : Standing) (i j a b : Option (List ℕ))
    → StopsTurn new cause before after standing i j a b → StopsTurn old cause before after standing i j a b
StopsTurn-more old new m why.Read before after standing i j a b t = t
StopsTurn-more old new m why.Write before after standing i j a b t = (t.0, t.1, StopsAt-more old new m (asked_by t.0) before after standing a b why.Write t.2)
StopsTurn-more old new m why.Reply before after standing i j a b t = (t.0, t.1, StopsAt-more old new m (asked_by t.0) before after standing a b why.Reply t.2)
StopsTurn-more old new m why.Store before after standing i j a b t = (t.0, t.1, StopsAt-more old new m (asked_by t.0) before after standing a b why.Store t.2)
StopsTurn-more old new m why.Lines before after standing i j a b t = absurd t.2
StopsTurn-more old new m why.Room before after standing i j a b t = absurd t.2

-- what a turn did with lists that gave no more than those of the run's start
pub Turns-more : (old new : MayRead) → MayReadLess old new → (turn : Turn) (before after : Machine) (standing : Standing) (i j a b : Option (List ℕ))
    → Turns new turn before after standing i j a b → Turns old turn before after standing i j a b
Turns-more old new m (More status) before after standing i j a b t = (t.0, t.1, Answers-more old new m (asked_by t.0) before after a b status t.2, t.3)
Turns-more old new m (End status) before after standing i j a b t = (t.0, t.1, Answers-more old new m (asked_by t.0) before after a b status t.2, t.3)
Turns-more old new m (Stop cause) before after standing i j a b t = StopsTurn-more old new m cause before after standing i j a b t

-- ---- what was written

-- an answer that was written, by its status
pub written-ok : (P : ℕ → Type 0) (answer : LineAnswer) (old new : Option (List ℕ)) (result : Result ℕ Cause) → IsWritten answer old new result
    → ((status : ℕ) → (status ≡ answer.status) × (answer.stops ≡ false) × Appends old new (with_line_feed (cow_str_bytes answer.text)) → P status) → IfOk result P
written-ok P answer old new (Ok status) h f = f status h
written-ok P answer old new (Err cause) h f = tt

-- an answer that was not written, or after which the run stops
pub written-err : (P : Cause → Type 0) (answer : LineAnswer) (old new : Option (List ℕ)) (result : Result ℕ Cause) → IsWritten answer old new result
    → (AppendsFront old new (with_line_feed (cow_str_bytes answer.text)) → P why.Write)
    → ((answer.stops ≡ true) × Appends old new (with_line_feed (cow_str_bytes answer.text)) → P why.Store) → IfErr result P
written-err P answer old new (Ok status) h f k = tt
written-err P answer old new (Err why.Read) h f k = absurd h
written-err P answer old new (Err why.Write) h f k = f h
written-err P answer old new (Err why.Reply) h f k = absurd h
written-err P answer old new (Err why.Store) h f k = k h
written-err P answer old new (Err why.Lines) h f k = absurd h
written-err P answer old new (Err why.Room) h f k = absurd h

-- a line that was not answered stops the turn
pub stops_turn : (may_read : MayRead) (cause : Cause) (line : List ℕ) (before after : Machine) (standing : Standing) (i j a b : Option (List ℕ))
    → TookEndedLine line i j ⊎ TookLastLine line i j → StopsAt may_read (asked_by line) before after standing a b cause → StopsTurn may_read cause before after standing i j a b
stops_turn may_read why.Read line before after standing i j a b g h = absurd h
stops_turn may_read why.Write line before after standing i j a b g h = (line, g, h)
stops_turn may_read why.Reply line before after standing i j a b g h = (line, g, h)
stops_turn may_read why.Store line before after standing i j a b g h = (line, g, h)
stops_turn may_read why.Lines line before after standing i j a b g h = absurd h
stops_turn may_read why.Room line before after standing i j a b g h = absurd h

pub answers-blank : (may_read : MayRead) (machine : Machine) (line : List ℕ) (written : Option (List ℕ)) → is_long line ≡ false → is_blank_line line ≡ true
    → Answers may_read (asked_by line) machine machine written written 0
answers-blank may_read machine line written h k =
    ([], IsLineResponse-kind may_read machine line Blank _ (kind_of_line-blank line h k) refl, Appends-same written)

pub answers-long : (may_read : MayRead) (line : List ℕ) (machine : Machine) (old new : Option (List ℕ)) → is_long line ≡ true
    → Appends old new (with_line_feed line_fault_text) → Answers may_read (asked_by line) machine machine old new 2
answers-long may_read line machine old new h p =
    (with_line_feed line_fault_text, IsLineResponse-kind may_read machine line Fault _ (kind_of_line-long line h) refl, p)

pub answers-long_cut : (may_read : MayRead) (line : List ℕ) (machine : Machine) (old new : Option (List ℕ)) → is_long line ≡ true
    → AppendsFront old new (with_line_feed line_fault_text) → AnswersInPart may_read (asked_by line) machine machine Open old new
answers-long_cut may_read line machine old new h p =
    (line_fault_response machine, inl (IsLineResponse-kind may_read machine line Fault _ (kind_of_line-long line h) refl, refl), refl, p)

-- what may be said to the report that a file gave, or if it is at fault
pub report-response : (may_read : MayRead) (machine : Machine) (invocation : Invocation) (arch file : List ℕ) {E : Type 0}
    (made : Result (Option Command) E) (response : Response) → invocation ≡ invocation_Report arch file
    → IfOk made (λ found. IfSome found (MayReadReport may_read arch file)) → IfOk made (λ found. IfNone found (LacksReport may_read file))
    → IsMadeResponse made machine response → IsInvocationResponseOrMemory may_read machine invocation response
report-response may_read machine invocation arch file made response is given lacks said =
    subst (λ a. IsInvocationResponseOrMemory may_read machine a response) (sym is) (go made given lacks said)
  where
    go : {E : Type 0} (made : Result (Option Command) E) → IfOk made (λ found. IfSome found (MayReadReport may_read arch file))
        → IfOk made (λ found. IfNone found (LacksReport may_read file)) → IsMadeResponse made machine response
        → IsInvocationResponseOrMemory may_read machine (invocation_Report arch file) response
    go (Ok (Some command)) given lacks (inl same) = inl (inl (command, given, same))
    go (Ok (Some command)) given lacks (inr short) = inr (tt, short.1)
    go (Ok None) given lacks said = inl (inr (lacks, said))
    go (Err e) given lacks said = inr (tt, said)

-- the command that files gave
pub made-command : {X E : Type 0} (May : X → Type 0) (made : Result (Option X) E) (command : X) → IfOk made (λ found. IfSome found May)
    → made ≡ Ok (Some command) → May command
made-command May made command given e = subst (λ m. IfOk m (λ found. IfSome found May)) e given

-- ---- what is said to a refused command

pub refused-response : (machine : Machine) (command : Command) (refusal : Refusal) → (step machine command).0 ≡ Err refusal
    → command_response on_line machine command ≡ refusal_response on_line machine refusal
refused-response machine command refusal e =
    ap (λ (r : Result Reply Refusal). reply_response on_line (name_of_command command) r (step machine command).1) e
    ∙ ap (reply_response on_line (name_of_command command) (Err refusal)) (step-unchanged machine command refusal e)

-- ---- what is said to a query

-- the same text is the same response
said-same : {s t : List ℕ} {machine : Machine} → s ≡ t
    → ◌≡◌ {A = Response} (record { text = with_line_feed s; machine = machine; status = 1 }) (record { text = with_line_feed t; machine = machine; status = 1 })
said-same {s} {t} {machine} e = ap (λ x. record { text = with_line_feed x; machine = machine; status = 1 }) e

-- a refusal is said, or that there is no memory for its text, which a plain refusal does not need
pub refusal-said : (machine : Machine) (refusal : Refusal) (text : CowStr Global) → (cow_str_bytes text ≡ refusal_text refusal) ⊎ IsMemoryText text
    → (is_plain refusal ≡ true → IsBorrowedStr text × (cow_str_bytes text ≡ refusal_text refusal))
    → IsRefusal on_line machine refusal (record { text = with_line_feed (cow_str_bytes text); machine = machine; status = 1 })
refusal-said machine refusal text told plain = go (is_plain refusal) refl told
  where
    go : (b : Bool) → is_plain refusal ≡ b → (cow_str_bytes text ≡ refusal_text refusal) ⊎ IsMemoryText text
        → IsRefusal on_line machine refusal (record { text = with_line_feed (cow_str_bytes text); machine = machine; status = 1 })
    go true is told = inl (said-same (plain is).1)
    go false is (inl same) = inl (said-same same)
    go false is (inr short) = inr (is, said-same short.1)

-- a refusal that a query is answered with is said: it needs no memory, since it tells no more than its number and its name
query-refusal-said : (machine : Machine) (query : Query) (refusal : Refusal) (response : Response) → answer_of machine query ≡ Err refusal
    → IsRefusal on_line machine refusal response → response ≡ query_response on_line machine query
query-refusal-said machine query refusal response e (inl same) = same ∙ sym (ap (found_response on_line machine) e)
query-refusal-said machine query refusal response e (inr (long, same)) = absurd (false≢true (sym long ∙ plain-query machine query refusal e))

-- what was found is said, or the refusal
pub found-said : (machine : Machine) (query : Query) (StandsAt : Machine → Type 0) (found : Result Answer Refusal) (response : Response)
    → IsFoundAnswer on_line machine found response → is_refused_by_store found ≡ false
    → IfOk found (λ answer. (answer_of machine query ≡ Ok answer) × StandsAt machine)
    → IfErr found (λ refusal. IsOfMachine refusal → is_of_store refusal ≡ false → (answer_of machine query ≡ Err refusal) × StandsAt machine)
    → (found ≡ Err refusal_Memory → (has_malformed_name query ≡ false) × StandsAt machine)
    → StandsAt machine × IsQueryResponseOrMemory machine query response
found-said machine query StandsAt (Ok answer) response (inl same) goes answered refused memory =
    (answered.1, inl (same ∙ sym (ap (found_response on_line machine) answered.0)))
found-said machine query StandsAt (Ok answer) response (inr same) goes answered refused memory =
    (answered.1, inr (found-formed machine query answer answered.0, same))
found-said machine query StandsAt (Err refusal) response said goes answered refused memory = elim (refusal-cases refusal) [
  | inl is ↦ let wants = memory (ap Err is) in (wants.1, inr (wants.0, memory-refusal on_line machine response (said-as on_line machine response is said)))
  | inr other ↦ let kept = refused other goes in (kept.1, inl (query-refusal-said machine query refusal response kept.0 said))
]

-- the refusal of an office that is closed, or whose store failed, is said
pub found-refused : (machine : Machine) (Stands : Standing → Type 0) (found : Result Answer Refusal) (response : Response)
    → IsFoundAnswer on_line machine found response → is_refused_by_store found ≡ true
    → (found ≡ Err Closed → Stands Shut) → ((fault : StoreFault) → found ≡ Err (Store fault) → Stands (Failed fault))
    → (standing : Standing) × (Stands standing × IsRefusedByStore on_line machine (λ fault. Failed fault) response standing)
found-refused machine Stands (Ok answer) response said stops closed store = absurd (false≢true stops)
found-refused machine Stands (Err refusal) response said stops closed store = elim (is_of_store-cases refusal stops) [
  | inl is ↦ (Shut, (closed (ap Err is), inl (said-as on_line machine response is said, refl)))
  | inr failed ↦ (Failed failed.0, (store failed.0 (ap Err failed.1), inr (failed.0, said-as on_line machine response failed.1 said, refl)))
]
