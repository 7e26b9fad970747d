-- Each line that is answered is answered with one line.
use Rattle.std.proofs.Common.{◌≡◌, ℕ, suc, Bool, true, false, not, ◌&&◌, ◌||◌, cond, List, [], ◌∷◌, ◌++◌, filter, length, codes, Option, Some, None, Result, Ok, Err, inl, inr, refl, sym, ap, subst, ◌∙◌}
use Rattle.std.specs.Str.{is_utf8}
use Rattle.deb_text.specs.Lines.{IsOneLine, is_blank_line}
use Rattle.wb_states.specs.Commands.{name_of_command}
use Rattle.wb_states.specs.Machine.{Machine}
use Rattle.wb_states.specs.Queries.{answer_of}
use Rattle.wb_states.specs.declared.command.Command.{Command}
use Rattle.wb_states.specs.declared.query.Answer.{Answer}
use Rattle.wb_states.specs.declared.refusal.Refusal.{Refusal}
use Rattle.wb_states.specs.declared.reply.Reply.{Reply}
use Rattle.wb_step.specs.Step.{step}
use Rattle.wb_words.specs.declared.words.Invocation.{Invocation}
use Rattle.wb_words.specs.declared.words.Invocation.TheVariants.{Command as invocation_Command, Merge as invocation_Merge, Query as invocation_Query, Report as invocation_Report}
use Rattle.wb_api.specs.Encoding.{reply_text, refusal_text, memory_text, line_fault_text, file_fault_text}
use Rattle.wb_api.specs.Queries.{query_text}
use Rattle.wb_api.proofs.OneLineLemmas.{reply_text-one, refusal_text-one}
use Rattle.wb_api.proofs.QueryLineLemmas.{query_text-one}
use Rattle.wb_daemon.specs.Answered.{HasLines, is_answered}
use Rattle.wb_streams.specs.Line.{is_long, with_line_feed}
use Rattle.wb_lists.specs.Lists.{MayRead}
use Rattle.wb_api.specs.Responses.{command_response, found_response, query_response, reply_response, Response}
use Rattle.wb_daemon.specs.Run.{Fault, Runs, IsLineResponse, IsInvocationResponse, IsResponseOfKind, Blank, file_fault_response, invocation_of_line, kind_of_line, kind_of_invocation, on_line}

-- what is said to a line: nothing where it is not answered, else one line
abbrev IsResponseTo : Bool → Response → Type 0
IsResponseTo false response = response.text ≡ []
IsResponseTo true response = (answer : List ℕ) × (response.text ≡ with_line_feed answer) × IsOneLine answer

answer-one : (name : List ℕ) (result : Result Reply Refusal) (after : Machine) → IsResponseTo true (reply_response on_line name result after)
answer-one name (Ok reply) after = (reply_text name reply, refl, reply_text-one name reply)
answer-one name (Err refusal) after = (refusal_text refusal, refl, refusal_text-one refusal)

same-one : (b : Bool) (one response : Response) → response ≡ one → IsResponseTo b one → IsResponseTo b response
same-one b one response e = subst (IsResponseTo b) (sym e)

command-one : (machine : Machine) (command : Command) (response : Response) → response ≡ command_response on_line machine command → IsResponseTo true response
command-one machine command response e =
    same-one true (command_response on_line machine command) response e
    (answer-one (name_of_command command) (step machine command).0 (step machine command).1)

fixed-one : (text : List ℕ) (response : Response) → response.text ≡ with_line_feed text → IsOneLine text → IsResponseTo true response
fixed-one text response e one = (text, e, one)

found-one : (machine : Machine) (found : Result Answer Refusal) → IsResponseTo true (found_response on_line machine found)
found-one machine (Ok found) = (query_text found, refl, query_text-one found)
found-one machine (Err refusal) = (refusal_text refusal, refl, refusal_text-one refusal)

file-one : (machine : Machine) (response : Response) → response ≡ file_fault_response machine → IsResponseTo true response
file-one machine response e = fixed-one file_fault_text response (ap (λ (s : Response). s.text) e) refl

invocation-one : (may_read : MayRead) (machine : Machine) (invocation : Invocation) (response : Response) → IsInvocationResponse may_read machine invocation response → IsResponseTo true response
invocation-one may_read machine (invocation_Command command) response e = command-one machine command response e
invocation-one may_read machine (invocation_Query query) response e = same-one true (query_response on_line machine query) response e (found-one machine (answer_of machine query))
invocation-one may_read machine (invocation_Merge sources parts) response (inl h) =
    same-one true (reply_response on_line (codes "merge") h.0.0 h.0.1) response h.2 (answer-one (codes "merge") h.0.0 h.0.1)
invocation-one may_read machine (invocation_Merge sources parts) response (inr h) = file-one machine response h.1
invocation-one may_read machine (invocation_Report arch file) response (inl h) = command-one machine h.0 response h.2
invocation-one may_read machine (invocation_Report arch file) response (inr h) = file-one machine response h.1

kind-one : (may_read : MayRead) (machine : Machine) (long blank : Bool) (invocation : Option Invocation) (response : Response)
    → IsResponseOfKind may_read machine (cond long Fault (cond blank Blank (kind_of_invocation invocation))) response → IsResponseTo (long || not blank) response
kind-one may_read machine true blank invocation response e = fixed-one line_fault_text response (ap (λ (s : Response). s.text) e) refl
kind-one may_read machine false true invocation response e = ap (λ (s : Response). s.text) e
kind-one may_read machine false false None response e = fixed-one line_fault_text response (ap (λ (s : Response). s.text) e) refl
kind-one may_read machine false false (Some invocation) response h = invocation-one may_read machine invocation response h

wanted-one : (long blank utf8 : Bool) (response : Response) → (not long && (not blank && utf8)) ≡ true → response.text ≡ with_line_feed memory_text
    → IsResponseTo (long || not blank) response
wanted-one true blank utf8 response n e = cc
wanted-one false true utf8 response n e = cc
wanted-one false false utf8 response n e = fixed-one memory_text response e refl

responds-one : (may_read : MayRead) (machine : Machine) (line : List ℕ) (response : Response) → IsLineResponse may_read machine line response → IsResponseTo (is_answered line) response
unfolding kind_of_line
responds-one may_read machine line response (inl h) = kind-one may_read machine (is_long line) (is_blank_line line) (invocation_of_line line) response h
responds-one may_read machine line response (inr h) =
    wanted-one (is_long line) (is_blank_line line) (is_utf8 line) response h.0 (ap (λ (s : Response). s.text) h.1)

-- ---- lines in their order

one-more : (b : Bool) (response : Response) (n : ℕ) (rest : List ℕ) → IsResponseTo b response → HasLines n rest → HasLines (cond b (suc n) n) (response.text ++ rest)
one-more false response n rest e has = record {
  lines = has.lines;
  joined = ap (λ t. t ++ rest) e ∙ has.joined;
  each = has.each;
  count = has.count;
}
one-more true response n rest one has = record {
  lines = one.0 ∷ has.lines;
  joined = ap (λ t. t ++ rest) one.1 ∙ ap (λ t. with_line_feed one.0 ++ t) has.joined;
  each = (one.2, has.each);
  count = ap suc has.count;
}

length-filtered : (b : Bool) (line : List ℕ) (lines : List (List ℕ)) → cond b (suc (length lines)) (length lines) ≡ length (cond b (line ∷ lines) lines)
length-filtered true line lines = refl
length-filtered false line lines = refl

-- a run over lines has one line of output for each that is answered
pub runs-answer : (may_read : MayRead) (machine : Machine) (lines : List (List ℕ)) (whole : Response) → Runs may_read machine lines whole
    → HasLines (length (filter is_answered lines)) whole.text
runs-answer may_read machine [] whole e = record { lines = []; joined = ap (λ (s : Response). s.text) e; each = tt; count = refl }
runs-answer may_read machine (line ∷ lines) whole h =
    let response : Response = h.0 in
    let later : Response = h.1 in
    let rest : HasLines (length (filter is_answered lines)) later.text = runs-answer may_read response.machine lines later h.3 in
    let both = one-more (is_answered line) response (length (filter is_answered lines)) later.text (responds-one may_read machine line response h.2) rest in
    subst (λ n. HasLines n whole.text) (length-filtered (is_answered line) line (filter is_answered lines))
    (subst (λ t. HasLines (cond (is_answered line) (suc (length (filter is_answered lines))) (length (filter is_answered lines))) t)
    (sym (ap (λ (s : Response). s.text) h.4)) both)
