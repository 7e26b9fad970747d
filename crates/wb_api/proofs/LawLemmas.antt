-- An input that begins with a head within the limits is received as what it asks for.
use Rattle.std.proofs.Common.{◌≡◌, ◌∙◌, inl, inr, refl, ap, ap₂, sym, subst, ℕ, ◌+◌, ◌-◌, ◌<◌, ◌≤◌, Bool, true, false, nat_le, List, [], ◌++◌, length, take, Result, Err, Ok, arith, length-append}
use Rattle.std.proofs.Math.Seq.{take-append-add}
use Rattle.httparse.specs.Grammar.{ReadsRequest, RequestHead, print_request}
use Rattle.httparse.proofs.GrammarLemmas.{ReadsRequest-append, request_unique}
use Rattle.std.proofs.lemmas.Bool.Decides.{nat_tests}
use Rattle.std.proofs.lemmas.List.{take-append-le}
use Rattle.wb_keys.specs.declared.access.Shown.{Shown}
use Rattle.wb_streams.specs.Heads.{IsUnfinished, head_limit}
use Rattle.wb_api.specs.Requests.{Answers, IsHead, MeansWith, TakesMemory, asked_by, asked_with, body_asked}
use Rattle.wb_api.specs.Requests.{wanted_of_with}
use Rattle.wb_api.specs.declared.request.Received.{Received}
use Rattle.wb_api.specs.declared.request.Received.TheVariants as received
use Rattle.wb_api.specs.declared.request.Request.{Request}
use Rattle.wb_api.specs.declared.request.Wanted.{Wanted}
use Rattle.wb_api.specs.declared.request.Wanted.TheVariants as wanted
use Rattle.wb_api.specs.declared.route.BodyKind.{BodyKind}
use Rattle.wb_api.specs.declared.service.Service.{Service}
use Rattle.wb_streams.specs.declared.fault.Fault.{Fault}
use Rattle.wb_streams.specs.declared.fault.Fault.TheVariants.{BadHead, BodyCut}
use Rattle.wb_api.specs.Routes.{and_then}
use Rattle.wb_api.proofs.RequestLemmas.{HasManyFields-append, body_asked-cut, body_asked-whole}

-- a head has a byte
pub print_request-filled : (head : RequestHead) → 0 < length head.method → 0 < length (print_request head)
unfolding print_request
print_request-filled head some = simp length-append (omega arith)

-- the first bytes of an input that begins with a head within the limits begin with it too
front_reads : (input : List ℕ) (head : RequestHead) (rest : List ℕ) → IsHead input head rest
    → (more : List ℕ) × ReadsRequest (take head_limit input) head more
front_reads input head rest is =
    let size : head_limit ≡ length (print_request head) + (head_limit - length (print_request head)) = omega (arith, is.within) in (
      take (head_limit - length (print_request head)) rest,
      (is.reads.0, ap (take head_limit) is.reads.1 ∙ ap (λ n. take n (print_request head ++ rest)) size ∙ take-append-add (print_request head) rest (head_limit - length (print_request head))),
    )

same_asked : (service : Service) (input : List ℕ) (head k : RequestHead) (rest q : List ℕ) → IsHead input head rest
    → IsHead input k q → asked_with service head rest ≡ asked_with service k q
same_asked service input head k rest q is isk =
    let same = request_unique input head k rest q is.reads isk.reads in ap₂ (asked_with service) same.0 same.1

pub head_decides : (service : Service) (input : List ℕ) (head : RequestHead) (rest : List ℕ) (received : Received)
    → IsHead input head rest → MeansWith service input received → Answers (asked_with service head rest) received
head_decides service input head rest received.Nothing is means =
    let some = print_request-filled head is.reads.0.method.0 in
    let none = ap length (sym is.reads.1 ∙ means) in
    absurd (omega (arith, length-append (print_request head) rest))
head_decides service input head rest received.Failed is means = tt
head_decides service input head rest received.Memory is means = tt
head_decides service input head rest (received.Refused fault) is (inl (k, q, isk, e)) =
    same_asked service input head k rest q is isk ∙ e
head_decides service input head rest (received.Refused fault) is (inr (inl (which, (some, inl never)))) =
    let front = front_reads input head rest is in
    absurd (never [] head (front.0 ++ []) (ReadsRequest-append (take head_limit input) head front.0 [] front.1))
head_decides service input head rest (received.Refused fault) is (inr (inl (which, (some, inr (short, none))))) =
    absurd (none head rest is.reads)
head_decides service input head rest (received.Refused fault) is (inr (inr (which, inl (long, unfinished)))) =
    let front = front_reads input head rest is in
    absurd (unfinished.0 head front.0 front.1)
head_decides service input head rest (received.Refused fault) is (inr (inr (which, inr many))) =
    let over = many.0 [] head (rest ++ []) (ReadsRequest-append input head rest [] is.reads) in
    absurd (omega (arith, is.fields))
head_decides service input head rest (received.Asked shown request) is (k, q, isk, e, says) =
    same_asked service input head k rest q is isk ∙ e

-- memory runs out only after the head that the input begins with
pub head_memory : (service : Service) (input : List ℕ) (head : RequestHead) (rest : List ℕ) → IsHead input head rest
    → MeansWith service input received.Memory → TakesMemory (wanted_of_with service head)
head_memory service input head rest is (k, q, isk, takes) =
    let same = request_unique input head k rest q is.reads isk.reads in
    subst (λ h. TakesMemory (wanted_of_with service h)) (sym same.0) takes

-- ---- what follows a request

pub IsHead-append : (input : List ℕ) (head : RequestHead) (rest more : List ℕ) → IsHead input head rest → IsHead (input ++ more) head (rest ++ more)
IsHead-append input head rest more is = record { reads = ReadsRequest-append input head rest more is.reads; within = is.within; fields = is.fields }

-- a body that came whole stays what it is
pub body-more : (kind : BodyKind) (count : ℕ) (rest more : List ℕ) → count ≤ length rest
    → body_asked kind count (rest ++ more) ≡ body_asked kind count rest
body-more kind count rest more fits =
    body_asked-whole kind count (rest ++ more) (take count rest) (omega (arith, length-append rest more)) (sym (take-append-le count rest more fits))
    ∙ sym (body_asked-whole kind count rest (take count rest) fits refl)

body-stays : (kind : BodyKind) (count : ℕ) (rest more : List ℕ) (b : Bool) → nat_le count (length rest) ≡ b
    → ¬ (body_asked kind count rest ≡ Err BodyCut)
    → body_asked kind count (rest ++ more) ≡ body_asked kind count rest
body-stays kind count rest more true is whole = body-more kind count rest more (grind (arith, nat_tests))
body-stays kind count rest more false is whole = absurd (whole (body_asked-cut kind count rest (grind (arith, nat_tests))))

wish-stays : (wish : Wanted) (rest more : List ℕ) → ¬ (asked_by wish rest ≡ Err BodyCut) → asked_by wish (rest ++ more) ≡ asked_by wish rest
wish-stays (wanted.Query query) rest more whole = refl
wish-stays (wanted.Body kind count) rest more whole = body-stays kind count rest more (nat_le count (length rest)) refl whole

asked-stays : (wish : Result Wanted Fault) (rest more : List ℕ) → ¬ (and_then wish (λ w. asked_by w rest) ≡ Err BodyCut)
    → and_then wish (λ w. asked_by w (rest ++ more)) ≡ and_then wish (λ w. asked_by w rest)
asked-stays (Ok wish) rest more whole = wish-stays wish rest more whole
asked-stays (Err fault) rest more whole = refl

ok-not_cut : (what : Result Request Fault) (request : Request) → what ≡ Ok request → ¬ (what ≡ Err BodyCut)
ok-not_cut what request is cut = let e = sym is ∙ cut in cc

err-not_cut : (what : Result Request Fault) (fault : Fault) → what ≡ Err fault → ¬ (fault ≡ BodyCut) → ¬ (what ≡ Err BodyCut)
err-not_cut what fault is other cut = let e = sym is ∙ cut in other cc

-- a request stays what it is, whatever follows it
pub asked-means_more : (service : Service) (input more : List ℕ) (shown : Shown) (request : Request)
    → MeansWith service input (received.Asked shown request)
    → MeansWith service (input ++ more) (received.Asked shown request)
asked-means_more service input more shown request (head, rest, is, e, says) = (
  head,
  rest ++ more,
  IsHead-append input head rest more is,
  asked-stays (wanted_of_with service head) rest more (ok-not_cut (asked_with service head rest) request e) ∙ e,
  says,
)

-- a fault stays what it is, whatever follows, but for an end of the input that came too early
pub refused-means_more : (service : Service) (input more : List ℕ) (fault : Fault) → ¬ (fault ≡ BodyCut)
    → ¬ (fault ≡ BadHead) → MeansWith service input (received.Refused fault)
    → MeansWith service (input ++ more) (received.Refused fault)
refused-means_more service input more fault whole good (inl (head, rest, is, e)) = inl (
  head,
  rest ++ more,
  IsHead-append input head rest more is,
  asked-stays (wanted_of_with service head) rest more
      (err-not_cut (asked_with service head rest) fault e whole) ∙ e,
)
refused-means_more service input more fault whole good (inr (inl (which, bad))) = absurd (good which)
refused-means_more service input more fault whole good (inr (inr (which, inl (long, unfinished)))) =
    let size : head_limit ≤ length (input ++ more) = omega (arith, length-append input more) in
    inr (inr (which, inl (size, subst IsUnfinished (sym (take-append-le head_limit input more long)) unfinished)))
refused-means_more service input more fault whole good (inr (inr (which, inr many))) =
    inr (inr (which, inr (HasManyFields-append input more many)))
