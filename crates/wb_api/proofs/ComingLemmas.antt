-- What has come of a request, and what follows it.
use Rattle.std.proofs.Common.{◌≡◌, ◌∙◌, inl, inr, refl, ap, sym, subst, ℕ, ◌+◌, ◌<◌, ◌≤◌, Bool, true, false, nat_lt, codes, ◌==◌, if◌then◌else◌, List, [], ◌∷◌, ◌++◌, length, take, drop, map, Option, None, Some, Result, Ok, Err, arith, length-append, length-drop}
use Rattle.std.proofs.lemmas.Bool.{cases_lt, false≢true}
use Rattle.std.proofs.lemmas.Bool.Decides.{nat_tests}
use Rattle.std.proofs.lemmas.List.{take-append-le, take_all}
use Rattle.std.specs.Str.{bytes_eq}
use Rattle.std.specs.Str.Parse.{digits_value}
use Rattle.std.specs.List.{list_all}
use Rattle.httparse.specs.Grammar.{HasNoRequest, NeverHasRequest, RequestHead, print_request}
use Rattle.httparse.specs.Spans.{name_and_value}
use Rattle.httparse.proofs.GrammarLemmas.{ReadsRequest-append, request_unique}
use Rattle.wb_streams.specs.Fields.{NameAndValue, body_limit, content_length, has_field, is_from_browser, is_same_number, length_stated, limited, values_of}
use Rattle.wb_streams.specs.Heads.{HasManyFields, IsHeadAt, head_limit}
use Rattle.wb_streams.specs.declared.fault.Fault.{Fault}
use Rattle.wb_streams.specs.declared.fault.Fault.TheVariants.{BadLength, BodyTooLarge, FromBrowser, NoKey, NoRoute, NotAllowed}
use Rattle.wb_streams.specs.declared.fault.Fault.TheVariants.{NotSupported, WrongMethod}
use Rattle.wb_states.specs.declared.query.Query.{Query as AnyQuery}
use Rattle.wb_keys.specs.Access.{rights_of}
use Rattle.wb_keys.specs.Rights.{may_ask_for}
use Rattle.wb_keys.specs.declared.right.Kind.TheVariants.{Query}
use Rattle.wb_keys.specs.declared.right.Right.{Right}
use Rattle.wb_api.specs.Coming.{EndsAfterWith, IsSettledWith}
use Rattle.wb_api.specs.Requests.{IsHead, IsRequestFrontWith, MeansWith, asked_by, body_length, body_wanted}
use Rattle.wb_api.specs.Requests.{length_wanted, query_wanted, wanted_by_with, wanted_for, wanted_of_with}
use Rattle.wb_api.specs.Rights.{kind_of_body, shown_in}
use Rattle.wb_api.specs.Routes.{and_then, query_of, route_at}
use Rattle.wb_api.specs.declared.coming.Coming.{Coming}
use Rattle.wb_api.specs.declared.coming.Coming.TheVariants as coming
use Rattle.wb_api.specs.declared.request.Received.{Received}
use Rattle.wb_api.specs.declared.request.Received.TheVariants as received
use Rattle.wb_api.specs.declared.request.Wanted.{Wanted}
use Rattle.wb_api.specs.declared.request.Wanted.TheVariants as wanted
use Rattle.wb_api.specs.declared.route.BodyKind.{BodyKind}
use Rattle.wb_api.specs.declared.route.BodyKind.TheVariants as body_kind
use Rattle.wb_api.specs.declared.route.QueryKind.{QueryKind}
use Rattle.wb_api.specs.declared.route.Route.{Route}
use Rattle.wb_api.specs.declared.route.Route.TheVariants as route
use Rattle.wb_api.specs.declared.service.Service.{Service}
use Rattle.wb_api.proofs.LawLemmas.{IsHead-append, asked-means_more, body-more, print_request-filled, refused-means_more}
use Rattle.wb_api.proofs.RequestLemmas.{NeverHasRequest-append, front_of_seen}

-- ---- the length of a body

-- a head asks for no larger body than one may have
abbrev IsLimited : Result Wanted Fault → Type 0
IsLimited what = body_length what ≤ body_limit

limited-if : (b : Bool) (one other : Result Wanted Fault) → IsLimited one → IsLimited other
    → IsLimited (if b then one else other)
limited-if true one other first second = first
limited-if false one other first second = second

limited-fault : (fault : Fault) → IsLimited (Err fault)
limited-fault fault = omega arith

-- a length that is not above the limit
limited-length : (kind : BodyKind) (n : ℕ) (b : Bool) → nat_lt body_limit n ≡ b
    → IsLimited (and_then (if b then Err BodyTooLarge else Ok n) (λ count. Ok (wanted.Body kind count)))
limited-length kind n true is = limited-fault BodyTooLarge
limited-length kind n false is = grind (arith, nat_tests)

limited-number : (kind : BodyKind) (n : ℕ) → IsLimited (and_then (limited n) (λ count. Ok (wanted.Body kind count)))
unfolding limited
limited-number kind n = limited-length kind n (nat_lt body_limit n) refl

limited-same : (kind : BodyKind) (b : Bool) (n : ℕ)
    → IsLimited (and_then (if b then limited n else Err BadLength) (λ count. Ok (wanted.Body kind count)))
limited-same kind true n = limited-number kind n
limited-same kind false n = limited-fault BadLength

limited-stated : (kind : BodyKind) (values : List (List ℕ))
    → IsLimited (and_then (length_stated values) (λ count. Ok (wanted.Body kind count)))
unfolding length_stated
limited-stated kind [] = omega arith
limited-stated kind (value ∷ values) =
    limited-same kind (list_all (is_same_number value) (value ∷ values)) (digits_value 10 value)

limited-fields : (kind : BodyKind) (fields : List NameAndValue) → IsLimited (length_wanted kind fields)
unfolding length_wanted
limited-fields kind fields = limited-if (has_field (codes "transfer-encoding") fields) _ _ (limited-fault NotSupported)
    (limited-stated kind (values_of content_length fields))

limited-body : (rights : List Right) (kind : BodyKind) (method : List ℕ) (fields : List NameAndValue)
    → IsLimited (body_wanted rights kind method fields)
unfolding body_wanted
limited-body rights kind method fields =
    limited-if (bytes_eq method (codes "POST")) _ _
    (limited-if (may_ask_for rights (kind_of_body kind)) _ _ (limited-fields kind fields) (limited-fault NotAllowed))
    (limited-fault WrongMethod)

limited-asking : (what : Result AnyQuery Fault) → IsLimited (and_then what (λ query. Ok (wanted.Query query)))
limited-asking (Ok query) = omega arith
limited-asking (Err fault) = omega arith

limited-query : (rights : List Right) (kind : QueryKind) (method target : List ℕ)
    → IsLimited (query_wanted rights kind method target)
unfolding query_wanted
limited-query rights kind method target =
    limited-if (bytes_eq method (codes "GET")) _ _
    (limited-if (may_ask_for rights Query) _ _ (limited-asking (query_of kind target)) (limited-fault NotAllowed))
    (limited-fault WrongMethod)

limited-by : (has_lists : Bool) (rights : List Right) (found : Option Route) (method target : List ℕ)
    (fields : List NameAndValue)
    → IsLimited (wanted_by_with has_lists rights found method target fields)
limited-by has_lists rights None method target fields = limited-fault NoRoute
limited-by has_lists rights (Some (route.Command kind)) method target fields =
    limited-body rights (body_kind.Command kind) method fields
limited-by has_lists rights (Some (route.Query kind)) method target fields = limited-query rights kind method target
limited-by has_lists rights (Some route.Merge) method target fields =
    limited-if has_lists _ _ (limited-body rights body_kind.Merge method fields) (limited-fault NoRoute)

limited-for : (has_lists : Bool) (found : Option (List Right)) (method target : List ℕ) (fields : List NameAndValue)
    → IsLimited (wanted_for has_lists found method target fields)
limited-for has_lists None method target fields = limited-fault NoKey
limited-for has_lists (Some rights) method target fields =
    limited-by has_lists rights (route_at target) method target fields

pub wanted-limited : (service : Service) (head : RequestHead) → body_length (wanted_of_with service head) ≤ body_limit
wanted-limited service head =
    limited-if (is_from_browser (map name_and_value head.fields)) _ _ (limited-fault FromBrowser)
    (limited-for service.has_lists (rights_of service.access (shown_in head)) head.method head.target
    (map name_and_value head.fields))

-- ---- what follows

-- what is asked for by a head whose body has come
asked-more : (what : Result Wanted Fault) (rest more : List ℕ) → body_length what ≤ length rest
    → and_then what (λ w. asked_by w (rest ++ more)) ≡ and_then what (λ w. asked_by w rest)
asked-more (Ok (wanted.Query query)) rest more come = refl
asked-more (Ok (wanted.Body kind count)) rest more come = body-more kind count rest more come
asked-more (Err fault) rest more come = refl

-- what nothing makes a head stays so
never-more : (input more : List ℕ) → NeverHasRequest (take head_limit input)
    → NeverHasRequest (take head_limit (input ++ more))
never-more input more never = elim (cases_lt (length input) head_limit) [
  | inl short ↦
      let front = front_of_seen input more (omega arith) in
      subst NeverHasRequest (sym front.1)
      (NeverHasRequest-append input front.0 (subst NeverHasRequest (take_all head_limit input (omega arith)) never))
  | inr long ↦ subst NeverHasRequest (sym (take-append-le head_limit input more long)) never
]

-- bytes with a whole body, and without a head that has not ended, mean the same with any bytes after them
means-more : (service : Service) (input : List ℕ) → 0 < length input
    → ((head : RequestHead) (rest : List ℕ) → IsHead input head rest
    → body_length (wanted_of_with service head) ≤ length rest)
    → (length input < head_limit → HasNoRequest input → NeverHasRequest input)
    → (more : List ℕ) (received : Received) → MeansWith service input received
    → MeansWith service (input ++ more) received
means-more service input some body ended more received.Nothing means = absurd (omega (arith, ap length means))
means-more service input some body ended more received.Failed means = tt
means-more service input some body ended more received.Memory (head, rest, is, takes) =
    (head, rest ++ more, IsHead-append input head rest more is, takes)
means-more service input some body ended more (received.Refused fault) (inl (head, rest, is, e)) =
    let same = asked-more (wanted_of_with service head) rest more (body head rest is) in
    inl (head, rest ++ more, IsHead-append input head rest more is, same ∙ e)
means-more service input some body ended more (received.Refused fault) (inr (inl (which, (filled, inl never)))) =
    inr (inl (which, (omega (arith, length-append input more), inl (never-more input more never))))
means-more service input some body ended more (received.Refused fault)
    (inr (inl (which, (filled, inr (short, none))))) =
    let never = subst NeverHasRequest (sym (take_all head_limit input (omega arith))) (ended short none) in
    inr (inl (which, (omega (arith, length-append input more), inl (never-more input more never))))
means-more service input some body ended more (received.Refused fault) (inr (inr (which, large))) =
    refused-means_more service input more fault
    (λ cut. let e = sym which ∙ cut in cc) (λ bad. let e = sym which ∙ bad in cc)
    (inr (inr (which, large)))
means-more service input some body ended more (received.Asked shown request) means =
    asked-means_more service input more shown request means

-- a head and its body have come
settled-head : (service : Service) (input : List ℕ) (head : RequestHead) (rest : List ℕ) → IsHead input head rest
    → body_length (wanted_of_with service head) ≤ length rest → IsSettledWith service input
settled-head service input head rest is come = means-more service input
    (let some = print_request-filled head is.reads.0.method.0 in
    omega (arith, ap length is.reads.1, length-append (print_request head) rest))
    (λ k q isk. let same = request_unique input head k rest q is.reads isk.reads in
    subst (λ l. body_length (wanted_of_with service k) ≤ length l) same.1
    (subst (λ h. body_length (wanted_of_with service h) ≤ length rest) same.0 come))
    (λ short none. absurd (none head rest is.reads))

-- a head that is too long
settled-long : (service : Service) (input : List ℕ) (count : ℕ) (head : RequestHead) → IsHeadAt input count head
    → head_limit < count
    → IsSettledWith service input
settled-long service input count head at long = means-more service input
    (omega (arith, at.count_fits))
    (λ k q isk. let same = request_unique input head k (drop count input) q at.reads isk.reads in
    absurd (omega (arith, at.count_is, isk.within, ap (λ h. length (print_request h)) same.0)))
    (λ short none. absurd (none head (drop count input) at.reads))

-- a head within the limits, and its body
settled-at : (service : Service) (input : List ℕ) (count : ℕ) (head : RequestHead) → IsHeadAt input count head
    → count ≤ head_limit
    → count + body_length (wanted_of_with service head) ≤ length input → IsSettledWith service input
settled-at service input count head at within come = settled-head service input head (drop count input)
    (record { reads = at.reads; within = omega (arith, at.count_is); fields = at.fields })
    (simp length-drop (omega arith))

-- a head, and its body if it is within the limits
pub settled-whole : (service : Service) (input : List ℕ) (count : ℕ) (head : RequestHead) → IsHeadAt input count head
    → (count ≤ head_limit → count + body_length (wanted_of_with service head) ≤ length input)
    → IsSettledWith service input
settled-whole service input count head at come = elim (cases_lt head_limit count) [
  | inl long ↦ settled-long service input count head at long
  | inr within ↦ settled-at service input count head at within (come within)
]

-- a head with more fields than one may have, or none that is whole
no-head : (service : Service) (input : List ℕ) → NeverHasRequest input → (head : RequestHead) (rest : List ℕ)
    → IsHead input head rest
    → body_length (wanted_of_with service head) ≤ length rest
no-head service input never head rest is =
    absurd (never [] head (rest ++ []) (ReadsRequest-append input head rest [] is.reads))

pub settled-malformed : (service : Service) (input : List ℕ) → 0 < length input → NeverHasRequest input
    → IsSettledWith service input
settled-malformed service input some never =
    means-more service input some (no-head service input never) (λ short none. never)

pub settled-unfinished : (service : Service) (input : List ℕ) → 0 < length input → HasNoRequest input
    → (length input < head_limit → HasNoRequest input → NeverHasRequest input) → IsSettledWith service input
settled-unfinished service input some none ended =
    means-more service input some (λ head rest is. absurd (none head rest is.reads)) ended

pub settled-crowded : (service : Service) (input : List ℕ) → 0 < length input → HasManyFields input
    → (length input < head_limit → HasNoRequest input → NeverHasRequest input) → IsSettledWith service input
settled-crowded service input some many ended = means-more service input some
    (λ head rest is. let over = many.0 [] head (rest ++ []) (ReadsRequest-append input head rest [] is.reads) in
    absurd (omega (arith, is.fields)))
    ended

-- ---- where a request ends

pub ends-at : (service : Service) (input : List ℕ) (count total : ℕ) (head : RequestHead) → IsHeadAt input count head
    → count ≤ head_limit
    → total ≡ count + body_length (wanted_of_with service head) → EndsAfterWith service input total
ends-at service input count total head at within is = (
  head,
  drop count input,
  record { reads = at.reads; within = omega (arith, at.count_is); fields = at.fields },
  is ∙ ap (λ n. n + body_length (wanted_of_with service head)) at.count_is,
)

pub settled-end : (service : Service) (input more : List ℕ) (total : ℕ) → EndsAfterWith service input total
    → total ≤ length (input ++ more)
    → IsSettledWith service (input ++ more)
settled-end service input more total (head, rest, is, end) come =
    settled-head service (input ++ more) head (rest ++ more) (IsHead-append input head rest more is)
    (omega (
      arith,
      ap length is.reads.1,
      length-append (print_request head) rest,
      length-append input more,
      length-append rest more,
    ))

-- the front of a request, whose body is missing
front-at : (service : Service) (input : List ℕ) (count total : ℕ) (head : RequestHead) → IsHeadAt input count head
    → count ≤ head_limit
    → total ≡ count + body_length (wanted_of_with service head) → length input < total
    → IsRequestFrontWith service input
front-at service input count total head at within is short = inr (
  head,
  drop count input,
  record { reads = at.reads; within = omega (arith, at.count_is); fields = at.fields },
  simp length-drop (omega arith),
)

pub front-by : (service : Service) (input : List ℕ) (count : ℕ) (head : RequestHead) (came : Coming)
    → IsHeadAt input count head
    → ¬ (came ≡ coming.Head)
    → ((total : ℕ) (k : RequestHead) → came ≡ coming.Body total → IsHeadAt input count k
    → (length input < total) × (count ≤ head_limit) × (total ≡ count + body_length (wanted_of_with service k)))
    → ¬ (came ≡ coming.Whole) → IsRequestFrontWith service input
front-by service input count head coming.Head at other body waits = absurd (other refl)
front-by service input count head (coming.Body total) at other body waits =
    let ends = body total head refl at in
    front-at service input count total head at ends.1 ends.2 ends.0
front-by service input count head coming.Whole at other body waits = absurd (waits refl)

-- bytes of which some came
pub some-came : (bytes : List ℕ) → false ≡ (length bytes == 0) → 0 < length bytes
some-came [] none = absurd (false≢true none)
some-came (byte ∷ bytes) none = omega arith
