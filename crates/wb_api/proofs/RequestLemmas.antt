-- Lemmas on what the bytes of a connection ask for.
use Rattle.std.proofs.Common.{◌≡◌, ◌∙◌, inl, inr, refl, ap, sym, subst, ℕ, ◌+◌, ◌-◌, ◌<◌, ◌≤◌, Bool, true, false, nat_le, codes, List, [], ◌++◌, length, take, drop, map, Option, None, Some, IfSome, Result, Ok, Err, arith, append_assoc, append-nil, length-append}
use Rattle.std.specs.Io.KnownBytes.{Consumes, IsAtEnd}
use Rattle.std.proofs.lemmas.Bool.Decides.{nat_tests}
use Rattle.std.proofs.lemmas.List.{take-append-le}
use Rattle.std.proofs.Math.Seq.{take-append-add, take-append_seam}
use Rattle.httparse.specs.Grammar.{HasNoRequest, NeverHasRequest, ReadsRequest, RequestHead}
use Rattle.httparse.specs.Spans.{name_and_value}
use Rattle.httparse.proofs.GrammarLemmas.{ReadsRequest-append}
use Rattle.wb_streams.proofs.StreamLemmas.{Consumes-nil}
use Rattle.wb_streams.specs.Fields.{NameAndValue}
use Rattle.wb_streams.specs.Heads.{HasManyFields, IsHeadAt, IsMalformed, IsTooLarge, IsUnfinished, head_limit}
use Rattle.wb_api.specs.Requests.{Answers, DecodesPath, IsHead, LacksRest, MeansWith, TakesMemory, WantsOr, asked_in}
use Rattle.wb_api.specs.Requests.{Shows, asked_with, body_asked, query_wanted, wanted_from_with, wanted_of_with}
use Rattle.wb_api.specs.Rights.{shown_in}
use Rattle.wb_api.specs.Routes.{and_then, decoded_text, part_at, query_about, query_of}
use Rattle.wb_states.specs.declared.query.Query.{Query as AnyQuery}
use Rattle.wb_keys.specs.Rights.{may_ask_for}
use Rattle.wb_keys.specs.declared.right.Kind.TheVariants.{Query}
use Rattle.wb_keys.specs.declared.right.Right.{Right}
use Rattle.wb_states.specs.declared.query.Query.TheVariants as query
use Rattle.wb_api.specs.declared.request.Wanted.TheVariants as wanted
use Rattle.wb_streams.specs.declared.fault.Fault.{Fault}
use Rattle.wb_api.specs.declared.failure.RequestError.TheVariants as error
use Rattle.wb_api.specs.Outcomes.{GivesOr}
use Rattle.std.specs.Str.{bytes_eq, is_utf8}
use Rattle.percent_encoding.specs.Percent.{percent_decode}
use Rattle.wb_streams.specs.declared.fault.Fault.TheVariants.{BadHead, BadPath, BodyCut, HeadTooLarge}
use Rattle.wb_api.specs.declared.failure.RequestError.{RequestError}
use Rattle.wb_api.specs.declared.request.Received.{Received}
use Rattle.wb_api.specs.declared.request.Received.TheVariants as received
use Rattle.wb_api.specs.declared.request.Wanted.{Wanted}
use Rattle.wb_api.specs.declared.route.BodyKind.{BodyKind}
use Rattle.wb_api.specs.declared.service.Service.{Service}
use Rattle.wb_api.specs.declared.route.QueryKind.{QueryKind}
use Rattle.wb_api.specs.declared.route.QueryKind.TheVariants as query_kind

-- what is wanted by the parts of a head is what the head wants
pub wanted_same : (service : Service) (result : Result Wanted RequestError) (head other : RequestHead)
    (method target : List ℕ) (fields : List NameAndValue)
    → head ≡ other → method ≡ other.method → target ≡ other.target → fields ≡ map name_and_value other.fields
    → WantsOr result (wanted_from_with service method target fields) → WantsOr result (wanted_of_with service head)
wanted_same service result head other method target fields same em et ef h =
    let one = subst (λ m. WantsOr result (wanted_from_with service m target fields)) em h in
    let two = subst (λ t. WantsOr result (wanted_from_with service other.method t fields)) et one in
    let three = subst (λ f. WantsOr result (wanted_from_with service other.method other.target f)) ef two in
    subst (λ k. WantsOr result (wanted_of_with service k)) (sym same) three

-- ---- queries

decoded_text-fault : (part : List ℕ) (fault : Fault) (b : Bool) → is_utf8 (percent_decode part) ≡ b → decoded_text part ≡ Err fault → fault ≡ BadPath
unfolding decoded_text
decoded_text-fault part fault true is e = let bad = rw is at e in cc
decoded_text-fault part fault false is e = let bad = rw is at e in cc

text_fault : (part : List ℕ) (fault : Fault) → decoded_text part ≡ Err fault → fault ≡ BadPath
text_fault part fault e = decoded_text-fault part fault (is_utf8 (percent_decode part)) refl e

-- the only fault that decoding has
abbrev OnlyBadPath : {X : Type 0} → Result X Fault → Type 0
OnlyBadPath what = (fault : Fault) → what ≡ Err fault → fault ≡ BadPath

ok-only : {X : Type 0} (x : X) → OnlyBadPath (Ok x)
ok-only x fault e = cc

then-only : {X Y : Type 0} (what : Result X Fault) (next : X → Result Y Fault) → OnlyBadPath what → ((x : X) → OnlyBadPath (next x)) → OnlyBadPath (and_then what next)
then-only (Ok x) next first then_ fault e = then_ x fault e
then-only (Err other) next first then_ fault e = let same : other ≡ fault = cc in sym same ∙ first other refl

about-only : (kind : QueryKind) (first : List ℕ) (second : Result (List ℕ) Fault) → OnlyBadPath second → OnlyBadPath (query_about kind first second)
about-only query_kind.Queue first second only = ok-only (query.Queue first)
about-only query_kind.ByState first second only = then-only second _ only (λ state. ok-only (query.ByState first state))
about-only query_kind.Item first second only = then-only second _ only (λ source. ok-only (query.Item first source))
about-only query_kind.Mine first second only = ok-only (query.Mine first)
about-only query_kind.Depends first second only = then-only second _ only (λ source. ok-only (query.Depends first source))
about-only query_kind.Summary first second only = ok-only (query.Summary first)
about-only query_kind.Office first second only = ok-only query.Office
about-only query_kind.Archs first second only = ok-only query.Archs
about-only query_kind.Builders first second only = ok-only query.Builders

query-only : (kind : QueryKind) (target : List ℕ) → OnlyBadPath (query_of kind target)
unfolding query_of
query-only kind target =
    then-only (decoded_text (part_at target 3)) _ (text_fault (part_at target 3)) (λ first.
    about-only kind first (decoded_text (part_at target 4)) (text_fault (part_at target 4)))

-- a query that could not be read is no wish, and memory ran out only while it was decoded
wants-Err : (what : Result AnyQuery Fault) (error : RequestError) → OnlyBadPath what → GivesOr (Err error) what → WantsOr (Err error) (and_then what (λ q. Ok (wanted.Query q)))
wants-Err (Ok q) (error.Fault fault) only gives = absurd (let e = gives in cc)
wants-Err (Ok q) error.Memory only gives = tt
wants-Err (Err other) (error.Fault fault) only gives = let same : other ≡ fault = cc in ap Err same
wants-Err (Err other) error.Memory only gives = only other refl

pub query_wants : (rights : List Right) (kind : QueryKind) (method target : List ℕ) (failed : RequestError)
    → bytes_eq method (codes "GET") ≡ true → may_ask_for rights Query ≡ true
    → GivesOr (Err failed) (query_of kind target) → WantsOr (Err failed) (query_wanted rights kind method target)
unfolding query_wanted
query_wants rights kind method target failed get may gives = rw (get, may) (wants-Err (query_of kind target) failed (query-only kind target) gives)

-- ---- bodies

pub body_asked-whole : (kind : BodyKind) (count : ℕ) (rest body : List ℕ) → count ≤ length rest → body ≡ take count rest
    → body_asked kind count rest ≡ asked_in kind body
unfolding body_asked
body_asked-whole kind count rest body fits is =
    let t : nat_le count (length rest) ≡ true = grind (arith, nat_tests) in
    rw t (ap (λ b. asked_in kind b) (sym is))

pub body_asked-cut : (kind : BodyKind) (count : ℕ) (rest : List ℕ) → length rest < count
    → body_asked kind count rest ≡ Err BodyCut
unfolding body_asked
body_asked-cut kind count rest short =
    let f : nat_le count (length rest) ≡ false = grind (arith, nat_tests) in
    rw f refl

-- what the whole of a body asks for, whatever is left after it
pub body_whole : (old new : Option (List ℕ)) (already taken body : List ℕ) (kind : BodyKind) (count : ℕ)
    (result : Received) → Consumes old new taken → count ≤ length (already ++ taken)
    → body ≡ take count (already ++ taken)
    → Answers (asked_in kind body) result
    → IfSome old (λ left. Answers (body_asked kind count (already ++ left)) result)
body_whole None new already taken body kind count result p fits is h = tt
body_whole (Some l) None already taken body kind count result p fits is h = absurd p
body_whole (Some l) (Some r) already taken body kind count result p fits is h =
    let all : already ++ l ≡ (already ++ taken) ++ r = ap (λ x. already ++ x) p ∙ sym (append_assoc already taken r) in
    let more : count ≤ length ((already ++ taken) ++ r) = omega (arith, length-append (already ++ taken) r) in
    let front : body ≡ take count ((already ++ taken) ++ r) = is ∙ sym (take-append-le count (already ++ taken) r fits) in
    let same = body_asked-whole kind count ((already ++ taken) ++ r) body more front in
    subst (λ x. Answers (body_asked kind count x) result) (sym all) (subst (λ x. Answers x result) (sym same) h)

-- what a body asks for that came whole with its head
pub body_here : (old : Option (List ℕ)) (already body : List ℕ) (kind : BodyKind) (count : ℕ) (result : Received)
    → Answers (asked_in kind body) result → count ≤ length already → body ≡ take count already
    → IfSome old (λ left. Answers (body_asked kind count (already ++ left)) result)
body_here old already body kind count result h fits is =
    let all : already ++ [] ≡ already = append-nil already in
    body_whole old old already [] body kind count result (Consumes-nil old)
    (subst (λ l. count ≤ length l) (sym all) fits) (is ∙ ap (take count) (sym all)) h

-- a path that is decoded takes memory
pub decodes-takes : (what : Result Wanted Fault) → DecodesPath what → TakesMemory what
decodes-takes (Ok (wanted.Query query)) decodes = tt
decodes-takes (Ok (wanted.Body kind count)) decodes = tt
decodes-takes (Err fault) decodes = decodes

-- memory ran out for a path, and nothing after the head was read
pub decodes-lacks : (what : Result Wanted Fault) (already : List ℕ) → DecodesPath what → LacksRest what already []
decodes-lacks (Ok (wanted.Query query)) already decodes = refl
decodes-lacks (Ok (wanted.Body kind count)) already decodes = absurd decodes
decodes-lacks (Err fault) already decodes = (decodes, refl)

-- a body that the input ends before
pub body_cut : (old new : Option (List ℕ)) (already taken : List ℕ) (kind : BodyKind) (count : ℕ)
    → Consumes old new taken → IsAtEnd new → length (already ++ taken) < count
    → IfSome old (λ left. body_asked kind count (already ++ left) ≡ Err BodyCut)
body_cut None new already taken kind count p end short = tt
body_cut (Some l) None already taken kind count p end short = absurd p
body_cut (Some l) (Some r) already taken kind count p end short =
    let all : l ≡ taken = p ∙ ap (λ x. taken ++ x) end ∙ append-nil taken in
    body_asked-cut kind count (already ++ l) (subst (λ x. length (already ++ x) < count) (sym all) short)

-- ---- heads

-- what was read of an input that begins with a head
pub IsHead-from : (seen left : List ℕ) (count : ℕ) (head : RequestHead) → IsHeadAt seen count head → length seen ≤ head_limit
    → IsHead (seen ++ left) head (drop count seen ++ left)
IsHead-from seen left count head at within = record {
  reads = ReadsRequest-append seen head (drop count seen) left at.reads;
  within = omega (arith, at.count_is, at.count_fits);
  fields = at.fields;
}

-- what follows a head is what the input asks for
pub means_by : (service : Service) (input : List ℕ) (head : RequestHead) (rest : List ℕ) (result : Received)
    → IsHead input head rest → (result ≡ received.Memory → TakesMemory (wanted_of_with service head))
    → Shows (shown_in head) result
    → Answers (asked_with service head rest) result → MeansWith service input result
means_by service input head rest received.Nothing is memory says h = absurd h
means_by service input head rest received.Failed is memory says h = tt
means_by service input head rest received.Memory is memory says h = (head, rest, is, memory refl)
means_by service input head rest (received.Refused fault) is memory says h = inl (head, rest, is, h)
means_by service input head rest (received.Asked shown asks) is memory says h = (head, rest, is, h, says)

-- a head came, and what follows it is known
pub means_head : (service : Service) (old new : Option (List ℕ)) (seen : List ℕ) (count : ℕ) (head : RequestHead)
    (result : Received) → Consumes old new seen → length seen ≤ head_limit → IsHeadAt seen count head
    → ((result ≡ received.Memory) → (k : RequestHead) → IsHeadAt seen count k
    → TakesMemory (wanted_of_with service k))
    → ((k : RequestHead) → IsHeadAt seen count k → Shows (shown_in k) result)
    → IfSome new (λ left. (k : RequestHead) → IsHeadAt seen count k
    → Answers (asked_with service k (drop count seen ++ left)) result)
    → IfSome old (λ input. MeansWith service input result)
means_head service None new seen count head result p within at memory says h = tt
means_head service (Some l) None seen count head result p within at memory says h = absurd p
means_head service (Some l) (Some r) seen count head result p within at memory says h =
    subst (λ x. MeansWith service x result) (sym p)
    (means_by service (seen ++ r) head (drop count seen ++ r) result (IsHead-from seen r count head at within)
    (λ is. memory is head at) (says head at) (h head at))

pub NeverHasRequest-append : (xs ys : List ℕ) → NeverHasRequest xs → NeverHasRequest (xs ++ ys)
NeverHasRequest-append xs ys never = λ more. subst HasNoRequest (sym (append_assoc xs ys more)) (never (ys ++ more))

-- the first bytes of an input, of which some were seen
pub front_of_seen : (seen left : List ℕ) → length seen ≤ head_limit → (more : List ℕ) × (take head_limit (seen ++ left) ≡ seen ++ more)
front_of_seen seen left within =
    let size : head_limit ≡ length seen + (head_limit - length seen) = omega arith in
    (take (head_limit - length seen) left, ap (λ n. take n (seen ++ left)) size ∙ take-append-add seen left (head_limit - length seen))

-- an input that begins with no head
pub means_malformed : (service : Service) (old new : Option (List ℕ)) (seen : List ℕ) → Consumes old new seen
    → 0 < length seen → IsMalformed seen new
    → IfSome old (λ input. MeansWith service input (received.Refused BadHead))
means_malformed service None new seen p some bad = tt
means_malformed service (Some l) None seen p some bad = absurd p
means_malformed service (Some l) (Some r) seen p some (within, inl never) =
    let front = front_of_seen seen r within in
    let long : 0 < length (seen ++ r) = omega (arith, length-append seen r) in
    subst (λ x. MeansWith service x (received.Refused BadHead)) (sym p)
    (inr (inl (refl, (long, inl (subst NeverHasRequest (sym front.1) (NeverHasRequest-append seen front.0 never))))))
means_malformed service (Some l) (Some r) seen p some (within, inr (short, none, end)) =
    let all : l ≡ seen = p ∙ ap (λ x. seen ++ x) end ∙ append-nil seen in
    subst (λ x. MeansWith service x (received.Refused BadHead)) (sym all)
    (inr (inl (refl, (some, inr (short, none)))))

pub HasManyFields-append : (xs ys : List ℕ) → HasManyFields xs → HasManyFields (xs ++ ys)
HasManyFields-append xs ys (over, exceeds) = (
  λ more head rest reads. over (ys ++ more) head rest (subst (λ b. ReadsRequest b head rest) (append_assoc xs ys more) reads),
  (exceeds.0, exceeds.1 ++ ys, ap (λ b. b ++ ys) exceeds.2 ∙ append_assoc exceeds.0 exceeds.1 ys, exceeds.3, exceeds.4, exceeds.5),
)

-- an input whose head is too large
pub means_large : (service : Service) (old new : Option (List ℕ)) (seen : List ℕ) → Consumes old new seen
    → IsTooLarge seen
    → IfSome old (λ input. MeansWith service input (received.Refused HeadTooLarge))
means_large service None new seen p large = tt
means_large service (Some l) None seen p large = absurd p
means_large service (Some l) (Some r) seen p (within, inl (long, unfinished)) =
    let front : take head_limit (seen ++ r) ≡ seen = ap (λ n. take n (seen ++ r)) (sym long) ∙ take-append_seam seen r in
    let size : head_limit ≤ length (seen ++ r) = omega (arith, length-append seen r) in
    subst (λ x. MeansWith service x (received.Refused HeadTooLarge)) (sym p)
    (inr (inr (refl, inl (size, subst IsUnfinished (sym front) unfinished))))
means_large service (Some l) (Some r) seen p (within, inr many) =
    subst (λ x. MeansWith service x (received.Refused HeadTooLarge)) (sym p)
    (inr (inr (refl, inr (HasManyFields-append seen r many))))

-- an input without a byte
pub means_nothing : (service : Service) (old new : Option (List ℕ)) → Consumes old new [] → IsAtEnd new
    → IfSome old (λ input. MeansWith service input received.Nothing)
means_nothing service None new p end = tt
means_nothing service (Some l) None p end = absurd p
means_nothing service (Some l) (Some r) p end = p ∙ end
