-- What the bytes of a connection ask for: one request (RFC 9112, section 2.1), and what follows it is ignored.
use Rattle.std.specs.Prelude.{◌≡◌, ◌⊎◌, ℕ, ◌<◌, ◌≤◌, Bool, true, false, nat_le, List, [], ◌∷◌, ◌++◌, length, take, map, codes, decimal, if◌then◌else◌}
use Rattle.std.specs.Prelude.{Option, None, Some, Result, Ok, Err, ⊤}
use Rattle.std.specs.Io.KnownBytes.{Consumes}
use Rattle.std.specs.Str.{bytes_eq}
use Rattle.httparse.specs.Grammar.{Field, HasNoRequest, NeverHasRequest, ReadsRequest, RequestHead, crlf, print_request}
use Rattle.httparse.specs.Spans.{name_and_value}
use Rattle.wb_api.specs.Commands.{IsText, command_of}
use Rattle.wb_api.specs.Merges.{merge_of}
use Rattle.wb_keys.specs.Access.{everybody, rights_of}
use Rattle.wb_keys.specs.Rights.{may_ask_for}
use Rattle.wb_keys.specs.declared.access.Shown.{Shown}
use Rattle.wb_keys.specs.declared.right.Kind.TheVariants.{Query}
use Rattle.wb_keys.specs.declared.right.Right.{Right}
use Rattle.wb_streams.specs.Fields.{NameAndValue, content_length, has_field, is_from_browser, length_stated, values_of}
use Rattle.wb_streams.specs.Heads.{HasManyFields, IsHeadFront, IsUnfinished, field_limit, head_limit}
use Rattle.wb_api.specs.Rights.{kind_of_body, shown_by, shown_in}
use Rattle.wb_api.specs.Routes.{and_then, query_of, route_at}
use Rattle.wb_streams.specs.declared.fault.Fault.{Fault}
use Rattle.wb_streams.specs.declared.fault.Fault.TheVariants.{BadHead, BadPath, FromBrowser, HeadTooLarge, NoKey, NoRoute, NotAllowed}
use Rattle.wb_streams.specs.declared.fault.Fault.TheVariants.{WrongMethod, NotSupported, BodyCut}
use Rattle.wb_api.specs.declared.failure.RequestError.{RequestError}
use Rattle.wb_api.specs.declared.failure.RequestError.TheVariants as error
use Rattle.wb_api.specs.declared.request.Received.{Received}
use Rattle.wb_api.specs.declared.request.Received.TheVariants as received
use Rattle.wb_api.specs.declared.request.Request.{Request}
use Rattle.wb_api.specs.declared.request.Request.TheVariants as request
use Rattle.wb_api.specs.declared.request.Wanted.{Wanted}
use Rattle.wb_api.specs.declared.request.Wanted.TheVariants as wanted
use Rattle.wb_api.specs.declared.route.BodyKind.{BodyKind}
use Rattle.wb_api.specs.declared.route.BodyKind.TheVariants as body_kind
use Rattle.wb_api.specs.declared.route.QueryKind.{QueryKind}
use Rattle.wb_api.specs.declared.route.Route.{Route}
use Rattle.wb_api.specs.declared.service.Service.{Service}
use Rattle.wb_api.specs.declared.route.Route.TheVariants as route

-- what is served without lists and without keys
abbrev pub plain : Service
plain = record { has_lists = false; access = everybody }

-- what is served with lists and without keys
abbrev pub beside_lists : Service
beside_lists = record { has_lists = true; access = everybody }

-- the length of the body that the fields of a command or a merge state (RFC 9112, section 6)
unfoldable pub length_wanted : BodyKind → List NameAndValue → Result Wanted Fault
length_wanted kind fields = if has_field (codes "transfer-encoding") fields then Err NotSupported
    else and_then (length_stated (values_of content_length fields)) (λ n. Ok (wanted.Body kind n))

-- what the head of a command or a merge asks for, by a line with these rights: a body of the length that its fields
-- state
unfoldable pub body_wanted : List Right → BodyKind → List ℕ → List NameAndValue → Result Wanted Fault
body_wanted rights kind method fields = if bytes_eq method (codes "POST")
    then (if may_ask_for rights (kind_of_body kind) then length_wanted kind fields else Err NotAllowed)
    else Err WrongMethod

-- what the head of a query asks for, by a line with these rights
unfoldable pub query_wanted : List Right → QueryKind → List ℕ → List ℕ → Result Wanted Fault
query_wanted rights kind method target = if bytes_eq method (codes "GET")
    then (if may_ask_for rights Query then and_then (query_of kind target) (λ query. Ok (wanted.Query query))
    else Err NotAllowed)
    else Err WrongMethod

-- what a head asks for whose target is for this, or for nothing, by a line with these rights: without lists a merge is
-- for nothing
abbrev pub wanted_by_with : Bool → List Right → Option Route → List ℕ → List ℕ → List NameAndValue
    → Result Wanted Fault
wanted_by_with has_lists rights None method target fields = Err NoRoute
wanted_by_with has_lists rights (Some (route.Command kind)) method target fields =
    body_wanted rights (body_kind.Command kind) method fields
wanted_by_with has_lists rights (Some (route.Query kind)) method target fields =
    query_wanted rights kind method target
wanted_by_with has_lists rights (Some route.Merge) method target fields =
    if has_lists then body_wanted rights body_kind.Merge method fields else Err NoRoute

-- what a head of this method, target and fields asks for, by the rights of its line: nothing, if it is on none
abbrev pub wanted_for : Bool → Option (List Right) → List ℕ → List ℕ → List NameAndValue → Result Wanted Fault
wanted_for has_lists None method target fields = Err NoKey
wanted_for has_lists (Some rights) method target fields =
    wanted_by_with has_lists rights (route_at target) method target fields

-- what a head of this method, target and fields asks for: nothing, if a web page had it sent
abbrev pub wanted_from_with : Service → List ℕ → List ℕ → List NameAndValue → Result Wanted Fault
wanted_from_with service method target fields = if is_from_browser fields then Err FromBrowser
    else wanted_for service.has_lists (rights_of service.access (shown_by fields)) method target fields

-- what a head asks for, of this service
abbrev pub wanted_of_with : Service → RequestHead → Result Wanted Fault
wanted_of_with service head = wanted_from_with service head.method head.target (map name_and_value head.fields)

-- what a head asks for, without lists and keys
abbrev pub wanted_of : RequestHead → Result Wanted Fault
wanted_of head = wanted_of_with plain head

-- a head for which memory is taken: one without a fault, or one whose path is decoded before its fault is found
abbrev pub TakesMemory : Result Wanted Fault → Type 0
TakesMemory (Ok w) = ⊤
TakesMemory (Err fault) = fault ≡ BadPath

-- a head whose path is decoded, which takes memory: that of a query, without a fault or with that of its path
abbrev pub DecodesPath : Result Wanted Fault → Type 0
DecodesPath (Ok (wanted.Query query)) = ⊤
DecodesPath (Ok (wanted.Body kind count)) = ⊥
DecodesPath (Err fault) = fault ≡ BadPath

-- what a head asks for, or its fault; memory ran out only for a path that is decoded
abbrev pub WantsOr : Result Wanted RequestError → Result Wanted Fault → Type 0
WantsOr (Ok w) what = what ≡ Ok w
WantsOr (Err (error.Fault fault)) what = what ≡ Err fault
WantsOr (Err error.Memory) what = DecodesPath what

-- what is asked for by the bytes of a body
abbrev pub asked_in : BodyKind → List ℕ → Result Request Fault
asked_in (body_kind.Command kind) body = and_then (command_of kind body) (λ command. Ok (request.Command command))
asked_in body_kind.Merge body = and_then (merge_of body) (λ names. Ok (request.Merge names))

-- what is asked for by a body of this many bytes at the front of what follows the head
unfoldable pub body_asked : BodyKind → ℕ → List ℕ → Result Request Fault
body_asked kind count rest = if nat_le count (length rest) then asked_in kind (take count rest) else Err BodyCut

-- what is asked for, with what follows the head
abbrev pub asked_by : Wanted → List ℕ → Result Request Fault
asked_by (wanted.Query query) rest = Ok (request.Query query)
asked_by (wanted.Body kind count) rest = body_asked kind count rest

-- what a head and what follows it ask for, of this service
abbrev pub asked_with : Service → RequestHead → List ℕ → Result Request Fault
asked_with service head rest = and_then (wanted_of_with service head) (λ w. asked_by w rest)

-- what a head and what follows it ask for, without lists and keys
abbrev pub asked : RequestHead → List ℕ → Result Request Fault
asked head rest = asked_with plain head rest

-- a field of this name and value, as a client writes it
abbrev pub field : List ℕ → List ℕ → Field
field name value = record { name = name; raw = value; end = crlf }

-- the head of a request with this method, this target and these fields
abbrev pub head_of : List ℕ → List ℕ → List Field → RequestHead
head_of method target fields = record {
  blank = [];
  method = method;
  target = target;
  minor = 1;
  line_end = crlf;
  fields = fields;
  last = crlf;
}

-- what a request asks for with this method, this target, these fields and this body
abbrev pub sent : List ℕ → List ℕ → List Field → List ℕ → Result Request Fault
sent method target fields body = asked (head_of method target fields) body

-- the length of a body, as a field
abbrev pub length_field : List ℕ → Field
length_field body = field content_length (decimal (length body))

-- what a POST asks for with this target, this body, and these fields beside the length of the body
abbrev pub posted_with : List Field → List ℕ → List ℕ → Result Request Fault
posted_with fields target body = sent (codes "POST") target (length_field body ∷ fields) body

-- what a POST asks for with this target, this body, and the length of the body as its only field
abbrev pub posted : List ℕ → List ℕ → Result Request Fault
posted target body = posted_with [] target body

-- what a POST with this target and this body asks for, with lists, and the length of the body as its only field
abbrev pub posted_beside_lists : List ℕ → List ℕ → Result Request Fault
posted_beside_lists target body = asked_with beside_lists (head_of (codes "POST") target (length_field body ∷ [])) body

-- what a GET asks for with this target and these fields
abbrev pub got_with : List Field → List ℕ → Result Request Fault
got_with fields target = sent (codes "GET") target fields []

-- what a GET asks for with this target and no field
abbrev pub got : List ℕ → Result Request Fault
got target = got_with [] target

-- an input begins with this head, which is within the limits
pub record IsHead (input : List ℕ) (head : RequestHead) (rest : List ℕ) : Type 0 where
  pub reads : ReadsRequest input head rest
  pub within : length (print_request head) ≤ head_limit
  pub fields : length head.fields ≤ field_limit

-- an input that begins with no head: nothing makes its first bytes one, or it ends inside a head
abbrev pub HasBadHead : List ℕ → Type 0
HasBadHead input = (0 < length input)
    × (NeverHasRequest (take head_limit input) ⊎ ((length input < head_limit) × HasNoRequest input))

-- an input whose head is longer, or has more fields, than a head may have
abbrev pub HasLargeHead : List ℕ → Type 0
HasLargeHead input = ((head_limit ≤ length input) × IsUnfinished (take head_limit input)) ⊎ HasManyFields input

-- the fault of an input that begins with no head within the limits
abbrev pub HasHeadFault : List ℕ → Fault → Type 0
HasHeadFault input fault = ((fault ≡ BadHead) × HasBadHead input) ⊎ ((fault ≡ HeadTooLarge) × HasLargeHead input)

-- what is received says what is asked for, or its fault, unless the reader failed or memory ran out
abbrev pub Answers : Result Request Fault → Received → Type 0
Answers what received.Nothing = ⊥
Answers what received.Failed = ⊤
Answers what received.Memory = ⊤
Answers what (received.Refused fault) = what ≡ Err fault
Answers what (received.Asked shown request) = what ≡ Ok request

-- what is received says this of a key, if it is a request
abbrev pub Shows : Shown → Received → Type 0
Shows said received.Nothing = ⊤
Shows said received.Failed = ⊤
Shows said received.Memory = ⊤
Shows said (received.Refused fault) = ⊤
Shows said (received.Asked shown request) = shown ≡ said

-- what is received of an input: nothing only if it is empty, else what its head and what follows ask for of this
-- service, and what the head shows of a key, or the fault of a head; memory ran out only after a head for which memory
-- is taken
abbrev pub MeansWith : Service → List ℕ → Received → Type 0
MeansWith service input received.Nothing = input ≡ []
MeansWith service input received.Failed = ⊤
MeansWith service input received.Memory =
    (head : RequestHead) × (rest : List ℕ) × IsHead input head rest × TakesMemory (wanted_of_with service head)
MeansWith service input (received.Refused fault) =
    ((head : RequestHead) × (rest : List ℕ) × IsHead input head rest × (asked_with service head rest ≡ Err fault))
    ⊎ HasHeadFault input fault
MeansWith service input (received.Asked shown request) =
    (head : RequestHead) × (rest : List ℕ) × IsHead input head rest × (asked_with service head rest ≡ Ok request)
    × (shown ≡ shown_in head)

-- what is received of an input, without lists and keys
abbrev pub Means : List ℕ → Received → Type 0
Means input received = MeansWith plain input received

-- what was taken of a body of so many bytes if memory ran out for it, of which some came already: nothing, though some
-- is missing, or all of it, which is a text
abbrev pub LacksBody : ℕ → List ℕ → List ℕ → Type 0
LacksBody count already taken = ((taken ≡ []) × (length already < count))
    ⊎ ((count ≤ length (already ++ taken)) × IsText (take count (already ++ taken)))

-- what was taken of the rest of a request if memory ran out for it, of which some came with the head
abbrev pub LacksRest : Result Wanted Fault → List ℕ → List ℕ → Type 0
LacksRest (Ok (wanted.Query query)) already taken = taken ≡ []
LacksRest (Ok (wanted.Body kind count)) already taken = LacksBody count already taken
LacksRest (Err fault) already taken = (fault ≡ BadPath) × (taken ≡ [])

-- what was read of a request if memory ran out for it: its head, with what came with it, and of the rest of the request
-- nothing, or a body that is a text
pub record LacksMemoryWith (service : Service) (old new : Option (List ℕ)) : Type 0 where
  pub head : RequestHead
  pub came : List ℕ
  pub already : List ℕ
  pub taken : List ℕ
  pub reads : Consumes old new (came ++ taken)
  pub within : length came ≤ head_limit
  pub is : IsHead came head already
  pub lacks : LacksRest (wanted_of_with service head) already taken

-- how many bytes of a body a head asks for: none unless it is a command or a merge without a fault
abbrev pub body_length : Result Wanted Fault → ℕ
body_length (Ok (wanted.Query query)) = 0
body_length (Ok (wanted.Body kind count)) = count
body_length (Err fault) = 0

-- the front of a request, and not all of one: the front of a head, or a head within the limits and less than the body
-- that it asks for of this service
abbrev pub IsRequestFrontWith : Service → List ℕ → Type 0
IsRequestFrontWith service seen = IsHeadFront seen ⊎ ((head : RequestHead) × (rest : List ℕ)
    × IsHead seen head rest × (length rest < body_length (wanted_of_with service head)))

-- no more bytes than a head may have, or a head within the limits and no more than the body that it asks for of this
-- service
abbrev pub IsWithinRequestWith : Service → List ℕ → Type 0
IsWithinRequestWith service seen = (length seen ≤ head_limit) ⊎ ((head : RequestHead) × (rest : List ℕ)
    × IsHead seen head rest × (length rest ≤ body_length (wanted_of_with service head)))

-- whether the reader failed
abbrev pub is_failed : Received → Bool
is_failed received.Nothing = false
is_failed received.Failed = true
is_failed received.Memory = false
is_failed (received.Refused fault) = false
is_failed (received.Asked shown request) = false
