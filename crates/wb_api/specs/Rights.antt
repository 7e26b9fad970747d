-- Who asks: what a request shows of a key, and what the rights of its line allow.
use Rattle.std.specs.Prelude.{◌≡◌, ℕ, Bool, List, map, if◌then◌else◌, Option, None, Some, IsSome}
use Rattle.httparse.specs.Grammar.{RequestHead}
use Rattle.httparse.specs.Spans.{name_and_value}
use Rattle.sha2.specs.Sha256.{sha256}
use Rattle.deb_text.specs.Options.{has_value}
use Rattle.wb_states.specs.Machine.{Machine}
use Rattle.wb_keys.specs.Access.{rights_of}
use Rattle.wb_keys.specs.Key.{is_key_text}
use Rattle.wb_keys.specs.Rights.{holder_needed, may_ask_for, may_command}
use Rattle.wb_keys.specs.declared.access.Access.{Access}
use Rattle.wb_keys.specs.declared.access.Shown.{Shown}
use Rattle.wb_keys.specs.declared.access.Shown.TheVariants as shown
use Rattle.wb_keys.specs.declared.right.Kind.{Kind}
use Rattle.wb_keys.specs.declared.right.Kind.TheVariants as kind
use Rattle.wb_keys.specs.declared.right.Right.{Right}
use Rattle.wb_streams.specs.Fields.{NameAndValue, authorization, bearer_token, has_field}
use Rattle.wb_api.specs.declared.request.Request.{Request}
use Rattle.wb_api.specs.declared.request.Request.TheVariants as request
use Rattle.wb_api.specs.declared.route.BodyKind.{BodyKind}
use Rattle.wb_api.specs.declared.route.BodyKind.TheVariants as body_kind
use Rattle.wb_api.specs.declared.route.CommandKind.{CommandKind}
use Rattle.wb_api.specs.declared.route.CommandKind.TheVariants.{AddArch, AddBuilder, RemoveArch, RemoveBuilder, Enter}
use Rattle.wb_api.specs.declared.route.CommandKind.TheVariants.{Next, Take, Built, Uploaded, Waits, PutBack, Attempted}
use Rattle.wb_api.specs.declared.route.CommandKind.TheVariants.{GiveBack, DepWait, Fail, NotForUs, Rebuild}
use Rattle.wb_api.specs.declared.route.CommandKind.TheVariants.{BuildPriority, Forget, Report}

-- ---- what is shown of a key

-- what a bearer token shows of a key, or that there is none
abbrev pub shown_as : Option (List ℕ) → Shown
shown_as None = shown.Malformed
shown_as (Some token) = if is_key_text token then shown.Hash (sha256 token) else shown.Malformed

-- what the fields of a request show of a key: nothing, if none of them is for it (RFC 6750, section 2.1)
abbrev pub shown_by : List NameAndValue → Shown
shown_by fields = if has_field authorization fields then shown_as (bearer_token fields) else shown.Nothing

-- what a head shows of a key
abbrev pub shown_in : RequestHead → Shown
shown_in head = shown_by (map name_and_value head.fields)

-- ---- what a path asks for

-- the kind of the command of a path
abbrev pub kind_of_path : CommandKind → Kind
kind_of_path AddArch = kind.Operator
kind_of_path AddBuilder = kind.Operator
kind_of_path RemoveArch = kind.Operator
kind_of_path RemoveBuilder = kind.Operator
kind_of_path Enter = kind.Operator
kind_of_path Next = kind.Builder
kind_of_path Take = kind.Builder
kind_of_path Built = kind.Builder
kind_of_path Uploaded = kind.Builder
kind_of_path Waits = kind.Builder
kind_of_path PutBack = kind.Builder
kind_of_path Attempted = kind.Builder
kind_of_path GiveBack = kind.Porter
kind_of_path DepWait = kind.Porter
kind_of_path Fail = kind.Porter
kind_of_path NotForUs = kind.Porter
kind_of_path Rebuild = kind.Porter
kind_of_path BuildPriority = kind.Porter
kind_of_path Forget = kind.Operator
kind_of_path Report = kind.Porter

-- the kind of what a body gives: a merge is for operators
abbrev pub kind_of_body : BodyKind → Kind
kind_of_body (body_kind.Command command) = kind_of_path command
kind_of_body body_kind.Merge = kind.Operator

-- ---- what may be asked of an office

-- a line with these rights may ask the office for this
abbrev pub may_request : List Right → Machine → Request → Bool
may_request rights machine (request.Command command) = may_command rights machine command
may_request rights machine (request.Query query) = may_ask_for rights kind.Query
may_request rights machine (request.Merge names) = may_ask_for rights kind.Operator

-- who shows this of a key may ask the office for this
abbrev pub is_allowed : Access → Shown → Machine → Request → Bool
is_allowed access showed machine asked =
    has_value (λ rights. may_request rights machine asked) (rights_of access showed)

-- whether a line with these rights may ask for this depends on who holds a take number
abbrev pub NeedsHolder : List Right → Request → Type 0
NeedsHolder rights (request.Command command) = IsSome (holder_needed rights command)
NeedsHolder rights (request.Query query) = ⊥
NeedsHolder rights (request.Merge names) = ⊥

-- whether who shows this of a key may ask for this depends on who holds a take number
abbrev pub LooksUp : Access → Shown → Request → Type 0
LooksUp access showed asked = (rights : List Right) × (rights_of access showed ≡ Some rights) × NeedsHolder rights asked
