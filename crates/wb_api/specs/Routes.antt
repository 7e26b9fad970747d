-- The targets of requests (RFC 9112, section 3.2). A target is compared as it stands.
use Rattle.std.specs.Prelude.{ℕ, zero, suc, Bool, true, false, ◌==◌, ◌&&◌, List, [], ◌∷◌, codes, if◌then◌else◌}
use Rattle.std.specs.Prelude.{Option, None, Some, unwrap_or, is_none, Result, Ok, Err}
use Rattle.std.specs.Borrow.{Bor}
use Prim.Native.Char.{code}
use Rattle.std.specs.List.{slice_get, slice_split}
use Rattle.std.specs.Str.{is_utf8}
use Rattle.matchit.specs.Rows.{RowsOf}
use Rattle.matchit.specs.Order.{placed}
use Rattle.matchit.specs.Route.{Scan, parse_route}
use Rattle.matchit.specs.Router.{RouteOf, map_key, nearest, route_from}
use Rattle.matchit.specs.Seek.{first}
use Rattle.matchit.specs.declared.error.InsertError.{InsertError}
use Rattle.percent_encoding.specs.Percent.{percent_decode}
use Rattle.wb_streams.specs.declared.fault.Fault.{Fault}
use Rattle.wb_streams.specs.declared.fault.Fault.TheVariants.{BadPath}
use Rattle.wb_api.specs.declared.route.CommandKind.{CommandKind}
use Rattle.wb_api.specs.declared.route.CommandKind.TheVariants.{AddArch, AddBuilder, RemoveArch, RemoveBuilder, Enter}
use Rattle.wb_api.specs.declared.route.CommandKind.TheVariants.{Next, Take, Built, Uploaded, Waits, PutBack, Attempted}
use Rattle.wb_api.specs.declared.route.CommandKind.TheVariants.{GiveBack, DepWait, Fail, NotForUs, Rebuild}
use Rattle.wb_api.specs.declared.route.CommandKind.TheVariants.{BuildPriority, Forget, Report}
use Rattle.wb_api.specs.declared.route.QueryKind.{QueryKind}
use Rattle.wb_api.specs.declared.route.QueryKind.TheVariants as query_kind
use Rattle.wb_api.specs.declared.route.Route.{Route}
use Rattle.wb_api.specs.declared.route.Route.TheVariants as route
use Rattle.wb_states.specs.declared.query.Query.{Query}
use Rattle.wb_states.specs.declared.query.Query.TheVariants as query

-- a path that is served: what its targets begin with, how many parts follow, and what it is for
pub record Path : Type 0 where
  pub front : List ℕ
  pub parts : ℕ
  pub route : Route

-- the path of a command, after which nothing follows
abbrev pub command_path : List ℕ → CommandKind → Path
command_path front kind = record { front = front; parts = 0; route = route.Command kind }

-- the path of a query, after which so many parts follow
abbrev pub query_path : List ℕ → ℕ → QueryKind → Path
query_path front parts kind = record { front = front; parts = parts; route = route.Query kind }

-- the path of a merge, after which nothing follows
abbrev pub merge_path : List ℕ → Path
merge_path front = record { front = front; parts = 0; route = route.Merge }

-- the paths that are served
abbrev pub paths : List Path
paths = command_path (codes "/v1/add-arch") AddArch
    ∷ command_path (codes "/v1/add-builder") AddBuilder
    ∷ query_path (codes "/v1/archs") 0 query_kind.Archs
    ∷ command_path (codes "/v1/attempted") Attempted
    ∷ command_path (codes "/v1/build-priority") BuildPriority
    ∷ query_path (codes "/v1/builders") 0 query_kind.Builders
    ∷ command_path (codes "/v1/built") Built
    ∷ command_path (codes "/v1/dep-wait") DepWait
    ∷ query_path (codes "/v1/depends/") 2 query_kind.Depends
    ∷ command_path (codes "/v1/enter") Enter
    ∷ command_path (codes "/v1/fail") Fail
    ∷ command_path (codes "/v1/forget") Forget
    ∷ command_path (codes "/v1/give-back") GiveBack
    ∷ query_path (codes "/v1/item/") 2 query_kind.Item
    ∷ merge_path (codes "/v1/merge")
    ∷ query_path (codes "/v1/mine/") 1 query_kind.Mine
    ∷ command_path (codes "/v1/next") Next
    ∷ command_path (codes "/v1/not-for-us") NotForUs
    ∷ query_path (codes "/v1/office") 0 query_kind.Office
    ∷ command_path (codes "/v1/put-back") PutBack
    ∷ query_path (codes "/v1/queue/") 1 query_kind.Queue
    ∷ command_path (codes "/v1/rebuild") Rebuild
    ∷ command_path (codes "/v1/remove-arch") RemoveArch
    ∷ command_path (codes "/v1/remove-builder") RemoveBuilder
    ∷ command_path (codes "/v1/report") Report
    ∷ query_path (codes "/v1/state/") 2 query_kind.ByState
    ∷ query_path (codes "/v1/summary/") 1 query_kind.Summary
    ∷ command_path (codes "/v1/take") Take
    ∷ command_path (codes "/v1/uploaded") Uploaded
    ∷ command_path (codes "/v1/waits") Waits
    ∷ []

-- a slash
abbrev pub is_slash : ℕ → Bool
is_slash byte = byte == code "/"

-- so many texts, none of them empty
abbrev pub are_parts : ℕ → List (List ℕ) → Bool
are_parts zero [] = true
are_parts zero (text ∷ rest) = false
are_parts (suc count) [] = false
are_parts (suc count) ([] ∷ rest) = false
are_parts (suc count) ((byte ∷ text) ∷ rest) = are_parts count rest

-- what follows a path: nothing, or so many parts with slashes between them, none of them empty (RFC 3986, section 3.3)
abbrev pub follows : ℕ → List ℕ → Bool
follows zero [] = true
follows zero (byte ∷ text) = false
follows (suc count) text = are_parts (suc count) (slice_split is_slash text)

-- what follows this front of a text
abbrev pub after_front : List ℕ → List ℕ → Option (List ℕ)
after_front [] text = Some text
after_front (byte ∷ front) [] = None
after_front (byte ∷ front) (other ∷ text) = if byte == other then after_front front text else None

-- what follows a front has so many parts
abbrev pub has_parts : ℕ → Option (List ℕ) → Bool
has_parts count None = false
has_parts count (Some rest) = follows count rest

-- a target has this path
abbrev pub has_path : Path → List ℕ → Bool
has_path path target = has_parts path.parts (after_front path.front target)

-- what a target is for that has one of these paths
abbrev pub route_among : List Path → List ℕ → Option Route
route_among [] target = None
route_among (path ∷ rest) target = if has_path path target then Some path.route else route_among rest target

-- what a target is for: a command, a merge or a query
unfoldable pub route_at : List ℕ → Option Route
route_at target = route_among paths target

-- ---- the paths as `matchit` reads them

-- a path and what it is for
abbrev pub row_of : Bor (List ℕ) × Route → List ℕ × Route
row_of row = (row.0.now, row.1)

-- the routes with one more, if its path can be read
abbrev pub with_read : Result Scan InsertError → Route → RowsOf (RouteOf Route) → RowsOf (RouteOf Route)
with_read (Ok scan) route rows = placed (scan.pattern, route_from scan route) rows
with_read (Err error) route rows = rows

-- the routes with those of a table
abbrev pub with_all : RowsOf (RouteOf Route) → List (List ℕ × Route) → RowsOf (RouteOf Route)
with_all rows [] = rows
with_all rows ((path, route) ∷ rest) = with_all (with_read (parse_route path) route rows) rest

-- a path that can be read and conflicts with none of the routes
abbrev pub fits : RowsOf (RouteOf Route) → Result Scan InsertError → Bool
fits rows (Ok scan) = is_none (nearest scan.pattern rows)
fits rows (Err error) = false

-- each path of a table can be read and conflicts with none before it
abbrev pub all_fit : RowsOf (RouteOf Route) → List (List ℕ × Route) → Bool
all_fit rows [] = true
all_fit rows ((path, route) ∷ rest) = fits rows (parse_route path) && all_fit (with_read (parse_route path) route rows) rest

-- the paths and what each is for
abbrev pub table : List (List ℕ × Route)
table =
    (codes "/v1/add-arch", route.Command AddArch)
    ∷ (codes "/v1/add-builder", route.Command AddBuilder)
    ∷ (codes "/v1/remove-arch", route.Command RemoveArch)
    ∷ (codes "/v1/remove-builder", route.Command RemoveBuilder)
    ∷ (codes "/v1/enter", route.Command Enter)
    ∷ (codes "/v1/next", route.Command Next)
    ∷ (codes "/v1/take", route.Command Take)
    ∷ (codes "/v1/built", route.Command Built)
    ∷ (codes "/v1/uploaded", route.Command Uploaded)
    ∷ (codes "/v1/waits", route.Command Waits)
    ∷ (codes "/v1/put-back", route.Command PutBack)
    ∷ (codes "/v1/attempted", route.Command Attempted)
    ∷ (codes "/v1/give-back", route.Command GiveBack)
    ∷ (codes "/v1/dep-wait", route.Command DepWait)
    ∷ (codes "/v1/fail", route.Command Fail)
    ∷ (codes "/v1/not-for-us", route.Command NotForUs)
    ∷ (codes "/v1/rebuild", route.Command Rebuild)
    ∷ (codes "/v1/build-priority", route.Command BuildPriority)
    ∷ (codes "/v1/forget", route.Command Forget)
    ∷ (codes "/v1/report", route.Command Report)
    ∷ (codes "/v1/merge", route.Merge)
    ∷ (codes "/v1/queue/{arch}", route.Query query_kind.Queue)
    ∷ (codes "/v1/state/{arch}/{state}", route.Query query_kind.ByState)
    ∷ (codes "/v1/item/{arch}/{source}", route.Query query_kind.Item)
    ∷ (codes "/v1/mine/{builder}", route.Query query_kind.Mine)
    ∷ (codes "/v1/depends/{arch}/{source}", route.Query query_kind.Depends)
    ∷ (codes "/v1/summary/{arch}", route.Query query_kind.Summary)
    ∷ (codes "/v1/office", route.Query query_kind.Office)
    ∷ (codes "/v1/archs", route.Query query_kind.Archs)
    ∷ (codes "/v1/builders", route.Query query_kind.Builders)
    ∷ []

-- the routes of the table
unfoldable pub routes : RowsOf (RouteOf Route)
routes = with_all [] table

-- the value of a route
abbrev pub value_of : RouteOf Route → Route
value_of found = found.value

-- what the router of the table finds for a target
abbrev pub routed : List ℕ → Option Route
routed target = map_key value_of (first routes target)

-- ---- the parts of a query

-- the part of a target after so many slashes, as it is written
abbrev pub part_at : List ℕ → ℕ → List ℕ
part_at target count = unwrap_or (slice_get (slice_split is_slash target) count) []

-- a part of a path, decoded once (RFC 3986, section 2.1), if it is UTF-8 then
unfoldable pub decoded_text : List ℕ → Result (List ℕ) Fault
decoded_text part = if is_utf8 (percent_decode part) then Ok (percent_decode part) else Err BadPath

-- what follows, unless there is a fault
abbrev pub and_then : {X Y : Type 0} → Result X Fault → (X → Result Y Fault) → Result Y Fault
and_then (Ok x) next = next x
and_then (Err fault) next = Err fault

-- the query of this kind about the first part of a path, and about the second if it has one; the office, its
-- architectures and its builders are asked about without a part
abbrev pub query_about : QueryKind → List ℕ → Result (List ℕ) Fault → Result Query Fault
query_about query_kind.Queue first second = Ok (query.Queue first)
query_about query_kind.ByState first second = and_then second (λ state. Ok (query.ByState first state))
query_about query_kind.Item first second = and_then second (λ source. Ok (query.Item first source))
query_about query_kind.Mine first second = Ok (query.Mine first)
query_about query_kind.Depends first second = and_then second (λ source. Ok (query.Depends first source))
query_about query_kind.Summary first second = Ok (query.Summary first)
query_about query_kind.Office first second = Ok query.Office
query_about query_kind.Archs first second = Ok query.Archs
query_about query_kind.Builders first second = Ok query.Builders

-- the query of this kind that a target asks: its parts stand after `/v1/` and the query's name
unfoldable pub query_of : QueryKind → List ℕ → Result Query Fault
query_of kind target = and_then (decoded_text (part_at target 3)) (λ first. query_about kind first (decoded_text (part_at target 4)))
