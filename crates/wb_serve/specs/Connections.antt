-- What a connection has of its exchange: what has come of the request, and then the answer and how much of it was
-- written (RFC 9112, section 9.3).
use Rattle.std.specs.Prelude.{◌≡◌, ◌⊎◌, ℕ, ◌+◌, ◌≤◌, Bool, true, false, List, [], ◌++◌, length, take, drop, Option}
use Rattle.std.specs.Prelude.{None, Some}
use Rattle.std.specs.Io.KnownBytes.{Appends, Consumes, IsAtEnd, Keeps}
use Rattle.wb_api.specs.Coming.{IsSettledWith}
use Rattle.wb_api.specs.Requests.{IsRequestFrontWith}
use Rattle.wb_api.specs.declared.service.Service.{Service}
use Rattle.wb_serve.specs.declared.connection.Stage.{Stage}
use Rattle.wb_serve.specs.declared.connection.Stage.TheVariants as stage
use Rattle.wb_serve.specs.declared.connection.Took.{Took}
use Rattle.wb_serve.specs.declared.connection.Took.TheVariants as took
use Rattle.wb_serve.specs.declared.connection.Wrote.{Wrote}
use Rattle.wb_serve.specs.declared.connection.Wrote.TheVariants as wrote

-- how far an exchange is, and what has come of the request until it is answered, and then the answer
pub record ConnectionState : Type 0 where
  pub stage : Stage
  pub bytes : List ℕ

-- a connection of which no byte has come
abbrev pub opened : ConnectionState
opened = record { stage = stage.Head; bytes = [] }

-- a connection with an answer of which no byte was written
abbrev pub put : List ℕ → ConnectionState
put answer = record { stage = stage.Answer 0; bytes = answer }

-- whether more of the request is to come at this stage
abbrev pub is_coming : Stage → Bool
is_coming stage.Head = true
is_coming (stage.Body total) = true
is_coming stage.Ready = false
is_coming (stage.Answer done) = false

-- what waits for an answer at this stage
abbrev pub asked_at : Stage → List ℕ → Option (List ℕ)
asked_at stage.Head bytes = None
asked_at (stage.Body total) bytes = None
asked_at stage.Ready bytes = Some bytes
asked_at (stage.Answer done) bytes = None

-- what has come of the request of a connection that waits for its answer
abbrev pub asked_of : ConnectionState → Option (List ℕ)
asked_of c = asked_at c.stage c.bytes

-- the answer that there is at this stage
abbrev pub given_at : Stage → List ℕ → Option (List ℕ)
given_at stage.Head bytes = None
given_at (stage.Body total) bytes = None
given_at stage.Ready bytes = None
given_at (stage.Answer done) bytes = Some bytes

-- the answer that a connection has
abbrev pub given_of : ConnectionState → Option (List ℕ)
given_of c = given_at c.stage c.bytes

-- of a request of which more was to come, these bytes came after those that had come
abbrev pub Adds : ConnectionState → ConnectionState → Option (List ℕ) → Option (List ℕ) → Type 0
Adds old new before after = (is_coming old.stage ≡ true)
    × ((more : List ℕ) × Consumes before after more × (new.bytes ≡ old.bytes ++ more))

-- nothing was read or written, and the connection is as it was
abbrev pub Rests : ConnectionState → ConnectionState → Option (List ℕ) → Option (List ℕ) → Type 0
Rests old new before after = (new ≡ old) × Keeps before after

-- what a read gave of a request to this service: bytes, after which more of the request has to come; a request, or all
-- that comes; nothing; or a failure, which leaves the connection as it was. Only a connection of whose request more was
-- to come reads, and then waits for an answer
abbrev pub IsRead : Service → Took → ConnectionState → ConnectionState → Option (List ℕ) → Option (List ℕ) → Type 0
IsRead service took.Some old new before after =
    Adds old new before after × (is_coming new.stage ≡ true) × IsRequestFrontWith service new.bytes
IsRead service took.All old new before after =
    Adds old new before after × (new.stage ≡ stage.Ready) × (IsSettledWith service new.bytes ⊎ IsAtEnd after)
IsRead service took.Again old new before after = Rests old new before after
IsRead service took.Later old new before after = Rests old new before after
IsRead service took.Failed old new before after = (is_coming old.stage ≡ true) × (new ≡ old)

-- bytes were added to what had come, and more has to come or a request has come; or there is no memory for them
abbrev pub IsAdded : Service → Took → ConnectionState → ConnectionState → List ℕ → Type 0
IsAdded service took.Some old new came =
    (new.bytes ≡ old.bytes ++ came) × (is_coming new.stage ≡ true) × IsRequestFrontWith service new.bytes
IsAdded service took.All old new came =
    (new.bytes ≡ old.bytes ++ came) × (new.stage ≡ stage.Ready) × IsSettledWith service new.bytes
IsAdded service took.Again old new came = ⊥
IsAdded service took.Later old new came = ⊥
IsAdded service took.Failed old new came = new ≡ old

-- so many bytes of an answer were written, and then the next
abbrev pub WritesNext : ConnectionState → ConnectionState → Option (List ℕ) → Option (List ℕ) → Type 0
WritesNext old new before after = (done count : ℕ) × (old.stage ≡ stage.Answer done)
    × Appends before after (take count (drop done old.bytes))
    × (new ≡ record { stage = stage.Answer (done + count); bytes = old.bytes })

-- an answer was written whole before
abbrev pub IsWhole : ConnectionState → Type 0
IsWhole c = (done : ℕ) × (c.stage ≡ stage.Answer done) × (length c.bytes ≤ done)

-- what a write gave: the next bytes of the answer, or nothing. Before there is an answer nothing is written
abbrev pub IsWritten : Wrote → ConnectionState → ConnectionState → Option (List ℕ) → Option (List ℕ) → Type 0
IsWritten wrote.Some old new before after = WritesNext old new before after
IsWritten wrote.All old new before after = Rests old new before after × IsWhole old
IsWritten wrote.Again old new before after = Rests old new before after
IsWritten wrote.Later old new before after = Rests old new before after
IsWritten wrote.Failed old new before after = Rests old new before after
