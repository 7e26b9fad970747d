-- The body of a request, which follows the head (RFC 9112, section 6).
use Rattle.std.specs.Prelude.{◌≡◌, ℕ, ◌-◌, ◌<◌, ◌≤◌, Bool, true, false, List, [], ◌++◌, length, take, Option}
use Rattle.std.specs.Io.KnownBytes.{Consumes, IsAtEnd}
use Rattle.wb_streams.specs.declared.body.Filling.{Filling}
use Rattle.wb_streams.specs.declared.body.Filling.TheVariants as filling
use Rattle.wb_streams.specs.declared.body.BodyRead.{BodyRead}
use Rattle.wb_streams.specs.declared.body.BodyRead.TheVariants as came

-- what was taken is less than was missing of so many bytes, of which some came already
abbrev pub TookLess : List ℕ → ℕ → Option (List ℕ) → Option (List ℕ) → Type 0
TookLess already count old new = (taken : List ℕ) × Consumes old new taken × (length (already ++ taken) < count)

-- what was taken is no more than was missing of so many bytes, of which some came already
abbrev pub TookNoMore : List ℕ → ℕ → Option (List ℕ) → Option (List ℕ) → Type 0
TookNoMore already count old new = (taken : List ℕ) × Consumes old new taken × (length taken ≤ count - length already)

-- what a read took into the rest of a room whose front was filled before: all of it, or the input ended or the reader
-- failed before
abbrev pub TookRest : List ℕ → List ℕ → Option (List ℕ) → Option (List ℕ) → Filling → Type 0
TookRest front room old new filling.Full = (taken : List ℕ) × Consumes old new taken × (room ≡ front ++ taken)
TookRest front room old new filling.Ended = (taken : List ℕ) × Consumes old new taken × IsAtEnd new × (length (front ++ taken) < length room)
TookRest front room old new filling.Failed = TookLess front (length room) old new

-- what a read took into a room, for which some bytes came already: all of it, or the input ended or the reader failed
-- before
abbrev pub TookRoom : List ℕ → List ℕ → Option (List ℕ) → Option (List ℕ) → Filling → Type 0
TookRoom already room old new filling.Full = (taken : List ℕ) × Consumes old new taken
    × (length room ≤ length (already ++ taken)) × (room ≡ take (length room) (already ++ taken))
TookRoom already room old new filling.Ended = (taken : List ℕ) × Consumes old new taken × IsAtEnd new
    × (length (already ++ taken) < length room)
TookRoom already room old new filling.Failed = TookLess already (length room) old new

-- whether a read of the rest of a room failed
abbrev pub is_failed_fill : Filling → Bool
is_failed_fill filling.Full = false
is_failed_fill filling.Ended = false
is_failed_fill filling.Failed = true

-- what a read of a body of so many bytes took, of which some came already: the whole body, or the input ended or the
-- reader failed before; nothing if memory ran out
abbrev pub TookBody : List ℕ → ℕ → Option (List ℕ) → Option (List ℕ) → BodyRead → Type 0
TookBody already count old new (came.Whole body) = (taken : List ℕ) × Consumes old new taken
    × (count ≤ length (already ++ taken)) × (body.items ≡ take count (already ++ taken))
TookBody already count old new came.Cut = (taken : List ℕ) × Consumes old new taken × IsAtEnd new
    × (length (already ++ taken) < count)
TookBody already count old new came.Failed = TookLess already count old new
TookBody already count old new came.Memory = Consumes old new []

-- whether a read of a body failed
abbrev pub is_failed_body : BodyRead → Bool
is_failed_body (came.Whole body) = false
is_failed_body came.Cut = false
is_failed_body came.Failed = true
is_failed_body came.Memory = false
