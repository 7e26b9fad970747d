-- Readers and writers that report whether they failed.
use Rattle.std.specs.Prelude.{◌≡◌, ℕ, ◌<◌, Bool, true, false, List, length, take, Option}
use Rattle.std.specs.Io.KnownBytes.{Appends}

-- what a clause sees of a reader or a writer: the bytes that it has left or holds, if these are known, and whether a
-- call of it failed
pub record Stream : Type 0 where
  pub bytes : Option (List ℕ)
  pub failed : Bool

-- the flag of a stream, before and after: it is set if the stream failed, and else stays as it was
abbrev pub Flags : Bool → Stream → Stream → Type 0
Flags true old new = new.failed ≡ true
Flags false old new = new.failed ≡ old.failed

-- a front of a text, but not the whole, is appended
abbrev pub AppendsFront : Option (List ℕ) → Option (List ℕ) → List ℕ → Type 0
AppendsFront old new text = (count : ℕ) × (count < length text) × Appends old new (take count text)
