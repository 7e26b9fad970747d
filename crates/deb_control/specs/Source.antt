-- A reader of which a bounded number of bytes is read.
use Rattle.std.specs.Prelude.{◌≡◌, ℕ, ◌+◌, ◌<◌, Bool, true, false, List, [], ◌++◌, length, Option, None, Some, ⊤, ◌⊎◌}
use Rattle.std.specs.Io.KnownBytes.{Consumes}

-- what is seen of a reader: the bytes that it has left, if these are known, how many of them may still be read, and whether a read failed
pub record Source : Type 0 where
  pub bytes : Option (List ℕ)
  pub room : ℕ
  pub failed : Bool

-- the bytes that a reader has left, if these are known: none, once it answered that it is at its end
abbrev pub left_of : Bool → Option (List ℕ) → Option (List ℕ)
left_of true bytes = Some []
left_of false bytes = bytes

-- bytes that may be left: those that are known, and any if none are
abbrev pub MayBeLeft : Option (List ℕ) → List ℕ → Type 0
MayBeLeft None text = ⊤
MayBeLeft (Some known) text = text ≡ known

-- what is so of the bytes that a reader had left and has left, if these are known
abbrev pub IfKnown : Option (List ℕ) → Option (List ℕ) → (List ℕ → List ℕ → Type 0) → Type 0
IfKnown None new P = ⊤
IfKnown (Some text) None P = ⊥
IfKnown (Some text) (Some rest) P = P text rest

-- a reader lost these bytes from its front
pub record Takes (old new : Source) (piece : List ℕ) : Type 0 where
  pub bytes : Consumes old.bytes new.bytes piece
  pub room : old.room ≡ length piece + new.room

-- some bytes were taken off the front of a reader
abbrev pub TakesSome : Source → Source → Type 0
TakesSome old new = (piece : List ℕ) × Takes old new piece

-- a reader gave bytes off its front, and this is so of them with whatever may be left behind them, and of that rest
pub record Gives (old new : Source) (P : List ℕ → List ℕ → Type 0) : Type 0 where
  pub piece : List ℕ
  pub taken : Takes old new piece
  pub value : (rest : List ℕ) → MayBeLeft new.bytes rest → P (piece ++ rest) rest

-- no more can be read: a read failed, or as much was read as may be, and more follows
abbrev pub IsCut : Source → Source → Type 0
IsCut old new = (new.failed ≡ true) ⊎ ((new.room ≡ 0) × IfKnown old.bytes new.bytes (λ _ rest. 0 < length rest))

-- a reader is cut, or else no read failed
abbrev pub CutsIf : Bool → Source → Source → Type 0
CutsIf true old new = IsCut old new
CutsIf false old new = new.failed ≡ old.failed
