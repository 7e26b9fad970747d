-- Lines and words that are read one after another.
use Rattle.std.proofs.Common.{◌≡◌, ℕ, false, List, ◌++◌, Result, Ok, Err}
use Rattle.std.specs.Str.{IsUtf8, is_utf8}
use Rattle.std.proofs.lemmas.Bool.{false_from_ne_true}
use Rattle.std.proofs.lemmas.Str.{IsUtf8-from_is_utf8}
use Rattle.wb_keys.specs.declared.fault.LineFault.{LineFault}
use Rattle.wb_keys.specs.declared.right.Right.{Right}

-- bytes that are no text
pub is_utf8-false : (bytes : List ℕ) → ¬ (IsUtf8 bytes) → is_utf8 bytes ≡ false
is_utf8-false bytes h = false_from_ne_true (is_utf8 bytes) (λ e. h (IsUtf8-from_is_utf8 bytes e))

-- rights that were read, and what the words after them name
abbrev pub rights_after : List Right → Result (List Right) LineFault → Result (List Right) LineFault
rights_after read (Err wrong) = Err wrong
rights_after read (Ok later) = Ok (read ++ later)
