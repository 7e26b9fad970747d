-- The limits of what is kept.
pub use Rattle.deb_relations.specs.Grammar.{relations_limit}
use Rattle.std.specs.Prelude.{ℕ, ℤ, pos, neg_ℤ, int_le, Bool, ◌&&◌}

-- Each limit stands here as its number, and as a constant in the code. The prover compares the two wherever a clause
-- tests the limit, so a constant that changes alone is refused. That the number is the documented one is read.
-- Definitions that took the constants would change with them, and nothing would be refused.

-- the greatest count
abbrev pub count_limit : ℕ
count_limit = 1000000000000

-- the greatest number of a binary-only rebuild (this project's own)
abbrev pub rebuild_limit : ℕ
rebuild_limit = 999

-- the most bytes of a note, a reason or a message
abbrev pub note_limit : ℕ
note_limit = 1000

-- a build priority lies within its limit on either side of 0 (this project's own)
abbrev pub is_build_priority : ℤ → Bool
is_build_priority value = int_le (neg_ℤ (pos 1000)) value && int_le value (pos 1000)
