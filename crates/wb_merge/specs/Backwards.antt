-- Texts that are read from their ends.
use Rattle.std.specs.Prelude.{ℕ, Bool, false, ◌&&◌, ◌==◌, List, [], ◌∷◌}
use Prim.Native.Char.{code}

-- whether a text begins with `b` and `+`
abbrev pub begins_plus_b : List ℕ → Bool
begins_plus_b [] = false
begins_plus_b (c ∷ []) = false
begins_plus_b (c ∷ d ∷ _) = c == code "b" && d == code "+"
