-- How many lines a run answers.
use Rattle.std.specs.Prelude.{◌≡◌, ◌⊎◌, ℕ, ◌≤◌, List, [], ◌∷◌, ◌++◌, length}

-- the greatest number of lines that end with a line feed
abbrev pub lines_limit : ℕ
lines_limit = 1000000000

-- at most the greatest number of lines, or one more that is empty, after the last line feed
abbrev pub AreWithinLimit : List (List ℕ) → Type 0
AreWithinLimit lines =
    (length lines ≤ lines_limit)
    ⊎ ((before : List (List ℕ)) × (lines ≡ before ++ [] ∷ []) × (length before ≡ lines_limit))
