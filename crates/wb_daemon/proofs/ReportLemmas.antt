-- Lemmas on what the file of a report may be read as.
use Rattle.std.proofs.Common.{ℕ, ◌<◌, inl, inr, List, length, Option, None, Some, refl, ap, arith, length-append}
use Rattle.std.specs.Io.KnownBytes.{Consumes}
use Rattle.wb_lists.specs.Lists.{MayRead, MayReadLess, IsAllOf}
use Rattle.wb_daemon.specs.Reports.{LacksList, LacksReport, list_limit}

-- a file that is at fault later might be at fault before
pub LacksList-more : (old new : MayRead) → MayReadLess old new → (name : List ℕ)
    → LacksList new name → LacksList old name
LacksList-more old new m name (inl h) = inl (m.1 name h)
LacksList-more old new m name (inr h) = inr (h.0, m.0 name h.0 h.1, h.2)

-- a report that is at fault later might be at fault before
pub LacksReport-more : (old new : MayRead) → MayReadLess old new → (file : List ℕ)
    → LacksReport new file → LacksReport old file
LacksReport-more old new m file (inl h) = inl (LacksList-more old new m file h)
LacksReport-more old new m file (inr h) = inr (h.0, (m.0 file h.0 h.1.0, h.1.1), h.2)

-- a file of which more bytes were read than a report may have
pub too_long : (known left : Option (List ℕ)) (bytes : List ℕ) → list_limit < length bytes → Consumes known left bytes
    → (all : List ℕ) × IsAllOf known all × (list_limit < length all)
too_long None left bytes h p = (bytes, tt, h)
too_long (Some xs) None bytes h p = absurd p
too_long (Some xs) (Some ys) bytes h p = (xs, refl, omega (arith, ap length p, length-append bytes ys, h))
