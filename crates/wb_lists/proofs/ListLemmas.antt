-- Lemmas on what files may be read as, and on the parts of a merge.
use Rattle.std.proofs.Common.{ℕ, inl, inr, List, [], ◌∷◌}
use Rattle.wb_states.specs.declared.command.Command.{Command}
use Rattle.wb_states.specs.declared.command.Part.{Part}
use Rattle.wb_lists.specs.declared.names.PartNames.{PartNames}
use Rattle.wb_lists.specs.Lists.{MayRead, MayReadLess, MayReadMerge, MayReadParts, LacksMerge, LacksPart}

pub MayReadLess-then : (a b c : MayRead) → MayReadLess a b → MayReadLess b c → MayReadLess a c
MayReadLess-then a b c m n = (λ name bytes h. m.0 name bytes (n.0 name bytes h), λ name h. m.1 name (n.1 name h))

pub MayReadLess-same : (a : MayRead) → MayReadLess a a
MayReadLess-same a = (λ name bytes h. h, λ name h. h)

-- what parts may be read as later they might be read as before
pub MayReadParts-more : (old new : MayRead) → MayReadLess old new → (names : List PartNames) (parts : List Part)
    → MayReadParts new names parts → MayReadParts old names parts
MayReadParts-more old new m [] [] g = g
MayReadParts-more old new m [] (part ∷ parts) g = g
MayReadParts-more old new m (name ∷ names) [] g = g
MayReadParts-more old new m (name ∷ names) (part ∷ parts) g =
    ((g.0.0, m.0 name.packages part.packages g.0.1), MayReadParts-more old new m names parts g.1)

pub MayReadMerge-more : (old new : MayRead) → MayReadLess old new
    → (sources : List ℕ) (names : List PartNames) (command : Command)
    → MayReadMerge new sources names command → MayReadMerge old sources names command
MayReadMerge-more old new m sources names command g = record {
  text = g.text;
  reads = m.0 sources g.text g.reads;
  parts = g.parts;
  are = MayReadParts-more old new m names g.parts g.are;
  others = g.others;
  stand = g.stand;
  is = g.is;
}

-- lists that may not be opened later might not be opened before
pub LacksPart-more : (old new : MayRead) → MayReadLess old new → (names : List PartNames) → LacksPart new names
    → LacksPart old names
LacksPart-more old new m names h = record {
  before = h.before;
  name = h.name;
  after = h.after;
  parts = h.parts;
  is = h.is;
  given = MayReadParts-more old new m h.before h.parts h.given;
  lacks = m.1 h.name.packages h.lacks;
}

pub LacksMerge-more : (old new : MayRead) → MayReadLess old new → (sources : List ℕ) (names : List PartNames)
    → LacksMerge new sources names → LacksMerge old sources names
LacksMerge-more old new m sources names (inl h) = inl (m.1 sources h)
LacksMerge-more old new m sources names (inr h) = inr (h.0, m.0 sources h.0 h.1, LacksPart-more old new m names h.2)
