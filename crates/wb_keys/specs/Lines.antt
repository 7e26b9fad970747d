-- The lines with a key as they are kept: by their hashes, and their names besides.
use Rattle.std.specs.Prelude.{◌≡◌, List, map}
use Rattle.std.specs.String.{string_bytes}
use Rattle.indexmap.specs.IndexMap.{keys, values}
use Rattle.wb_keys.specs.declared.keys.KeyLine.{KeyLine}
use Rattle.wb_keys.specs.declared.lines.Lines.TheInside.{Inside}

-- the lines, in the order in which they came
abbrev pub kept_lines : Inside → List KeyLine
kept_lines kept = values kept.by_hash

-- each line is kept by its hash, and the names are those of the lines
pub record IsIndexed (kept : Inside) : Type 0 where
  pub hashes : keys kept.by_hash ≡ map (λ (line : KeyLine). line.hash) (kept_lines kept)
  pub names : map string_bytes kept.names.keys ≡ map (λ (line : KeyLine). line.name) (kept_lines kept)
