-- Who may ask an office for what: everybody, or who has a key.
use Rattle.std.specs.Prelude.{ℕ, List, [], ◌∷◌, Option, Some, None}
use Rattle.std.specs.Option.{option_map}
use Rattle.wb_keys.specs.declared.access.Access.{Access}
use Rattle.wb_keys.specs.declared.access.Access.TheVariants.{Everybody, ByKeys}
use Rattle.wb_keys.specs.declared.access.Shown.{Shown}
use Rattle.wb_keys.specs.declared.access.Shown.TheVariants.{Nothing, Malformed, Hash}
use Rattle.wb_keys.specs.declared.keys.KeyLine.{KeyLine}
use Rattle.wb_keys.specs.declared.keys.Keys.{Keys}
use Rattle.wb_keys.specs.declared.right.Right.{Right}
use Rattle.wb_keys.specs.declared.right.Right.TheVariants.{Operate}
use Rattle.wb_keys.specs.KeyFile.{line_by_hash, rights_by_hash}

-- an office without keys: everybody may ask for everything, whatever a request shows
abbrev pub everybody : Access
everybody = Everybody

-- the rights of a request by the lines of keys: those of the line `*` if it shows nothing, none if it shows a malformed
-- key, and those of the line with the hash of the key that it shows
abbrev pub rights_by_keys : Keys → Shown → Option (List Right)
rights_by_keys keys Nothing = keys.anyone
rights_by_keys keys Malformed = None
rights_by_keys keys (Hash hash) = rights_by_hash keys hash

-- the rights of a request by what it shows of a key: the right to everything in an office without keys
abbrev pub rights_of : Access → Shown → Option (List Right)
rights_of Everybody shown = Some (Operate ∷ [])
rights_of (ByKeys keys) shown = rights_by_keys keys shown

-- the name on the line of the key that a request shows
abbrev pub name_by_keys : Keys → Shown → Option (List ℕ)
name_by_keys keys Nothing = None
name_by_keys keys Malformed = None
name_by_keys keys (Hash hash) = option_map (λ (line : KeyLine). line.name) (line_by_hash keys hash)

-- the name on the line of a request by what it shows of a key
abbrev pub name_of : Access → Shown → Option (List ℕ)
name_of Everybody shown = None
name_of (ByKeys keys) shown = name_by_keys keys shown
