-- The texts that are versions, said as a grammar (Debian Policy 5.6.12).
use Rattle.std.specs.Prelude.{◌≡◌, ℕ, ◌≤◌, ◌<◌, true, false, List, [], ◌++◌, length, Option, None, Some, IfSome, codes}
use Rattle.std.specs.List.{list_any, list_all}
use Rattle.deb_version.specs.Syntax.{Parts, is_colon, is_hyphen, is_upstream_char, is_revision_char, all_digits, value_of, version_limit, epoch_limit}

-- the epoch as it is written, with the colon after it, or nothing (Policy 5.6.12)
abbrev pub epoch_part : Option (List ℕ) → List ℕ
epoch_part None = []
epoch_part (Some digits) = digits ++ codes ":"

-- the revision as it is written, with the hyphen before it, or nothing (Policy 5.6.12)
abbrev pub revision_part : Option (List ℕ) → List ℕ
revision_part None = []
revision_part (Some revision) = codes "-" ++ revision

-- the digits of an epoch and its number, which is 0 if none is written (Policy 5.6.12, the limit this project's own)
abbrev pub IsEpoch : Option (List ℕ) → ℕ → Type 0
IsEpoch None number = number ≡ 0
IsEpoch (Some digits) number =
    (0 < length digits) × (all_digits digits ≡ true) × (number ≡ value_of digits) × (number ≤ epoch_limit)

-- an upstream version: one or more of its characters (Policy 5.6.12)
abbrev pub IsUpstream : List ℕ → Type 0
IsUpstream upstream = (0 < length upstream) × (list_all is_upstream_char upstream ≡ true)

-- a revision: one or more of its characters (Policy 5.6.12)
abbrev pub IsRevision : List ℕ → Type 0
IsRevision revision = (0 < length revision) × (list_all is_revision_char revision ≡ true)

-- a text is a version of these parts: `[epoch:]upstream[-revision]`, where an upstream version has no colon if no epoch stands before it, and no hyphen if no revision stands after it (Policy 5.6.12)
pub record IsVersion (text : List ℕ) (parts : Parts) : Type 0 where
  pub written : Option (List ℕ)
  pub joined : text ≡ epoch_part written ++ (parts.upstream ++ revision_part parts.revision)
  pub size : length text ≤ version_limit
  pub epoch : IsEpoch written parts.epoch
  pub upstream : IsUpstream parts.upstream
  pub no_colon : written ≡ None → list_any is_colon parts.upstream ≡ false
  pub no_hyphen : parts.revision ≡ None → list_any is_hyphen parts.upstream ≡ false
  pub revision : IfSome parts.revision IsRevision
