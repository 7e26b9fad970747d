-- What packages are available in which versions, and when they satisfy relations (Debian Policy 7.1 and 7.5).
use Rattle.std.specs.Prelude.{◌≡◌, ◌↔◌, ℕ, Bool, true, false, not, List, [], ◌∷◌, ◌++◌, filter, map, bytes_eq, Option, None, Some, unwrap_or, if◌then◌else◌}
use Rattle.std.specs.List.{AllByRecursion, flat_map, list_any, list_all}
use Rattle.std.specs.Coded.{Coded, coded_ℕ, coded_list, coded_option}
use Rattle.std.specs.FinMap as map
use Rattle.deb_version.specs.Operator.{meets}
use Rattle.deb_text.specs.Lists.{IsIn}
use Rattle.deb_text.specs.Text.{text_cmp}
use Rattle.deb_relations.specs.declared.relations.Restriction.{Restriction}
use Rattle.deb_relations.specs.declared.relations.Alternative.{Alternative}

-- in which version a name is available; none of a name that is provided without one (Policy 7.5)
abbrev pub Offer : Type 0
Offer = Option (List ℕ)

-- what is available: for each name the versions of its packages and of those that provide it
abbrev pub Pairs : Type 0
Pairs = map.FinMap text_cmp (List Offer)

-- the code of what is available
abbrev pub coded_pairs : Coded Pairs
coded_pairs = map.code (coded_list coded_ℕ) (coded_list (coded_option (coded_list coded_ℕ)))

-- nothing is available
abbrev pub no_pairs : Pairs
no_pairs = map.empty

-- the versions in which a name is available
unfoldable pub versions_of : Pairs → List ℕ → List Offer
versions_of pairs name = unwrap_or (map.get pairs name) []

-- what is available, with one more version of a name
unfoldable pub with_pair : Pairs → List ℕ → Offer → Pairs
with_pair pairs name version = map.insert pairs name (versions_of pairs name ++ version ∷ [])

-- whether a version is one that is asked for (Policy 7.1); a name without a version meets no restriction (Policy 7.5)
abbrev pub meets_restriction : Option Restriction → Offer → Bool
meets_restriction None version = true
meets_restriction (Some asked) None = false
meets_restriction (Some asked) (Some version) = meets asked.op version asked.version

-- whether the alternative's name is available in a version that it asks for (Policy 7.1; that a qualifier plays no part is this project's own)
unfoldable pub is_alternative_met : Pairs → Alternative → Bool
is_alternative_met pairs a = list_any (meets_restriction a.restriction) (versions_of pairs a.name)

-- whether an alternative of a group is met (Policy 7.1)
unfoldable pub is_group_met : Pairs → List Alternative → Bool
is_group_met pairs group = list_any (is_alternative_met pairs) group

-- whether each group is met (Policy 7.1)
unfoldable pub satisfied : Pairs → List (List Alternative) → Bool
satisfied pairs groups = list_all (is_group_met pairs) groups

-- ---- the names on which it depends

-- the package names of relations, in their order
unfoldable pub all_names : List (List Alternative) → List (List ℕ)
all_names groups = flat_map (λ group. map (λ a. a.name) group) groups

-- texts, each once: where it first stands
abbrev pub each_once : List (List ℕ) → List (List ℕ)
each_once [] = []
each_once (text ∷ texts) = text ∷ filter (λ other. not (bytes_eq text other)) (each_once texts)

-- the package names of relations in the order in which they first stand, each once
unfoldable pub names_of : List (List Alternative) → List (List ℕ)
names_of groups = each_once (all_names groups)

-- whether a name is among others
abbrev pub is_among : List ℕ → List (List ℕ) → Bool
is_among name names = list_any (λ other. bytes_eq other name) names

-- names with one more at the end, unless it is among them
abbrev pub with_name : List (List ℕ) → List ℕ → List (List ℕ)
with_name names name = if is_among name names then names else names ++ name ∷ []

-- exactly these names pass a test
abbrev pub IsNameTest : (List ℕ → Bool) → List (List ℕ) → Type 0
IsNameTest test names = (name : List ℕ) → test name ≡ is_among name names

-- the same versions of each of these names are available
abbrev pub HaveSamePairs : Pairs → Pairs → List (List ℕ) → Type 0
HaveSamePairs one other names =
    AllByRecursion (λ name. (version : Offer) → IsIn version (versions_of one name) ↔ IsIn version (versions_of other name)) names
