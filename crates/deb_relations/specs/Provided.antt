-- What the text of a field `Provides` gives: names, each with its version or without one (Debian Policy 7.5).
use Rattle.std.specs.Prelude.{ℕ, Bool, List, [], ◌∷◌, Option, None, Some, if◌then◌else◌}
use Rattle.std.specs.List.{filter_map}
use Rattle.std.specs.Option.{option_map_or}
use Rattle.deb_version.specs.declared.operator.Op.{Op}
use Rattle.deb_version.specs.declared.operator.Op.TheVariants.{Equal, Earlier, EarlierOrEqual, LaterOrEqual, Later}
use Rattle.deb_relations.specs.declared.provided.Provided.{Provided}
use Rattle.deb_relations.specs.declared.relations.Alternative.{Alternative}
use Rattle.deb_relations.specs.declared.relations.Restriction.{Restriction}
use Rattle.deb_relations.specs.Reader.{read_groups}
use Rattle.deb_relations.specs.Reduction.{has_no_lists}

-- a name, and in which version it is given; none if it is given without one
abbrev pub named_offer : List ℕ → Option (List ℕ) → Provided
named_offer name version = record { name = name; version = version }

-- what an alternative with this name gives by its operator and version: `=` alone has a version to give (Policy 7.5)
abbrev pub given_as : List ℕ → Op → List ℕ → Option Provided
given_as name Equal version = Some (named_offer name (Some version))
given_as name Earlier version = None
given_as name EarlierOrEqual version = None
given_as name LaterOrEqual version = None
given_as name Later version = None

-- what an alternative with this name gives by what it asks for: without a version if it asks for none (Policy 7.5)
abbrev pub given_with : List ℕ → Option Restriction → Option Provided
given_with name None = Some (named_offer name None)
given_with name (Some asked) = given_as name asked.op asked.version

-- what an alternative gives: nothing if it has architectures or build profiles, which Policy 7.5 does not know
unfoldable pub given_by : Alternative → Option Provided
given_by a = if has_no_lists a then given_with a.name a.restriction else None

-- what a group gives: nothing if it has several alternatives, which Policy 7.5 does not know (this project's own)
abbrev pub given_by_group : List Alternative → Option Provided
given_by_group [] = None
given_by_group (a ∷ []) = given_by a
given_by_group (a ∷ b ∷ more) = None

-- what groups give, in their order
unfoldable pub given_in : List (List Alternative) → List Provided
given_in groups = filter_map given_by_group groups

-- what a text of any length gives (Policy 7.5; that it gives nothing if it has no reading is this project's own)
unfoldable pub provided_in : List ℕ → List Provided
provided_in text = option_map_or given_in (read_groups text) []

-- what an alternative that stands alone in its group gives, if its name is wanted
abbrev pub wanted_by : (List ℕ → Bool) → List Alternative → Option Provided
wanted_by is_wanted [] = None
wanted_by is_wanted (a ∷ []) = if is_wanted a.name then given_by a else None
wanted_by is_wanted (a ∷ b ∷ more) = None
