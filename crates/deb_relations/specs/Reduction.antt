-- What is left of relations for an architecture, if no build profile is active (Debian Policy 7.1).
use Rattle.std.specs.Prelude.{Bool, true, not, ◌&&◌, List, [], ◌∷◌, map, filter, if◌then◌else◌}
use Rattle.std.specs.List.{list_any, list_all}
use Rattle.deb_relations.specs.declared.arch.ArchWords.{ArchWords}
use Rattle.deb_relations.specs.declared.relations.Term.{Term}
use Rattle.deb_relations.specs.declared.relations.Alternative.{Alternative}
use Rattle.deb_relations.specs.Arch.{arch_matches}
use Rattle.deb_text.specs.Lists.{is_nonempty}

-- whether a word of the list matches the architecture (Policy 7.1)
unfoldable pub has_match : ArchWords → List Term → Bool
has_match arch terms = list_any (λ term. arch_matches term.word arch) terms

-- whether a list is for an architecture: it has no words, plain ones of which one matches, or negated ones of which none does (Policy 7.1)
abbrev pub is_for_arch : ArchWords → List Term → Bool
is_for_arch arch [] = true
is_for_arch arch (term ∷ terms) = if term.negated then not (has_match arch (term ∷ terms)) else has_match arch (term ∷ terms)

-- whether a list of build profiles holds while none is active: all its words are negated (deb-src-control(5); that none is active is this project's own)
unfoldable pub holds_without_profiles : List Term → Bool
holds_without_profiles terms = list_all (λ term. term.negated) terms

-- whether lists of build profiles are for builds under no profile: there are no lists, or one of them holds (deb-src-control(5))
abbrev pub is_for_no_profile : List (List Term) → Bool
is_for_no_profile [] = true
is_for_no_profile (terms ∷ more) = list_any holds_without_profiles (terms ∷ more)

-- whether an alternative is asked for on the architecture (Policy 7.1)
unfoldable pub is_kept : ArchWords → Alternative → Bool
is_kept arch a = is_for_arch arch a.archs && is_for_no_profile a.profiles

-- an alternative that is asked for on any architecture and under any build profile
abbrev pub without_lists : Alternative → Alternative
without_lists a = record a { archs = []; profiles = [] }

-- whether an alternative is asked for on any architecture and under any build profile
abbrev pub has_no_lists : Alternative → Bool
has_no_lists a = not (is_nonempty a.archs) && not (is_nonempty a.profiles)

-- the alternatives that are asked for, without their lists
unfoldable pub reduced_group : ArchWords → List Alternative → List Alternative
reduced_group arch group = map without_lists (filter (is_kept arch) group)

-- the groups of which an alternative is left
unfoldable pub reduced : ArchWords → List (List Alternative) → List (List Alternative)
reduced arch groups = filter is_nonempty (map (reduced_group arch) groups)
