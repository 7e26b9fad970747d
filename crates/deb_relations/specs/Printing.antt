-- How relations are printed (Debian Policy 7.1).
use Rattle.std.specs.Prelude.{ℕ, List, [], ◌∷◌, ◌++◌, Option, None, Some, if◌then◌else◌, codes}
use Rattle.std.specs.List.{flat_map, join_by}
use Rattle.deb_version.specs.declared.operator.Op.{Op}
use Rattle.deb_version.specs.declared.operator.Op.TheVariants.{Earlier, EarlierOrEqual, Equal, LaterOrEqual, Later}
use Rattle.deb_relations.specs.declared.relations.Term.{Term}
use Rattle.deb_relations.specs.declared.relations.Restriction.{Restriction}
use Rattle.deb_relations.specs.declared.relations.Alternative.{Alternative}

-- a word, after `!` if it is negated (Policy 7.1)
abbrev pub term_text : Term → List ℕ
term_text term = if term.negated then codes "!" ++ term.word else term.word

-- an operator as it is written (Policy 7.1)
abbrev pub op_text : Op → List ℕ
op_text Earlier = codes "<<"
op_text EarlierOrEqual = codes "<="
op_text Equal = codes "="
op_text LaterOrEqual = codes ">="
op_text Later = codes ">>"

-- a qualifier after its colon, directly after the name (deb-src-control(5))
abbrev pub qualifier_text : Option (List ℕ) → List ℕ
qualifier_text None = []
qualifier_text (Some word) = codes ":" ++ word

-- an operator and a version in parentheses (Policy 7.1)
abbrev pub restriction_text : Option Restriction → List ℕ
restriction_text None = []
restriction_text (Some asked) = codes " (" ++ (op_text asked.op ++ (codes " " ++ (asked.version ++ codes ")")))

-- the words of a list, with a space between each two (Policy 7.1)
unfoldable pub terms_text : List Term → List ℕ
terms_text = join_by term_text (codes " ")

-- the architectures in brackets, if there are any (Policy 7.1)
abbrev pub archs_text : List Term → List ℕ
archs_text [] = []
archs_text (term ∷ terms) = codes " [" ++ (terms_text (term ∷ terms) ++ codes "]")

-- a list of build profiles in angle brackets (deb-src-control(5))
abbrev pub profile_text : List Term → List ℕ
profile_text terms = codes " <" ++ (terms_text terms ++ codes ">")

-- each list of build profiles (deb-src-control(5))
abbrev pub profiles_text : List (List Term) → List ℕ
profiles_text = flat_map profile_text

-- the name, the qualifier, the version, the architectures, the build profiles (Policy 7.1)
unfoldable pub alternative_text : Alternative → List ℕ
alternative_text a =
    a.name ++ (qualifier_text a.qualifier ++ (restriction_text a.restriction ++ (archs_text a.archs ++ profiles_text a.profiles)))

-- alternatives with a bar between each two (Policy 7.1)
unfoldable pub group_text : List Alternative → List ℕ
group_text = join_by alternative_text (codes " | ")

-- groups with a comma between each two (Policy 7.1)
unfoldable pub printed : List (List Alternative) → List ℕ
printed = join_by group_text (codes ", ")
