-- The grammar of relations between packages (Debian Policy 7.1; of qualifiers and build profiles dpkg's deb-src-control(5)).
use Rattle.std.specs.Prelude.{◌≡◌, ℕ, ◌≤◌, ◌==◌, Bool, true, not, ◌&&◌, ◌||◌, List, [], ◌∷◌, ◌++◌, map, filter, length, if◌then◌else◌, bytes_eq, codes}
use Rattle.std.specs.Prelude.{Option, None, Some}
use Prim.Native.Char.{code}
use Rattle.std.specs.Char.{is_ascii_alphanumeric}
use Rattle.std.specs.List.{AllZip, list_all, slice_split}
use Rattle.deb_version.specs.declared.operator.Op.{Op}
use Rattle.deb_version.specs.declared.operator.Op.TheVariants.{Earlier, EarlierOrEqual, Equal, LaterOrEqual, Later}
use Rattle.deb_version.specs.Syntax.{fault_of}
use Rattle.deb_relations.specs.declared.relations.Kind.{Kind}
use Rattle.deb_relations.specs.declared.relations.Kind.TheVariants.{Arch, Profile}
use Rattle.deb_relations.specs.declared.relations.Term.{Term}
use Rattle.deb_relations.specs.declared.relations.Restriction.{Restriction}
use Rattle.deb_relations.specs.declared.relations.Alternative.{Alternative}
use Rattle.deb_relations.specs.Names.{is_arch_char, is_arch_word, is_package_name}
use Rattle.deb_relations.specs.Printing.{term_text}
use Rattle.deb_text.specs.Lists.{is_nonempty}

-- a space, a tab, a line feed or a carriage return (Policy 7.1)
unfoldable pub is_white : ℕ → Bool
is_white c = c == code " " || (c == code "\t" || (c == code "\n" || c == code "\r"))

-- whether a text has white space alone
abbrev pub is_blank_text : List ℕ → Bool
is_blank_text text = list_all is_white text

-- the comma between groups (Policy 7.1)
abbrev pub is_comma : ℕ → Bool
is_comma c = c == code ","

-- the bar between alternatives (Policy 7.1)
abbrev pub is_bar : ℕ → Bool
is_bar c = c == code "|"

-- the angle bracket that closes a list of build profiles (deb-src-control(5))
abbrev pub is_right_angle : ℕ → Bool
is_right_angle c = c == code ">"

-- a character of which the name of a build profile is made (this project's own)
unfoldable pub is_profile_char : ℕ → Bool
is_profile_char c = is_ascii_alphanumeric c || (c == code "." || (c == code "+" || (c == code "-" || c == code "_")))

-- a character of which an operator is made (Policy 7.1)
unfoldable pub is_op_char : ℕ → Bool
is_op_char c = c == code "<" || (c == code "=" || c == code ">")

-- a qualifier (deb-src-control(5))
unfoldable pub is_qualifier : List ℕ → Bool
is_qualifier word = is_nonempty word && list_all is_arch_char word

-- a word of a list of either kind (Policy 7.1)
unfoldable pub is_word : Kind → List ℕ → Bool
is_word Arch word = is_arch_word word
is_word Profile word = is_nonempty word && list_all is_profile_char word

-- the operator that a text writes, where `<` and `>` are read as `<=` and `>=` (Policy 7.1, the reading of `<` and `>` this project's own, as dpkg's)
unfoldable pub op_of : List ℕ → Option Op
op_of text =
    if bytes_eq text (codes "<<") then Some Earlier
    else (if bytes_eq text (codes "<=") then Some EarlierOrEqual
    else (if bytes_eq text (codes "<") then Some EarlierOrEqual
    else (if bytes_eq text (codes "=") then Some Equal
    else (if bytes_eq text (codes ">=") then Some LaterOrEqual
    else (if bytes_eq text (codes ">") then Some LaterOrEqual
    else (if bytes_eq text (codes ">>") then Some Later else None))))))

-- white space, a package name, and what is left (Policy 7.1)
pub record TakesName (text name rest : List ℕ) : Type 0 where
  pub gap : List ℕ
  pub split : text ≡ gap ++ (name ++ rest)
  pub blank : is_blank_text gap ≡ true
  pub form : is_package_name name ≡ true

-- nothing, or directly a colon and a qualifier, and what is left (deb-src-control(5))
abbrev pub TakesQualifier : List ℕ → Option (List ℕ) → List ℕ → Type 0
TakesQualifier text None rest = text ≡ rest
TakesQualifier text (Some word) rest = (text ≡ codes ":" ++ (word ++ rest)) × (is_qualifier word ≡ true)

-- white space, a bracket, the text inside, its closing bracket, and what is left (Policy 7.1)
pub record InBrackets (left right : ℕ) (text inside rest : List ℕ) : Type 0 where
  pub gap : List ℕ
  pub split : text ≡ gap ++ (left ∷ (inside ++ (right ∷ rest)))
  pub blank : is_blank_text gap ≡ true

-- an operator, with white space round it, and what is left (Policy 7.1)
pub record TakesOperator (text : List ℕ) (op : Op) (rest : List ℕ) : Type 0 where
  pub front : List ℕ
  pub operator : List ℕ
  pub middle : List ℕ
  pub split : text ≡ front ++ (operator ++ (middle ++ rest))
  pub front_blank : is_blank_text front ≡ true
  pub middle_blank : is_blank_text middle ≡ true
  pub means : op_of operator ≡ Some op

-- an operator and a version, with white space round them (Policy 7.1)
pub record IsRestriction (inside : List ℕ) (asked : Restriction) : Type 0 where
  pub back : List ℕ
  pub operator : TakesOperator inside asked.op (asked.version ++ back)
  pub back_blank : is_blank_text back ≡ true
  pub version : fault_of asked.version ≡ None

-- nothing, or an operator and a version in parentheses, and what is left (Policy 7.1)
abbrev pub TakesRestriction : List ℕ → Option Restriction → List ℕ → Type 0
TakesRestriction text None rest = text ≡ rest
TakesRestriction text (Some asked) rest = (inside : List ℕ) × (InBrackets (code "(") (code ")") text inside rest × IsRestriction inside asked)

-- the words of a text, which white space separates (Policy 7.1)
unfoldable pub words : List ℕ → List (List ℕ)
words text = filter is_nonempty (slice_split is_white text)

-- words of one kind, each perhaps after `!`, and at least one of them (Policy 7.1)
pub record ReadsTerms (kind : Kind) (inside : List ℕ) (terms : List Term) : Type 0 where
  pub written : words inside ≡ map term_text terms
  pub filled : is_nonempty terms ≡ true
  pub forms : list_all (λ term. is_word kind term.word) terms ≡ true

-- whether all words of a list are negated, or none is (Policy 7.1; that a list of both is refused is this project's own)
abbrev pub are_alike : List Term → Bool
are_alike [] = true
are_alike (term ∷ terms) = list_all (λ other. if term.negated then other.negated else not other.negated) terms

-- nothing, or architecture words of one sign in brackets, and what is left (Policy 7.1)
abbrev pub TakesArchs : List ℕ → List Term → List ℕ → Type 0
TakesArchs text [] rest = text ≡ rest
TakesArchs text (term ∷ terms) rest =
    (inside : List ℕ) × (InBrackets (code "[") (code "]") text inside rest × (ReadsTerms Arch inside (term ∷ terms) × (are_alike (term ∷ terms) ≡ true)))

-- each list of build profiles in angle brackets, and at the end white space alone (deb-src-control(5))
abbrev pub ReadsProfiles : List ℕ → List (List Term) → Type 0
ReadsProfiles text [] = is_blank_text text ≡ true
ReadsProfiles text (terms ∷ more) =
    (inside : List ℕ) × ((rest : List ℕ) × (InBrackets (code "<") (code ">") text inside rest × (ReadsTerms Profile inside terms × ReadsProfiles rest more)))

-- the parts of an alternative, one after the other (Policy 7.1)
pub record ReadsAlternative (text : List ℕ) (a : Alternative) : Type 0 where
  pub after_name : List ℕ
  pub after_qualifier : List ℕ
  pub after_restriction : List ℕ
  pub after_archs : List ℕ
  pub name : TakesName text a.name after_name
  pub qualifier : TakesQualifier after_name a.qualifier after_qualifier
  pub restriction : TakesRestriction after_qualifier a.restriction after_restriction
  pub archs : TakesArchs after_restriction a.archs after_archs
  pub profiles : ReadsProfiles after_archs a.profiles

-- alternatives between bars (Policy 7.1)
abbrev pub ReadsGroup : List ℕ → List Alternative → Type 0
ReadsGroup text group = AllZip ReadsAlternative (slice_split is_bar text) group

-- whether a text has more than white space
unfoldable pub is_not_blank : List ℕ → Bool
is_not_blank text = not (is_blank_text text)

-- the most bytes of relations
abbrev pub relations_limit : ℕ
relations_limit = 65536

-- a text within the limit with its groups between commas, where blank groups are skipped (Policy 7.1, the limit and the skipping this project's own)
unfoldable pub Reads : List ℕ → List (List Alternative) → Type 0
Reads text groups = (length text ≤ relations_limit) × AllZip ReadsGroup (filter is_not_blank (slice_split is_comma text)) groups
