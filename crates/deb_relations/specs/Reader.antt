-- The reading of relations as a function, part by part; the grammar says what it is to give (Debian Policy 7.1).
use Rattle.std.specs.Prelude.{ℕ, drop, ◌==◌, Bool, true, false, not, ◌&&◌, List, [], ◌∷◌, ◌++◌, filter, if◌then◌else◌}
use Rattle.std.specs.Prelude.{Option, None, Some}
use Prim.Native.Char.{code}
use Rattle.std.specs.List.{slice_split, take_while, prefix_len}
use Rattle.std.specs.Option.{option_map, option_and_then}
use Rattle.deb_version.specs.declared.operator.Op.{Op}
use Rattle.deb_version.specs.Syntax.{is_version_text}
use Rattle.deb_relations.specs.declared.relations.Kind.{Kind}
use Rattle.deb_relations.specs.declared.relations.Kind.TheVariants.{Arch, Profile}
use Rattle.deb_relations.specs.declared.relations.Term.{Term}
use Rattle.deb_relations.specs.declared.relations.Restriction.{Restriction}
use Rattle.deb_relations.specs.declared.relations.Alternative.{Alternative}
use Rattle.deb_text.specs.Lists.{is_nonempty}
use Rattle.deb_relations.specs.Grammar.{is_white, is_blank_text, is_comma, is_bar, is_right_angle, is_op_char, is_word, is_not_blank, op_of, words, are_alike}
use Rattle.deb_relations.specs.Names.{is_package_char, is_arch_char, is_package_name}
use Rattle.deb_text.specs.Options.{both, all_some}

-- what stands after the longest front of a text whose characters all pass a test
abbrev pub skip : (ℕ → Bool) → List ℕ → List ℕ
skip test text = drop (prefix_len test text) text

-- a character that is not white space (Policy 7.1)
unfoldable pub is_solid : ℕ → Bool
is_solid c = not (is_white c)

-- what stands after a first character, if that is c
abbrev pub strip : ℕ → List ℕ → Option (List ℕ)
strip c [] = None
strip c (x ∷ xs) = if x == c then Some xs else None

-- two halves of a text, with one more character before the first, if there are two
abbrev pub onto_front : ℕ → Option (List ℕ × List ℕ) → Option (List ℕ × List ℕ)
onto_front c = option_map (λ halves. (c ∷ halves.0, halves.1))

-- what stands before the first c, and after it, if the text has one
abbrev pub cut : ℕ → List ℕ → Option (List ℕ × List ℕ)
cut c [] = None
cut c (x ∷ xs) = if x == c then Some ([], xs) else onto_front x (cut c xs)

-- what was read and what is left, if something was read
abbrev pub with_rest : {X : Type 0} → List ℕ → Option X → Option (X × List ℕ)
with_rest rest = option_map (λ x. (x, rest))

-- what stands between two brackets and after them, from the text after the first bracket, if that bracket is there
abbrev pub between_opened : ℕ → Option (List ℕ) → Option (Option (List ℕ × List ℕ))
between_opened right None = Some None
between_opened right (Some behind) = option_map Some (cut right behind)

-- what stands between two brackets and after them, if the first of them is there; none at all if it is not closed
unfoldable pub between : ℕ → ℕ → List ℕ → Option (Option (List ℕ × List ℕ))
between left right text = between_opened right (strip left (skip is_white text))

-- nothing if there is no bracket, else the part between brackets, read
abbrev pub read_between : {X : Type 0} → (List ℕ → Option X) → X → List ℕ → Option (Option (List ℕ × List ℕ)) → Option (X × List ℕ)
read_between f none text None = None
read_between f none text (Some None) = Some (none, text)
read_between f none text (Some (Some halves)) = with_rest halves.1 (f halves.0)

-- a package name (Policy 7.1)
unfoldable pub read_name : List ℕ → Option (List ℕ × List ℕ)
read_name text =
    let front = skip is_white text in
    if is_package_name (take_while is_package_char front) then Some (take_while is_package_char front, skip is_package_char front) else None

-- a qualifier and what is left, of the text after a colon, if one stands first (deb-src-control(5))
abbrev pub read_behind_colon : List ℕ → Option (List ℕ) → Option (Option (List ℕ) × List ℕ)
read_behind_colon text None = Some (None, text)
read_behind_colon text (Some behind) =
    if is_nonempty (take_while is_arch_char behind) then Some (Some (take_while is_arch_char behind), skip is_arch_char behind) else None

-- a qualifier, if a colon stands first, and what is left (deb-src-control(5))
unfoldable pub read_qualifier : List ℕ → Option (Option (List ℕ) × List ℕ)
read_qualifier text = read_behind_colon text (strip (code ":") text)

-- the restriction of an operator and a version, if both are there and white space alone follows (Policy 7.1)
abbrev pub asked_of : Option Op → List ℕ → List ℕ → Option Restriction
asked_of None version after = None
asked_of (Some op) version after =
    if is_version_text version && is_blank_text after then Some (record { op = op; version = version }) else None

-- the restriction of an operator and of the text after it, which is a version up to white space (Policy 7.1)
abbrev pub asked_behind : Option Op → List ℕ → Option Restriction
asked_behind op text = asked_of op (take_while is_solid text) (skip is_solid text)

-- the restriction of a text that begins with its operator (Policy 7.1)
abbrev pub asked_from : List ℕ → Option Restriction
asked_from text = asked_behind (op_of (take_while is_op_char text)) (skip is_white (skip is_op_char text))

-- an operator and a version, as the text inside parentheses has them (Policy 7.1)
unfoldable pub restriction_of : List ℕ → Option Restriction
restriction_of inside = asked_from (skip is_white inside)

-- the restriction inside parentheses, as a part that is written (Policy 7.1)
abbrev pub asked_inside : List ℕ → Option (Option Restriction)
asked_inside inside = option_map Some (restriction_of inside)

-- an operator and a version in parentheses, if these stand first, and what is left (Policy 7.1)
unfoldable pub read_restriction : List ℕ → Option (Option Restriction × List ℕ)
read_restriction text = read_between asked_inside None text (between (code "(") (code ")") text)

-- a word that is negated or plain, if it has the form of its kind (Policy 7.1)
abbrev pub signed : Kind → Bool → List ℕ → Option Term
signed kind negated word = if is_word kind word then Some (record { negated = negated; word = word }) else None

-- a word of a list: what stands after `!`, negated, or the plain word if there is no `!` (Policy 7.1)
abbrev pub term_behind : Kind → List ℕ → Option (List ℕ) → Option Term
term_behind kind word None = signed kind false word
term_behind kind word (Some behind) = signed kind true behind

-- a word of a list, perhaps after `!` (Policy 7.1)
unfoldable pub term_of : Kind → List ℕ → Option Term
term_of kind word = term_behind kind word (strip (code "!") word)

-- the items that were read, if there is at least one
abbrev pub filled_only : {X : Type 0} → Option (List X) → Option (List X)
filled_only None = None
filled_only (Some []) = None
filled_only (Some (x ∷ xs)) = Some (x ∷ xs)

-- the words of a list, at least one (Policy 7.1)
unfoldable pub terms_of : Kind → List ℕ → Option (List Term)
terms_of kind inside = filled_only (all_some (term_of kind) (words inside))

-- the words that were read, if all are negated or none is (Policy 7.1)
abbrev pub alike_only : Option (List Term) → Option (List Term)
alike_only = option_and_then (λ terms. if are_alike terms then Some terms else None)

-- architecture words of one sign (Policy 7.1)
unfoldable pub arch_terms_of : List ℕ → Option (List Term)
arch_terms_of inside = alike_only (terms_of Arch inside)

-- architecture words in brackets, if these stand first, and what is left (Policy 7.1)
unfoldable pub read_archs : List ℕ → Option (List Term × List ℕ)
read_archs text = read_between arch_terms_of [] text (between (code "[") (code "]") text)

-- a list of build profiles, from the text after its opening bracket, if that bracket is there (deb-src-control(5))
abbrev pub profile_behind : Option (List ℕ) → Option (List Term)
profile_behind = option_and_then (terms_of Profile)

-- a list of build profiles, before its closing bracket (deb-src-control(5))
unfoldable pub profile_of : List ℕ → Option (List Term)
profile_of piece = profile_behind (strip (code "<") (skip is_white piece))

-- the lists of build profiles, each before a closing bracket, and white space at the end (deb-src-control(5))
abbrev pub lists_of : List (List ℕ) → Option (List (List Term))
lists_of [] = None
lists_of (last ∷ []) = if is_blank_text last then Some [] else None
lists_of (piece ∷ (next ∷ more)) = both (profile_of piece) (lists_of (next ∷ more))

-- the lists of build profiles of a text, each in angle brackets (deb-src-control(5))
unfoldable pub read_profiles : List ℕ → Option (List (List Term))
read_profiles text = lists_of (slice_split is_right_angle text)

-- an alternative of these parts and of its build profiles, if they were read (Policy 7.1)
abbrev pub with_profiles : List ℕ → Option (List ℕ) → Option Restriction → List Term → Option (List (List Term)) → Option Alternative
with_profiles name qualifier asked archs =
    option_map (λ profiles. record { name = name; qualifier = qualifier; restriction = asked; archs = archs; profiles = profiles })

-- an alternative of these parts, of its architectures, if they were read, and of what is left (Policy 7.1)
abbrev pub with_archs : List ℕ → Option (List ℕ) → Option Restriction → Option (List Term × List ℕ) → Option Alternative
with_archs name qualifier asked = option_and_then (λ found. with_profiles name qualifier asked found.0 (read_profiles found.1))

-- an alternative of a name and a qualifier, of the version that it asks for, if it was read, and of what is left (Policy 7.1)
abbrev pub with_asked : List ℕ → Option (List ℕ) → Option (Option Restriction × List ℕ) → Option Alternative
with_asked name qualifier = option_and_then (λ found. with_archs name qualifier found.0 (read_archs found.1))

-- an alternative of a name, of its qualifier, if it was read, and of what is left (Policy 7.1)
abbrev pub with_qualifier : List ℕ → Option (Option (List ℕ) × List ℕ) → Option Alternative
with_qualifier name = option_and_then (λ found. with_asked name found.0 (read_restriction found.1))

-- an alternative of its name, if it was read, and of what is left (Policy 7.1)
abbrev pub with_name : Option (List ℕ × List ℕ) → Option Alternative
with_name = option_and_then (λ found. with_qualifier found.0 (read_qualifier found.1))

-- an alternative, part by part (Policy 7.1)
unfoldable pub read_alternative : List ℕ → Option Alternative
read_alternative text = with_name (read_name text)

-- the alternatives of a group (Policy 7.1)
unfoldable pub read_group : List ℕ → Option (List Alternative)
read_group text = all_some read_alternative (slice_split is_bar text)

-- the groups, blank ones left out (Policy 7.1)
unfoldable pub read_groups : List ℕ → Option (List (List Alternative))
read_groups text = all_some read_group (filter is_not_blank (slice_split is_comma text))

-- groups, and one more after them, if it was read (Policy 7.1)
abbrev pub push_group : List (List Alternative) → Option (List Alternative) → Option (List (List Alternative))
push_group made = option_map (λ group. made ++ group ∷ [])

-- groups, and after them that of a piece, if the piece is not blank (Policy 7.1)
unfoldable pub with_group : List (List Alternative) → List ℕ → Option (List (List Alternative))
with_group made piece = if is_not_blank piece then push_group made (read_group piece) else Some made
