-- What a text of relations is read as: its groups, else the first fault from the left, piece by piece (Debian Policy 7.1).
use Rattle.std.specs.Prelude.{◌≡◌, ℕ, ◌-◌, ◌+◌, ◌==◌, Bool, true, false, not, ◌&&◌, ◌||◌, List, [], ◌∷◌, ◌++◌, length, if◌then◌else◌, nat_lt, is_some, filter, codes}
use Rattle.std.specs.Prelude.{Option, None, Some, Result, Err}
use Prim.Native.Char.{code}
use Rattle.std.specs.List.{list_all, slice_split, take_while}
use Rattle.std.specs.Option.{ok_or, option_map_or}
use Rattle.deb_version.specs.declared.fault.VersionFault.{VersionFault}
use Rattle.deb_version.specs.declared.operator.Op.{Op}
use Rattle.deb_version.specs.Syntax.{fault_of, is_version_text}
use Rattle.deb_relations.specs.declared.fault.RelationFault.{RelationFault}
use Rattle.deb_relations.specs.declared.fault.RelationFault.TheVariants.{BadName, BadOperator, BadVersion, Mixed, Unclosed, EmptyAlternative, Stray, TooLong}
use Rattle.deb_relations.specs.declared.relations.Kind.{Kind}
use Rattle.deb_relations.specs.declared.relations.Kind.TheVariants.{Arch, Profile}
use Rattle.deb_relations.specs.declared.relations.Alternative.{Alternative}
use Rattle.deb_text.specs.Lists.{is_nonempty, begins}
use Rattle.deb_relations.specs.Grammar.{is_white, is_blank_text, is_comma, is_bar, is_right_angle, is_not_blank, is_op_char, op_of, words, relations_limit, TakesOperator}
use Rattle.deb_relations.specs.Reader.{skip, strip, is_solid, between, read_name, read_qualifier, read_restriction, term_of, terms_of, read_archs, profile_of, read_alternative, read_group, read_groups}

-- where a text begins that ends at the place end of the whole text
abbrev pub place_of : ℕ → List ℕ → ℕ
place_of end text = end - length text

-- where the text before a mark ends, if the text after the mark ends at the place end
abbrev pub end_before : ℕ → List ℕ → ℕ
end_before end behind = place_of end behind - 1

-- how many bytes pieces take, with a mark before each
abbrev pub span : List (List ℕ) → ℕ
span [] = 0
span (piece ∷ more) = 1 + (length piece + span more)

-- the fault of a name: none stands there, or no good one (Policy 7.1)
unfoldable pub name_fault : List ℕ → RelationFault
name_fault text = if is_nonempty (skip is_white text) then BadName else EmptyAlternative

-- the fault of a version, else that what stands at this place belongs to nothing (Policy 7.1)
abbrev pub version_fault : Option VersionFault → ℕ → RelationFault
version_fault (Some fault) place = BadVersion fault
version_fault None place = Stray place

-- the fault after an operator: of the text up to white space, which is to be a version, or of what follows it (Policy 7.1)
unfoldable pub fault_behind_operator : ℕ → List ℕ → RelationFault
fault_behind_operator end text = version_fault (fault_of (take_while is_solid text)) (place_of end (skip is_white (skip is_solid text)))

-- the fault of an operator, else that of what follows it (Policy 7.1)
abbrev pub operator_fault : Option Op → RelationFault → RelationFault
operator_fault None behind = BadOperator
operator_fault (Some op) behind = behind

-- the fault of an operator and a version, if the text inside the parentheses ends at the place end (Policy 7.1)
unfoldable pub asked_fault : ℕ → List ℕ → RelationFault
asked_fault end inside =
    let front = skip is_white inside in
    operator_fault (op_of (take_while is_op_char front)) (fault_behind_operator end (skip is_white (skip is_op_char front)))

-- the fault of a part in brackets: they are not closed, or that of the text inside, which may depend on what follows (Policy 7.1)
abbrev pub bracket_fault : (List ℕ → List ℕ → RelationFault) → Option (Option (List ℕ × List ℕ)) → RelationFault
bracket_fault fault None = Unclosed
bracket_fault fault (Some None) = Unclosed
bracket_fault fault (Some (Some halves)) = fault halves.0 halves.1

-- the fault of an operator and a version in parentheses (Policy 7.1)
unfoldable pub restriction_fault : ℕ → List ℕ → RelationFault
restriction_fault end text = bracket_fault (λ inside behind. asked_fault (end_before end behind) inside) (between (code "(") (code ")") text)

-- the fault of architecture words: one is missing or bad, or plain and negated ones stand together (Policy 7.1)
unfoldable pub words_fault : List ℕ → RelationFault
words_fault inside = if is_some (terms_of Arch inside) then Mixed else BadName

-- the fault of architecture words in brackets (Policy 7.1)
unfoldable pub archs_fault : List ℕ → RelationFault
archs_fault text = bracket_fault (λ inside behind. words_fault inside) (between (code "[") (code "]") text)

-- this fault if a list of build profiles begins, else that of a character that belongs to nothing (deb-src-control(5))
unfoldable pub list_fault : RelationFault → ℕ → List ℕ → RelationFault
list_fault fault end piece =
    let front = skip is_white piece in
    if is_some (strip (code "<") front) then fault else Stray (place_of end front)

-- the fault of lists of build profiles, each before a closing bracket: a word is missing or bad, or the last list is not closed (deb-src-control(5))
abbrev pub lists_fault : ℕ → List (List ℕ) → RelationFault
lists_fault end [] = Unclosed
lists_fault end (last ∷ []) = list_fault Unclosed end last
lists_fault end (piece ∷ (next ∷ more)) =
    if is_some (profile_of piece) then lists_fault end (next ∷ more) else list_fault BadName (end - span (next ∷ more)) piece

-- the fault of what stands after the architectures (Policy 7.1)
unfoldable pub profiles_fault : ℕ → List ℕ → RelationFault
profiles_fault end text = lists_fault end (slice_split is_right_angle text)

-- the fault of a part of an alternative if the part has no reading, else of what is left after it
abbrev pub or_behind : {X : Type 0} → RelationFault → (List ℕ → RelationFault) → Option (X × List ℕ) → RelationFault
or_behind fault behind found = option_map_or (λ pair. behind pair.1) found fault

-- the fault of the architectures, else of what follows them (Policy 7.1)
abbrev pub fault_behind_restriction : ℕ → List ℕ → RelationFault
fault_behind_restriction end text = or_behind (archs_fault text) (profiles_fault end) (read_archs text)

-- the fault of the version that is asked for, else of what follows it (Policy 7.1)
abbrev pub fault_behind_qualifier : ℕ → List ℕ → RelationFault
fault_behind_qualifier end text = or_behind (restriction_fault end text) (fault_behind_restriction end) (read_restriction text)

-- the fault of a qualifier, which is a bad name, else of what follows it (deb-src-control(5))
abbrev pub fault_behind_name : ℕ → List ℕ → RelationFault
fault_behind_name end text = or_behind BadName (fault_behind_qualifier end) (read_qualifier text)

-- the fault of an alternative that ends at the place end: of its name, else of what follows it (Policy 7.1)
unfoldable pub alternative_fault : ℕ → List ℕ → RelationFault
alternative_fault end text = or_behind (name_fault text) (fault_behind_name end) (read_name text)

-- the fault of the first piece that does not pass, if a mark stands between each two and the last ends at the place end
abbrev pub first_fault : (List ℕ → Bool) → (ℕ → List ℕ → RelationFault) → ℕ → List (List ℕ) → RelationFault
first_fault passes fault end [] = EmptyAlternative
first_fault passes fault end (piece ∷ more) =
    if passes piece then first_fault passes fault end more else fault (end - span more) piece

-- whether a text has a reading as an alternative
unfoldable pub is_alternative : List ℕ → Bool
is_alternative piece = is_some (read_alternative piece)

-- the fault of a group that ends at the place end: of its first alternative without a reading (Policy 7.1)
unfoldable pub group_fault : ℕ → List ℕ → RelationFault
group_fault end text = first_fault is_alternative alternative_fault end (slice_split is_bar text)

-- whether a text is blank, or has a reading as a group
unfoldable pub is_group_or_blank : List ℕ → Bool
is_group_or_blank piece = is_blank_text piece || is_some (read_group piece)

-- the fault of a whole text: of its first group that is not blank and has no reading (Policy 7.1)
unfoldable pub groups_fault : List ℕ → RelationFault
groups_fault text = first_fault is_group_or_blank group_fault (length text) (slice_split is_comma text)

-- A text without a reading has one fault, the first that a reader meets from the left, and not any of its faults: so a
-- command's refusal is a function of the command and the state.

-- the reading of a text: `TooLong` above the limit, else its groups, else its first fault (Policy 7.1, the limit this project's own)
unfoldable pub reading_of : List ℕ → Result (List (List Alternative)) RelationFault
reading_of text = if nat_lt relations_limit (length text) then Err TooLong else ok_or (read_groups text) (groups_fault text)

-- whether an alternative begins with a package name (Policy 7.1)
unfoldable pub begins_with_name : List ℕ → Bool
begins_with_name text = is_some (read_name text)

-- whether the first alternative of a group begins with a package name (Policy 7.1)
unfoldable pub is_group_begun : List ℕ → Bool
is_group_begun text = begins begins_with_name (slice_split is_bar text)

-- whether the first group that is not blank begins with a package name, the first thing for which memory is taken
unfoldable pub takes_memory : List ℕ → Bool
takes_memory text = begins is_group_begun (filter is_not_blank (slice_split is_comma text))

-- whether the text inside parentheses begins with an operator and a version, the first thing for which memory is taken
unfoldable pub begins_asked : List ℕ → Bool
begins_asked inside =
    let front = skip is_white inside in
    is_some (op_of (take_while is_op_char front)) && is_version_text (take_while is_solid (skip is_white (skip is_op_char front)))

-- whether what stands between two brackets passes a test
abbrev pub begins_inside : (List ℕ → Bool) → Option (Option (List ℕ × List ℕ)) → Bool
begins_inside test None = false
begins_inside test (Some None) = false
begins_inside test (Some (Some halves)) = test halves.0

-- whether the first word of a list is a good one, the first thing for which memory is taken
unfoldable pub begins_with_term : Kind → List ℕ → Bool
begins_with_term kind inside = begins (λ word. is_some (term_of kind word)) (words inside)

-- whether a list of build profiles begins, and its first word is a good one
unfoldable pub begins_profile : List ℕ → Bool
begins_profile piece = option_map_or (begins_with_term Profile) (strip (code "<") (skip is_white piece)) false

-- a character of which the text of a version is made: neither white space nor a closing parenthesis (Policy 7.1)
unfoldable pub is_asked_char : ℕ → Bool
is_asked_char c = is_solid c && not (c == code ")")

-- whether a text begins with white space or a closing parenthesis (Policy 7.1)
abbrev pub ends_asked : List ℕ → Bool
ends_asked text = begins (λ c. is_white c || c == code ")") text

-- a text that is no version, with this fault, stands after a parenthesis and an operator, up to white space or the closing parenthesis (Policy 7.1)
pub record HasBadVersion (text : List ℕ) (fault : VersionFault) : Type 0 where
  pub front : List ℕ
  pub inside : List ℕ
  pub op : Op
  pub word : List ℕ
  pub back : List ℕ
  pub split : text ≡ front ++ (codes "(" ++ inside)
  pub operator : TakesOperator inside op (word ++ back)
  pub whole : list_all is_asked_char word ≡ true
  pub ended : ends_asked back ≡ true
  pub version : fault_of word ≡ Some fault
