-- The fields that the lines of a paragraph are, and the first fault of lines that are none, after Debian Policy 5.1.
use Rattle.std.specs.Prelude.{◌≡◌, ℕ, Bool, true, false, not, ◌&&◌, ◌||◌, ◌==◌, ◌<◌, ◌≤◌, nat_lt, ⊤, IsUtf8, if◌then◌else◌, List, [], ◌∷◌, ◌++◌, map, length, drop, Option, None, Some, Result, Ok, Err, filter, find, is_none, codes}
use Prim.Native.Char.{code}
use Rattle.std.specs.List.{before_first, after_first, take_while, position_or_len, list_all, list_any, concat, join_with_byte, slice_get}
use Rattle.std.specs.Char.{is_ascii_graphic}
use Rattle.std.specs.Str.{is_utf8, bytes_eq, str_to_ascii_lowercase, str_eq_ignore_ascii_case}
use Rattle.std.specs.Option.{option_or, option_map_or}
use Rattle.deb_control.specs.declared.fault.ControlFaultKind.{ControlFaultKind}
use Rattle.deb_control.specs.declared.fault.ControlFaultKind.TheVariants.{TooLarge, NotUtf8, Orphan, NoColon, BadName, Duplicate}
use Rattle.deb_control.specs.Lines.{is_continuation, body_of, lines_in, trim_end, trim, is_nonempty}

-- a field with its name, what stands after the colon, and its continuation lines (Policy 5.1)
pub record FieldText : Type 0 where
  pub name : List ℕ
  pub first : List ℕ
  pub lines : List (List ℕ)

-- a colon, which ends a field's name (Policy 5.1)
abbrev pub is_colon : ℕ → Bool
is_colon c = c == code ":"

-- what a continuation line adds: all but its first character and the spaces and tabs at its end
unfoldable pub continued : List ℕ → List ℕ
continued line = trim_end (drop 1 line)

-- whether a line has a colon (Policy 5.1)
unfoldable pub has_colon : List ℕ → Bool
has_colon line = nat_lt (position_or_len is_colon line) (length line)

-- the name of a field, which stands before the first colon (Policy 5.1)
unfoldable pub name_of : List ℕ → List ℕ
name_of line = before_first is_colon line

-- the first value of a field, which stands after the first colon, trimmed (Policy 5.1)
unfoldable pub first_of : List ℕ → List ℕ
first_of line = trim (after_first is_colon line)

-- whether a character may stand in a name: `!` to `9` and `;` to `~` (Policy 5.1)
unfoldable pub is_name_char : ℕ → Bool
is_name_char c = is_ascii_graphic c && not (is_colon c)

-- whether a text begins with a character that may begin a name, so neither `#` nor `-` (Policy 5.1; that `#` begins no comment is this project's own)
unfoldable pub begins_name : List ℕ → Bool
begins_name text = option_map_or (λ c. not (c == code "#" || c == code "-")) (slice_get text 0) false

-- whether a text is the name of a field (Policy 5.1)
unfoldable pub is_name : List ℕ → Bool
is_name name = begins_name name && list_all is_name_char name

-- the field of a line that is no continuation and of the lines after it (Policy 5.1)
unfoldable pub field_of : List ℕ → List (List ℕ) → FieldText
field_of line lines = record { name = name_of line; first = first_of line; lines = map continued (take_while is_continuation lines) }

-- the fields of lines: one for each line that is no continuation (Policy 5.1)
abbrev pub fields_of : List (List ℕ) → List FieldText
fields_of [] = []
fields_of (line ∷ lines) = if is_continuation line then fields_of lines else field_of line lines ∷ fields_of lines

-- what is wrong with a line that is no continuation, by itself (Policy 5.1; that a comment is a fault is this project's own)
unfoldable pub form_fault : List ℕ → Option ControlFaultKind
form_fault line = if has_colon line then (if is_name (name_of line) then None else Some BadName) else Some NoColon

-- whether a name in lower case is among names in lower case (Policy 5.1)
abbrev pub is_among : List ℕ → List (List ℕ) → Bool
is_among name names = list_any (λ other. bytes_eq other name) names

-- the names of fields, in lower case (Policy 5.1)
abbrev pub names_in : List FieldText → List (List ℕ)
names_in fields = map (λ field. str_to_ascii_lowercase field.name) fields

-- what is wrong with a line after lines that gave these names (Policy 5.1)
unfoldable pub line_fault : List (List ℕ) → List ℕ → Option ControlFaultKind
line_fault names line =
    if is_continuation line then (if length names == 0 then Some Orphan else None)
    else option_or (form_fault line) (if is_among (str_to_ascii_lowercase (name_of line)) names then Some Duplicate else None)

-- the names in lower case once a line was read (Policy 5.1)
unfoldable pub names_after : List (List ℕ) → List ℕ → List (List ℕ)
names_after names line = if is_continuation line then names else names ++ str_to_ascii_lowercase (name_of line) ∷ []

-- exactly these names, in lower case, pass a test
abbrev pub IsNameSet : (List ℕ → Bool) → List (List ℕ) → Type 0
IsNameSet test names = (name : List ℕ) → test name ≡ is_among name names

-- the field that begins at a line after which this text stands, if one does (Policy 5.1)
unfoldable pub fields_at : List ℕ → List ℕ → List FieldText
fields_at line rest = if is_continuation line then [] else field_of line (lines_in rest) ∷ []

-- what is wrong with the first bad line, after lines that gave these names
abbrev pub first_fault : List (List ℕ) → List (List ℕ) → Option ControlFaultKind
first_fault names [] = None
first_fault names (line ∷ lines) = option_or (line_fault names line) (first_fault (names_after names line) lines)

-- the greatest number of bytes of a paragraph, line feeds included (this project's own)
abbrev pub paragraph_limit : ℕ
paragraph_limit = 4194304

-- what is wrong with a paragraph: its size, its encoding, or its first bad line
unfoldable pub fault_of : List (List ℕ) → Option ControlFaultKind
fault_of lines =
    if nat_lt paragraph_limit (length (concat lines)) then Some TooLarge
    else if is_utf8 (concat lines) then first_fault [] (map body_of lines) else Some NotUtf8

-- the fault if there is one, or else the fields
abbrev pub outcome : Option ControlFaultKind → List FieldText → Result (List FieldText) ControlFaultKind
outcome None fields = Ok fields
outcome (Some kind) fields = Err kind

-- the fields of a paragraph, or its fault (Policy 5.1)
unfoldable pub reading_of : List (List ℕ) → Result (List FieldText) ControlFaultKind
reading_of lines = outcome (fault_of lines) (fields_of (map body_of lines))

-- whether lines begin with the first line of a field (Policy 5.1)
unfoldable pub begin_with_field : List (List ℕ) → Bool
begin_with_field lines = option_map_or (λ line. is_none (line_fault [] line)) (slice_get lines 0) false

-- whether memory is taken for a paragraph: it is small enough, is UTF-8, and begins with a field
unfoldable pub takes_memory : List (List ℕ) → Bool
takes_memory lines =
    not (nat_lt paragraph_limit (length (concat lines))) && (is_utf8 (concat lines) && begin_with_field (map body_of lines))

-- whether two names are the same but for case (Policy 5.1)
abbrev pub has_name : List ℕ → FieldText → Bool
has_name name field = str_eq_ignore_ascii_case field.name name

-- the field of a name, without regard to case (Policy 5.1)
unfoldable pub field_named : List ℕ → List FieldText → Option FieldText
field_named name fields = find (has_name name) fields

-- the continuation lines that a text begins with, as a field has them (Policy 5.1)
unfoldable pub continuations : List ℕ → List (List ℕ)
continuations text = map continued (take_while is_continuation (lines_in text))

-- the field of a name and a first value, after whose line this text stands (Policy 5.1)
abbrev pub entry : List ℕ → List ℕ → List ℕ → FieldText
entry name first rest = record { name = name; first = first; lines = continuations rest }

-- a folded text with one more line after it, with a space between them if neither is empty (Policy 5.1)
abbrev pub folded_onto : List ℕ → List ℕ → List ℕ
folded_onto text [] = text
folded_onto [] line = line
folded_onto text line = text ++ (codes " " ++ line)

-- the folded value: the lines that are not blank, trimmed and joined by one space (Policy 5.1)
unfoldable pub folded_of : FieldText → List ℕ
folded_of field = join_with_byte (code " ") (filter is_nonempty (map trim (field.first ∷ field.lines)))

-- a line and continuation lines that are a field: a name, a colon and a value, and what the others add (Policy 5.1)
pub record IsField (field : FieldText) (line : List ℕ) (more : List (List ℕ)) : Type 0 where
  pub value : List ℕ
  pub begins : line ≡ field.name ++ (codes ":" ++ value)
  pub form : is_name field.name ≡ true
  pub trimmed : field.first ≡ trim value
  pub continues : list_all is_continuation more ≡ true
  pub added : field.lines ≡ map continued more

-- lines that are these fields, one after the other (Policy 5.1)
abbrev pub Reads : List (List ℕ) → List FieldText → Type 0
Reads lines [] = lines ≡ []
Reads lines (field ∷ fields) =
    (line : List ℕ) × (more : List (List ℕ)) × (rest : List (List ℕ)) × (lines ≡ line ∷ (more ++ rest)) × IsField field line more × Reads rest fields

-- no two fields have one name, without regard to case (Policy 5.1)
abbrev pub HaveDistinctNames : List FieldText → Type 0
HaveDistinctNames [] = ⊤
HaveDistinctNames (field ∷ fields) = (list_any (λ later. has_name later.name field) fields ≡ false) × HaveDistinctNames fields

-- a paragraph of these lines has these fields: it is small enough, is UTF-8, and its lines are the fields (Policy 5.1)
pub record IsReading (lines : List (List ℕ)) (fields : List FieldText) : Type 0 where
  pub size : length (concat lines) ≤ paragraph_limit
  pub text : IsUtf8 (concat lines)
  pub is : Reads (map body_of lines) fields
  pub names : HaveDistinctNames fields

-- what is wrong with a line after lines that are these fields (Policy 5.1)
abbrev pub IsLineFault : ControlFaultKind → List FieldText → List ℕ → Type 0
IsLineFault Orphan fields line = (is_continuation line ≡ true) × (fields ≡ [])
IsLineFault NoColon fields line = (is_continuation line ≡ false) × (has_colon line ≡ false)
IsLineFault BadName fields line = (is_continuation line ≡ false) × (has_colon line ≡ true) × (is_name (name_of line) ≡ false)
IsLineFault Duplicate fields line =
    (is_continuation line ≡ false) × (has_colon line ≡ true) × (is_name (name_of line) ≡ true) × (list_any (has_name (name_of line)) fields ≡ true)
IsLineFault _ fields line = ⊥

-- lines that begin with fields and then a bad line with this fault (Policy 5.1)
pub record HasBadLine (kind : ControlFaultKind) (lines : List (List ℕ)) : Type 0 where
  pub good : List (List ℕ)
  pub bad : List ℕ
  pub rest : List (List ℕ)
  pub fields : List FieldText
  pub cut : lines ≡ good ++ (bad ∷ rest)
  pub read : Reads good fields
  pub names : HaveDistinctNames fields
  pub fault : IsLineFault kind fields bad

-- a paragraph of these lines has this fault: it is too large, or else is not UTF-8, or else has a bad line
abbrev pub IsFault : ControlFaultKind → List (List ℕ) → Type 0
IsFault TooLarge lines = paragraph_limit < length (concat lines)
IsFault NotUtf8 lines = (length (concat lines) ≤ paragraph_limit) × ¬ (IsUtf8 (concat lines))
IsFault kind lines = (length (concat lines) ≤ paragraph_limit) × IsUtf8 (concat lines) × HasBadLine kind (map body_of lines)
