-- The fields of lines and the relation between lines and fields: each follows from the other.
use Rattle.std.proofs.Common.{◌≡◌, ◌∙◌, sym, ap, subst, refl, ℕ, ◌<◌, ◌≤◌, Bool, true, false, length, map, List, [], ◌∷◌, ◌++◌, inl, inr, arith, Option, None, Some, Ok}
use Rattle.std.specs.Prelude.{if◌then◌else◌, nat_lt}
use Rattle.std.specs.List.{after_first, take_while, list_all, concat}
use Rattle.std.specs.Str.{is_utf8}
use Rattle.std.proofs.lemmas.Bool.{cases_Bool, and_parts, cond-true, cond-false}
use Rattle.std.proofs.lemmas.Bool.Decides.{nat_tests}
use Rattle.std.proofs.lemmas.List.{length_push}
use Rattle.std.specs.Option.{option_or}
use Rattle.deb_control.specs.declared.fault.ControlFaultKind.{ControlFaultKind}
use Rattle.deb_control.specs.declared.fault.ControlFaultKind.TheVariants.{TooLarge, NotUtf8}
use Rattle.deb_control.specs.Lines.{body_of, is_continuation}
use Rattle.std.specs.Str.{str_to_ascii_lowercase}
use Rattle.deb_control.specs.Fields.{FieldText, IsField, Reads, HaveDistinctNames, is_colon, is_name, has_colon, name_of, first_of, is_among, continued, field_of, fields_of, line_fault, names_after, first_fault, paragraph_limit, fault_of, outcome, reading_of, IsReading}
use Rattle.std.proofs.lemmas.Str.{IsUtf8-from_is_utf8, is_utf8-from_IsUtf8}
use Rattle.deb_control.proofs.FieldLemmas.{take_while-continuation, take_while-other}
use Rattle.deb_control.proofs.FormLemmas.{Named, named, line-name, option_or-none, good_line, line_good, continuation_good, names_after-continuation, names_after-other}
use Rattle.deb_control.proofs.ApartLemmas.{Apart, none_among_nil, apart_from, apart_to}

-- the lines behind the continuation lines that come first
abbrev less_of : List (List ℕ) → List (List ℕ)
less_of [] = []
less_of (line ∷ lines) = if is_continuation line then less_of lines else line ∷ lines

take_while-less_of : (lines : List (List ℕ)) → lines ≡ take_while is_continuation lines ++ less_of lines
take_while-less_of [] = refl
take_while-less_of (line ∷ lines) = elim (cases_Bool (is_continuation line)) [
  | inl is ↦ rw (take_while-continuation line lines is) (rw is (ap (λ (v : List (List ℕ)). line ∷ v) (take_while-less_of lines)))
  | inr other ↦ rw (take_while-other line lines other) (rw other refl)
]

list_all-take_while : (lines : List (List ℕ)) → list_all is_continuation (take_while is_continuation lines) ≡ true
list_all-take_while [] = refl
list_all-take_while (line ∷ lines) = elim (cases_Bool (is_continuation line)) [
  | inl is ↦ rw (take_while-continuation line lines is) (rw is (list_all-take_while lines))
  | inr other ↦ rw (take_while-other line lines other) refl
]

-- the field of a good line, in front of the fields of the lines behind it
field_first : (names : List (List ℕ)) (line : List ℕ) (lines : List (List ℕ)) → is_continuation line ≡ false → line_fault names line ≡ None
    → Reads (less_of lines) (fields_of lines) × Apart (names ++ str_to_ascii_lowercase (name_of line) ∷ []) (fields_of lines)
    → Reads (line ∷ lines) (field_of line lines ∷ fields_of lines) × Apart names (field_of line lines ∷ fields_of lines)
unfolding field_of first_of
field_first names line lines plain good behind =
    let has : (has_colon line ≡ true) × (is_name (name_of line) ≡ true) × (is_among (str_to_ascii_lowercase (name_of line)) names ≡ false) = good_line names line plain good in (
      (
        line,
        take_while is_continuation lines,
        less_of lines,
        ap (λ (v : List (List ℕ)). line ∷ v) (take_while-less_of lines),
        record {
          value = after_first is_colon line;
          begins = line-name line has.0;
          form = has.1;
          trimmed = refl;
          continues = list_all-take_while lines;
          added = refl;
        },
        behind.0,
      ),
      (has.2, behind.1),
    )

fields_of-continuation : (line : List ℕ) (lines : List (List ℕ)) → is_continuation line ≡ true → (less_of (line ∷ lines) ≡ less_of lines) × (fields_of (line ∷ lines) ≡ fields_of lines)
fields_of-continuation line lines is = (rw is refl, rw is refl)

fields_of-other : (line : List ℕ) (lines : List (List ℕ)) → is_continuation line ≡ false → (less_of (line ∷ lines) ≡ line ∷ lines) × (fields_of (line ∷ lines) ≡ field_of line lines ∷ fields_of lines)
fields_of-other line lines other = (rw other refl, rw other refl)

-- lines without a fault, behind a line that gave a name
read_behind : (names lines : List (List ℕ)) → 0 < length names → first_fault names lines ≡ None → Reads (less_of lines) (fields_of lines) × Apart names (fields_of lines)
read_behind names [] some good = (refl, tt)
read_behind names (line ∷ lines) some good =
    let parts : (line_fault names line ≡ None) × (first_fault (names_after names line) lines ≡ None) = option_or-none _ _ good in
    elim (cases_Bool (is_continuation line)) [
      | inl is ↦
          let same : (less_of (line ∷ lines) ≡ less_of lines) × (fields_of (line ∷ lines) ≡ fields_of lines) = fields_of-continuation line lines is in
          let behind : first_fault names lines ≡ None = ap (λ (v : List (List ℕ)). first_fault v lines) (sym (names_after-continuation names line is)) ∙ parts.1 in
          rw (same.0, same.1) (read_behind names lines some behind)
      | inr other ↦
          let same : (less_of (line ∷ lines) ≡ line ∷ lines) × (fields_of (line ∷ lines) ≡ field_of line lines ∷ fields_of lines) = fields_of-other line lines other in
          let behind : first_fault (names ++ str_to_ascii_lowercase (name_of line) ∷ []) lines ≡ None =
          ap (λ (v : List (List ℕ)). first_fault v lines) (sym (names_after-other names line other)) ∙ parts.1 in
          let longer : 0 < length (names ++ str_to_ascii_lowercase (name_of line) ∷ []) = omega (arith, length_push names (str_to_ascii_lowercase (name_of line))) in
          rw (same.0, same.1) (field_first names line lines other parts.0 (read_behind (names ++ str_to_ascii_lowercase (name_of line) ∷ []) lines longer behind))
    ]

-- lines without a fault are their fields
read_first : (lines : List (List ℕ)) → first_fault [] lines ≡ None → Reads lines (fields_of lines) × Apart [] (fields_of lines)
unfolding line_fault
read_first [] good = (refl, tt)
read_first (line ∷ lines) good =
    let parts : (line_fault [] line ≡ None) × (first_fault (names_after [] line) lines ≡ None) = option_or-none _ _ good in
    elim (cases_Bool (is_continuation line)) [
      | inl is ↦ absurd (cc (rw is at parts.0))
      | inr other ↦
          let same : (less_of (line ∷ lines) ≡ line ∷ lines) × (fields_of (line ∷ lines) ≡ field_of line lines ∷ fields_of lines) = fields_of-other line lines other in
          let behind : first_fault (str_to_ascii_lowercase (name_of line) ∷ []) lines ≡ None =
          ap (λ (v : List (List ℕ)). first_fault v lines) (sym (names_after-other [] line other)) ∙ parts.1 in
          rw same.1 (field_first [] line lines other parts.0 (read_behind (str_to_ascii_lowercase (name_of line) ∷ []) lines (omega arith) behind))
    ]

-- continuation lines in front change neither the fault nor the fields of what follows
skip_fault : (names more rest : List (List ℕ)) → 0 < length names → list_all is_continuation more ≡ true → first_fault names (more ++ rest) ≡ first_fault names rest
skip_fault names [] rest some all = refl
skip_fault names (line ∷ more) rest some all =
    let parts : (is_continuation line ≡ true) × (list_all is_continuation more ≡ true) = and_parts _ _ all in
    ap (λ (v : Option ControlFaultKind). option_or v (first_fault (names_after names line) (more ++ rest))) (continuation_good names line some parts.0)
    ∙ ap (λ (v : List (List ℕ)). first_fault v (more ++ rest)) (names_after-continuation names line parts.0)
    ∙ skip_fault names more rest some parts.1

skip_fields : (more rest : List (List ℕ)) → list_all is_continuation more ≡ true → fields_of (more ++ rest) ≡ fields_of rest
skip_fields [] rest all = refl
skip_fields (line ∷ more) rest all =
    let parts : (is_continuation line ≡ true) × (list_all is_continuation more ≡ true) = and_parts _ _ all in
    (fields_of-continuation line (more ++ rest) parts.0).1 ∙ skip_fields more rest parts.1

take_while-skip : (more rest : List (List ℕ)) → list_all is_continuation more ≡ true → take_while is_continuation rest ≡ []
    → take_while is_continuation (more ++ rest) ≡ more
take_while-skip [] rest all none = none
take_while-skip (line ∷ more) rest all none =
    let parts : (is_continuation line ≡ true) × (list_all is_continuation more ≡ true) = and_parts _ _ all in
    take_while-continuation line (more ++ rest) parts.0 ∙ ap (λ (v : List (List ℕ)). line ∷ v) (take_while-skip more rest parts.1 none)

named_field : (field : FieldText) (line : List ℕ) (more : List (List ℕ)) → IsField field line more → Named field.name field.first line
named_field field line more f = named field.name f.value field.first line f.form f.begins f.trimmed

-- what is read begins with no continuation line
take_while-reads : (fields : List FieldText) (lines : List (List ℕ)) → Reads lines fields → take_while is_continuation lines ≡ []
take_while-reads [] lines reads = ap (take_while is_continuation) reads
take_while-reads (field ∷ fields) lines (line, more, rest, is, f, behind) =
    ap (take_while is_continuation) is ∙ take_while-other line (more ++ rest) (named_field field line more f).plain

field_of-is : (field : FieldText) (line : List ℕ) (lines : List (List ℕ)) → name_of line ≡ field.name → first_of line ≡ field.first → map continued (take_while is_continuation lines) ≡ field.lines
    → field_of line lines ≡ field
unfolding field_of
field_of-is field line lines name first added =
    ap (λ (v : List ℕ). record { name = v; first = first_of line; lines = map continued (take_while is_continuation lines) }) name
    ∙ ap (λ (v : List ℕ). record { name = field.name; first = v; lines = map continued (take_while is_continuation lines) }) first
    ∙ ap (λ (v : List (List ℕ)). record { name = field.name; first = field.first; lines = v }) added

-- lines that are fields have no fault, and those fields
read_only : (names lines : List (List ℕ)) (fields : List FieldText) → Reads lines fields → Apart names fields → (first_fault names lines ≡ None) × (fields_of lines ≡ fields)
read_only names lines [] reads apart = rw reads (refl, refl)
read_only names lines (field ∷ fields) (line, more, rest, is, f, behind) apart =
    let n : Named field.name field.first line = named_field field line more f in
    let good : line_fault names line ≡ None =
    line_good names line n.plain n.colon (ap is_name n.name_is ∙ f.form) (ap (λ (v : List ℕ). is_among (str_to_ascii_lowercase v) names) n.name_is ∙ apart.0) in
    let after : names_after names line ≡ names ++ str_to_ascii_lowercase field.name ∷ [] =
    names_after-other names line n.plain ∙ ap (λ (v : List ℕ). names ++ str_to_ascii_lowercase v ∷ []) n.name_is in
    let longer : 0 < length (names ++ str_to_ascii_lowercase field.name ∷ []) = omega (arith, length_push names (str_to_ascii_lowercase field.name)) in
    let later : (first_fault (names ++ str_to_ascii_lowercase field.name ∷ []) rest ≡ None) × (fields_of rest ≡ fields) = read_only (names ++ str_to_ascii_lowercase field.name ∷ []) rest fields behind apart.1 in (
      ap (first_fault names) is
          ∙ ap (λ (v : Option ControlFaultKind). option_or v (first_fault (names_after names line) (more ++ rest))) good
          ∙ ap (λ (v : List (List ℕ)). first_fault v (more ++ rest)) after
          ∙ skip_fault (names ++ str_to_ascii_lowercase field.name ∷ []) more rest longer f.continues
          ∙ later.0,
      ap fields_of is
          ∙ (fields_of-other line (more ++ rest) n.plain).1
          ∙ ap (λ (v : FieldText). v ∷ fields_of (more ++ rest))
          (field_of-is field line (more ++ rest) n.name_is n.first_is
          (ap (map continued) (take_while-skip more rest f.continues (take_while-reads fields rest behind)) ∙ sym f.added))
          ∙ ap (λ (v : List FieldText). field ∷ v) (skip_fields more rest f.continues ∙ later.1),
    )

-- the relation between lines and fields, from the definitions and to them
pub Reads-first_fault : (lines : List (List ℕ)) → first_fault [] lines ≡ None → Reads lines (fields_of lines) × HaveDistinctNames (fields_of lines)
Reads-first_fault lines good =
    let read : Reads lines (fields_of lines) × Apart [] (fields_of lines) = read_first lines good in
    (read.0, (apart_to [] (fields_of lines) read.1).1)

pub first_fault-Reads : (lines : List (List ℕ)) (fields : List FieldText) → Reads lines fields → HaveDistinctNames fields → (first_fault [] lines ≡ None) × (fields_of lines ≡ fields)
first_fault-Reads lines fields reads distinct = read_only [] lines fields reads (apart_from [] fields (none_among_nil fields) distinct)

outcome_cases : (fault : Option ControlFaultKind) (found fields : List FieldText) → outcome fault found ≡ Ok fields → (fault ≡ None) × (found ≡ fields)
outcome_cases None found fields is = (refl, cc)
outcome_cases (Some kind) found fields is = cc

fault_cases : (large text : Bool) (fault : Option ControlFaultKind) → (if large then Some TooLarge else if text then fault else Some NotUtf8) ≡ None
    → (large ≡ false) × (text ≡ true) × (fault ≡ None)
fault_cases false true fault none = (refl, refl, none)
fault_cases false false fault none = cc
fault_cases true text fault none = cc

not_below : (a b : ℕ) → nat_lt a b ≡ false → b ≤ a
not_below a b less = grind (arith, nat_tests)

not_below_test : (a b : ℕ) → b ≤ a → nat_lt a b ≡ false
not_below_test a b more = grind (arith, nat_tests)

-- a reading is what the relation says, and the other way round
pub IsReading-from_reading_of : (lines : List (List ℕ)) (fields : List FieldText) → reading_of lines ≡ Ok fields → IsReading lines fields
unfolding reading_of fault_of
IsReading-from_reading_of lines fields is =
    let parts : (fault_of lines ≡ None) × (fields_of (map body_of lines) ≡ fields) = outcome_cases _ _ fields is in
    let faults : (nat_lt paragraph_limit (length (concat lines)) ≡ false) × (is_utf8 (concat lines) ≡ true) × (first_fault [] (map body_of lines) ≡ None) = fault_cases _ _ _ parts.0 in
    let read : Reads (map body_of lines) (fields_of (map body_of lines)) × HaveDistinctNames (fields_of (map body_of lines)) = Reads-first_fault (map body_of lines) faults.2 in
    record {
      size = not_below paragraph_limit (length (concat lines)) faults.0;
      text = IsUtf8-from_is_utf8 (concat lines) faults.1;
      is = subst (λ (v : List FieldText). Reads (map body_of lines) v) parts.1 read.0;
      names = subst (λ (v : List FieldText). HaveDistinctNames v) parts.1 read.1;
    }

pub reading_of-IsReading : (lines : List (List ℕ)) (fields : List FieldText) → IsReading lines fields → reading_of lines ≡ Ok fields
unfolding reading_of fault_of
reading_of-IsReading lines fields reading =
    let small : nat_lt paragraph_limit (length (concat lines)) ≡ false = not_below_test paragraph_limit (length (concat lines)) reading.size in
    let utf8 : is_utf8 (concat lines) ≡ true = is_utf8-from_IsUtf8 (concat lines) reading.text in
    let read : (first_fault [] (map body_of lines) ≡ None) × (fields_of (map body_of lines) ≡ fields) = first_fault-Reads (map body_of lines) fields reading.is reading.names in
    ap (λ (v : Option ControlFaultKind). outcome v (fields_of (map body_of lines))) (cond-false _ _ _ small ∙ cond-true _ _ _ utf8 ∙ read.0)
    ∙ ap (λ (v : List FieldText). Ok v) read.1
