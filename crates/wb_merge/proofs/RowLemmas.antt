-- The rows of the archive's lists have names, versions and labels of their forms, and small numbers.
use Rattle.std.proofs.Common.{◌≡◌, ℕ, ◌+◌, ◌≤◌, Bool, true, false, cond, not, ◌&&◌, ◌||◌, nat_le, List, [], ◌∷◌, length, reverse, Option, Some, None, Result, Ok, Err, IsTrue, refl, subst, arith, unwrap_or}
use Rattle.std.specs.Prelude.{codes, is_none}
use Rattle.std.specs.List.{list_all, AllByRecursion, take_while}
use Rattle.std.specs.Char.{is_ascii_digit}
use Rattle.std.proofs.lemmas.Bool.Decides.{nat_tests}
use Rattle.std.proofs.lemmas.List.{length-reverse}
use Rattle.std.proofs.lemmas.Bool.{and_parts}
use Rattle.deb_control.specs.declared.fault.ControlFaultKind.{ControlFaultKind}
use Rattle.deb_control.specs.Fields.{FieldText, reading_of}
use Rattle.deb_version.specs.declared.fault.VersionFault.{VersionFault}
use Rattle.deb_version.specs.Syntax.{fault_of, is_version_text, value_of, with_digit}
use Rattle.wb_states.specs.declared.refusal.ListField.{ListField}
use Rattle.wb_states.specs.declared.refusal.ListField.TheVariants.{Package, Version, Architecture, Priority, Section}
use Rattle.wb_states.specs.declared.refusal.ListKind.{ListKind}
use Rattle.wb_states.specs.declared.refusal.ListingFault.{ListingFault}
use Rattle.wb_states.specs.declared.refusal.ListingFault.TheVariants.{BadValue}
use Rattle.wb_states.specs.declared.refusal.Refusal.{Refusal}
use Rattle.deb_relations.specs.Names.{is_package_name}
use Rattle.wb_states.specs.Names.{is_label_text}
use Rattle.deb_text.specs.Text.{is_empty_text}
use Rattle.wb_states.specs.Refusals.{name_of_field}
use Rattle.wb_merge.specs.Rows.{SourceParagraph, BinaryParagraph, value_named, text_named, is_label_or_empty}
use Rattle.wb_merge.specs.Rows.{has_source_version, last_digits, rebuild_number, required_fault, optional_fault}
use Rattle.wb_merge.specs.Rows.{form_fault, spare_form_fault, source_fault, source_row, with_source, binary_row}
use Rattle.wb_merge.specs.Rows.{source_row_of, binary_row_of, of_fields, refused_at, onto_rows, rows_behind}
use Rattle.wb_merge.specs.Rows.{source_rows, binary_rows}
use Rattle.deb_text.proofs.OptionLemmas.{first_some-None, ok_unless-Ok}
use Rattle.deb_text.proofs.ListLemmas.{take_while-passes}

-- ---- rows that were read are those of paragraphs without a fault

only-ok : {X E : Type 0} (x y : X) → ◌≡◌ {A = Result X E} (Ok x) (Ok y) → x ≡ y
only-ok x y e = cc

record IsOnto {X : Type 0} (first : Result X Refusal) (behind : Result (List X) Refusal) (rows : List X) : Type 0 where
  row : X
  later : List X
  head : first ≡ Ok row
  tail : behind ≡ Ok later
  whole : row ∷ later ≡ rows

onto-is : {X : Type 0} (first : Result X Refusal) (behind : Result (List X) Refusal) (rows : List X) → onto_rows first behind ≡ Ok rows → IsOnto first behind rows
onto-is (Err refusal) behind rows is = cc
onto-is (Ok row) (Err refusal) rows is = cc
onto-is (Ok row) (Ok later) rows is = record { row = row; later = later; head = refl; tail = refl; whole = only-ok (row ∷ later) rows is }

module _ {X : Type 0} (Q : X → Type 0) (read : List FieldText → Result X ListingFault) (good : (fields : List FieldText) (row : X) → read fields ≡ Ok row → Q row) (which : ListKind) where
  fields-good : (reading : Result (List FieldText) ControlFaultKind) (row : X) → of_fields read reading ≡ Ok row → Q row
  fields-good (Ok fields) row is = good fields row is
  fields-good (Err kind) row is = cc

  row-good : (number : ℕ) (found : Result X ListingFault) (row : X) → ((one : X) → found ≡ Ok one → Q one) → refused_at which number found ≡ Ok row → Q row
  row-good number (Ok one) row has is = subst Q (only-ok one row is) (has one refl)
  row-good number (Err fault) row has is = cc

  rows-good : (passed : ℕ) (paragraphs : List (List (List ℕ))) (rows : List X) → rows_behind (λ lines. of_fields read (reading_of lines)) which passed paragraphs ≡ Ok rows → AllByRecursion Q rows
  rows-good passed [] rows is = subst (AllByRecursion Q) (only-ok [] rows is) tt
  rows-good passed (lines ∷ later) rows is =
      let onto = onto-is _ (rows_behind (λ lines. of_fields read (reading_of lines)) which (passed + 1) later) rows is in
      subst (AllByRecursion Q) onto.whole (row-good (passed + 1) _ onto.row (fields-good (reading_of lines)) onto.head, rows-good (passed + 1) later onto.later onto.tail)

-- ---- the faults of a paragraph

passed : (test : Bool) (fault : ListingFault) → cond test None (Some fault) ≡ None → IsTrue test
passed true fault is = refl
passed false fault is = cc

wanted-is : (field : ListField) (test : List ℕ → Bool) (fields : List FieldText) → required_fault field test fields ≡ None
    → IsTrue (test (unwrap_or (value_named (name_of_field field) fields) []))
unfolding required_fault
wanted-is field test fields is = at (value_named (name_of_field field) fields) is where
  at : (found : Option (List ℕ)) → form_fault field test found ≡ None → IsTrue (test (unwrap_or found []))
  at None is = cc
  at (Some text) is = passed (test text) (BadValue field) is

spare-is : (field : ListField) (test : List ℕ → Bool) (fields : List FieldText) → IsTrue (test []) → optional_fault field test fields ≡ None
    → IsTrue (test (unwrap_or (value_named (name_of_field field) fields) []))
unfolding optional_fault
spare-is field test fields empty is = at (value_named (name_of_field field) fields) is where
  at : (found : Option (List ℕ)) → spare_form_fault field test found ≡ None → IsTrue (test (unwrap_or found []))
  at None is = empty
  at (Some text) is = passed (test text) (BadValue field) is

faultless : (fault : Option VersionFault) → IsTrue (is_none fault) → fault ≡ None
faultless None is = refl
faultless (Some fault) is = cc

version-is : (text : List ℕ) → IsTrue (is_version_text text) → fault_of text ≡ None
unfolding is_version_text
version-is text is = faultless (fault_of text) is

label-is : (text : List ℕ) → IsTrue (is_label_or_empty text) → IsTrue (is_empty_text text || is_label_text text)
unfolding is_label_or_empty
label-is text is = is

-- ---- the rows of a Sources list

pub record IsGoodSource (row : SourceParagraph) : Type 0 where
  pub name : IsTrue (is_package_name row.name)
  pub version : fault_of row.version ≡ None
  pub priority : IsTrue (is_empty_text row.priority || is_label_text row.priority)
  pub section : IsTrue (is_empty_text row.section || is_label_text row.section)

empty-label : IsTrue (is_label_or_empty [])
unfolding is_label_or_empty
empty-label = refl

source-good : (fields : List FieldText) (row : SourceParagraph) → source_row_of fields ≡ Ok row → IsGoodSource row
unfolding source_row_of source_fault
source-good fields row is =
    let made = ok_unless-Ok (source_fault fields) (source_row fields) row is in
    let none = first_some-None (
    required_fault Package is_package_name fields
    ∷ required_fault Version is_version_text fields
    ∷ required_fault Architecture (λ text. not (is_empty_text text)) fields
    ∷ optional_fault Priority is_label_or_empty fields
    ∷ optional_fault Section is_label_or_empty fields
    ∷ []) made.0 in
    let good : IsGoodSource (source_row fields) = record {
      name = wanted-is Package is_package_name fields none.0;
      version = version-is (text_named (codes "Version") fields) (wanted-is Version is_version_text fields none.1.0);
      priority = label-is (text_named (codes "Priority") fields) (spare-is Priority is_label_or_empty fields empty-label none.1.1.1.0);
      section = label-is (text_named (codes "Section") fields) (spare-is Section is_label_or_empty fields empty-label none.1.1.1.1.0);
    } in
    subst IsGoodSource made.1 good

pub source_rows-good : (text : List ℕ) (rows : List SourceParagraph) → source_rows text ≡ Ok rows → AllByRecursion IsGoodSource rows
unfolding source_rows
source_rows-good text rows is = rows-good IsGoodSource source_row_of source-good _ 0 _ rows is

-- ---- the rows of a Packages list

digit-small : (c : ℕ) → is_ascii_digit c ≡ true → c ≤ 57
digit-small c h = grind (arith, nat_tests)

value-small : (digits : List ℕ) → length digits ≤ 3 → IsTrue (list_all is_ascii_digit digits) → value_of (reverse digits) ≤ 999
unfolding value_of with_digit
value-small [] short all = omega arith
value-small (a ∷ []) short all =
    let first = digit-small a (and_parts (is_ascii_digit a) true all).0 in omega arith
value-small (a ∷ b ∷ []) short all =
    let one = and_parts (is_ascii_digit a) (is_ascii_digit b && true) all in
    let first = digit-small a one.0 in
    let second = digit-small b (and_parts (is_ascii_digit b) true one.1).0 in omega arith
value-small (a ∷ b ∷ c ∷ []) short all =
    let one = and_parts (is_ascii_digit a) (is_ascii_digit b && (is_ascii_digit c && true)) all in
    let two = and_parts (is_ascii_digit b) (is_ascii_digit c && true) one.1 in
    let first = digit-small a one.0 in
    let second = digit-small b two.0 in
    let third = digit-small c (and_parts (is_ascii_digit c) true two.1).0 in omega arith
value-small (a ∷ b ∷ c ∷ d ∷ more) short all = absurd (omega arith)

small-by : (digits : List ℕ) (ends : Bool) → IsTrue (list_all is_ascii_digit digits)
    → cond (nat_le 1 (length (reverse digits)) && (nat_le (length (reverse digits)) 3 && ends)) (value_of (reverse digits)) 0 ≤ 999
small-by digits ends all =
    elim (nat_le 1 (length (reverse digits)) && (nat_le (length (reverse digits)) 3 && ends)) as
    (λ v. (nat_le 1 (length (reverse digits)) && (nat_le (length (reverse digits)) 3 && ends)) ≡ v → cond v (value_of (reverse digits)) 0 ≤ 999) [
      | true ↦ λ e.
          let test : nat_le (length (reverse digits)) 3 ≡ true = (and_parts _ ends (and_parts (nat_le 1 (length (reverse digits))) _ e).1).0 in
          let same : length (reverse digits) ≡ length digits = length-reverse digits in
          let short : length (reverse digits) ≤ 3 = grind (arith, nat_tests) in
          value-small digits (omega arith) all
      | false ↦ λ _. omega arith
    ] refl

rebuild-small : (version : List ℕ) → rebuild_number version ≤ 999
unfolding rebuild_number last_digits
rebuild-small version = small-by (take_while is_ascii_digit (reverse version)) _ (take_while-passes is_ascii_digit (reverse version))

-- the number of a row is that of a binary-only rebuild
abbrev pub IsSmall : BinaryParagraph → Type 0
IsSmall row = row.number ≤ 999

chosen-small : (test : Bool) (number : ℕ) → number ≤ 999 → cond test number 0 ≤ 999
chosen-small true number is = is
chosen-small false number is = omega arith

source-small : (name version arch : List ℕ) (text : Option (List ℕ)) → IsSmall (with_source name version arch text)
source-small name version arch None = omega arith
source-small name version arch (Some text) = chosen-small (has_source_version text) (rebuild_number version) (rebuild-small version)

binary-small : (fields : List FieldText) (row : BinaryParagraph) → binary_row_of fields ≡ Ok row → IsSmall row
unfolding binary_row_of
binary-small fields row is =
    let made = ok_unless-Ok _ (binary_row fields) row is in
    subst IsSmall made.1
    (source-small (text_named (codes "Package") fields) (text_named (codes "Version") fields) (text_named (codes "Architecture") fields) (value_named (codes "Source") fields))

pub binary_rows-small : (text : List ℕ) (rows : List BinaryParagraph) → binary_rows text ≡ Ok rows → AllByRecursion IsSmall rows
unfolding binary_rows
binary_rows-small text rows is = rows-good IsSmall binary_row_of binary-small _ 0 _ rows is
