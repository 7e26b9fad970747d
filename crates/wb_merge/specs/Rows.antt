-- The rows that a merge reads from the archive's lists, and their faults (Debian Policy 5.3, 5.4 and 5.6).
use Rattle.std.specs.Prelude.{◌≡◌, IsOk, IsTrue, ℕ, ◌+◌, Bool, not, ◌&&◌, ◌||◌, ◌==◌, nat_le, List, [], ◌∷◌, ◌++◌, length, reverse, codes, bytes_eq, Option, Some, None, Result, Ok, Err, if◌then◌else◌, nat_eq}
use Prim.Native.Char.{code}
use Rattle.std.specs.Option.{option_map, unwrap_or}
use Rattle.std.specs.Result.{result_map_both}
use Rattle.std.specs.List.{AllByRecursion, AllZip, list_any, before_first, after_first, take_while, ends_with}
use Rattle.std.specs.Char.{is_ascii_digit}
use Rattle.deb_version.specs.Syntax.{is_version_text, value_of}
use Rattle.deb_text.specs.Options.{ok_unless, has_value, first_some}
use Rattle.deb_control.specs.declared.fault.ControlFaultKind.{ControlFaultKind}
use Rattle.deb_control.specs.Lines.{lines_of, paragraphs_in}
use Rattle.deb_text.specs.Lines.{words_in}
use Rattle.deb_control.specs.Fields.{FieldText, field_named, folded_of, reading_of}
use Rattle.wb_states.specs.declared.refusal.Refusal.{Refusal}
use Rattle.wb_states.specs.declared.refusal.Refusal.TheVariants.{BadListing}
use Rattle.wb_states.specs.declared.refusal.ListKind.{ListKind}
use Rattle.wb_states.specs.declared.refusal.ListKind.TheVariants.{Sources, Packages}
use Rattle.wb_states.specs.declared.refusal.ListField.{ListField}
use Rattle.wb_states.specs.declared.refusal.ListField.TheVariants.{Package, Version, Architecture, Priority, Section, Source}
use Rattle.wb_states.specs.declared.refusal.ListingFault.{ListingFault}
use Rattle.wb_states.specs.declared.refusal.ListingFault.TheVariants.{Control, Missing, BadValue}
use Rattle.deb_relations.specs.Names.{is_package_name}
use Rattle.wb_states.specs.Names.{is_label_text}
use Rattle.deb_text.specs.Text.{is_empty_text}
use Rattle.wb_states.specs.Refusals.{name_of_field}

-- ---- the values of a paragraph

-- the folded text of a field, if the paragraph has the field (Debian Policy 5.1)
unfoldable pub value_named : List ℕ → List FieldText → Option (List ℕ)
value_named name fields = option_map folded_of (field_named name fields)

-- the folded text of a field, empty if the paragraph lacks the field
abbrev pub text_named : List ℕ → List FieldText → List ℕ
text_named name fields = unwrap_or (value_named name fields) []

-- whether a text is a priority or a section, which a list may leave empty (Debian Policy 2.5 and 2.4; the form is this project's own)
unfoldable pub is_label_or_empty : List ℕ → Bool
is_label_or_empty text = is_empty_text text || is_label_text text

-- ---- the source of a binary package: `name`, or `name (version)` (Debian Policy 5.6.1)

-- the space between a source's name and its version (Debian Policy 5.6.1)
abbrev pub is_space : ℕ → Bool
is_space c = c == code " "

-- the name, which stands before the first space
unfoldable pub source_name : List ℕ → List ℕ
source_name text = before_first is_space text

-- whether a version is written: whether there is a space
unfoldable pub has_source_version : List ℕ → Bool
has_source_version text = list_any is_space text

-- a text that is given in reverse, without the closing bracket at its end, if it has one
abbrev unclosed : List ℕ → Option (List ℕ)
unclosed [] = None
unclosed (c ∷ cs) = if bytes_eq (c ∷ []) (codes ")") then Some (reverse cs) else None

-- a text without the brackets around it, if it has both
abbrev pub in_brackets : List ℕ → Option (List ℕ)
in_brackets [] = None
in_brackets (c ∷ cs) = if bytes_eq (c ∷ []) (codes "(") then unclosed (reverse cs) else None

-- the version that is written after the name and one space, in brackets
unfoldable pub source_version : List ℕ → Option (List ℕ)
source_version text = in_brackets (after_first is_space text)

-- whether a text names a source: a name, and perhaps a version in brackets (Debian Policy 5.6.1; exactly one space separates them, this project's own)
unfoldable pub is_source_text : List ℕ → Bool
is_source_text text =
    is_package_name (source_name text) && (not (has_source_version text) || has_value is_version_text (source_version text))

-- a name with a version in brackets after it (Debian Policy 5.6.1)
abbrev pub with_version : List ℕ → List ℕ → List ℕ
with_version name version = name ++ codes " (" ++ version ++ codes ")"

-- a text is read as this source package, with this version if one is written
pub record NamesSource (text name : List ℕ) (version : Option (List ℕ)) : Type 0 where
  pub good : IsTrue (is_source_text text)
  pub named : source_name text ≡ name
  pub written : (if has_source_version text then source_version text else None) ≡ version

-- ---- the number of a binary-only rebuild: N if a version ends in `+bN` (Debian Policy 5.6.12.2)

-- the digits at the end of a text
unfoldable pub last_digits : List ℕ → List ℕ
last_digits text = reverse (take_while is_ascii_digit (reverse text))

-- one to three digits after `+b`, or 0 (three digits are this project's own limit)
unfoldable pub rebuild_number : List ℕ → ℕ
rebuild_number version =
    let digits = last_digits version in
    if nat_le 1 (length digits) && (nat_le (length digits) 3 && ends_with nat_eq version (codes "+b" ++ digits))
    then value_of digits else 0

-- ---- faults

-- what is wrong with the value of a field that may be missing: it is malformed
abbrev pub spare_form_fault : ListField → (List ℕ → Bool) → Option (List ℕ) → Option ListingFault
spare_form_fault field has_form None = None
spare_form_fault field has_form (Some text) = if has_form text then None else Some (BadValue field)

-- what is wrong with a field that may be missing
unfoldable pub optional_fault : ListField → (List ℕ → Bool) → List FieldText → Option ListingFault
optional_fault field has_form fields = spare_form_fault field has_form (value_named (name_of_field field) fields)

-- what is wrong with the value of a field that has to be there: it is missing or malformed
abbrev pub form_fault : ListField → (List ℕ → Bool) → Option (List ℕ) → Option ListingFault
form_fault field has_form None = Some (Missing field)
form_fault field has_form (Some text) = spare_form_fault field has_form (Some text)

-- what is wrong with a field that has to be there
unfoldable pub required_fault : ListField → (List ℕ → Bool) → List FieldText → Option ListingFault
required_fault field has_form fields = form_fault field has_form (value_named (name_of_field field) fields)

-- what is wrong with a paragraph of a Sources list: its fields in their order (Debian Policy 5.4)
unfoldable pub source_fault : List FieldText → Option ListingFault
source_fault fields = first_some (
    required_fault Package is_package_name fields
    ∷ required_fault Version is_version_text fields
    ∷ required_fault Architecture (λ text. not (is_empty_text text)) fields
    ∷ optional_fault Priority is_label_or_empty fields
    ∷ optional_fault Section is_label_or_empty fields
    ∷ [])

-- what is wrong with a paragraph of a Packages list: its fields in their order (Debian Policy 5.3)
unfoldable pub binary_fault : List FieldText → Option ListingFault
binary_fault fields = first_some (
    required_fault Package is_package_name fields
    ∷ required_fault Version is_version_text fields
    ∷ required_fault Architecture (λ text. not (is_empty_text text)) fields
    ∷ optional_fault Source is_source_text fields
    ∷ [])

-- ---- rows

-- what a merge reads from a paragraph of a Sources list
pub record SourceParagraph : Type 0 where
  pub name : List ℕ
  pub version : List ℕ
  pub archs : List (List ℕ)
  pub is_extra : Bool
  pub priority : List ℕ
  pub section : List ℕ
  pub depends : List ℕ
  pub depends_arch : List ℕ

-- what a merge reads from a paragraph of a Packages list
pub record BinaryParagraph : Type 0 where
  pub name : List ℕ
  pub version : List ℕ
  pub arch : List ℕ
  pub source : List ℕ
  pub source_version : List ℕ
  pub number : ℕ
  pub provides : List ℕ

-- the row of a paragraph of a Sources list (which fields are read is this project's own)
abbrev pub source_row : List FieldText → SourceParagraph
source_row fields = record {
  name = text_named (codes "Package") fields;
  version = text_named (codes "Version") fields;
  archs = words_in (text_named (codes "Architecture") fields);
  is_extra = bytes_eq (text_named (codes "Extra-Source-Only") fields) (codes "yes");
  priority = text_named (codes "Priority") fields;
  section = text_named (codes "Section") fields;
  depends = text_named (codes "Build-Depends") fields;
  depends_arch = text_named (codes "Build-Depends-Arch") fields;
}

-- the row of a binary package that names no source: its source has the package's name and version (Debian Policy 5.6.1)
abbrev pub without_source : List ℕ → List ℕ → List ℕ → BinaryParagraph
without_source name version arch = record {
  name = name;
  version = version;
  arch = arch;
  source = name;
  source_version = version;
  number = 0;
  provides = [];
}

-- the row of a binary package and the source that it names, if any (Debian Policy 5.6.1; that `+bN` counts only beside a version is this project's own)
abbrev pub with_source : List ℕ → List ℕ → List ℕ → Option (List ℕ) → BinaryParagraph
with_source name version arch None = without_source name version arch
with_source name version arch (Some text) = record (without_source name version arch) {
  source = source_name text;
  source_version = if has_source_version text then unwrap_or (source_version text) version else version;
  number = if has_source_version text then rebuild_number version else 0;
}

-- the package of a paragraph of a Packages list, with the source that it names
abbrev pub package_row : List FieldText → BinaryParagraph
package_row fields =
    with_source (text_named (codes "Package") fields) (text_named (codes "Version") fields)
    (text_named (codes "Architecture") fields) (value_named (codes "Source") fields)

-- the row of a paragraph of a Packages list: its package, and what that provides (Debian Policy 7.5)
abbrev pub binary_row : List FieldText → BinaryParagraph
binary_row fields = record (package_row fields) { provides = text_named (codes "Provides") fields }

-- the row of a paragraph of a Sources list, or its fault
unfoldable pub source_row_of : List FieldText → Result SourceParagraph ListingFault
source_row_of fields = ok_unless (source_fault fields) (source_row fields)

-- the row of a paragraph of a Packages list, or its fault
unfoldable pub binary_row_of : List FieldText → Result BinaryParagraph ListingFault
binary_row_of fields = ok_unless (binary_fault fields) (binary_row fields)

-- what is read of a paragraph's fields, or the fault for which they cannot be read
abbrev pub of_fields : {X : Type 0} → (List FieldText → Result X ListingFault) → Result (List FieldText) ControlFaultKind → Result X ListingFault
of_fields read (Ok fields) = read fields
of_fields read (Err kind) = Err (Control kind)

-- the row of a paragraph of a Sources list, or its fault: that of its lines, else that of its fields
abbrev pub source_paragraph : List (List ℕ) → Result SourceParagraph ListingFault
source_paragraph lines = of_fields source_row_of (reading_of lines)

-- the row of a paragraph of a Packages list, or its fault: that of its lines, else that of its fields
abbrev pub binary_paragraph : List (List ℕ) → Result BinaryParagraph ListingFault
binary_paragraph lines = of_fields binary_row_of (reading_of lines)

-- ---- lists

-- a row, or the refusal of a list for the fault of the paragraph of this number, counted from 1
abbrev pub refused_at : {X : Type 0} → ListKind → ℕ → Result X ListingFault → Result X Refusal
refused_at which number = result_map_both (λ row. row) (BadListing which number)

-- a row before the rows after it
abbrev pub onto_rows : {X : Type 0} → Result X Refusal → Result (List X) Refusal → Result (List X) Refusal
onto_rows (Err refusal) rows = Err refusal
onto_rows (Ok row) (Err refusal) = Err refusal
onto_rows (Ok row) (Ok rows) = Ok (row ∷ rows)

-- the rows of paragraphs after so many others, or the refusal for the first that has a fault
abbrev pub rows_behind : {X : Type 0} → (List (List ℕ) → Result X ListingFault) → ListKind → ℕ → List (List (List ℕ)) → Result (List X) Refusal
rows_behind row_of which passed [] = Ok []
rows_behind row_of which passed (lines ∷ later) =
    onto_rows (refused_at which (passed + 1) (row_of lines)) (rows_behind row_of which (passed + 1) later)

-- the rows of a Sources list, or the refusal for its first faulty paragraph (that no list is compressed is this project's own)
unfoldable pub source_rows : List ℕ → Result (List SourceParagraph) Refusal
source_rows text = rows_behind source_paragraph Sources 0 (paragraphs_in (lines_of text))

-- the rows of a Packages list, or the refusal for its first faulty paragraph (that no list is compressed is this project's own)
unfoldable pub binary_rows : List ℕ → Result (List BinaryParagraph) Refusal
binary_rows text = rows_behind binary_paragraph Packages 0 (paragraphs_in (lines_of text))

-- ---- the first faulty paragraph

-- rows are those of the paragraphs, one for each, in their order
abbrev pub AreRows : {X : Type 0} → (List (List ℕ) → Result X ListingFault) → List (List (List ℕ)) → List X → Type 0
AreRows row_of paragraphs rows = AllZip (λ lines row. row_of lines ≡ Ok row) paragraphs rows

-- a refusal for the first paragraph that has a fault, with its number, counted from 1: all before it have rows
pub record IsFirstFault {X : Type 0} (which : ListKind) (row_of : List (List ℕ) → Result X ListingFault) (paragraphs : List (List (List ℕ))) (refusal : Refusal) : Type 0 where
  pub before : List (List (List ℕ))
  pub lines : List (List ℕ)
  pub behind : List (List (List ℕ))
  pub fault : ListingFault
  pub stands : paragraphs ≡ before ++ lines ∷ behind
  pub good : AllByRecursion (λ other. IsOk (row_of other)) before
  pub bad : row_of lines ≡ Err fault
  pub refused : refusal ≡ BadListing which (length before + 1) fault
