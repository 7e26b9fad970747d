-- What the rows of the scratch tables of a merge hold, as SQL values, and which of them are read.
use Rattle.std.specs.Prelude.{◌≡◌, ◌≢◌, ℕ, ◌^◌, ◌<◌, Bool, List, [], ◌∷◌, Option, None, Some, unwrap_or, if◌then◌else◌, IsUtf8, IfSome}
use Rattle.sqlite.specs.declared.types.Value.TheVariants.{Text}
use Rattle.sqlite.specs.Order.{Row}
use Rattle.wb_states.specs.declared.scratch.BinaryRow.{BinaryRow}
use Rattle.wb_states.specs.declared.scratch.SourceRow.{SourceRow}
use Rattle.wb_rows.specs.Cells.{flag, number}
use Rattle.wb_rows.specs.Reading.{IsVersion}

-- the columns of a source package of a merge: its place in the list, and its fields
abbrev pub source_cells : SourceRow → Row
source_cells row =
    number row.seq ∷ Text row.name ∷ Text row.version ∷ Text row.architecture ∷ flag row.extra ∷ Text row.priority ∷ Text row.section ∷ Text row.depends ∷ Text row.depends_arch ∷ []

-- the text of a version, empty if there is none
abbrev pub version_or_empty : Option (List ℕ) → List ℕ
version_or_empty version = unwrap_or version []

-- whether a package was built on the architecture, as a number: 1 or 0, and 2 more if there is no version
abbrev pub own_number : Bool → Option (List ℕ) → ℕ
own_number own None = if own then 3 else 2
own_number own (Some version) = if own then 1 else 0

-- the columns of a binary package of a merge, or of a name that one provides: its place among the rows, and its fields
abbrev pub binary_cells : BinaryRow → Row
binary_cells row =
    number row.seq ∷ Text row.name ∷ Text (version_or_empty row.version) ∷ Text row.source ∷ Text row.source_version ∷ number row.number
    ∷ number (own_number row.own row.version) ∷ []

-- a version, if there is one, and whether a package was built on the architecture have this text and this number
pub record IsOffered (text : List ℕ) (n : ℕ) (version : Option (List ℕ)) (own : Bool) : Type 0 where
  pub of_version : text ≡ version_or_empty version
  pub of_own : n ≡ own_number own version

-- a name alone
abbrev pub name_cells : List ℕ → Row
name_cells name = Text name ∷ []

-- a source package whose row can be read: its texts are UTF-8, and its version has its form
pub record IsReadableSource (row : SourceRow) : Type 0 where
  pub name : IsUtf8 row.name
  pub version : IsVersion row.version
  pub architecture : IsUtf8 row.architecture
  pub priority : IsUtf8 row.priority
  pub section : IsUtf8 row.section
  pub depends : IsUtf8 row.depends
  pub depends_arch : IsUtf8 row.depends_arch

-- a binary package whose row can be read: its names are UTF-8, its versions have their form, and the number of its rebuild fits
pub record IsReadableBinary (row : BinaryRow) : Type 0 where
  pub name : IsUtf8 row.name
  pub version : IfSome row.version IsVersion
  pub source : IsUtf8 row.source
  pub source_version : IsVersion row.source_version
  pub number : row.number < 2 ^ 16

-- the row is not that of a source package that can be read
abbrev pub IsNoSource : Row → Type 0
IsNoSource row = (made : SourceRow) → IsReadableSource made → row ≢ source_cells made

-- the row is not that of a binary package that can be read
abbrev pub IsNoBinary : Row → Type 0
IsNoBinary row = (made : BinaryRow) → IsReadableBinary made → row ≢ binary_cells made

-- the row is not that of a name in UTF-8
abbrev pub IsNoName : Row → Type 0
IsNoName row = (name : List ℕ) → IsUtf8 name → row ≢ name_cells name
