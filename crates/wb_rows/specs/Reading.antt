-- Which rows are read: those of records, architectures and builders whose texts are UTF-8 and whose numbers fit.
use Rattle.std.specs.Prelude.{◌≡◌, ◌≢◌, ℕ, suc, ◌^◌, ◌<◌, ⊤, List, [], ◌∷◌, IsUtf8, IsOk, IfSome, FitsSigned}
use Rattle.std.specs.Int.{w16}
use Rattle.deb_version.specs.Syntax.{reading_of}
use Rattle.sqlite.specs.declared.types.Value.{Value}
use Rattle.sqlite.specs.declared.types.Value.TheVariants.{Int, Text}
use Rattle.sqlite.specs.Order.{Row, column}
use Rattle.wb_states.specs.declared.arch.OsCpu.{OsCpu}
use Rattle.wb_states.specs.declared.record.Record.{Record}
use Rattle.wb_states.specs.declared.state.State.{State}
use Rattle.wb_states.specs.Machine.{Key}
use Rattle.wb_states.specs.Queue.{Entry}
use Rattle.wb_states.specs.State.{code_of}
use Rattle.wb_rows.specs.Cells.{record_cells, arch_cells, builder_cells, state_cells, number, number_or_null, flag, text_or_null}

-- a text as a cell
abbrev pub text_cell : List ℕ → Value
text_cell = Text

-- a state as a cell, by its number
abbrev pub state_cell : State → Value
state_cell state = number (code_of state)

-- the cells of a record's fields, without its key and its rank
abbrev pub field_cells : Record → Row
field_cells current =
    state_cell current.state ∷ Text current.version ∷ Text current.priority ∷ Text current.section ∷ flag current.earlier ∷ number current.number ∷ text_or_null current.holder
    ∷ number_or_null current.take ∷ Text current.waits ∷ text_or_null current.depends ∷ Text current.note ∷ Text current.message ∷ Int current.build_priority ∷ []

-- from this place on a row has these columns
abbrev pub HasColumns : Row → ℕ → Row → Type 0
HasColumns row at [] = ⊤
HasColumns row at (cell ∷ more) = (column row at ≡ cell) × HasColumns row (suc at) more

-- a value is not the cell of anything that fits
abbrev pub HoldsNone : {X : Type 0} → (X → Value) → (X → Type 0) → Value → Type 0
HoldsNone {X} cell Fits value = (x : X) → Fits x → value ≢ cell x

-- the text is that of a version (Debian Policy 5.6.12)
abbrev pub IsVersion : List ℕ → Type 0
IsVersion text = IsOk (reading_of text)

-- a record whose row can be read: its texts are UTF-8, its version has its form, and its numbers fit their types
pub record IsReadable (entry : Entry) : Type 0 where
  pub arch : IsUtf8 entry.0.0
  pub source : IsUtf8 entry.0.1
  pub version : IsVersion entry.1.version
  pub priority : IsUtf8 entry.1.priority
  pub section : IsUtf8 entry.1.section
  pub number : entry.1.number < 2 ^ 16
  pub holder : IfSome entry.1.holder IsUtf8
  pub waits : IsUtf8 entry.1.waits
  pub depends : IfSome entry.1.depends IsUtf8
  pub note : IsUtf8 entry.1.note
  pub message : IsUtf8 entry.1.message
  pub build_priority : FitsSigned w16 entry.1.build_priority

-- the row is not that of a record that can be read
abbrev pub IsNoRecord : Row → Type 0
IsNoRecord row = (entry : Entry) → IsReadable entry → row ≢ record_cells entry

-- the row is not that of an architecture with texts in UTF-8
abbrev pub IsNoArch : Row → Type 0
IsNoArch row = (arch : List ℕ × OsCpu) → IsUtf8 arch.0 → IsUtf8 arch.1.os → IsUtf8 arch.1.cpu → row ≢ arch_cells arch

-- the row is not that of a builder and an architecture with names in UTF-8
abbrev pub IsNoBuilder : Row → Type 0
IsNoBuilder row = (pair : Key) → IsUtf8 pair.0 → IsUtf8 pair.1 → row ≢ builder_cells pair

-- the row is not that of a state
abbrev pub IsNoState : Row → Type 0
IsNoState row = (state : State) → row ≢ state_cells state
