-- The rows of the records of the first schema, which knows no build priority and no tenth state.
use Rattle.std.specs.Prelude.{◌≡◌, ◌≢◌, ℕ, ◌+◌, ◌*◌, [], ◌∷◌, ◌++◌, pos}
use Rattle.sqlite.specs.Order.{Row}
use Rattle.sqlite.specs.declared.types.Value.TheVariants.{Text}
use Rattle.wb_states.specs.declared.record.Record.{Record}
use Rattle.wb_states.specs.declared.state.State.TheVariants.{BuildAttempted}
use Rattle.wb_states.specs.Queue.{Entry, newness, place_of}
use Rattle.wb_rows.specs.Cells.{flag, number, number_or_null, text_or_null}
use Rattle.wb_rows.specs.Reading.{HasColumns, IsReadable, state_cell, text_cell}

-- the rank of a record by the first schema, from 0 to 347: by what was built earlier, by priority and by section
abbrev pub first_rank_of : Record → ℕ
first_rank_of current = (newness current * 6 + (place_of current []).priority) * 29 + (place_of current []).section

-- what the rank of a record grows by when the second schema takes the place of the first: that of build priority 0
abbrev pub rank_step : ℕ
rank_step = 348000

-- the cells of a record's fields that both schemas have
abbrev pub shared_fields : Record → Row
shared_fields current =
    state_cell current.state ∷ Text current.version ∷ Text current.priority ∷ Text current.section ∷ flag current.earlier ∷ number current.number ∷ text_or_null current.holder
    ∷ number_or_null current.take ∷ Text current.waits ∷ text_or_null current.depends ∷ Text current.note ∷ Text current.message ∷ []

-- the cells with which a record's row begins in both schemas: its architecture, its source package, and these fields
abbrev pub shared_cells : Entry → Row
shared_cells entry = text_cell entry.0.0 ∷ text_cell entry.0.1 ∷ shared_fields entry.1

-- the columns of a record in the first schema: these, and its rank by that schema
abbrev pub first_cells : Entry → Row
first_cells entry = shared_cells entry ++ number (first_rank_of entry.1) ∷ []

-- a record as the first schema can keep it: no build attempt of it failed, and its build priority is 0
pub record IsOfFirst (current : Record) : Type 0 where
  pub state : current.state ≢ BuildAttempted
  pub build_priority : current.build_priority ≡ pos 0

-- the row does not begin with the cells of a record that can be read
abbrev pub IsNoStart : Row → Type 0
IsNoStart row = (entry : Entry) → IsReadable entry → ¬ HasColumns row 0 (shared_cells entry)

-- the row is not that of a record of the first schema that can be read
abbrev pub IsNoFirst : Row → Type 0
IsNoFirst row = (entry : Entry) → IsReadable entry → IsOfFirst entry.1 → row ≢ first_cells entry
