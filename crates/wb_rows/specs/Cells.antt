-- What the rows of the office's tables hold, as SQL values.
use Rattle.std.specs.Prelude.{ℕ, Bool, List, [], ◌∷◌, Option, pos, if◌then◌else◌}
use Rattle.sqlite.specs.declared.types.Value.{Value}
use Rattle.sqlite.specs.declared.types.Value.TheVariants.{Int, Text}
use Rattle.sqlite.specs.Order.{Row}
use Rattle.sqlite.specs.Values.{or_null}
use Rattle.wb_states.specs.declared.arch.OsCpu.{OsCpu}
use Rattle.wb_states.specs.Machine.{Key}
use Rattle.wb_states.specs.Queue.{Entry, rank_of}
use Rattle.wb_states.specs.State.{code_of}
use Rattle.wb_states.specs.declared.state.State.{State}

-- a text, or NULL if there is none
abbrev pub text_or_null : Option (List ℕ) → Value
text_or_null = or_null Text

-- a number from 0
abbrev pub number : ℕ → Value
number n = Int (pos n)

-- a number from 0, or NULL if there is none
abbrev pub number_or_null : Option ℕ → Value
number_or_null = or_null number

-- 1 for what is so, 0 for what is not
abbrev pub flag : Bool → Value
flag b = Int (if b then pos 1 else pos 0)

-- the columns of a record: its architecture and its source package, its fields, and its rank in the queue
abbrev pub record_cells : Entry → Row
record_cells entry =
    let current = entry.1 in
    Text entry.0.0 ∷ Text entry.0.1 ∷ number (code_of current.state) ∷ Text current.version ∷ Text current.priority ∷ Text current.section ∷ flag current.earlier ∷ number current.number
    ∷ text_or_null current.holder ∷ number_or_null current.take ∷ Text current.waits ∷ text_or_null current.depends ∷ Text current.note ∷ Text current.message ∷ Int current.build_priority
    ∷ number (rank_of current) ∷ []

-- the columns of an architecture: its name and its two words
abbrev pub arch_cells : List ℕ × OsCpu → Row
arch_cells arch = Text arch.0 ∷ Text arch.1.os ∷ Text arch.1.cpu ∷ []

-- the columns of a builder and an architecture for which it was added
abbrev pub builder_cells : Key → Row
builder_cells pair = Text pair.0 ∷ Text pair.1 ∷ []

-- a state of a record alone: its number
abbrev pub state_cells : State → Row
state_cells state = number (code_of state) ∷ []
