-- The table of moves, row by row: what each makes of a record, and that all else stays (in wanna-build's terms).
use Rattle.std.specs.Prelude.{ℕ, ◌≤◌, ⊤, IsTrue, true, List, [], Some, None}
use Rattle.deb_relations.specs.Grammar.{Reads}
use Rattle.wb_states.specs.declared.record.Record.{Record}
use Rattle.wb_states.specs.declared.state.State.TheVariants.{NeedsBuild, Building, Built, Uploaded, DepWait, Failed, NotForUs, BuildAttempted}
use Rattle.wb_states.specs.declared.moves.Move.{Move}
use Rattle.wb_states.specs.declared.moves.Move.TheVariants.{Take, Built as ToBuilt, Uploaded as ToUploaded, Waits, PutBack, Attempted, GiveBack, DepWait as ToDepWait, Fail, NotForUs as ToNotForUs, Rebuild}
use Rattle.wb_states.specs.Limits.{note_limit, rebuild_limit}
use Rattle.wb_states.specs.Moves.{waits_for}
use Rattle.wb_states.specs.Names.{is_builder_name}
use Rattle.deb_text.specs.Text.{IsTextWithin}

-- the record after a move, as the move's row of the table has it
abbrev pub row_of : Move → Record → Record
row_of (Take holder take_number) old = record old { state = Building; holder = Some holder; take = Some take_number; note = [] }
row_of ToBuilt old = record old { state = Built; note = [] }
row_of ToUploaded old = record old { state = Uploaded; note = [] }
row_of (Waits relations arch) old = record old { state = DepWait; holder = None; take = None; waits = waits_for relations arch; note = [] }
row_of PutBack old = record old { state = NeedsBuild; holder = None; take = None; note = [] }
row_of (Attempted reason) old = record old { state = BuildAttempted; holder = None; take = None; note = reason }
row_of GiveBack old = record old { state = NeedsBuild; holder = None; take = None; waits = []; note = [] }
row_of (ToDepWait relations arch) old = record old { state = DepWait; holder = None; take = None; waits = waits_for relations arch; note = [] }
row_of (Fail note) old = record old { state = Failed; holder = None; take = None; waits = []; note = note }
row_of (ToNotForUs note) old = record old { state = NotForUs; holder = None; take = None; waits = []; note = note }
row_of (Rebuild number message) old = record old { state = NeedsBuild; earlier = true; number = number; message = message; note = [] }

-- what a move brings has its form: a builder's name, relations that were read, a text and a number within their limits
abbrev pub HasForm : Move → Type 0
HasForm (Take holder take_number) = IsTrue (is_builder_name holder)
HasForm (Waits relations arch) = (text : List ℕ) × Reads text relations
HasForm (ToDepWait relations arch) = (text : List ℕ) × Reads text relations
HasForm (Attempted reason) = IsTextWithin note_limit reason
HasForm (Fail note) = IsTextWithin note_limit note
HasForm (ToNotForUs note) = IsTextWithin note_limit note
HasForm (Rebuild number message) = (number ≤ rebuild_limit) × IsTextWithin note_limit message
HasForm _ = ⊤
