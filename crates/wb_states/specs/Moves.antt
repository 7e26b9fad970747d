-- The moves of a record from state to state, and what each sets (in wanna-build's terms). The table of moves is read
-- here column by column: the states from which a move goes, the state in which it ends, and what it sets.
use Rattle.std.specs.Prelude.{ℕ, Bool, true, not, nat_eq, nat_le, nat_lt, IsTrue, List, [], ◌∷◌, ◌++◌, length, codes, Option, Some, None, Result, if◌then◌else◌}
use Rattle.std.specs.List.{list_any}
use Rattle.std.specs.Fmt.{decimal}
use Rattle.deb_text.specs.Options.{ok_unless}
use Rattle.deb_relations.specs.declared.arch.ArchWords.{ArchWords}
use Rattle.deb_relations.specs.declared.relations.Alternative.{Alternative}
use Rattle.deb_relations.specs.declared.fault.RelationFault.TheVariants.{TooLong}
use Rattle.deb_relations.specs.Printing.{printed}
use Rattle.deb_relations.specs.Reduction.{reduced}
use Rattle.wb_states.specs.declared.record.Record.{Record}
use Rattle.wb_states.specs.declared.refusal.Refusal.{Refusal}
use Rattle.wb_states.specs.declared.refusal.Refusal.TheVariants.{WrongState, BadRelations, BadNumber}
use Rattle.wb_states.specs.declared.state.State.{State}
use Rattle.wb_states.specs.declared.state.State.TheVariants.{NeedsBuild, Building, Built, Uploaded, Installed, DepWait, BdUninstallable, Failed, NotForUs, BuildAttempted}
use Rattle.wb_states.specs.declared.moves.Move.{Move}
use Rattle.wb_states.specs.declared.moves.Move.TheVariants.{Take, Built as ToBuilt, Uploaded as ToUploaded, Waits, PutBack, Attempted, GiveBack, DepWait as ToDepWait, Fail, NotForUs as ToNotForUs, Rebuild}
use Rattle.wb_states.specs.Limits.{relations_limit}
use Rattle.deb_text.specs.Text.{is_empty_text}
use Rattle.wb_states.specs.State.{code_of, is_held, is_dep_wait}

-- whether a state is one of these
abbrev pub one_of : List State → State → Bool
one_of states state = list_any (λ one. nat_eq (code_of one) (code_of state)) states

-- whether a state is none of these
abbrev pub all_but : List State → State → Bool
all_but states state = not (one_of states state)

-- the states from which a move goes (this project's own)
unfoldable pub may_go : Move → State → Bool
may_go (Take holder take_number) = one_of (NeedsBuild ∷ [])
may_go ToBuilt = one_of (Building ∷ [])
may_go ToUploaded = one_of (Building ∷ Built ∷ [])
may_go (Waits relations arch) = one_of (Building ∷ [])
may_go PutBack = one_of (Building ∷ [])
may_go (Attempted reason) = one_of (Building ∷ [])
may_go GiveBack = all_but (NeedsBuild ∷ Installed ∷ [])
may_go (ToDepWait relations arch) = one_of (NeedsBuild ∷ Building ∷ BdUninstallable ∷ Failed ∷ BuildAttempted ∷ [])
may_go (Fail note) = one_of (NeedsBuild ∷ Building ∷ Built ∷ DepWait ∷ BdUninstallable ∷ BuildAttempted ∷ [])
may_go (ToNotForUs note) = one_of (NeedsBuild ∷ Building ∷ DepWait ∷ BdUninstallable ∷ Failed ∷ BuildAttempted ∷ [])
may_go (Rebuild number message) = one_of (Installed ∷ [])

-- the state in which a move ends (this project's own)
abbrev pub goal_of : Move → State
goal_of (Take holder take_number) = Building
goal_of ToBuilt = Built
goal_of ToUploaded = Uploaded
goal_of (Waits relations arch) = DepWait
goal_of PutBack = NeedsBuild
goal_of (Attempted reason) = BuildAttempted
goal_of GiveBack = NeedsBuild
goal_of (ToDepWait relations arch) = DepWait
goal_of (Fail note) = Failed
goal_of (ToNotForUs note) = NotForUs
goal_of (Rebuild number message) = NeedsBuild

-- relations as they are waited for: reduced for the architecture, and printed
abbrev pub waits_for : List (List Alternative) → ArchWords → List ℕ
waits_for relations arch = printed (reduced arch relations)

-- what a move sets, besides the state and the note
abbrev pub set_by : Move → Record → Record
set_by (Take holder take_number) current = record current { holder = Some holder; take = Some take_number }
set_by (Waits relations arch) current = record current { waits = waits_for relations arch }
set_by (ToDepWait relations arch) current = record current { waits = waits_for relations arch }
set_by (Rebuild number message) current = record current { earlier = true; number = number; message = message }
set_by _ current = current

-- the note that a move brings
abbrev pub note_of : Move → Option (List ℕ)
note_of (Attempted reason) = Some reason
note_of (Fail note) = Some note
note_of (ToNotForUs note) = Some note
note_of _ = None

-- a record in a state, without what that state does not have: a holder and a take number, or waits
abbrev pub in_state : State → Record → Record
in_state state current = record current {
  state = state;
  holder = if is_held state then current.holder else None;
  take = if is_held state then current.take else None;
  waits = if is_dep_wait state then current.waits else [];
}

-- the note of a record in its next state: the one that is brought, else none if the state changes, else the record's
abbrev pub note_after : Option (List ℕ) → State → Record → List ℕ
note_after (Some note) state current = note
note_after None state current = if nat_eq (code_of state) (code_of current.state) then current.note else []

-- the record after a move
unfoldable pub record_after_move : Move → Record → Record
record_after_move move current = record (in_state (goal_of move) (set_by move current)) {
  note = note_after (note_of move) (goal_of move) current;
}

-- what is wrong with waits: nothing is left of them, or their text is too long (this project's own)
abbrev pub waits_refusal : List ℕ → Option Refusal
waits_refusal waits =
    if is_empty_text waits then Some (BadRelations None)
    else (if nat_lt relations_limit (length waits) then Some (BadRelations (Some TooLong)) else None)

-- what is wrong with a move's relations or its number, if the state is one from which it goes (this project's own)
abbrev pub value_refusal : Move → Record → Option Refusal
value_refusal (Waits relations arch) current = waits_refusal (waits_for relations arch)
value_refusal (ToDepWait relations arch) current = waits_refusal (waits_for relations arch)
value_refusal (Rebuild number message) current = if nat_le number current.number then Some BadNumber else None
value_refusal _ current = None

-- whether the number of a move, if it has one, is above the record's
abbrev pub has_higher_number : Move → Record → Bool
has_higher_number (Rebuild number message) current = nat_lt current.number number
has_higher_number _ current = true

-- what is known before a move takes memory: it goes from the record's state, and its number, if it has one, is above
-- the record's
abbrev pub MayWantMemory : Move → Record → Type 0
MayWantMemory move current = IsTrue (may_go move current.state) × IsTrue (has_higher_number move current)

-- why a move is refused: the state, then its relations or its number
unfoldable pub move_refusal : Move → Record → Option Refusal
move_refusal move current =
    if may_go move current.state then value_refusal move current else Some (WrongState current.state)

-- the record after a move, or why it is refused
unfoldable pub move_outcome : Move → Record → Result Record Refusal
move_outcome move current = ok_unless (move_refusal move current) (record_after_move move current)

-- the version of the binaries: the source version, followed by `+bN` for a binary-only rebuild N
abbrev pub build_text_of : Record → List ℕ
build_text_of current =
    if nat_eq current.number 0 then current.version else current.version ++ codes "+b" ++ decimal current.number
