-- A move makes of a record what its row of the table says.
use Rattle.std.proofs.Common.{◌≡◌, ℕ, Bool, true, false, cond, not, List, [], ◌∷◌, Option, Some, None, Ok, is_some, refl, sym, ap, ◌∙◌, nat_eq}
use Rattle.deb_text.proofs.OptionLemmas.{ok_unless-Ok}
use Rattle.deb_relations.specs.declared.arch.ArchWords.{ArchWords}
use Rattle.deb_relations.specs.declared.relations.Alternative.{Alternative}
use Rattle.wb_states.specs.declared.moves.Move.{Move}
use Rattle.wb_states.specs.declared.moves.Move.TheVariants as to
use Rattle.wb_states.specs.declared.record.Record.{Record}
use Rattle.wb_states.specs.declared.refusal.Refusal.{Refusal}
use Rattle.wb_states.specs.declared.refusal.Refusal.TheVariants.{WrongState}
use Rattle.wb_states.specs.declared.state.State.{State}
use Rattle.wb_states.specs.declared.state.State.TheVariants.{NeedsBuild, Building, Built, Uploaded, Installed, DepWait}
use Rattle.wb_states.specs.State.{code_of, is_held, is_dep_wait}
use Rattle.wb_states.specs.Record.{IsWellFormed}
use Rattle.deb_text.specs.Text.{is_empty_text}
use Rattle.wb_states.specs.Moves.{may_go, note_after, move_refusal, value_refusal, record_after_move, move_outcome}
use Rattle.wb_states.specs.MoveTable.{row_of}

-- ---- a move that is not refused

from-is : (may : Bool) (value : Option Refusal) (state : State) → cond may value (Some (WrongState state)) ≡ None → may ≡ true
from-is true value state is = refl
from-is false value state is = absurd cc

pub move_outcome-done : (move : Move) (old new : Record) → move_outcome move old ≡ Ok new → (may_go move old.state ≡ true) × (new ≡ record_after_move move old)
unfolding move_outcome move_refusal
move_outcome-done move old new is =
    let parts = ok_unless-Ok (move_refusal move old) (record_after_move move old) new is in
    (from-is (may_go move old.state) (value_refusal move old) old.state parts.0, sym parts.1)

value-none : (may : Bool) (value : Option Refusal) (state : State) → cond may value (Some (WrongState state)) ≡ None → value ≡ None
value-none true value state is = is
value-none false value state is = absurd cc

pub move_outcome-value : (move : Move) (old new : Record) → move_outcome move old ≡ Ok new → value_refusal move old ≡ None
unfolding move_outcome move_refusal
move_outcome-value move old new is =
    value-none (may_go move old.state) (value_refusal move old) old.state (ok_unless-Ok (move_refusal move old) (record_after_move move old) new is).0

-- ---- what a record lacks in a state

none-is : {X : Type 0} (o : Option X) → is_some o ≡ false → o ≡ None
none-is None is = refl
none-is (Some x) is = absurd cc

empty-is : (text : List ℕ) → not (is_empty_text text) ≡ false → text ≡ []
empty-is [] is = refl
empty-is (c ∷ cs) is = absurd cc

module _ (old : Record) (well : IsWellFormed old) where
  no_holder : is_held old.state ≡ false → old.holder ≡ None
  no_holder is = none-is old.holder (well.state.held ∙ is)

  no_take : is_held old.state ≡ false → old.take ≡ None
  no_take is = none-is old.take (well.state.taken ∙ is)

  no_waits : is_dep_wait old.state ≡ false → old.waits ≡ []
  no_waits is = empty-is old.waits (well.state.waiting ∙ is)

-- ---- the states from which a move goes

-- a state that is not held, does not wait, and is not the one in which the move ends
pub record IsLeft (goal state : State) : Type 0 where
  pub other : nat_eq (code_of goal) (code_of state) ≡ false
  pub waits : is_dep_wait state ≡ false

pub take-from : (holder : List ℕ) (take_number : ℕ) (state : State) → may_go (to.Take holder take_number) state ≡ true → IsLeft Building state
unfolding may_go
take-from holder take_number NeedsBuild is = record { other = refl; waits = refl }
take-from holder take_number _ is = absurd cc

pub built-from : (state : State) → may_go to.Built state ≡ true → IsLeft Built state
unfolding may_go
built-from Building is = record { other = refl; waits = refl }
built-from _ is = absurd cc

pub uploaded-from : (state : State) → may_go to.Uploaded state ≡ true → IsLeft Uploaded state
unfolding may_go
uploaded-from Building is = record { other = refl; waits = refl }
uploaded-from Built is = record { other = refl; waits = refl }
uploaded-from _ is = absurd cc

pub put_back-from : (state : State) → may_go to.PutBack state ≡ true → IsLeft NeedsBuild state
unfolding may_go
put_back-from Building is = record { other = refl; waits = refl }
put_back-from _ is = absurd cc

pub attempted-ready : (reason : List ℕ) (state : State) → may_go (to.Attempted reason) state ≡ true → is_dep_wait state ≡ false
unfolding may_go
attempted-ready reason Building is = refl
attempted-ready reason _ is = absurd cc

pub rebuild-from : (number : ℕ) (message : List ℕ) (state : State) → may_go (to.Rebuild number message) state ≡ true → IsLeft NeedsBuild state
unfolding may_go
rebuild-from number message Installed is = record { other = refl; waits = refl }
rebuild-from number message _ is = absurd cc

pub rebuild-free : (number : ℕ) (message : List ℕ) (state : State) → may_go (to.Rebuild number message) state ≡ true → is_held state ≡ false
unfolding may_go
rebuild-free number message Installed is = refl
rebuild-free number message _ is = absurd cc

waits-from : (relations : List (List Alternative)) (arch : ArchWords) (state : State) → may_go (to.Waits relations arch) state ≡ true
    → nat_eq (code_of DepWait) (code_of state) ≡ false
unfolding may_go
waits-from relations arch Building is = refl
waits-from relations arch _ is = absurd cc

dep_wait-from : (relations : List (List Alternative)) (arch : ArchWords) (state : State) → may_go (to.DepWait relations arch) state ≡ true
    → nat_eq (code_of DepWait) (code_of state) ≡ false
unfolding may_go
dep_wait-from relations arch DepWait is = absurd cc
dep_wait-from relations arch _ is = refl

give_back-from : (state : State) → may_go to.GiveBack state ≡ true → nat_eq (code_of NeedsBuild) (code_of state) ≡ false
unfolding may_go
give_back-from NeedsBuild is = absurd cc
give_back-from _ is = refl

-- ---- the rows

-- the note is emptied where the state changes
no_note : (goal : State) (old : Record) → nat_eq (code_of goal) (code_of old.state) ≡ false → note_after None goal old ≡ []
no_note goal old is = ap (λ b. cond b old.note []) is

pub record_after_move-row : (move : Move) (old : Record) → IsWellFormed old → may_go move old.state ≡ true → record_after_move move old ≡ row_of move old
unfolding record_after_move
record_after_move-row (to.Take holder take_number) old well may =
    let left = take-from holder take_number old.state may in
    λ i. record (row_of (to.Take holder take_number) old) {
      waits = sym (no_waits old well left.waits) i;
      note = no_note Building old left.other i;
    }
record_after_move-row to.Built old well may =
    let left = built-from old.state may in
    λ i. record (row_of to.Built old) { waits = sym (no_waits old well left.waits) i; note = no_note Built old left.other i }
record_after_move-row to.Uploaded old well may =
    let left = uploaded-from old.state may in
    λ i. record (row_of to.Uploaded old) { waits = sym (no_waits old well left.waits) i; note = no_note Uploaded old left.other i }
record_after_move-row (to.Waits relations arch) old well may =
    λ i. record (row_of (to.Waits relations arch) old) { note = no_note DepWait old (waits-from relations arch old.state may) i }
record_after_move-row to.PutBack old well may =
    let left = put_back-from old.state may in
    λ i. record (row_of to.PutBack old) { waits = sym (no_waits old well left.waits) i; note = no_note NeedsBuild old left.other i }
record_after_move-row (to.Attempted reason) old well may =
    λ i. record (row_of (to.Attempted reason) old) { waits = sym (no_waits old well (attempted-ready reason old.state may)) i }
record_after_move-row to.GiveBack old well may =
    λ i. record (row_of to.GiveBack old) { note = no_note NeedsBuild old (give_back-from old.state may) i }
record_after_move-row (to.DepWait relations arch) old well may =
    λ i. record (row_of (to.DepWait relations arch) old) { note = no_note DepWait old (dep_wait-from relations arch old.state may) i }
record_after_move-row (to.Fail note) old well may = refl
record_after_move-row (to.NotForUs note) old well may = refl
record_after_move-row (to.Rebuild number message) old well may =
    let left = rebuild-from number message old.state may in
    let free = rebuild-free number message old.state may in
    λ i. record (row_of (to.Rebuild number message) old) {
      holder = sym (no_holder old well free) i;
      take = sym (no_take old well free) i;
      waits = sym (no_waits old well left.waits) i;
      note = no_note NeedsBuild old left.other i;
    }

pub move_outcome-row : (move : Move) (old new : Record) → IsWellFormed old → move_outcome move old ≡ Ok new → new ≡ row_of move old
move_outcome-row move old new well is =
    let done = move_outcome-done move old new is in
    done.1 ∙ record_after_move-row move old well done.0
