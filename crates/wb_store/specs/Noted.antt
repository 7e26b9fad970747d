-- What a transaction notes for a merge: whether its savepoint is set, and the greatest place at which a row was added.
use Rattle.std.specs.Prelude.{◌≡◌, ℕ, max, Bool, Result, OnErr, OnOk}
use Rattle.wb_states.specs.declared.store_fault.StoreFault.{StoreFault}
use Rattle.wb_store.specs.declared.writing.Writing.{Writing}

-- a call leaves both as they were
abbrev pub KeepsMerge : {S : Type 0} → Writing S → Writing S → Type 0
KeepsMerge old new = (new.is_saved ≡ old.is_saved) × (new.last_place ≡ old.last_place)

-- a call that succeeds notes whether the savepoint is set, and leaves the place as it was; one that fails leaves both
abbrev pub NotesSavepoint : {S A : Type 0} → Bool → Writing S → Writing S → Result A StoreFault → Type 0
NotesSavepoint is_saved old new result = OnOk result (new.is_saved ≡ is_saved) × OnErr result
    (new.is_saved ≡ old.is_saved) × (new.last_place ≡ old.last_place)

-- a call that adds a row at this place leaves whether the savepoint is set; it notes the place if it succeeds and the
-- place is the greatest
abbrev pub NotesPlace : {S A : Type 0} → ℕ → Writing S → Writing S → Result A StoreFault → Type 0
NotesPlace place old new result = OnOk result (new.last_place ≡ max old.last_place place) × OnErr result
    (new.last_place ≡ old.last_place) × (new.is_saved ≡ old.is_saved)
