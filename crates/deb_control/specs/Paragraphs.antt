-- What a reader of control data answers, call by call, after Debian Policy 5.1.
use Rattle.std.specs.Prelude.{◌≡◌, ℕ, zero, suc, ◌+◌, Bool, false, IsTrue, List, [], ◌∷◌, Option, None, Some, Result, Ok, Err, is_ok}
use Rattle.deb_control.specs.declared.fault.ControlFault.{ControlFault}
use Rattle.deb_control.specs.declared.fault.ControlFaultKind.{ControlFaultKind}
use Rattle.deb_control.specs.declared.fault.ControlFaultKind.TheVariants.{Ended}
use Rattle.deb_control.specs.Fields.{FieldText, reading_of, takes_memory}

-- where a reader stands: how many paragraphs it went through, and those ahead, or none once it has refused
pub record ReaderState : Type 0 where
  pub passed : ℕ
  pub ahead : Option (List (List (List ℕ)))

-- what one call answers: the fields of a paragraph, none at the end, or a fault
abbrev pub Answer : Type 0
Answer = Result (Option (List FieldText)) ControlFault

-- the place before the first of these paragraphs
abbrev pub begun : List (List (List ℕ)) → ReaderState
begun paragraphs = record { passed = 0; ahead = Some paragraphs }

-- the place of a reader that ended at the paragraph of this number
abbrev pub ended_at : ℕ → ReaderState
ended_at number = record { passed = number; ahead = None }

-- the answer for the paragraph of this number, by its reading, and the place after it (Policy 5.1)
abbrev pub answered : ℕ → List (List (List ℕ)) → Result (List FieldText) ControlFaultKind → Answer × ReaderState
answered number later (Ok fields) = (Ok (Some fields), record { passed = number; ahead = Some later })
answered number later (Err kind) = (Err (record { paragraph = number; kind = kind }), ended_at number)

-- the answer after so many paragraphs if these are ahead, and the place then
abbrev pub step_over : ℕ → Option (List (List (List ℕ))) → Answer × ReaderState
step_over passed None = (Err (record { paragraph = passed; kind = Ended }), ended_at passed)
step_over passed (Some []) = (Ok None, record { passed = passed; ahead = Some [] })
step_over passed (Some (lines ∷ later)) = answered (passed + 1) later (reading_of lines)

-- what one call answers at a place, and the place then, unless memory runs out
abbrev pub step : ReaderState → Answer × ReaderState
step place = step_over place.passed place.ahead

-- whether a paragraph is ahead for which memory is taken
abbrev pub wants_memory : Option (List (List (List ℕ))) → Bool
wants_memory None = false
wants_memory (Some []) = false
wants_memory (Some (lines ∷ _)) = takes_memory lines

-- a call that ran out of memory ends the reader at the paragraph that was next, for which memory is taken
pub record MemoryEnds (old : ReaderState) (fault : ControlFault) (new : ReaderState) : Type 0 where
  pub next : IsTrue (wants_memory old.ahead)
  pub paragraph : fault.paragraph ≡ old.passed + 1
  pub ended : new ≡ ended_at (old.passed + 1)

-- the place after so many calls, unless memory runs out
abbrev pub after_calls : ℕ → ReaderState → ReaderState
after_calls zero place = place
after_calls (suc n) place = after_calls n (step place).1

-- what the next call answers after so many calls, unless memory runs out
abbrev pub answer_after : ℕ → ReaderState → Answer
answer_after n place = (step (after_calls n place)).0

-- what so many calls answer, one after the other, unless memory runs out
abbrev pub answers_of : ℕ → ReaderState → List Answer
answers_of zero place = []
answers_of (suc n) place = (step place).0 ∷ answers_of n (step place).1

-- the answer for the paragraph of this number: its fields or its fault (Policy 5.1)
abbrev pub answer_for : ℕ → List (List ℕ) → Answer
answer_for number lines = (answered number [] (reading_of lines)).0

-- whether a paragraph has a reading (Policy 5.1)
abbrev pub has_reading : List (List ℕ) → Bool
has_reading lines = is_ok (reading_of lines)
