-- What the calls of a reader answer, one after the other.
use Rattle.std.proofs.Common.{◌≡◌, ◌∙◌, sym, ap, refl, ℕ, zero, suc, ◌+◌, true, false, length, List, [], ◌∷◌, ◌++◌, arith, None, Some, Result, Ok, Err}
use Rattle.std.specs.Prelude.{is_ok}
use Rattle.std.specs.List.{list_all}
use Rattle.std.proofs.lemmas.Bool.{and_parts}
use Rattle.std.proofs.lemmas.List.{append-nil}
use Rattle.deb_control.specs.declared.fault.ControlFaultKind.{ControlFaultKind}
use Rattle.deb_control.specs.declared.fault.ControlFaultKind.TheVariants.{Ended}
use Rattle.deb_control.specs.Fields.{FieldText, reading_of}
use Rattle.deb_control.specs.Paragraphs.{ReaderState, begun, ended_at, answered, step, after_calls, answer_after, answer_for, has_reading}

answered-ok : (number : ℕ) (later : List (List (List ℕ))) (reading : Result (List FieldText) ControlFaultKind) → is_ok reading ≡ true → (answered number later reading).1 ≡ record { passed = number; ahead = Some later }
answered-ok number later (Ok fields) ok = refl
answered-ok number later (Err kind) ok = cc

answered-err : (number : ℕ) (later : List (List (List ℕ))) (reading : Result (List FieldText) ControlFaultKind) → is_ok reading ≡ false → (answered number later reading).1 ≡ ended_at number
answered-err number later (Ok fields) err = cc
answered-err number later (Err kind) err = refl

answered-answer : (number : ℕ) (later : List (List (List ℕ))) (reading : Result (List FieldText) ControlFaultKind) → (answered number later reading).0 ≡ (answered number [] reading).0
answered-answer number later (Ok fields) = refl
answered-answer number later (Err kind) = refl

one_past : (passed n : ℕ) → (passed + 1) + n ≡ passed + suc n
one_past passed n = omega arith

-- good paragraphs are passed one a call
passes : (passed : ℕ) (before later : List (List (List ℕ))) → list_all has_reading before ≡ true
    → after_calls (length before) (record { passed = passed; ahead = Some (before ++ later) }) ≡ record { passed = passed + length before; ahead = Some later }
passes passed [] later all = ap (λ (k : ℕ). record { passed = k; ahead = Some later }) (zero_more passed)
  where
    zero_more : (k : ℕ) → k ≡ k + 0
    zero_more k = omega arith
passes passed (lines ∷ before) later all =
    let parts : (has_reading lines ≡ true) × (list_all has_reading before ≡ true) = and_parts _ _ all in
    ap (after_calls (length before)) (answered-ok (passed + 1) (before ++ later) (reading_of lines) parts.0)
    ∙ passes (passed + 1) before later parts.1
    ∙ ap (λ (k : ℕ). record { passed = k; ahead = Some later }) (one_past passed (length before))

suc_more : (m n : ℕ) → suc m + n ≡ suc (m + n)
suc_more m n = omega arith

zero_first : (n : ℕ) → zero + n ≡ n
zero_first n = omega arith

after_calls-add : (m n : ℕ) (place : ReaderState) → after_calls (m + n) place ≡ after_calls n (after_calls m place)
after_calls-add zero n place = ap (λ (k : ℕ). after_calls k place) (zero_first n)
after_calls-add (suc m) n place = ap (λ (k : ℕ). after_calls k place) (suc_more m n) ∙ after_calls-add m n (step place).1

-- at the end and after a refusal a reader stays where it is
stays_at_end : (n passed : ℕ) → after_calls n (record { passed = passed; ahead = Some [] }) ≡ record { passed = passed; ahead = Some [] }
stays_at_end zero passed = refl
stays_at_end (suc n) passed = stays_at_end n passed

stays_ended : (n passed : ℕ) → after_calls n (ended_at passed) ≡ ended_at passed
stays_ended zero passed = refl
stays_ended (suc n) passed = stays_ended n passed

from_begun : (before later : List (List (List ℕ))) → list_all has_reading before ≡ true
    → after_calls (length before) (begun (before ++ later)) ≡ record { passed = length before; ahead = Some later }
from_begun before later all = passes 0 before later all ∙ ap (λ (k : ℕ). record { passed = k; ahead = Some later }) (zero_first (length before))

pub answer_after-paragraph : (before : List (List (List ℕ))) (lines : List (List ℕ)) (later : List (List (List ℕ))) → list_all has_reading before ≡ true
    → answer_after (length before) (begun (before ++ lines ∷ later)) ≡ answer_for (length before + 1) lines
answer_after-paragraph before lines later all =
    ap (λ (p : ReaderState). (step p).0) (from_begun before (lines ∷ later) all) ∙ answered-answer (length before + 1) later (reading_of lines)

pub answer_after-end : (paragraphs : List (List (List ℕ))) (more : ℕ) → list_all has_reading paragraphs ≡ true
    → answer_after (length paragraphs + more) (begun paragraphs) ≡ Ok None
answer_after-end paragraphs more all =
    ap (λ (p : ReaderState). (step p).0)
    (after_calls-add (length paragraphs) more (begun paragraphs)
    ∙ ap (after_calls more) (ap (λ (v : List (List (List ℕ))). after_calls (length paragraphs) (begun v)) (sym (append-nil paragraphs)) ∙ from_begun paragraphs [] all)
    ∙ stays_at_end more (length paragraphs))

pub answer_after-ended : (before : List (List (List ℕ))) (lines : List (List ℕ)) (later : List (List (List ℕ))) (more : ℕ) → list_all has_reading before ≡ true
    → has_reading lines ≡ false
    → answer_after (length before + 1 + more) (begun (before ++ lines ∷ later)) ≡ Err (record { paragraph = length before + 1; kind = Ended })
answer_after-ended before lines later more all bad =
    ap (λ (p : ReaderState). (step p).0)
    (after_calls-add (length before + 1) more (begun (before ++ lines ∷ later))
    ∙ ap (after_calls more)
    (after_calls-add (length before) 1 (begun (before ++ lines ∷ later))
    ∙ ap (after_calls 1) (from_begun before (lines ∷ later) all)
    ∙ answered-err (length before + 1) later (reading_of lines) bad)
    ∙ stays_ended more (length before + 1))
