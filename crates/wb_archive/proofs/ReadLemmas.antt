-- What a call of a reader says of what is kept of the paragraphs ahead.
use Rattle.std.proofs.Common.{◌≡◌, ◌≢◌, ℕ, ◌+◌, List, [], ◌∷◌, filter, Bool, Option, None, Some, Result, Ok, Err, refl}
use Rattle.std.proofs.Common.{sym, ap, ap₂, subst, ◌∙◌, inl, inr, ◌⊎◌}
use Rattle.std.specs.Result.{result_map_both}
use Rattle.deb_control.specs.declared.fault.ControlFault.{ControlFault}
use Rattle.deb_control.specs.declared.fault.ControlFaultKind.{ControlFaultKind}
use Rattle.deb_control.specs.declared.fault.ControlFaultKind.TheVariants.{Ended, Memory as OutOfMemory}
use Rattle.deb_control.specs.Fields.{FieldText, reading_of}
use Rattle.deb_control.specs.Paragraphs.{Answer, ReaderState, answered, step, step_over}
use Rattle.deb_relations.specs.declared.arch.ArchWords.{ArchWords}
use Rattle.deb_text.specs.Options.{ok_unless}
use Rattle.wb_states.specs.declared.refusal.Refusal.{Refusal}
use Rattle.wb_states.specs.declared.refusal.Refusal.TheVariants.{BadListing, Memory}
use Rattle.wb_states.specs.declared.refusal.ListKind.{ListKind}
use Rattle.wb_states.specs.declared.refusal.ListKind.TheVariants.{Sources, Packages}
use Rattle.wb_states.specs.declared.refusal.ListingFault.{ListingFault}
use Rattle.wb_states.specs.declared.refusal.ListingFault.TheVariants.{Control}
use Rattle.wb_states.specs.declared.scratch.SourceRow.{SourceRow}
use Rattle.wb_states.specs.declared.scratch.BinaryRow.{BinaryRow}
use Rattle.wb_merge.specs.Rows.{source_fault, onto_rows}
use Rattle.wb_merge.specs.Scratch.{binary_rows_at, is_binary_wanted, kept_behind, kept_reading, source_columns}
use Rattle.wb_merge.specs.Scratch.{source_row_at, wanted_rows_at}
use Rattle.wb_archive.specs.declared.fault.BadList.{BadList}
use Rattle.wb_archive.specs.declared.fault.ReadFault.{ReadFault}
use Rattle.wb_archive.specs.declared.fault.ReadFault.TheVariants.{Memory as NoMemory, Bad}
use Rattle.wb_archive.specs.Faults.{IfBad, control_bad, refusal_of}
use Rattle.wb_archive.specs.Reads.{AnswersFrom, GivesRow, IsRefused, MayStandWhere, kept_ahead, kept_at}

only-ok : {X E : Type 0} (x y : X) → ◌≡◌ {A = Result X E} (Ok x) (Ok y) → x ≡ y
only-ok x y e = cc

only-some : (x y : List FieldText) → ◌≡◌ {A = Answer} (Ok (Some x)) (Ok (Some y)) → x ≡ y
only-some x y e = cc

-- ---- the count of a reader

-- a paragraph whose fields are read is counted
pub step-counts : (place after : ReaderState) (fields : List FieldText) → step place ≡ (Ok (Some fields), after) → after.passed ≡ place.passed + 1
step-counts place after fields steps = over place.ahead steps where
  read : (later : List (List (List ℕ))) (reading : Result (List FieldText) ControlFaultKind) → answered (place.passed + 1) later reading ≡ (Ok (Some fields), after)
      → after.passed ≡ place.passed + 1
  read later (Ok others) e = λ i. ((sym e) i).1.passed
  read later (Err kind) e = λ i. ((sym e) i).1.passed

  over : (ahead : Option (List (List (List ℕ)))) → step_over place.passed ahead ≡ (Ok (Some fields), after) → after.passed ≡ place.passed + 1
  over None e = absurd (go (λ i. (e i).0)) where
    go : ◌≡◌ {A = Answer} (Err (record { paragraph = place.passed; kind = Ended })) (Ok (Some fields)) → ⊥
    go e = cc
  over (Some []) e = absurd (go (λ i. (e i).0)) where
    go : ◌≡◌ {A = Answer} (Ok None) (Ok (Some fields)) → ⊥
    go e = cc
  over (Some (lines ∷ later)) e = read later (reading_of lines) e

-- ---- the number of a row

-- what is kept of a paragraph of Sources has its number
pub source-seq : (at : ℕ) (fields : List FieldText) (row : SourceRow) → source_row_at at fields ≡ Ok row → row.seq ≡ at
unfolding source_row_at
source-seq at fields row = go (source_fault fields) where
  go : (fault : Option ListingFault) → result_map_both (λ (row : SourceRow). row) (BadListing Sources at) (ok_unless fault (source_columns at fields)) ≡ Ok row → row.seq ≡ at
  go None e = sym (ap (λ (r : SourceRow). r.seq) (only-ok (source_columns at fields) row e))
  go (Some fault) e = absurd cc

-- of what is kept of a paragraph of Packages the rows that can matter
pub rows-kept : (arch : ArchWords) (wanted : List ℕ → Bool) (at : ℕ) (fields : List FieldText) (rows : List BinaryRow)
    → wanted_rows_at arch wanted at fields ≡ Ok rows
    → (kept : List BinaryRow) × ((rows ≡ filter (is_binary_wanted wanted) kept) ×
    (binary_rows_at arch at fields ≡ Ok kept))
rows-kept arch wanted at fields rows is = go (binary_rows_at arch at fields) is where
  go : (read : Result (List BinaryRow) Refusal) → result_map_both (filter (is_binary_wanted wanted))
      (λ refusal. refusal) read ≡ Ok rows
      → (kept : List BinaryRow) × ((rows ≡ filter (is_binary_wanted wanted) kept) × (read ≡ Ok kept))
  go (Ok kept) e = (kept, (sym (only-ok (filter (is_binary_wanted wanted) kept) rows e), refl))
  go (Err refusal) e = absurd cc

-- ---- a refusal

module _ {X : Type 0} (which : ListKind) (row_at : ℕ → List FieldText → Result X Refusal) where
  -- a paragraph whose fields are read and refused refuses the list
  pub refused-fields : (place : ReaderState) (passed : ℕ) (fields : List FieldText) (refusal : Refusal) → (step place).0 ≡ Ok (Some fields)
      → passed ≡ place.passed → row_at (passed + 1) fields ≡ Err refusal → kept_at which row_at place ≡ Err refusal
  refused-fields place passed fields refusal steps count is =
      over place.ahead steps where
        at : row_at (place.passed + 1) fields ≡ Err refusal
        at = subst (λ n. row_at (n + 1) fields ≡ Err refusal) count is

        read : (later : List (List (List ℕ))) (reading : Result (List FieldText) ControlFaultKind) → (answered (place.passed + 1) later reading).0 ≡ Ok (Some fields)
            → onto_rows (kept_reading which (place.passed + 1) (row_at (place.passed + 1)) reading) (kept_behind which row_at (place.passed + 1) later) ≡ Err refusal
        read later (Ok others) e =
            let same : others ≡ fields = cc in
            subst (λ (f : List FieldText). onto_rows (row_at (place.passed + 1) f) (kept_behind which row_at (place.passed + 1) later) ≡ Err refusal) (sym same)
            (ap (λ first. onto_rows first (kept_behind which row_at (place.passed + 1) later)) at)
        read later (Err kind) e = absurd cc

        over : (ahead : Option (List (List (List ℕ)))) → (step_over place.passed ahead).0 ≡ Ok (Some fields) → kept_ahead which row_at place.passed ahead ≡ Err refusal
        over None e = absurd cc
        over (Some []) e = absurd cc
        over (Some (lines ∷ later)) e = read later (reading_of lines) e

  -- a fault of the reader refuses the list
  pub refused-control : (place : ReaderState) (fault : ControlFault) → (step place).0 ≡ Err fault
      → kept_at which row_at place ≡ Err (refusal_of (control_bad which fault))
  refused-control place fault steps = over place.ahead steps where
    by : (other : ControlFault) → other ≡ fault
        → ◌≡◌ {A = Result (List X) Refusal} (Err (BadListing which other.paragraph (Control other.kind))) (Err (refusal_of (control_bad which fault)))
    by other e = ap (λ (f : ControlFault). Err (BadListing which f.paragraph (Control f.kind))) e

    read : (later : List (List (List ℕ))) (reading : Result (List FieldText) ControlFaultKind) → (answered (place.passed + 1) later reading).0 ≡ Err fault
        → onto_rows (kept_reading which (place.passed + 1) (row_at (place.passed + 1)) reading) (kept_behind which row_at (place.passed + 1) later) ≡ Err (refusal_of (control_bad which fault))
    read later (Ok others) e = absurd cc
    read later (Err kind) e = by (record { paragraph = place.passed + 1; kind = kind }) cc

    over : (ahead : Option (List (List (List ℕ)))) → (step_over place.passed ahead).0 ≡ Err fault → kept_ahead which row_at place.passed ahead ≡ Err (refusal_of (control_bad which fault))
    over None e = by (record { paragraph = place.passed; kind = Ended }) cc
    over (Some []) e = absurd cc
    over (Some (lines ∷ later)) e = read later (reading_of lines) e

  -- a paragraph whose fields are read, and of which this is kept
  pub kept-fields : (place after : ReaderState) (passed : ℕ) (fields : List FieldText) (row : X) → step place ≡ (Ok (Some fields), after)
      → passed ≡ place.passed → row_at (passed + 1) fields ≡ Ok row → kept_at which row_at place ≡ onto_rows (Ok row) (kept_at which row_at after)
  kept-fields place after passed fields row steps count is = over place.ahead steps where
    at : row_at (place.passed + 1) fields ≡ Ok row
    at = subst (λ n. row_at (n + 1) fields ≡ Ok row) count is

    read : (later : List (List (List ℕ))) (reading : Result (List FieldText) ControlFaultKind) → answered (place.passed + 1) later reading ≡ (Ok (Some fields), after)
        → onto_rows (kept_reading which (place.passed + 1) (row_at (place.passed + 1)) reading) (kept_behind which row_at (place.passed + 1) later)
        ≡ onto_rows (Ok row) (kept_at which row_at after)
    read later (Ok others) e =
        let same : others ≡ fields = only-some others fields (λ i. (e i).0) in
        let there : record { passed = place.passed + 1; ahead = Some later } ≡ after = λ i. (e i).1 in
        ap₂ onto_rows (ap (row_at (place.passed + 1)) same ∙ at) (ap (kept_at which row_at) there)
    read later (Err kind) e = absurd (err-ok kind (λ i. (e i).0)) where
      err-ok : (kind : ControlFaultKind) → ◌≡◌ {A = Answer} (Err (record { paragraph = place.passed + 1; kind = kind })) (Ok (Some fields)) → ⊥
      err-ok kind e = cc

    over : (ahead : Option (List (List (List ℕ)))) → step_over place.passed ahead ≡ (Ok (Some fields), after)
        → kept_ahead which row_at place.passed ahead ≡ onto_rows (Ok row) (kept_at which row_at after)
    over None e = absurd (go (λ i. (e i).0)) where
      go : ◌≡◌ {A = Answer} (Err (record { paragraph = place.passed; kind = Ended })) (Ok (Some fields)) → ⊥
      go e = cc
    over (Some []) e = absurd (go (λ i. (e i).0)) where
      go : ◌≡◌ {A = Answer} (Ok None) (Ok (Some fields)) → ⊥
      go e = cc
    over (Some (lines ∷ later)) e = read later (reading_of lines) e

  -- the end of a list
  pub kept-none : (place : ReaderState) → (step place).0 ≡ Ok None → kept_at which row_at place ≡ Ok []
  kept-none place steps = over place.ahead steps where
    read : (later : List (List (List ℕ))) (reading : Result (List FieldText) ControlFaultKind) → (answered (place.passed + 1) later reading).0 ≡ Ok None
        → onto_rows (kept_reading which (place.passed + 1) (row_at (place.passed + 1)) reading) (kept_behind which row_at (place.passed + 1) later) ≡ Ok []
    read later (Ok others) e = absurd cc
    read later (Err kind) e = absurd cc

    over : (ahead : Option (List (List (List ℕ)))) → (step_over place.passed ahead).0 ≡ Ok None → kept_ahead which row_at place.passed ahead ≡ Ok []
    over None e = absurd cc
    over (Some []) e = refl
    over (Some (lines ∷ later)) e = read later (reading_of lines) e

-- ---- what a call answers

bad-map : {P Q : BadList → Type 0} (fault : ReadFault) → ((bad : BadList) → P bad → Q bad) → IfBad fault P → IfBad fault Q
bad-map NoMemory step is = tt
bad-map (Bad bad) step is = step bad is

-- a reader that may stand somewhere, and its places, each with the count of the reader
module _ {R : Type 0} (MayStand : R → ReaderState → Type 0) (passed_by : R → ℕ) (stands : (reader : R) → (place : ReaderState) × MayStand reader place)
    (counts : (reader : R) (place : ReaderState) → MayStand reader place → place.passed ≡ passed_by reader) where
  -- a reader that gave the fields of a paragraph went through one more
  pub counts-more : (old new : R) (fields : List FieldText) → AnswersFrom MayStand old new (Ok (Some fields)) → passed_by new ≡ passed_by old + 1
  counts-more old new fields answers =
      let after = stands new in
      let before = answers after.0 after.1 in
      sym (counts new after.0 after.1) ∙ step-counts before.0 after.0 fields before.1.1 ∙ ap (λ n. n + 1) (counts old before.0 before.1.0)

  -- the fields of the next paragraph are kept
  pub gives-row : {X : Type 0} (row_at : ℕ → List FieldText → Result X Refusal) (old new : R) (passed : ℕ) (fields : List FieldText) (row : X)
      → AnswersFrom MayStand old new (Ok (Some fields)) → passed ≡ passed_by old → row_at (passed + 1) fields ≡ Ok row → GivesRow MayStand row_at old row new
  gives-row row_at old new passed fields row answers count is = λ after here.
      let before = answers after here in
      let at = subst (λ n. row_at (n + 1) fields ≡ Ok row) (count ∙ sym (counts old before.0 before.1.0)) is in
      (before.0, (before.1.0, (fields, (after, (before.1.1, (at, refl))))))

  module _ {X : Type 0} (which : ListKind) (row_at : ℕ → List FieldText → Result X Refusal) where
    -- the list has ended
    pub gives-end : (old new : R) → AnswersFrom MayStand old new (Ok None) → MayStandWhere MayStand old (λ place. kept_at which row_at place ≡ Ok [])
    gives-end old new answers =
        let after = stands new in
        let before = answers after.0 after.1 in
        (before.0, (before.1.0, kept-none which row_at before.0 (λ i. (before.1.1 i).0)))

    module _ (Breaks : R → ControlFault → Type 0) where
      -- what a list that is refused says of its reader
      abbrev MayRefuse : R → BadList → Type 0
      MayRefuse old bad = MayStandWhere MayStand old (λ place. IsRefused (Breaks old) which row_at place bad)

      -- the fields of the next paragraph are refused
      pub refuses-fields : (old new : R) (passed : ℕ) (fields : List FieldText) (refusal : Refusal) (fault : ReadFault) → AnswersFrom MayStand old new (Ok (Some fields))
          → passed ≡ passed_by old → (refusal ≢ Memory → row_at (passed + 1) fields ≡ Err refusal) → IfBad fault (λ bad. refusal ≡ refusal_of bad)
          → IfBad fault (MayRefuse old)
      refuses-fields old new passed fields refusal fault answers count is of = bad-map fault each of where
        other : (bad : BadList) → refusal_of bad ≡ Memory → ⊥
        other bad e = cc

        each : (bad : BadList) → refusal ≡ refusal_of bad → MayRefuse old bad
        each bad e =
            let after = stands new in
            let before = answers after.0 after.1 in (
              before.0,
              (
                before.1.0,
                inr (refused-fields which row_at before.0 passed fields refusal (λ i. (before.1.1 i).0) (count ∙ sym (counts old before.0 before.1.0)) (is (λ m. other bad (sym e ∙ m)))
                    ∙ ap Err e),
              ),
            )

      -- the reader refuses the next paragraph, or breaks
      pub refuses-control : (old : R) (broke : ControlFault) (fault : ReadFault)
          → (broke.kind ≢ OutOfMemory
          → (Breaks old broke × (broke.paragraph ≡ passed_by old + 1)) ⊎ MayStandWhere MayStand old (λ place. (step place).0 ≡ Err broke))
          → IfBad fault (λ bad. (broke.kind ≢ OutOfMemory) × (bad ≡ control_bad which broke))
          → IfBad fault (MayRefuse old)
      refuses-control old broke fault is of = bad-map fault each of where
        each : (bad : BadList) → (broke.kind ≢ OutOfMemory) × (bad ≡ control_bad which broke) → MayRefuse old bad
        each bad e = (elim (is e.0) [
          | inl breaks ↦ (
            (stands old).0,
            (
              (stands old).1,
              inl (record {
                broke = record { broke = broke; breaks = breaks.0; is = e.1 ∙ ap (λ (b : BadList). control_bad b.which broke) (sym e.1) };
                list = ap (λ (b : BadList). b.which) e.1;
                read = record {
                  rows = [];
                  last = (stands old).0;
                  reads = refl;
                  next = ap (λ (b : BadList). b.paragraph) e.1 ∙ breaks.1 ∙ ap (λ n. n + 1) (sym (counts old (stands old).0 (stands old).1));
                };
              }),
            ),
          )
          | inr place ↦
              (place.0, (place.1.0, inr (refused-control which row_at place.0 broke place.1.1 ∙ ap (λ (b : BadList). Err (refusal_of b)) (sym e.1))))
        ])
