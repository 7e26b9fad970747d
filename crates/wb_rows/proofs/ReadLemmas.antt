-- Why a row with a wrong column is that of no record.
use Rattle.std.proofs.Common.{◌≡◌, ◌≢◌, ℕ, Bool, [], ◌∷◌, Option, length, sym, ap, subst, ◌∙◌}
use Rattle.std.specs.Prelude.{◌^◌, ◌<◌, IfSome, IsUtf8, FitsSigned}
use Rattle.std.specs.Int.{w16}
use Rattle.sqlite.specs.declared.types.Value.TheVariants.{Int}
use Rattle.sqlite.specs.Order.{Row, column}
use Rattle.wb_states.specs.declared.state.State.{State}
use Rattle.wb_states.specs.declared.state.State.TheVariants.{BuildAttempted}
use Rattle.wb_states.specs.Queue.{Entry, rank_of}
use Rattle.wb_rows.specs.Cells.{number, number_or_null, flag, record_cells, text_or_null}
use Rattle.wb_rows.specs.FirstSchema.{IsNoFirst, IsNoStart, IsOfFirst, first_cells, first_rank_of, shared_cells, shared_fields}
use Rattle.wb_rows.specs.Reading.{HasColumns, HoldsNone, IsNoRecord, IsVersion, field_cells, state_cell, text_cell}
use Rattle.wb_rows.proofs.CellsLemmas.{begins, entry-same, first-same, number-same, state-same}
use Rattle.wb_rows.proofs.ColumnLemmas.{joined}

-- the row of a record begins with the cells that both schemas have
starts : (entry : Entry) → HasColumns (record_cells entry) 0 (shared_cells entry)
starts entry = begins (shared_cells entry) (Int entry.1.build_priority ∷ number (rank_of entry.1) ∷ [])

first_starts : (entry : Entry) → HasColumns (first_cells entry) 0 (shared_cells entry)
first_starts entry = begins (shared_cells entry) (number (first_rank_of entry.1) ∷ [])

module _ (row : Row) where
  pub no_size : length row ≢ 16 → IsNoRecord row
  no_size other entry readable same = other (ap length same)

  pub no_arch : HoldsNone text_cell IsUtf8 (column row 0) → IsNoStart row
  no_arch none entry readable columns = none entry.0.0 readable.arch columns.0

  pub no_source : HoldsNone text_cell IsUtf8 (column row 1) → IsNoStart row
  no_source none entry readable columns = none entry.0.1 readable.source columns.1.0

  pub no_state : ((state : State) → column row 2 ≢ state_cell state) → IsNoStart row
  no_state none entry readable columns = none entry.1.state columns.1.1.0

  pub no_version : HoldsNone text_cell IsVersion (column row 3) → IsNoStart row
  no_version none entry readable columns = none entry.1.version readable.version columns.1.1.1.0

  pub no_priority : HoldsNone text_cell IsUtf8 (column row 4) → IsNoStart row
  no_priority none entry readable columns = none entry.1.priority readable.priority columns.1.1.1.1.0

  pub no_section : HoldsNone text_cell IsUtf8 (column row 5) → IsNoStart row
  no_section none entry readable columns = none entry.1.section readable.section columns.1.1.1.1.1.0

  pub no_earlier : ((is : Bool) → column row 6 ≢ flag is) → IsNoStart row
  no_earlier none entry readable columns = none entry.1.earlier columns.1.1.1.1.1.1.0

  pub no_number : HoldsNone number (λ n. n < 2 ^ 16) (column row 7) → IsNoStart row
  no_number none entry readable columns = none entry.1.number readable.number columns.1.1.1.1.1.1.1.0

  pub no_holder : HoldsNone text_or_null (λ text. IfSome text IsUtf8) (column row 8) → IsNoStart row
  no_holder none entry readable columns = none entry.1.holder readable.holder columns.1.1.1.1.1.1.1.1.0

  pub no_take : ((take_number : Option ℕ) → column row 9 ≢ number_or_null take_number) → IsNoStart row
  no_take none entry readable columns = none entry.1.take columns.1.1.1.1.1.1.1.1.1.0

  pub no_waits : HoldsNone text_cell IsUtf8 (column row 10) → IsNoStart row
  no_waits none entry readable columns = none entry.1.waits readable.waits columns.1.1.1.1.1.1.1.1.1.1.0

  pub no_depends : HoldsNone text_or_null (λ text. IfSome text IsUtf8) (column row 11) → IsNoStart row
  no_depends none entry readable columns = none entry.1.depends readable.depends columns.1.1.1.1.1.1.1.1.1.1.1.0

  pub no_note : HoldsNone text_cell IsUtf8 (column row 12) → IsNoStart row
  no_note none entry readable columns = none entry.1.note readable.note columns.1.1.1.1.1.1.1.1.1.1.1.1.0

  pub no_message : HoldsNone text_cell IsUtf8 (column row 13) → IsNoStart row
  no_message none entry readable columns = none entry.1.message readable.message columns.1.1.1.1.1.1.1.1.1.1.1.1.1.0

  -- a row that does not begin as that of a record is that of none, of either schema
  pub no_start : IsNoStart row → IsNoRecord row
  no_start none entry readable same = none entry readable (subst (λ r. HasColumns r 0 (shared_cells entry)) (sym same) (starts entry))

  pub no_first_start : IsNoStart row → IsNoFirst row
  no_first_start none entry readable of same = none entry readable (subst (λ r. HasColumns r 0 (shared_cells entry)) (sym same) (first_starts entry))

  pub no_first_size : length row ≢ 15 → IsNoFirst row
  no_first_size other entry readable of same = other (ap length same)

  -- the tenth state
  pub no_attempt : column row 2 ≡ state_cell BuildAttempted → IsNoFirst row
  no_attempt is entry readable of same = of.state (state-same entry.1.state BuildAttempted (sym (ap (λ r. column r 2) same) ∙ is))

  pub no_first_rank : ((n : ℕ) → column row 14 ≢ number n) → IsNoFirst row
  no_first_rank none entry readable of same = none (first_rank_of entry.1) (ap (λ r. column r 14) same)

  pub no_build_priority : HoldsNone Int (FitsSigned w16) (column row 14) → IsNoRecord row
  no_build_priority none entry readable same = none entry.1.build_priority readable.build_priority (ap (λ r. column r 14) same)

  pub no_rank : ((n : ℕ) → column row 15 ≢ number n) → IsNoRecord row
  no_rank none entry readable same = none (rank_of entry.1) (ap (λ r. column r 15) same)

  -- the columns before the rank are those of one record alone, and it has another rank
  pub other_rank : (made : Entry) (place : ℕ) → HasColumns row 0 (text_cell made.0.0 ∷ text_cell made.0.1 ∷ []) → HasColumns row 2 (field_cells made.1)
      → column row 15 ≡ number place → place ≢ rank_of made.1 → IsNoRecord row
  other_rank made place key rest last other entry readable same =
      let columns = joined row 0 (text_cell made.0.0 ∷ text_cell made.0.1 ∷ []) (field_cells made.1) key rest in
      let one : entry ≡ made = entry-same entry made (subst (λ (r : Row). HasColumns r 0 (text_cell made.0.0 ∷ text_cell made.0.1 ∷ field_cells made.1)) same columns) in
      other (number-same place (rank_of made.1) (sym last ∙ ap (λ r. column r 15) same ∙ ap (λ e. number (rank_of e.1)) one))

  -- the columns before the rank are those of one record of the first schema alone, and it has another rank
  pub other_first_rank : (made : Entry) (place : ℕ) → IsOfFirst made.1 → HasColumns row 0 (text_cell made.0.0 ∷ text_cell made.0.1 ∷ []) → HasColumns row 2 (shared_fields made.1)
      → column row 14 ≡ number place → place ≢ first_rank_of made.1 → IsNoFirst row
  other_first_rank made place kept key rest last other entry readable of same =
      let columns = joined row 0 (text_cell made.0.0 ∷ text_cell made.0.1 ∷ []) (shared_fields made.1) key rest in
      let one : entry ≡ made = first-same entry made of kept (subst (λ (r : Row). HasColumns r 0 (shared_cells made)) same columns) in
      other (number-same place (first_rank_of made.1) (sym last ∙ ap (λ r. column r 14) same ∙ ap (λ e. number (first_rank_of e.1)) one))
