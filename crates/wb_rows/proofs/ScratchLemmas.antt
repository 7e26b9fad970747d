-- Why a row with a wrong column is that of no package of a merge; and a row of the right columns.
use Rattle.std.proofs.Common.{◌≡◌, ◌≢◌, ◌∙◌, ℕ, Bool, List, [], ◌∷◌, Option, None, Some, length, ap, sym}
use Rattle.std.specs.Prelude.{◌^◌, ◌<◌, IsUtf8, IfSome}
use Rattle.std.proofs.lemmas.Str.{IsUtf8-nil}
use Rattle.sqlite.specs.Order.{Row, column}
use Rattle.wb_states.specs.declared.scratch.BinaryRow.{BinaryRow}
use Rattle.wb_states.specs.declared.scratch.SourceRow.{SourceRow}
use Rattle.wb_rows.specs.Cells.{number, flag}
use Rattle.wb_rows.specs.Reading.{HasColumns, HoldsNone, IsVersion, text_cell}
use Rattle.wb_rows.specs.Scratch.{source_cells, binary_cells, own_number, version_or_empty, IsNoBinary, IsNoSource, IsOffered}
use Rattle.wb_rows.proofs.CellsLemmas.{number-same, text-same}
use Rattle.wb_rows.proofs.ColumnLemmas.{row-is}
use Rattle.wb_rows.proofs.TextLemmas.{version-utf8}

-- a version, or the empty text for none, is UTF-8
pub offer-utf8 : (version : Option (List ℕ)) → IfSome version IsVersion → IsUtf8 (version_or_empty version)
offer-utf8 None is = IsUtf8-nil
offer-utf8 (Some version) is = version-utf8 version is

module _ (row : Row) where
  pub no_source_seq : ((n : ℕ) → column row 0 ≢ number n) → IsNoSource row
  no_source_seq none made readable same = none made.seq (ap (λ r. column r 0) same)

  pub no_source_name : HoldsNone text_cell IsUtf8 (column row 1) → IsNoSource row
  no_source_name none made readable same = none made.name readable.name (ap (λ r. column r 1) same)

  pub no_source_version : HoldsNone text_cell IsVersion (column row 2) → IsNoSource row
  no_source_version none made readable same = none made.version readable.version (ap (λ r. column r 2) same)

  pub no_source_architecture : HoldsNone text_cell IsUtf8 (column row 3) → IsNoSource row
  no_source_architecture none made readable same = none made.architecture readable.architecture (ap (λ r. column r 3) same)

  pub no_source_extra : ((is : Bool) → column row 4 ≢ flag is) → IsNoSource row
  no_source_extra none made readable same = none made.extra (ap (λ r. column r 4) same)

  pub no_source_priority : HoldsNone text_cell IsUtf8 (column row 5) → IsNoSource row
  no_source_priority none made readable same = none made.priority readable.priority (ap (λ r. column r 5) same)

  pub no_source_section : HoldsNone text_cell IsUtf8 (column row 6) → IsNoSource row
  no_source_section none made readable same = none made.section readable.section (ap (λ r. column r 6) same)

  pub no_source_depends : HoldsNone text_cell IsUtf8 (column row 7) → IsNoSource row
  no_source_depends none made readable same = none made.depends readable.depends (ap (λ r. column r 7) same)

  pub no_source_depends_arch : HoldsNone text_cell IsUtf8 (column row 8) → IsNoSource row
  no_source_depends_arch none made readable same = none made.depends_arch readable.depends_arch (ap (λ r. column r 8) same)

  pub no_binary_seq : ((n : ℕ) → column row 0 ≢ number n) → IsNoBinary row
  no_binary_seq none made readable same = none made.seq (ap (λ r. column r 0) same)

  pub no_binary_name : HoldsNone text_cell IsUtf8 (column row 1) → IsNoBinary row
  no_binary_name none made readable same = none made.name readable.name (ap (λ r. column r 1) same)

  pub no_binary_version : HoldsNone text_cell IsUtf8 (column row 2) → IsNoBinary row
  no_binary_version none made readable same =
      none (version_or_empty made.version) (offer-utf8 made.version readable.version) (ap (λ r. column r 2) same)

  pub no_binary_source : HoldsNone text_cell IsUtf8 (column row 3) → IsNoBinary row
  no_binary_source none made readable same = none made.source readable.source (ap (λ r. column r 3) same)

  pub no_binary_source_version : HoldsNone text_cell IsVersion (column row 4) → IsNoBinary row
  no_binary_source_version none made readable same = none made.source_version readable.source_version (ap (λ r. column r 4) same)

  pub no_binary_number : HoldsNone number (λ n. n < 2 ^ 16) (column row 5) → IsNoBinary row
  no_binary_number none made readable same = none made.number readable.number (ap (λ r. column r 5) same)

  pub no_binary_own : ((n : ℕ) → column row 6 ≢ number n) → IsNoBinary row
  no_binary_own none made readable same = none (own_number made.own made.version) (ap (λ r. column r 6) same)

  -- a text and a number that no version and no flag have
  pub no_binary_offer : (text : List ℕ) (kind : ℕ) → column row 2 ≡ text_cell text → column row 6 ≡ number kind
      → ((version : Option (List ℕ)) (own : Bool) → IfSome version IsVersion → ¬ IsOffered text kind version own) → IsNoBinary row
  no_binary_offer text kind there numbered none made readable same =
      none made.version made.own readable.version (record {
        of_version = text-same text (version_or_empty made.version) (sym there ∙ ap (λ r. column r 2) same);
        of_own = number-same kind (own_number made.own made.version) (sym numbered ∙ ap (λ r. column r 6) same);
      })

  -- a row of 9 columns that are those of a source package is its row
  pub source_whole : (made : SourceRow) → length row ≡ 9 → HasColumns row 0 (number made.seq ∷ text_cell made.name ∷ []) → HasColumns row 2 (text_cell made.version ∷ text_cell made.architecture ∷ [])
      → HasColumns row 4 (flag made.extra ∷ []) → HasColumns row 5 (text_cell made.priority ∷ text_cell made.section ∷ []) → HasColumns row 7 (text_cell made.depends ∷ text_cell made.depends_arch ∷ [])
      → row ≡ source_cells made
  source_whole made size p b e l n = row-is row (source_cells made) size (p.0, (p.1.0, (b.0, (b.1.0, (e.0, (l.0, (l.1.0, (n.0, (n.1.0, tt)))))))))

  -- a row of 7 columns that are those of a binary package is its row
  pub binary_whole : (made : BinaryRow) (text : List ℕ) (kind : ℕ) → length row ≡ 7 → HasColumns row 0 (number made.seq ∷ text_cell made.name ∷ [])
      → HasColumns row 2 (text_cell text ∷ text_cell made.source ∷ []) → HasColumns row 4 (text_cell made.source_version ∷ [])
      → HasColumns row 5 (number made.number ∷ number kind ∷ []) → IsOffered text kind made.version made.own → row ≡ binary_cells made
  binary_whole made text kind size p b s n is =
      row-is row (binary_cells made) size
      (p.0, (p.1.0, (b.0 ∙ ap text_cell is.of_version, (b.1.0, (s.0, (n.0, (n.1.0 ∙ ap number is.of_own, tt)))))))
