-- A text has no more paragraphs than bytes, and a reader begins with all of them.
use Rattle.std.proofs.Common.{◌≡◌, ℕ, ◌+◌, ◌≤◌, Bool, true, false, cond, List, [], ◌∷◌, ◌<◌, ◌^◌, length, filter, IsTrue, refl, sym, ap, subst, ◌∙◌, arith}
use Rattle.std.specs.List.{slice_split, onto_first}
use Rattle.deb_control.specs.Paragraphs.{ReaderState, begun}
use Rattle.wb_states.specs.declared.refusal.ListKind.TheVariants.{Sources, Packages}
use Rattle.wb_merge.specs.Rows.{SourceParagraph, BinaryParagraph, source_paragraph, binary_paragraph, source_rows}
use Rattle.wb_merge.specs.Rows.{binary_rows}
use Rattle.wb_merge.specs.Offers.{HasPassed, after_rows, rows_at}
use Rattle.wb_merge.specs.Growth.{ahead_takes_memory, list_takes_memory}
use Rattle.deb_control.specs.Lines.{is_line_feed, is_separator, is_nonempty, lines_of, paragraphs_in}

-- one line more makes one run more at most
run_more : (b : Bool) (line : List ℕ) (runs : List (List (List ℕ)))
    → length (filter is_nonempty (cond b ([] ∷ runs) (onto_first line runs))) ≤ length (filter is_nonempty runs) + 1
run_more true line runs = omega arith
run_more false line [] = omega arith
run_more false line ([] ∷ runs) = omega arith
run_more false line ((first ∷ run) ∷ runs) = omega arith

runs-le : (parts : List ℕ → Bool) (lines : List (List ℕ)) → length (filter is_nonempty (slice_split parts lines)) ≤ length lines
runs-le parts [] = omega arith
runs-le parts (line ∷ lines) = omega (arith, run_more (parts line) line (slice_split parts lines), runs-le parts lines)

line_more : (b : Bool) (c : ℕ) (lines : List (List ℕ)) → length (cond b ((c ∷ []) ∷ lines) (onto_first c lines)) ≤ length lines + 1
line_more true c lines = omega arith
line_more false c [] = omega arith
line_more false c (line ∷ lines) = omega arith

lines-le : (text : List ℕ) → length (lines_of text) ≤ length text
lines-le [] = omega arith
lines-le (c ∷ cs) = omega (arith, line_more (is_line_feed c) c (lines_of cs), lines-le cs)

pub paragraphs-le : (text : List ℕ) → length (paragraphs_in (lines_of text)) ≤ length text
unfolding paragraphs_in
paragraphs-le text = omega (arith, runs-le is_separator (lines_of text), lines-le text)

-- a reader that stands before the first paragraph of a text
pub begins : (text : List ℕ) (place : ReaderState) → place ≡ begun (paragraphs_in (lines_of text)) → length text < 2 ^ 64 → HasPassed place 0
begins text place is fits = subst (λ p. HasPassed p 0) (sym is) (record { count = refl; goes_on = refl; fits = omega (arith, paragraphs-le text) })

-- a reader that stands before the first paragraph takes memory where the list does
pub first-takes : (text : List ℕ) (place : ReaderState) → place ≡ begun (paragraphs_in (lines_of text)) → IsTrue (ahead_takes_memory place.ahead)
    → IsTrue (list_takes_memory text)
unfolding list_takes_memory
first-takes text place is takes = ap (λ p. ahead_takes_memory p.ahead) (sym is) ∙ takes

module _ {S : Type 0} where
  pub all-sources : (add : S → SourceParagraph → S) (start first : S) (text : List ℕ) (place : ReaderState) → place ≡ begun (paragraphs_in (lines_of text)) → start ≡ first
      → after_rows add start (rows_at source_paragraph Sources place) ≡ after_rows add first (source_rows text)
  unfolding source_rows
  all-sources add start first text place is same = ap (λ p. after_rows add start (rows_at source_paragraph Sources p)) is ∙ ap (λ s. after_rows add s (source_rows text)) same

  pub all-binaries : (add : S → BinaryParagraph → S) (start first : S) (text : List ℕ) (place : ReaderState) → place ≡ begun (paragraphs_in (lines_of text)) → start ≡ first
      → after_rows add start (rows_at binary_paragraph Packages place) ≡ after_rows add first (binary_rows text)
  unfolding binary_rows
  all-binaries add start first text place is same = ap (λ p. after_rows add start (rows_at binary_paragraph Packages p)) is ∙ ap (λ s. after_rows add s (binary_rows text)) same
