-- The rows of a list are those of its paragraphs, and the first paragraph that has a fault decides.
use Rattle.std.proofs.Common.{◌≡◌, ◌↔◌, ℕ, ◌+◌, suc, List, [], ◌∷◌, ◌++◌, length, Result, Ok, Err, IsOk, is_ok, true, false, refl, sym, ap, subst, ◌∙◌, arith}
use Rattle.std.specs.List.{AllByRecursion}
use Rattle.deb_control.specs.Lines.{lines_of, paragraphs_in}
use Rattle.wb_states.specs.declared.refusal.Refusal.{Refusal}
use Rattle.wb_states.specs.declared.refusal.Refusal.TheVariants.{BadListing}
use Rattle.wb_states.specs.declared.refusal.ListKind.{ListKind}
use Rattle.wb_states.specs.declared.refusal.ListKind.TheVariants.{Sources, Packages}
use Rattle.wb_states.specs.declared.refusal.ListingFault.{ListingFault}
use Rattle.wb_merge.specs.Rows.{SourceParagraph, BinaryParagraph, onto_rows, refused_at, rows_behind, source_paragraph}
use Rattle.wb_merge.specs.Rows.{binary_paragraph, source_rows, binary_rows, AreRows, IsFirstFault}

module _ {X : Type 0} (row_of : List (List ℕ) → Result X ListingFault) (which : ListKind) where
  -- ---- rows

  rows-from : (passed : ℕ) (paragraphs : List (List (List ℕ))) (rows : List X) → AreRows row_of paragraphs rows → rows_behind row_of which passed paragraphs ≡ Ok rows
  rows-from passed [] [] are = refl
  rows-from passed [] (row ∷ rows) are = absurd are
  rows-from passed (lines ∷ later) [] are = absurd are
  rows-from passed (lines ∷ later) (row ∷ rows) are =
      λ i. onto_rows (refused_at which (passed + 1) (are.0 i)) (rows-from (passed + 1) later rows are.1 i)

  onto-good : (row : X) (rest : Result (List X) Refusal) (rows : List X) → onto_rows (Ok row) rest ≡ Ok rows → (others : List X) × ((rest ≡ Ok others) × (rows ≡ row ∷ others))
  onto-good row (Ok others) rows is = (others, (refl, cc))
  onto-good row (Err refusal) rows is = absurd cc

  rows-are : (passed : ℕ) (paragraphs : List (List (List ℕ))) (rows : List X) → rows_behind row_of which passed paragraphs ≡ Ok rows → AreRows row_of paragraphs rows
  rows-are passed [] [] is = tt
  rows-are passed [] (row ∷ rows) is = absurd cc
  rows-are passed (lines ∷ later) rows is =
      let others = rows_behind row_of which (passed + 1) later in
      let rest = rows-are (passed + 1) later in
      elim (row_of lines) as (λ found. row_of lines ≡ found → AreRows row_of (lines ∷ later) rows) [
        | Ok row ↦ λ e.
            let parts = onto-good row others rows (ap (λ (r : Result X ListingFault). onto_rows (refused_at which (passed + 1) r) others) (sym e) ∙ is) in
            subst (AreRows row_of (lines ∷ later)) (sym parts.1.1) (e, rest parts.0 parts.1.0)
        | Err fault ↦ λ e.
            let wrong : Err (BadListing which (passed + 1) fault) ≡ Ok rows =
            ap (λ (r : Result X ListingFault). onto_rows (refused_at which (passed + 1) r) others) (sym e) ∙ is in
            absurd (never (BadListing which (passed + 1) fault) rows wrong)
      ] refl
    where
      never : (refusal : Refusal) (rows : List X) → Err refusal ≡ Ok rows → ⊥
      never refusal rows e = cc

  -- ---- the first fault

  -- the first fault of paragraphs behind others
  record IsFaultFrom (passed : ℕ) (paragraphs : List (List (List ℕ))) (refusal : Refusal) : Type 0 where
    before : List (List (List ℕ))
    lines : List (List ℕ)
    behind : List (List (List ℕ))
    fault : ListingFault
    stands : paragraphs ≡ before ++ lines ∷ behind
    good : AllByRecursion (λ other. IsOk (row_of other)) before
    bad : row_of lines ≡ Err fault
    refused : refusal ≡ BadListing which (passed + (length before + 1)) fault

  onto-bad : (row : X) (rest : Result (List X) Refusal) (refusal : Refusal) → onto_rows (Ok row) rest ≡ Err refusal → rest ≡ Err refusal
  onto-bad row (Ok others) refusal is = absurd cc
  onto-bad row (Err other) refusal is = is

  fault-is : (passed : ℕ) (paragraphs : List (List (List ℕ))) (refusal : Refusal) → rows_behind row_of which passed paragraphs ≡ Err refusal → IsFaultFrom passed paragraphs refusal
  fault-is passed [] refusal is = absurd cc
  fault-is passed (lines ∷ later) refusal is =
      let others = rows_behind row_of which (passed + 1) later in
      let rest = fault-is (passed + 1) later refusal in
      elim (row_of lines) as (λ found. row_of lines ≡ found → IsFaultFrom passed (lines ∷ later) refusal) [
        | Ok row ↦ λ e.
            let h = rest (onto-bad row others refusal (ap (λ (r : Result X ListingFault). onto_rows (refused_at which (passed + 1) r) others) (sym e) ∙ is)) in
            let number : (passed + 1) + (length h.before + 1) ≡ passed + (suc (length h.before) + 1) = omega arith in
            record {
              before = lines ∷ h.before;
              lines = h.lines;
              behind = h.behind;
              fault = h.fault;
              stands = ap (λ (ps : List (List (List ℕ))). lines ∷ ps) h.stands;
              good = (ap is_ok e, h.good);
              bad = h.bad;
              refused = h.refused ∙ ap (λ (n : ℕ). BadListing which n h.fault) number;
            }
        | Err fault ↦ λ e.
            let told : Err (BadListing which (passed + 1) fault) ≡ Err refusal =
            ap (λ (r : Result X ListingFault). onto_rows (refused_at which (passed + 1) r) others) (sym e) ∙ is in
            let number : passed + 1 ≡ passed + (0 + 1) = omega arith in
            record {
              before = [];
              lines = lines;
              behind = later;
              fault = fault;
              stands = refl;
              good = tt;
              bad = e;
              refused = sym (one-refusal (BadListing which (passed + 1) fault) refusal told) ∙ ap (λ (n : ℕ). BadListing which n fault) number;
            }
      ] refl
    where
      one-refusal : (one other : Refusal) → (let first : Result (List X) Refusal = Err one in first ≡ Err other) → one ≡ other
      one-refusal one other e = cc

  fault-from : (passed : ℕ) (before : List (List (List ℕ))) (lines : List (List ℕ)) (behind : List (List (List ℕ))) (fault : ListingFault)
      → AllByRecursion (λ other. IsOk (row_of other)) before → row_of lines ≡ Err fault
      → rows_behind row_of which passed (before ++ lines ∷ behind) ≡ Err (BadListing which (passed + (length before + 1)) fault)
  fault-from passed [] lines behind fault good bad =
      let number : passed + 1 ≡ passed + (0 + 1) = omega arith in
      ap (λ (r : Result X ListingFault). onto_rows (refused_at which (passed + 1) r) (rows_behind row_of which (passed + 1) behind)) bad
      ∙ ap (λ (n : ℕ). Err (BadListing which n fault)) number
  fault-from passed (other ∷ before) lines behind fault good bad =
      let rest = fault-from (passed + 1) before lines behind fault good.1 bad in
      let number : (passed + 1) + (length before + 1) ≡ passed + (suc (length before) + 1) = omega arith in
      elim (row_of other) as (λ found. row_of other ≡ found
      → rows_behind row_of which passed ((other ∷ before) ++ lines ∷ behind) ≡ Err (BadListing which (passed + (suc (length before) + 1)) fault)) [
        | Ok row ↦ λ e.
            (λ i. onto_rows (refused_at which (passed + 1) (e i)) (rest i)) ∙ ap (λ (n : ℕ). Err (BadListing which n fault)) number
        | Err wrong ↦ λ e. absurd (never (sym (ap is_ok e) ∙ good.0))
      ] refl
    where
      never : false ≡ true → ⊥
      never e = cc

  pub rows_behind-rows : (paragraphs : List (List (List ℕ))) (rows : List X) → (rows_behind row_of which 0 paragraphs ≡ Ok rows) ↔ AreRows row_of paragraphs rows
  rows_behind-rows paragraphs rows = (rows-are 0 paragraphs rows, rows-from 0 paragraphs rows)

  pub rows_behind-first : (paragraphs : List (List (List ℕ))) (refusal : Refusal) → (rows_behind row_of which 0 paragraphs ≡ Err refusal) ↔ IsFirstFault which row_of paragraphs refusal
  rows_behind-first paragraphs refusal = (
    λ is.
        let h = fault-is 0 paragraphs refusal is in
        let number : 0 + (length h.before + 1) ≡ length h.before + 1 = omega arith in
        record {
          before = h.before;
          lines = h.lines;
          behind = h.behind;
          fault = h.fault;
          stands = h.stands;
          good = h.good;
          bad = h.bad;
          refused = h.refused ∙ ap (λ (n : ℕ). BadListing which n h.fault) number;
        },
    λ h.
        let number : 0 + (length h.before + 1) ≡ length h.before + 1 = omega arith in
        ap (rows_behind row_of which 0) h.stands
        ∙ fault-from 0 h.before h.lines h.behind h.fault h.good h.bad
        ∙ ap (λ (n : ℕ). Err (BadListing which n h.fault)) number
        ∙ ap (λ (r : Refusal). Err r) (sym h.refused),
  )

-- ---- the two lists

pub source_rows-rows : (text : List ℕ) (rows : List SourceParagraph) → (source_rows text ≡ Ok rows) ↔ AreRows source_paragraph (paragraphs_in (lines_of text)) rows
unfolding source_rows
source_rows-rows text rows = rows_behind-rows source_paragraph Sources (paragraphs_in (lines_of text)) rows

pub source_rows-first : (text : List ℕ) (refusal : Refusal) → (source_rows text ≡ Err refusal) ↔ IsFirstFault Sources source_paragraph (paragraphs_in (lines_of text)) refusal
unfolding source_rows
source_rows-first text refusal = rows_behind-first source_paragraph Sources (paragraphs_in (lines_of text)) refusal

pub binary_rows-rows : (text : List ℕ) (rows : List BinaryParagraph) → (binary_rows text ≡ Ok rows) ↔ AreRows binary_paragraph (paragraphs_in (lines_of text)) rows
unfolding binary_rows
binary_rows-rows text rows = rows_behind-rows binary_paragraph Packages (paragraphs_in (lines_of text)) rows

pub binary_rows-first : (text : List ℕ) (refusal : Refusal) → (binary_rows text ≡ Err refusal) ↔ IsFirstFault Packages binary_paragraph (paragraphs_in (lines_of text)) refusal
unfolding binary_rows
binary_rows-first text refusal = rows_behind-first binary_paragraph Packages (paragraphs_in (lines_of text)) refusal
