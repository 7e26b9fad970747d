-- The paragraphs of lines and the relation between them: each follows from the other.
use Rattle.std.proofs.Common.{◌≡◌, ◌∙◌, sym, ap, subst, refl, ℕ, true, false, List, [], ◌∷◌, ◌++◌, inl, inr}
use Rattle.std.specs.Prelude.{if◌then◌else◌}
use Rattle.std.specs.List.{list_all, list_any}
use Rattle.std.proofs.lemmas.Bool.{cases_Bool, and_parts, and_from}
use Rattle.deb_control.specs.Lines.{is_separator, begin_no_paragraph, paragraphs_in, HaveParagraphs}
use Rattle.deb_control.proofs.RunLemmas.{paragraphs_in-run, paragraphs_in-separator}

-- the run of lines that comes first, and what stands behind it
abbrev run_of : List (List ℕ) → List (List ℕ)
run_of [] = []
run_of (line ∷ lines) = if is_separator line then [] else line ∷ run_of lines

abbrev rest_of : List (List ℕ) → List (List ℕ)
rest_of [] = []
rest_of (line ∷ lines) = if is_separator line then line ∷ lines else rest_of lines

run_of-rest_of : (lines : List (List ℕ)) → lines ≡ run_of lines ++ rest_of lines
run_of-rest_of [] = refl
run_of-rest_of (line ∷ lines) = elim (cases_Bool (is_separator line)) [
  | inl is ↦ rw is refl
  | inr other ↦ rw other (ap (λ (v : List (List ℕ)). line ∷ v) (run_of-rest_of lines))
]

list_any-run_of : (lines : List (List ℕ)) → list_any is_separator (run_of lines) ≡ false
list_any-run_of [] = refl
list_any-run_of (line ∷ lines) = elim (cases_Bool (is_separator line)) [
  | inl is ↦ rw is refl
  | inr other ↦ rw other (rw other (list_any-run_of lines))
]

begin_no_paragraph-rest_of : (lines : List (List ℕ)) → begin_no_paragraph (rest_of lines) ≡ true
begin_no_paragraph-rest_of [] = refl
begin_no_paragraph-rest_of (line ∷ lines) = elim (cases_Bool (is_separator line)) [
  | inl is ↦ rw is is
  | inr other ↦ rw other (begin_no_paragraph-rest_of lines)
]

-- a separator in front of lines with these paragraphs
separator_first : (line : List ℕ) (lines : List (List ℕ)) (paragraphs : List (List (List ℕ))) → is_separator line ≡ true → HaveParagraphs lines paragraphs → HaveParagraphs (line ∷ lines) paragraphs
separator_first line lines [] is all = and_from (is_separator line) (list_all is_separator lines) is all
separator_first line lines (paragraph ∷ paragraphs) is (before, after, cut, all, some, plain, stops, behind) =
    (line ∷ before, after, ap (λ (v : List (List ℕ)). line ∷ v) cut, and_from (is_separator line) (list_all is_separator before) is all, some, plain, stops, behind)

rest_of-separator : (line : List ℕ) (lines : List (List ℕ)) → is_separator line ≡ true → rest_of (line ∷ lines) ≡ line ∷ lines
rest_of-separator line lines is = rw is refl

rest_of-other : (line : List ℕ) (lines : List (List ℕ)) → is_separator line ≡ false → (rest_of (line ∷ lines) ≡ rest_of lines) × (run_of (line ∷ lines) ≡ line ∷ run_of lines)
rest_of-other line lines other = (rw other refl, rw other refl)

-- lines that begin with a paragraph
paragraph_first : (line : List ℕ) (lines : List (List ℕ)) → is_separator line ≡ false → HaveParagraphs (rest_of lines) (paragraphs_in (rest_of lines))
    → HaveParagraphs (line ∷ lines) (paragraphs_in (line ∷ lines))
paragraph_first line lines other behind =
    let plain : list_any is_separator (line ∷ run_of lines) ≡ false = rw other (list_any-run_of lines) in
    let cut : line ∷ lines ≡ (line ∷ run_of lines) ++ rest_of lines = ap (λ (v : List (List ℕ)). line ∷ v) (run_of-rest_of lines) in
    let is : paragraphs_in (line ∷ lines) ≡ (line ∷ run_of lines) ∷ paragraphs_in (rest_of lines) =
    ap paragraphs_in cut ∙ paragraphs_in-run (line ∷ run_of lines) (rest_of lines) refl plain (begin_no_paragraph-rest_of lines) in
    subst (λ (v : List (List (List ℕ))). HaveParagraphs (line ∷ lines) v) (sym is)
    ([], rest_of lines, cut, refl, refl, plain, begin_no_paragraph-rest_of lines, behind)

both : (lines : List (List ℕ)) → HaveParagraphs lines (paragraphs_in lines) × HaveParagraphs (rest_of lines) (paragraphs_in (rest_of lines))
unfolding paragraphs_in
both [] = (refl, refl)
both (line ∷ lines) = elim (cases_Bool (is_separator line)) [
  | inl is ↦
      let first : HaveParagraphs (line ∷ lines) (paragraphs_in (line ∷ lines)) =
      subst (λ (v : List (List (List ℕ))). HaveParagraphs (line ∷ lines) v) (sym (paragraphs_in-separator line lines is))
      (separator_first line lines (paragraphs_in lines) is (both lines).0) in
      (first, subst (λ (v : List (List ℕ)). HaveParagraphs v (paragraphs_in v)) (sym (rest_of-separator line lines is)) first)
  | inr other ↦ (
    paragraph_first line lines other (both lines).1,
    subst (λ (v : List (List ℕ)). HaveParagraphs v (paragraphs_in v)) (sym (rest_of-other line lines other).0) (both lines).1,
  )
]

pub HaveParagraphs-paragraphs_in : (lines : List (List ℕ)) → HaveParagraphs lines (paragraphs_in lines)
HaveParagraphs-paragraphs_in lines = (both lines).0

-- separators in front change nothing
paragraphs_in-separators : (before lines : List (List ℕ)) → list_all is_separator before ≡ true → paragraphs_in (before ++ lines) ≡ paragraphs_in lines
paragraphs_in-separators [] lines all = refl
paragraphs_in-separators (line ∷ before) lines all =
    let parts : (is_separator line ≡ true) × (list_all is_separator before ≡ true) = and_parts _ _ all in
    paragraphs_in-separator line (before ++ lines) parts.0 ∙ paragraphs_in-separators before lines parts.1

paragraphs_in-none : (lines : List (List ℕ)) → list_all is_separator lines ≡ true → paragraphs_in lines ≡ []
unfolding paragraphs_in
paragraphs_in-none [] all = refl
paragraphs_in-none (line ∷ lines) all =
    let parts : (is_separator line ≡ true) × (list_all is_separator lines ≡ true) = and_parts _ _ all in
    paragraphs_in-separator line lines parts.0 ∙ paragraphs_in-none lines parts.1

pub paragraphs_in-HaveParagraphs : (lines : List (List ℕ)) (paragraphs : List (List (List ℕ))) → HaveParagraphs lines paragraphs → paragraphs_in lines ≡ paragraphs
paragraphs_in-HaveParagraphs lines [] all = paragraphs_in-none lines all
paragraphs_in-HaveParagraphs lines (paragraph ∷ paragraphs) (before, after, cut, all, some, plain, stops, behind) =
    ap paragraphs_in cut
    ∙ paragraphs_in-separators before (paragraph ++ after) all
    ∙ paragraphs_in-run paragraph after some plain stops
    ∙ ap (λ (v : List (List (List ℕ))). paragraph ∷ v) (paragraphs_in-HaveParagraphs after paragraphs behind)
