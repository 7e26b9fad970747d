-- The paragraphs of bytes from the front on: separators that go, and lines that make up the first paragraph.
use Rattle.std.proofs.Common.{◌≡◌, ◌∙◌, sym, ap, refl, ℕ, ◌<◌, ◌-◌, Bool, true, false, not, length, take, List, [], ◌∷◌, ◌++◌, inl, inr, arith, append_assoc}
use Rattle.std.proofs.lemmas.Bool.{cases_Bool, not-true, not-false}
use Rattle.std.proofs.lemmas.List.{length-append, take_at, append-nil}
use Rattle.std.specs.List.{before_first, after_first, slice_split, onto_first, list_any, list_all, filter}
use Rattle.deb_control.specs.Lines.{is_line_feed, is_blank, lines_of, is_separator, front_line, paragraphs_in, begin_no_paragraph, begins_separator, begins_paragraph, IsFirstParagraph, is_nonempty}
use Rattle.deb_control.proofs.LineLemmas.{lines_of-front, lines_of-front_line, lines_of-behind, front_line-rest, length-after_line, body_of-front}

-- whether a text begins with a separator is a test of its first line
pub begins_separator-test : (text line : List ℕ) (b : Bool) → 0 < length text → line ≡ before_first is_line_feed text → b ≡ list_all is_blank line → begins_separator text ≡ b
unfolding begins_separator is_separator
begins_separator-test [] line b some is test = absurd (omega arith)
begins_separator-test (c ∷ cs) line b some is test =
    ap (list_all is_blank) (body_of-front (c ∷ cs) ∙ sym is) ∙ sym test

pub begins_paragraph-test : (text line : List ℕ) (b : Bool) → 0 < length text → line ≡ before_first is_line_feed text → b ≡ list_all is_blank line → begins_paragraph text ≡ not b
unfolding begins_paragraph is_separator
begins_paragraph-test [] line b some is test = absurd (omega arith)
begins_paragraph-test (c ∷ cs) line b some is test =
    ap (λ (v : List ℕ). not (list_all is_blank v)) (body_of-front (c ∷ cs) ∙ sym is) ∙ ap not (sym test)

-- the empty text begins with neither
pub begins_separator-nil : (text : List ℕ) → length text ≡ 0 → begins_separator text ≡ false
unfolding begins_separator
begins_separator-nil [] none = refl
begins_separator-nil (c ∷ cs) none = absurd (omega arith)

pub begins_paragraph-nil : (text : List ℕ) → length text ≡ 0 → begins_paragraph text ≡ false
unfolding begins_paragraph
begins_paragraph-nil [] none = refl
begins_paragraph-nil (c ∷ cs) none = absurd (omega arith)

-- a text with characters that begins with no separator begins with a paragraph
pub begins_paragraph-else : (text : List ℕ) → 0 < length text → begins_separator text ≡ false → begins_paragraph text ≡ true
unfolding begins_separator begins_paragraph
begins_paragraph-else [] some separator = absurd (omega arith)
begins_paragraph-else (c ∷ cs) some separator = ap not separator

-- a text that begins with a paragraph has characters
pub length-begins_paragraph : (text : List ℕ) → begins_paragraph text ≡ true → 0 < length text
unfolding begins_paragraph
length-begins_paragraph [] begins = cc
length-begins_paragraph (c ∷ cs) begins = omega arith

-- a separator in front changes nothing
pub paragraphs_in-separator : (line : List ℕ) (lines : List (List ℕ)) → is_separator line ≡ true → paragraphs_in (line ∷ lines) ≡ paragraphs_in lines
unfolding paragraphs_in
paragraphs_in-separator line lines separator = rw separator refl

-- the paragraphs of a text that begins with a separator are those of what stands behind it
pub paragraphs_in-behind : (text : List ℕ) → begins_separator text ≡ true → paragraphs_in (lines_of (after_first is_line_feed text)) ≡ paragraphs_in (lines_of text)
unfolding begins_separator
paragraphs_in-behind [] begins = cc
paragraphs_in-behind (c ∷ cs) begins =
    sym (ap paragraphs_in (lines_of-front c cs) ∙ paragraphs_in-separator (front_line (c ∷ cs)) (lines_of (after_first is_line_feed (c ∷ cs))) begins)

pub length-behind_separator : (text : List ℕ) → begins_separator text ≡ true → length (after_first is_line_feed text) < length text
unfolding begins_separator
length-behind_separator [] begins = cc
length-behind_separator (c ∷ cs) begins = length-after_line (c ∷ cs) (omega arith)

pub length-behind_line : (text : List ℕ) → begins_paragraph text ≡ true → length (after_first is_line_feed text) < length text
length-behind_line text begins = length-after_line text (length-begins_paragraph text begins)

-- the lines in front of what is left, none of which is a separator
pub record Passed (start left : List ℕ) : Type 0 where
  pub front : List ℕ
  pub joined : front ++ left ≡ start
  pub lines : lines_of start ≡ lines_of front ++ lines_of left
  pub plain : list_any is_separator (lines_of front) ≡ false
  pub whole : 0 < length left → (more : List ℕ) → lines_of (front ++ more) ≡ lines_of front ++ lines_of more

pub passed_none : (start : List ℕ) → Passed start start
passed_none start = record { front = []; joined = refl; lines = refl; plain = refl; whole = λ _ more. refl }

list_any-push : (xs : List (List ℕ)) (x : List ℕ) → list_any is_separator xs ≡ false → is_separator x ≡ false → list_any is_separator (xs ++ x ∷ []) ≡ false
list_any-push [] x none plain = rw plain refl
list_any-push (y ∷ ys) x none plain = elim (cases_Bool (is_separator y)) [
  | inl t ↦ absurd (cc (rw t at none))
  | inr f ↦ rw f (list_any-push ys x (rw f at none) plain)
]

-- one more line of the paragraph
pub passed_more : (start left : List ℕ) → Passed start left → begins_paragraph left ≡ true → Passed start (after_first is_line_feed left)
unfolding begins_paragraph
passed_more start [] p begins = cc
passed_more start (c ∷ cs) p begins =
    let line : List ℕ = front_line (c ∷ cs) in
    let rest : List ℕ = after_first is_line_feed (c ∷ cs) in
    let some : 0 < length (c ∷ cs) = omega arith in
    let pushed : lines_of (p.front ++ line) ≡ lines_of p.front ++ line ∷ [] =
    p.whole some line ∙ ap (λ (v : List (List ℕ)). lines_of p.front ++ v) (lines_of-front_line c cs) in
    record {
      front = p.front ++ line;
      joined = append_assoc p.front line rest ∙ ap (λ (v : List ℕ). p.front ++ v) (front_line-rest (c ∷ cs)) ∙ p.joined;
      lines =
          p.lines
          ∙ ap (λ (v : List (List ℕ)). lines_of p.front ++ v) (lines_of-front c cs)
          ∙ sym (append_assoc (lines_of p.front) (line ∷ []) (lines_of rest))
          ∙ ap (λ (v : List (List ℕ)). v ++ lines_of rest) (sym pushed);
      plain = ap (list_any is_separator) pushed ∙ list_any-push (lines_of p.front) line p.plain (not-true (is_separator line) begins);
      whole = λ behind more.
          ap lines_of (append_assoc p.front line more)
          ∙ p.whole some (line ++ more)
          ∙ ap (λ (v : List (List ℕ)). lines_of p.front ++ v) (lines_of-behind (c ∷ cs) more behind)
          ∙ sym (append_assoc (lines_of p.front) (line ∷ []) (lines_of more))
          ∙ ap (λ (v : List (List ℕ)). v ++ lines_of more) (sym pushed);
    }

-- items that do not pass, and then one that does or the end
pub slice_split-run : {X : Type 0} (test : X → Bool) (xs : List X) (y : X) (ys : List X) → list_any test xs ≡ false → test y ≡ true
    → slice_split test (xs ++ y ∷ ys) ≡ xs ∷ slice_split test ys
slice_split-run test [] y ys none one = rw one refl
slice_split-run test (x ∷ xs) y ys none one = elim (cases_Bool (test x)) [
  | inl t ↦ absurd (cc (rw t at none))
  | inr f ↦ rw f (ap (onto_first x) (slice_split-run test xs y ys (rw f at none) one))
]

pub slice_split-end : {X : Type 0} (test : X → Bool) (xs : List X) → list_any test xs ≡ false → slice_split test xs ≡ xs ∷ []
slice_split-end test [] none = refl
slice_split-end test (x ∷ xs) none = elim (cases_Bool (test x)) [
  | inl t ↦ absurd (cc (rw t at none))
  | inr f ↦ rw f (ap (onto_first x) (slice_split-end test xs (rw f at none)))
]

-- the paragraphs where a run of lines comes first
pub paragraphs_in-run : (run after : List (List ℕ)) → is_nonempty run ≡ true → list_any is_separator run ≡ false → begin_no_paragraph after ≡ true
    → paragraphs_in (run ++ after) ≡ run ∷ paragraphs_in after
unfolding paragraphs_in
paragraphs_in-run run [] some plain stops =
    ap (λ (v : List (List ℕ)). filter is_nonempty (slice_split is_separator v)) (append-nil run)
    ∙ ap (filter is_nonempty) (slice_split-end is_separator run plain)
    ∙ rw some refl
paragraphs_in-run run (line ∷ lines) some plain stops =
    ap (filter is_nonempty) (slice_split-run is_separator run line lines plain stops)
    ∙ rw some refl
    ∙ ap (λ (v : List (List (List ℕ))). run ∷ v) (sym (paragraphs_in-separator line lines stops))

-- the lines of a text that begins with no paragraph
begin_no_paragraph-lines_of : (text : List ℕ) → begins_paragraph text ≡ false → begin_no_paragraph (lines_of text) ≡ true
unfolding begins_paragraph
begin_no_paragraph-lines_of [] stops = refl
begin_no_paragraph-lines_of (c ∷ cs) stops = ap begin_no_paragraph (lines_of-front c cs) ∙ not-false (is_separator (front_line (c ∷ cs))) stops

-- a text with characters has a line
is_nonempty-lines_of : (c : ℕ) (cs : List ℕ) → is_nonempty (lines_of (c ∷ cs)) ≡ true
is_nonempty-lines_of c cs = ap is_nonempty (lines_of-front c cs)

front_is : (start left front : List ℕ) → front ++ left ≡ start → take (length start - length left) start ≡ front
front_is start left front joined =
    ap (λ (v : List ℕ). take (length v - length left) v) (sym joined)
    ∙ take_at front left (length (front ++ left) - length left) (omega (arith, length-append front left))

-- where the run stops, it is the first paragraph
pub first_paragraph : (start left : List ℕ) → begins_paragraph start ≡ true → begins_paragraph left ≡ false → Passed start left
    → IsFirstParagraph start (take (length start - length left) start) left
first_paragraph start left begins stops p = from p.front p.joined p.lines p.plain
  where
    from : (front : List ℕ) → front ++ left ≡ start → lines_of start ≡ lines_of front ++ lines_of left → list_any is_separator (lines_of front) ≡ false
        → IsFirstParagraph start (take (length start - length left) start) left
    from [] joined lines plain = absurd (cc (sym begins ∙ ap begins_paragraph (sym joined) ∙ stops))
    from (c ∷ cs) joined lines plain =
        ap paragraphs_in lines
        ∙ paragraphs_in-run (lines_of (c ∷ cs)) (lines_of left) (is_nonempty-lines_of c cs) plain (begin_no_paragraph-lines_of left stops)
        ∙ ap (λ (v : List ℕ). lines_of v ∷ paragraphs_in (lines_of left)) (sym (front_is start left (c ∷ cs) joined))

-- where a paragraph was passed, less is left
pub length-behind_paragraph : (start left : List ℕ) → begins_paragraph start ≡ true → begins_paragraph left ≡ false → Passed start left → length left < length start
length-behind_paragraph start left begins stops p = from p.front p.joined
  where
    from : (front : List ℕ) → front ++ left ≡ start → length left < length start
    from [] joined = absurd (cc (sym begins ∙ ap begins_paragraph (sym joined) ∙ stops))
    from (c ∷ cs) joined = omega (arith, length-append (c ∷ cs) left, ap length joined)

-- the empty text has no paragraph
pub paragraphs_in-empty : (text : List ℕ) → length text ≡ 0 → paragraphs_in (lines_of text) ≡ []
unfolding paragraphs_in
paragraphs_in-empty [] none = refl
paragraphs_in-empty (c ∷ cs) none = absurd (omega arith)
