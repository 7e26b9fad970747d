-- What a read of a paragraph gives, line by line.
use Rattle.std.proofs.Common.{◌≡◌, ◌∙◌, sym, ap, refl, ℕ, ◌+◌, ◌<◌, ◌≤◌, true, false, length, List, [], ◌∷◌, ◌++◌, ◌⊎◌, inl, inr, arith, append-nil, append_assoc, Vec, subst}
use Rattle.std.specs.declared.alloc.Global.{Global}
use Rattle.std.specs.List.{list_any, list_all, concat, slice_split, onto_first, filter}
use Rattle.std.proofs.lemmas.Bool.{cases_Bool, and_parts}
use Rattle.std.proofs.lemmas.List.{length-append}
use Rattle.std.proofs.lemmas.List.Folds.{list_all-append, list_any-append, concat-append}
use Rattle.deb_control.specs.Lines.{is_line_feed, is_separator, lines_of, paragraphs_in, IsLine, IsFirstParagraph, is_nonempty}
use Rattle.deb_control.specs.Fields.{paragraph_limit}
use Rattle.deb_control.specs.Source.{Source, Gives}
use Rattle.deb_control.specs.Pieces.{BeginsWith, HasLargeParagraph, TakesLine, ReadsLine, TakesRun, ReadsRun}
use Rattle.deb_control.specs.Unfinished.{IsSmall, StopsUnfinished}
use Rattle.deb_control.specs.declared.source.LineRead.TheVariants.{Failed as FailedLine, End as NoLine, Separator, Whole, Long}
use Rattle.deb_control.specs.declared.source.RunRead.{RunRead}
use Rattle.deb_control.specs.declared.source.RunRead.TheVariants.{Failed as FailedRun, End as NoRun, Paragraph, TooLarge}
use Rattle.deb_control.proofs.SourceLemmas.{cuts-after}
use Rattle.deb_control.proofs.GivesLemmas.{gives-same, gives-then}
use Rattle.deb_control.proofs.LineLemmas.{concat-lines_of}
use Rattle.deb_control.proofs.TextLineLemmas.{lines-are, lines-only}
use Rattle.deb_control.proofs.RunLemmas.{paragraphs_in-separator, paragraphs_in-run}

-- ---- a line at the front

line-some : (line rest : List ℕ) → IsLine line rest → 0 < length line
line-some line rest is = some is.ended
  where
    some : (line ≡ is.body ++ 10 ∷ []) ⊎ ((line ≡ is.body) × (0 < length is.body) × (rest ≡ [])) → 0 < length line
    some (inl e) = omega (arith, ap length e, length-append is.body (10 ∷ []))
    some (inr e) = omega (arith, ap length e.0, e.1)

line-first : (line text rest : List ℕ) → BeginsWith line text rest → lines_of text ≡ line ∷ lines_of rest
line-first line text rest is = lines-only text (line ∷ lines_of rest) (rest, is.joined, is.line_is, lines-are rest)

line-then : (line rest : List ℕ) → IsLine line rest → 0 < length rest → (more : List ℕ) → lines_of (line ++ more) ≡ line ∷ lines_of more
line-then line rest is behind more = by is.ended
  where
    by : (line ≡ is.body ++ 10 ∷ []) ⊎ ((line ≡ is.body) × (0 < length is.body) × (rest ≡ [])) → lines_of (line ++ more) ≡ line ∷ lines_of more
    by (inl e) = lines-only (line ++ more) (line ∷ lines_of more) (more, refl, record { body = is.body; free = is.free; ended = inl e }, lines-are more)
    by (inr e) = absurd (omega (arith, ap length e.2))

-- ---- lines read so far

-- a text so far: separators, and then the lines of a paragraph, which stand in a text of their own
pub record Stands (run text rest : List ℕ) : Type 0 where
  pub front : List ℕ
  pub before : List (List ℕ)
  pub lines : List (List ℕ)
  pub joined : text ≡ front ++ rest
  pub cut : lines_of text ≡ before ++ (lines ++ lines_of rest)
  pub whole : 0 < length rest → (more : List ℕ) → lines_of (front ++ more) ≡ before ++ (lines ++ lines_of more)
  pub run_whole : 0 < length rest → (more : List ℕ) → lines_of (run ++ more) ≡ lines ++ lines_of more
  pub run_is : lines_of run ≡ lines
  pub separators : list_all is_separator before ≡ true
  pub plain : list_any is_separator lines ≡ false

pub stands-none : (text : List ℕ) → Stands [] text text
stands-none text = record {
  front = [];
  before = [];
  lines = [];
  joined = refl;
  cut = refl;
  whole = λ _ more. refl;
  run_whole = λ _ more. refl;
  run_is = refl;
  separators = refl;
  plain = refl;
}

all-push : (xs : List (List ℕ)) (x : List ℕ) → list_all is_separator xs ≡ true → is_separator x ≡ true → list_all is_separator (xs ++ x ∷ []) ≡ true
all-push xs x p q = list_all-append is_separator xs (x ∷ []) ∙ rw (p, q) refl

any-push : (xs : List (List ℕ)) (x : List ℕ) → list_any is_separator xs ≡ false → is_separator x ≡ false → list_any is_separator (xs ++ x ∷ []) ≡ false
any-push xs x p q = list_any-append is_separator xs (x ∷ []) ∙ rw (p, q) refl

some-rest : (line text rest : List ℕ) → BeginsWith line text rest → 0 < length text
some-rest line text rest is = omega (arith, ap length is.joined, length-append line rest, line-some line rest is.line_is)

-- one more line of the paragraph
pub stands-line : (run run' text left rest line : List ℕ) → Stands run text left → BeginsWith line left rest → is_separator line ≡ false → run' ≡ run ++ line → Stands run' text rest
stands-line run run' text left rest line s is other longer =
    let some = some-rest line left rest is in
    record {
      front = s.front ++ line;
      before = s.before;
      lines = s.lines ++ line ∷ [];
      joined = s.joined ∙ ap (λ (v : List ℕ). s.front ++ v) is.joined ∙ sym (append_assoc s.front line rest);
      cut = s.cut ∙ ap (λ (v : List (List ℕ)). s.before ++ (s.lines ++ v)) (line-first line left rest is)
          ∙ ap (λ (v : List (List ℕ)). s.before ++ v) (sym (append_assoc s.lines (line ∷ []) (lines_of rest)));
      whole = λ behind more.
          ap lines_of (append_assoc s.front line more) ∙ s.whole some (line ++ more)
          ∙ ap (λ (v : List (List ℕ)). s.before ++ (s.lines ++ v)) (line-then line rest is.line_is behind more)
          ∙ ap (λ (v : List (List ℕ)). s.before ++ v) (sym (append_assoc s.lines (line ∷ []) (lines_of more)));
      run_whole = λ behind more.
          ap (λ (v : List ℕ). lines_of (v ++ more)) longer ∙ ap lines_of (append_assoc run line more) ∙ s.run_whole some (line ++ more)
          ∙ ap (λ (v : List (List ℕ)). s.lines ++ v) (line-then line rest is.line_is behind more)
          ∙ sym (append_assoc s.lines (line ∷ []) (lines_of more));
      run_is = ap lines_of longer ∙ s.run_whole some line ∙ ap (λ (v : List (List ℕ)). s.lines ++ v) (alone is.line_is.ended);
      separators = s.separators;
      plain = any-push s.lines line s.plain other;
    }
  where
    alone : (line ≡ is.line_is.body ++ 10 ∷ []) ⊎ ((line ≡ is.line_is.body) × (0 < length is.line_is.body) × (rest ≡ [])) → lines_of line ≡ line ∷ []
    alone (inl e) = lines-only line (line ∷ []) ([], sym (append-nil line), record { body = is.line_is.body; free = is.line_is.free; ended = inl e }, refl)
    alone (inr e) = lines-only line (line ∷ []) ([], sym (append-nil line), record { body = is.line_is.body; free = is.line_is.free; ended = inr (e.0, e.1, refl) }, refl)

-- one more separator before the paragraph
pub stands-separator : (run run' text left rest line : List ℕ) → Stands run text left → BeginsWith line left rest → is_separator line ≡ true → run ≡ [] → run' ≡ run → Stands run' text rest
stands-separator run run' text left rest line s is separator empty same =
    let some = some-rest line left rest is in
    let none : s.lines ≡ [] = sym s.run_is ∙ ap lines_of empty in
    record {
      front = s.front ++ line;
      before = s.before ++ line ∷ [];
      lines = [];
      joined = s.joined ∙ ap (λ (v : List ℕ). s.front ++ v) is.joined ∙ sym (append_assoc s.front line rest);
      cut = s.cut ∙ ap (λ (v : List (List ℕ)). s.before ++ (v ++ lines_of left)) none ∙ ap (λ (v : List (List ℕ)). s.before ++ v) (line-first line left rest is)
          ∙ sym (append_assoc s.before (line ∷ []) (lines_of rest));
      whole = λ behind more.
          ap lines_of (append_assoc s.front line more) ∙ s.whole some (line ++ more)
          ∙ ap (λ (v : List (List ℕ)). s.before ++ (v ++ lines_of (line ++ more))) none
          ∙ ap (λ (v : List (List ℕ)). s.before ++ v) (line-then line rest is.line_is behind more)
          ∙ sym (append_assoc s.before (line ∷ []) (lines_of more));
      run_whole = λ behind more. ap (λ (v : List ℕ). lines_of (v ++ more)) (same ∙ empty);
      run_is = ap lines_of (same ∙ empty);
      separators = all-push s.before line s.separators separator;
      plain = refl;
    }

-- ---- the ends of a paragraph

paragraphs_in-separators : (before more : List (List ℕ)) → list_all is_separator before ≡ true → paragraphs_in (before ++ more) ≡ paragraphs_in more
paragraphs_in-separators [] more all = refl
paragraphs_in-separators (line ∷ lines) more all =
    let parts : (is_separator line ≡ true) × (list_all is_separator lines ≡ true) = and_parts _ _ all in
    paragraphs_in-separator line (lines ++ more) parts.0 ∙ paragraphs_in-separators lines more parts.1

nonempty-lines : (c : ℕ) (cs : List ℕ) → is_nonempty (lines_of (c ∷ cs)) ≡ true
nonempty-lines c cs = elim (cases_Bool (is_line_feed c)) [
  | inl feed ↦ rw feed refl
  | inr other ↦ rw other (by (lines_of cs))
]
  where
    by : (lines : List (List ℕ)) → is_nonempty (onto_first c lines) ≡ true
    by [] = refl
    by (line ∷ lines) = refl

nonempty-run : (run : List ℕ) → 0 < length run → is_nonempty (lines_of run) ≡ true
nonempty-run [] some = absurd (omega arith)
nonempty-run (c ∷ cs) some = nonempty-lines c cs

-- a separator after lines of a paragraph ends it
pub first-ended : (run text left rest line : List ℕ) → Stands run text left → BeginsWith line left rest → is_separator line ≡ true → 0 < length run → IsFirstParagraph text run rest
first-ended run text left rest line s is separator some =
    ap paragraphs_in (s.cut ∙ ap (λ (v : List (List ℕ)). s.before ++ (s.lines ++ v)) (line-first line left rest is))
    ∙ paragraphs_in-separators s.before (s.lines ++ line ∷ lines_of rest) s.separators
    ∙ paragraphs_in-run s.lines (line ∷ lines_of rest) (ap is_nonempty (sym s.run_is) ∙ nonempty-run run some) s.plain separator
    ∙ ap (λ (v : List (List (List ℕ))). s.lines ∷ v) (paragraphs_in-separator line (lines_of rest) separator)
    ∙ ap (λ (v : List (List ℕ)). v ∷ paragraphs_in (lines_of rest)) (sym s.run_is)

-- so does the end of the text
pub first-last : (run text rest : List ℕ) → Stands run text rest → rest ≡ [] → 0 < length run → IsFirstParagraph text run rest
first-last run text rest s none some =
    ap paragraphs_in (s.cut ∙ ap (λ (v : List ℕ). s.before ++ (s.lines ++ lines_of v)) none)
    ∙ paragraphs_in-separators s.before (s.lines ++ []) s.separators
    ∙ paragraphs_in-run s.lines [] (ap is_nonempty (sym s.run_is) ∙ nonempty-run run some) s.plain refl
    ∙ ap (λ (v : List (List ℕ)). v ∷ paragraphs_in []) (sym s.run_is)
    ∙ ap (λ (v : List ℕ). lines_of run ∷ paragraphs_in (lines_of v)) (sym none)

no-lines : paragraphs_in [] ≡ []
unfolding paragraphs_in
no-lines = refl

pub no-paragraph : (run text rest : List ℕ) → Stands run text rest → rest ≡ [] → run ≡ [] → paragraphs_in (lines_of text) ≡ []
no-paragraph run text rest s none empty =
    ap paragraphs_in (s.cut ∙ ap (λ (v : List ℕ). s.before ++ (s.lines ++ lines_of v)) none ∙ ap (λ (v : List (List ℕ)). s.before ++ (v ++ [])) (sym s.run_is ∙ ap lines_of empty))
    ∙ paragraphs_in-separators s.before [] s.separators
    ∙ no-lines

-- ---- a paragraph that is too large

-- items split at a test have a first piece
record FirstPiece (items : List (List ℕ)) : Type 0 where
  piece : List (List ℕ)
  later : List (List (List ℕ))
  is : slice_split is_separator items ≡ piece ∷ later

first-piece : (items : List (List ℕ)) → FirstPiece items
first-piece [] = record { piece = []; later = []; is = refl }
first-piece (x ∷ xs) = elim (cases_Bool (is_separator x)) [
  | inl t ↦ record { piece = []; later = slice_split is_separator xs; is = rw t refl }
  | inr f ↦ let p = first-piece xs in record { piece = x ∷ p.piece; later = p.later; is = rw f (ap (onto_first x) p.is) }
]

split-plain : (run after piece : List (List ℕ)) (later : List (List (List ℕ))) → list_any is_separator run ≡ false → slice_split is_separator after ≡ piece ∷ later
    → slice_split is_separator (run ++ after) ≡ (run ++ piece) ∷ later
split-plain [] after piece later plain is = is
split-plain (x ∷ xs) after piece later plain is = elim (cases_Bool (is_separator x)) [
  | inl t ↦ absurd (cc (rw t at plain))
  | inr f ↦ rw f (ap (onto_first x) (split-plain xs after piece later (rw f at plain) is))
]

pub large : (run text left behind line : List ℕ) → Stands run text left → BeginsWith line left behind → is_separator line ≡ false → paragraph_limit < length run + length line → HasLargeParagraph text
unfolding paragraphs_in
large run text left behind line s is other over =
    let p = first-piece (lines_of behind) in
    let first : slice_split is_separator (line ∷ lines_of behind) ≡ (line ∷ p.piece) ∷ p.later = rw other (ap (onto_first line) p.is) in
    let all = split-plain s.lines (line ∷ lines_of behind) (line ∷ p.piece) p.later s.plain first in (
      s.lines ++ line ∷ p.piece,
      filter is_nonempty p.later,
      ap paragraphs_in (s.cut ∙ ap (λ (v : List (List ℕ)). s.before ++ (s.lines ++ v)) (line-first line left behind is))
          ∙ paragraphs_in-separators s.before (s.lines ++ line ∷ lines_of behind) s.separators
          ∙ ap (filter is_nonempty) all
          ∙ keep s.lines line p.piece p.later,
      size,
    )
  where
    keep : (xs : List (List ℕ)) (x : List ℕ) (ys : List (List ℕ)) (later : List (List (List ℕ))) → filter is_nonempty ((xs ++ x ∷ ys) ∷ later) ≡ (xs ++ x ∷ ys) ∷ filter is_nonempty later
    keep [] x ys later = refl
    keep (z ∷ zs) x ys later = refl

    size : paragraph_limit < length (concat (s.lines ++ line ∷ (first-piece (lines_of behind)).piece))
    size =
        let joined : concat s.lines ≡ run = ap concat (sym s.run_is) ∙ concat-lines_of run in
        omega (
          arith,
          over,
          ap length (concat-append s.lines (line ∷ (first-piece (lines_of behind)).piece)),
          length-append (concat s.lines) (line ++ concat (first-piece (lines_of behind)).piece),
          length-append line (concat (first-piece (lines_of behind)).piece),
          ap length joined,
        )

-- ---- a paragraph that was cut off

pub unfinished : (run text left rest piece : List ℕ) → Stands run text left → left ≡ piece ++ rest → list_any is_line_feed piece ≡ false → IsSmall (length run) piece → StopsUnfinished text rest
unfinished run text left rest piece s joined free small = (
  s.front ++ piece,
  s.joined ∙ ap (λ (v : List ℕ). s.front ++ v) joined ∙ sym (append_assoc s.front piece rest),
  record {
    before = s.before;
    lines = s.lines;
    piece = piece;
    cut = by left s.whole s.joined s.cut joined;
    separators = s.separators;
    plain = s.plain;
    begun = free;
    small = subst (λ (n : ℕ). IsSmall n piece) (ap length (sym (ap concat (sym s.run_is) ∙ concat-lines_of run))) small;
  },
)
  where
    empty : (xs ys : List ℕ) → [] ≡ xs ++ ys → xs ≡ []
    empty [] ys e = refl
    empty (x ∷ xs) ys e = absurd (omega (arith, ap length e))

    by : (left : List ℕ) → (0 < length left → (more : List ℕ) → lines_of (s.front ++ more) ≡ s.before ++ (s.lines ++ lines_of more)) → text ≡ s.front ++ left
        → lines_of text ≡ s.before ++ (s.lines ++ lines_of left) → left ≡ piece ++ rest → lines_of (s.front ++ piece) ≡ s.before ++ (s.lines ++ lines_of piece)
    by [] whole is cut e =
        let none = empty piece rest e in
        ap (λ (v : List ℕ). lines_of (s.front ++ v)) none ∙ ap lines_of (sym is) ∙ cut ∙ ap (λ (v : List ℕ). s.before ++ (s.lines ++ lines_of v)) (sym none)
    by (c ∷ cs) whole is cut e = whole (omega arith) piece

-- ---- what a read of a line makes of what was read so far

-- what was read so far: separators and lines of a paragraph; no read failed
pub record SoFar (run : List ℕ) (old new : Source) : Type 0 where
  pub stands : Gives old new (Stands run)
  pub within : length run ≤ paragraph_limit
  pub fewer : 0 < length run → new.room < old.room
  pub failed : new.failed ≡ old.failed

pub so-far-none : (run : List ℕ) (source : Source) → run ≡ [] → SoFar run source source
so-far-none run source empty = record {
  stands = gives-same source (Stands run) (λ x. subst (λ (v : List ℕ). Stands v x x) (sym empty) (stands-none x));
  within = omega (arith, ap length empty);
  fewer = λ some. absurd (omega (arith, some, ap length empty));
  failed = refl;
}

pub so-far-line : (run run' : List ℕ) (a b c : Source) → SoFar run a b → ReadsLine Whole run run' b c → SoFar run' a c
so-far-line run run' a b c s r = record {
  stands = gives-then a b c (Stands run) (TakesLine Whole run run') (Stands run') s.stands r.value (λ x y z p q. stands-line run run' x y z q.0 p q.1 q.2 q.3);
  within = r.size.0;
  fewer = λ _. omega (arith, r.size.1, s.stands.taken.room);
  failed = r.failed ∙ s.failed;
}

pub so-far-separator : (run run' : List ℕ) (a b c : Source) → SoFar run a b → ReadsLine Separator run run' b c → run' ≡ [] → SoFar run' a c
so-far-separator run run' a b c s r empty = record {
  stands = gives-then a b c (Stands run) (TakesLine Separator run run') (Stands run') s.stands r.value (λ x y z p q. stands-separator run run' x y z q.0 p q.1 q.2 (sym r.size.0 ∙ empty) r.size.0);
  within = omega (arith, ap length empty);
  fewer = λ _. omega (arith, r.size.1, s.stands.taken.room);
  failed = r.failed ∙ s.failed;
}

pub run-failed : (run run' : List ℕ) (a b c : Source) → SoFar run a b → ReadsLine FailedLine run run' b c → ReadsRun FailedRun a c
run-failed run run' a b c s r = record {
  value = gives-then a b c (Stands run) (TakesLine FailedLine run run') (TakesRun FailedRun) s.stands r.value (λ x y z p q. unfinished run x y z q.0 p q.1 q.2 q.3);
  size = tt;
  failed = cuts-after true a b c s.stands.piece s.stands.taken s.failed r.failed;
}

pub run-large : (run run' : List ℕ) (a b c : Source) → SoFar run a b → ReadsLine Long run run' b c → ReadsRun TooLarge a c
run-large run run' a b c s r = record {
  value = gives-then a b c (Stands run) (TakesLine Long run run') (TakesRun TooLarge) s.stands r.value (λ x y z p q. large run x y q.1 q.0 p q.2 q.3 q.4);
  size = tt;
  failed = tt;
}

empty-or-some : (xs : List ℕ) → (xs ≡ []) ⊎ (0 < length xs)
empty-or-some [] = inl refl
empty-or-some (x ∷ xs) = inr (omega arith)

-- a separator after lines of a paragraph
pub run-ended : (run : List ℕ) (text : Vec ℕ Global) (a b c : Source) → SoFar run a b → ReadsLine Separator run text.items b c → 0 < length text.items → ReadsRun (Paragraph text) a c
run-ended run text a b c s r some =
    let longer : 0 < length run = omega (arith, some, ap length r.size.0) in
    record {
      value = gives-then a b c (Stands run) (TakesLine Separator run text.items) (TakesRun (Paragraph text)) s.stands r.value
          (λ x y z p q. subst (λ (v : List ℕ). IsFirstParagraph x v z) (sym r.size.0) (first-ended run x y z q.0 p q.1 q.2 longer));
      size = (omega (arith, s.within, ap length r.size.0), omega (arith, s.fewer longer, r.size.1));
      failed = r.failed ∙ s.failed;
    }

-- the end of the input
pub run-last : (run : List ℕ) (text : Vec ℕ Global) (read : RunRead) (a b c : Source) → SoFar run a b → ReadsLine NoLine run text.items b c → (text.items ≡ [] → read ≡ NoRun)
    → (0 < length text.items → read ≡ Paragraph text) → ReadsRun read a c
run-last run text read a b c s r none some = elim (empty-or-some text.items) [
  | inl empty ↦ subst (λ (v : RunRead). ReadsRun v a c) (sym (none empty)) (record {
    value = gives-then a b c (Stands run) (TakesLine NoLine run text.items) (TakesRun NoRun) s.stands r.value
        (λ x y z p q. (no-paragraph run x y p q.0 (sym r.size.0 ∙ empty), q.1));
    size = r.size.1;
    failed = r.failed ∙ s.failed;
  })
  | inr filled ↦ subst (λ (v : RunRead). ReadsRun v a c) (sym (some filled)) (record {
    value = gives-then a b c (Stands run) (TakesLine NoLine run text.items) (TakesRun (Paragraph text)) s.stands r.value
        (λ x y z p q. subst (λ (v : List ℕ). IsFirstParagraph x text.items v) (q.0 ∙ sym q.1)
        (subst (λ (v : List ℕ). IsFirstParagraph x v y) (sym r.size.0) (first-last run x y p q.0 (omega (arith, filled, ap length r.size.0)))));
    size = (omega (arith, s.within, ap length r.size.0), omega (arith, s.fewer (omega (arith, filled, ap length r.size.0)), r.value.taken.room));
    failed = r.failed ∙ s.failed;
  })
]

pub empty-text : (xs : List ℕ) → length xs ≡ 0 → xs ≡ []
empty-text [] none = refl
empty-text (x ∷ xs) none = absurd (omega arith)
