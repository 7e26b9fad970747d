-- Lines from the front of a text on: the first line, and the lines of what stands behind it.
use Rattle.std.proofs.Common.{◌≡◌, ◌∙◌, sym, ap, refl, ℕ, suc, ◌<◌, ◌+◌, true, false, length, take, drop, map, List, [], ◌∷◌, ◌++◌, ◌⊎◌, inl, inr, arith}
use Rattle.std.proofs.lemmas.Bool.{cases_Bool}
use Rattle.std.proofs.lemmas.List.{length-drop, take-append-drop}
use Rattle.std.specs.List.{position_or_len, before_first, after_first, concat, onto_first}
use Rattle.deb_control.specs.Lines.{is_line_feed, lines_of, body_of, lines_in, front_line}

one_more : (n : ℕ) → 1 + n ≡ suc n
one_more n = omega arith

one_more_past : (n : ℕ) → (1 + n) + 1 ≡ suc (n + 1)
one_more_past n = omega arith

position-feed : (c : ℕ) (cs : List ℕ) → is_line_feed c ≡ true → position_or_len is_line_feed (c ∷ cs) ≡ 0
position-feed c cs feed = rw feed refl

position-other : (c : ℕ) (cs : List ℕ) → is_line_feed c ≡ false → position_or_len is_line_feed (c ∷ cs) ≡ 1 + position_or_len is_line_feed cs
position-other c cs other = rw other refl

pub before-feed : (c : ℕ) (cs : List ℕ) → is_line_feed c ≡ true → before_first is_line_feed (c ∷ cs) ≡ []
before-feed c cs feed = ap (λ (k : ℕ). take k (c ∷ cs)) (position-feed c cs feed)

pub before-other : (c : ℕ) (cs : List ℕ) → is_line_feed c ≡ false → before_first is_line_feed (c ∷ cs) ≡ c ∷ before_first is_line_feed cs
before-other c cs other =
    ap (λ (k : ℕ). take k (c ∷ cs)) (position-other c cs other ∙ one_more (position_or_len is_line_feed cs))

pub after-feed : (c : ℕ) (cs : List ℕ) → is_line_feed c ≡ true → after_first is_line_feed (c ∷ cs) ≡ cs
after-feed c cs feed = ap (λ (k : ℕ). drop (k + 1) (c ∷ cs)) (position-feed c cs feed)

pub after-other : (c : ℕ) (cs : List ℕ) → is_line_feed c ≡ false → after_first is_line_feed (c ∷ cs) ≡ after_first is_line_feed cs
after-other c cs other =
    ap (λ (k : ℕ). drop (k + 1) (c ∷ cs)) (position-other c cs other)
    ∙ ap (λ (k : ℕ). drop k (c ∷ cs)) (one_more_past (position_or_len is_line_feed cs))

pub front_line-feed : (c : ℕ) (cs : List ℕ) → is_line_feed c ≡ true → front_line (c ∷ cs) ≡ c ∷ []
unfolding front_line
front_line-feed c cs feed = ap (λ (k : ℕ). take (k + 1) (c ∷ cs)) (position-feed c cs feed)

pub front_line-other : (c : ℕ) (cs : List ℕ) → is_line_feed c ≡ false → front_line (c ∷ cs) ≡ c ∷ front_line cs
unfolding front_line
front_line-other c cs other =
    ap (λ (k : ℕ). take (k + 1) (c ∷ cs)) (position-other c cs other)
    ∙ ap (λ (k : ℕ). take k (c ∷ cs)) (one_more_past (position_or_len is_line_feed cs))

front_line-nil : front_line [] ≡ []
unfolding front_line
front_line-nil = refl

lines_of-feed : (c : ℕ) (cs : List ℕ) → is_line_feed c ≡ true → lines_of (c ∷ cs) ≡ (c ∷ []) ∷ lines_of cs
lines_of-feed c cs feed = rw feed refl

lines_of-other : (c : ℕ) (cs : List ℕ) → is_line_feed c ≡ false → lines_of (c ∷ cs) ≡ onto_first c (lines_of cs)
lines_of-other c cs other = rw other refl

-- which of the two a character is
line_feed_or_other : (c : ℕ) → (is_line_feed c ≡ true) ⊎ (is_line_feed c ≡ false)
line_feed_or_other c = cases_Bool (is_line_feed c)

-- a first line and the lines behind it, put together from equal parts
same_cons : (x y : List ℕ) (xs ys : List ℕ) → x ≡ y → xs ≡ ys → x ∷ lines_of xs ≡ y ∷ lines_of ys
same_cons x y xs ys front rest = ap (λ (v : List ℕ). v ∷ lines_of xs) front ∙ ap (λ (v : List ℕ). y ∷ lines_of v) rest

-- the lines of a text are its first line and the lines of what stands behind it
pub lines_of-front : (c : ℕ) (cs : List ℕ) → lines_of (c ∷ cs) ≡ front_line (c ∷ cs) ∷ lines_of (after_first is_line_feed (c ∷ cs))
lines_of-front c [] = elim (line_feed_or_other c) [
  | inl feed ↦ lines_of-feed c [] feed ∙ same_cons _ _ _ _ (sym (front_line-feed c [] feed)) (sym (after-feed c [] feed))
  | inr other ↦
      lines_of-other c [] other
      ∙ same_cons (c ∷ []) (front_line (c ∷ [])) [] (after_first is_line_feed (c ∷ []))
      (ap (λ (v : List ℕ). c ∷ v) (sym front_line-nil) ∙ sym (front_line-other c [] other)) (sym (after-other c [] other))
]
lines_of-front c (d ∷ ds) = elim (line_feed_or_other c) [
  | inl feed ↦ lines_of-feed c (d ∷ ds) feed ∙ same_cons _ _ _ _ (sym (front_line-feed c (d ∷ ds) feed)) (sym (after-feed c (d ∷ ds) feed))
  | inr other ↦
      lines_of-other c (d ∷ ds) other
      ∙ ap (onto_first c) (lines_of-front d ds)
      ∙ same_cons (c ∷ front_line (d ∷ ds)) (front_line (c ∷ d ∷ ds)) (after_first is_line_feed (d ∷ ds)) (after_first is_line_feed (c ∷ d ∷ ds))
      (sym (front_line-other c (d ∷ ds) other)) (sym (after-other c (d ∷ ds) other))
]

-- the first line without its line feed
pub body_of-front : (text : List ℕ) → body_of (front_line text) ≡ before_first is_line_feed text
unfolding body_of
body_of-front [] = ap (before_first is_line_feed) front_line-nil
body_of-front (c ∷ cs) = elim (line_feed_or_other c) [
  | inl feed ↦ ap (before_first is_line_feed) (front_line-feed c cs feed) ∙ before-feed c [] feed ∙ sym (before-feed c cs feed)
  | inr other ↦
      ap (before_first is_line_feed) (front_line-other c cs other)
      ∙ before-other c (front_line cs) other
      ∙ ap (λ (v : List ℕ). c ∷ v) (body_of-front cs)
      ∙ sym (before-other c cs other)
]

-- the first line is one line
pub lines_of-front_line : (c : ℕ) (cs : List ℕ) → lines_of (front_line (c ∷ cs)) ≡ front_line (c ∷ cs) ∷ []
lines_of-front_line c [] = elim (line_feed_or_other c) [
  | inl feed ↦ ap lines_of (front_line-feed c [] feed) ∙ lines_of-feed c [] feed ∙ ap (λ (v : List ℕ). v ∷ []) (sym (front_line-feed c [] feed))
  | inr other ↦
      ap lines_of (front_line-other c [] other ∙ ap (λ (v : List ℕ). c ∷ v) front_line-nil)
      ∙ lines_of-other c [] other
      ∙ ap (λ (v : List ℕ). v ∷ []) (sym (front_line-other c [] other ∙ ap (λ (v : List ℕ). c ∷ v) front_line-nil))
]
lines_of-front_line c (d ∷ ds) = elim (line_feed_or_other c) [
  | inl feed ↦ ap lines_of (front_line-feed c (d ∷ ds) feed) ∙ lines_of-feed c [] feed ∙ ap (λ (v : List ℕ). v ∷ []) (sym (front_line-feed c (d ∷ ds) feed))
  | inr other ↦
      ap lines_of (front_line-other c (d ∷ ds) other)
      ∙ lines_of-other c (front_line (d ∷ ds)) other
      ∙ ap (onto_first c) (lines_of-front_line d ds)
      ∙ ap (λ (v : List ℕ). v ∷ []) (sym (front_line-other c (d ∷ ds) other))
]

-- a first line behind which more stands has a line feed, so what is put behind it begins a new line
pub lines_of-behind : (text more : List ℕ) → 0 < length (after_first is_line_feed text) → lines_of (front_line text ++ more) ≡ front_line text ∷ lines_of more
lines_of-behind [] more behind = absurd (omega arith)
lines_of-behind (c ∷ cs) more behind = elim (line_feed_or_other c) [
  | inl feed ↦
      ap (λ (v : List ℕ). lines_of (v ++ more)) (front_line-feed c cs feed)
      ∙ lines_of-feed c more feed
      ∙ ap (λ (v : List ℕ). v ∷ lines_of more) (sym (front_line-feed c cs feed))
  | inr other ↦
      let later : 0 < length (after_first is_line_feed cs) = rw (after-other c cs other) at behind in
      ap (λ (v : List ℕ). lines_of (v ++ more)) (front_line-other c cs other)
      ∙ lines_of-other c (front_line cs ++ more) other
      ∙ ap (onto_first c) (lines_of-behind cs more later)
      ∙ ap (λ (v : List ℕ). v ∷ lines_of more) (sym (front_line-other c cs other))
]

-- the first line and what stands behind it are the text
pub front_line-rest : (text : List ℕ) → front_line text ++ after_first is_line_feed text ≡ text
unfolding front_line
front_line-rest text = take-append-drop (position_or_len is_line_feed text + 1) text

-- what stands behind the first line is shorter
pub length-after_line : (text : List ℕ) → 0 < length text → length (after_first is_line_feed text) < length text
length-after_line text some = omega (arith, length-drop (position_or_len is_line_feed text + 1) text)

-- the lines put together are the text
pub concat-lines_of : (text : List ℕ) → concat (lines_of text) ≡ text
concat-lines_of [] = refl
concat-lines_of (c ∷ cs) = elim (line_feed_or_other c) [
  | inl feed ↦ ap concat (lines_of-feed c cs feed) ∙ ap (λ (v : List ℕ). c ∷ v) (concat-lines_of cs)
  | inr other ↦ ap concat (lines_of-other c cs other) ∙ concat-onto_first c (lines_of cs) ∙ ap (λ (v : List ℕ). c ∷ v) (concat-lines_of cs)
]
  where
    concat-onto_first : (c : ℕ) (lines : List (List ℕ)) → concat (onto_first c lines) ≡ c ∷ concat lines
    concat-onto_first c [] = refl
    concat-onto_first c (line ∷ lines) = refl

-- the lines of a text, without line feeds, from the front on
pub lines_in-front : (c : ℕ) (cs : List ℕ) → lines_in (c ∷ cs) ≡ before_first is_line_feed (c ∷ cs) ∷ lines_in (after_first is_line_feed (c ∷ cs))
unfolding lines_in
lines_in-front c cs =
    ap (map body_of) (lines_of-front c cs)
    ∙ ap (λ (v : List ℕ). v ∷ map body_of (lines_of (after_first is_line_feed (c ∷ cs)))) (body_of-front (c ∷ cs))
