-- What is taken of the bytes that a reader shows: pieces of lines, and lines.
use Rattle.std.proofs.Common.{◌≡◌, ◌∙◌, sym, ap, refl, ℕ, ◌+◌, ◌<◌, ◌≤◌, min, Bool, true, false, length, take, List, [], ◌∷◌, ◌++◌, inl, inr, arith, append-nil, append_assoc, Option, None, Some, IfSome, cond}
use Rattle.std.specs.Prelude.{nat_lt, position}
use Rattle.std.specs.List.{position_or_len, before_first, list_any}
use Rattle.std.proofs.lemmas.Bool.{cases_Bool}
use Rattle.std.proofs.lemmas.Bool.Decides.{nat_tests}
use borrow.Author.Tests.{eqb-true}
use Rattle.std.proofs.lemmas.List.{length-append, take_all, length-take, length-take-le, take-take}
use Rattle.std.proofs.lemmas.List.Folds.{list_any-append}
use Rattle.std.specs.Io.KnownBytes.{Keeps, Consumes}
use Rattle.std.proofs.KnownBytes.{Consumes-nil, Consumes-kept, Consumes-trans}
use Rattle.deb_control.specs.Lines.{is_line_feed, front_line}
use Rattle.deb_control.specs.Pieces.{IsEnded, TakesPiece, AddsPiece, AddsLine}
use Rattle.deb_control.specs.Source.{IfKnown, Takes, CutsIf, Source}
use Rattle.deb_control.specs.Fields.{paragraph_limit}
use Rattle.deb_control.specs.declared.source.Shown.TheVariants.{Failed, End, Part, Line}
use Rattle.deb_control.specs.declared.source.LineEnd.TheVariants.{Ended, Last, Full, Cut}
use Rattle.deb_control.proofs.LineLemmas.{before-feed, before-other, front_line-feed, front_line-other}

any-other : (c : ℕ) (cs : List ℕ) → is_line_feed c ≡ false → list_any is_line_feed cs ≡ false → list_any is_line_feed (c ∷ cs) ≡ false
any-other c cs other free = rw other free

-- no line feed stands before the first one
pub free-before : (text : List ℕ) → list_any is_line_feed (before_first is_line_feed text) ≡ false
free-before [] = refl
free-before (c ∷ cs) = elim (cases_Bool (is_line_feed c)) [
  | inl feed ↦ ap (list_any is_line_feed) (before-feed c cs feed)
  | inr other ↦ ap (list_any is_line_feed) (before-other c cs other) ∙ any-other c (before_first is_line_feed cs) other (free-before cs)
]

place-other : (c : ℕ) (cs : List ℕ) → is_line_feed c ≡ false → position_or_len is_line_feed (c ∷ cs) < length (c ∷ cs) → position_or_len is_line_feed cs < length cs
place-other c cs other within = let h : 1 + position_or_len is_line_feed cs < length (c ∷ cs) = rw other at within in omega arith

-- a first line with a line feed
front_line-found : (text : List ℕ) → position_or_len is_line_feed text < length text → front_line text ≡ before_first is_line_feed text ++ 10 ∷ []
front_line-found [] within = absurd (omega arith)
front_line-found (c ∷ cs) within = elim (cases_Bool (is_line_feed c)) [
  | inl feed ↦ front_line-feed c cs feed ∙ ap (λ (d : ℕ). d ∷ []) (eqb-true c 10 feed) ∙ ap (λ (v : List ℕ). v ++ 10 ∷ []) (sym (before-feed c cs feed))
  | inr other ↦
      front_line-other c cs other
      ∙ ap (λ (v : List ℕ). c ∷ v) (front_line-found cs (place-other c cs other within))
      ∙ ap (λ (v : List ℕ). v ++ 10 ∷ []) (sym (before-other c cs other))
]

place-is : (n len : ℕ) (place : ℕ) → Some place ≡ cond (nat_lt n len) (Some n) None → (place ≡ n) × (n < len)
place-is n len place is = elim (cases_Bool (nat_lt n len)) [
  | inl below ↦ let h : Some place ≡ Some n = rw below at is in (cc, grind (arith, nat_tests))
  | inr other ↦ let h : Some place ≡ None = rw other at is in absurd cc
]

no_place-is : (n len : ℕ) → None ≡ cond (nat_lt n len) (Some n) None → len ≤ n
no_place-is n len is = elim (cases_Bool (nat_lt n len)) [
  | inl below ↦ let h : None ≡ Some n = rw below at is in absurd cc
  | inr other ↦ grind (arith, nat_tests)
]

-- what is taken up to a line feed ends with it
pub ended-at : (text : List ℕ) (place : ℕ) → Some place ≡ position is_line_feed text → IsEnded (take (place + 1) text)
unfolding front_line
ended-at text place is =
    let at = place-is (position_or_len is_line_feed text) (length text) place is in
    (before_first is_line_feed text, free-before text, ap (λ (k : ℕ). take (k + 1) text) at.0 ∙ front_line-found text at.1)

-- without a line feed nothing is one
pub free-without : (text : List ℕ) → None ≡ position is_line_feed text → list_any is_line_feed text ≡ false
free-without text is =
    ap (list_any is_line_feed) (sym (take_all (position_or_len is_line_feed text) text (no_place-is (position_or_len is_line_feed text) (length text) is)))
    ∙ free-before text

at-end : (old new : Option (List ℕ)) → IfSome old (λ left. left ≡ []) → Keeps old new → IfKnown old new (λ _ rest. rest ≡ [])
at-end None new none kept = tt
at-end (Some left) None none kept = absurd kept
at-end (Some left) (Some rest) none kept = kept ∙ none

-- at the end of the input nothing is taken
pub takes_none : (text : List ℕ) (most : ℕ) (old new : Option (List ℕ)) (shown : List ℕ) → length shown ≡ 0 → IfSome old (λ left. length shown ≡ 0 → left ≡ [])
    → Keeps old new → TakesPiece End most text text old new
takes_none text most old new shown none end kept = record {
  piece = [];
  appended = sym (append-nil text);
  taken = Consumes-kept old old new [] (Consumes-nil old) kept;
  size = omega arith;
  kind = (refl, at-end old new (is old end) kept);
}
  where
    is : (o : Option (List ℕ)) → IfSome o (λ left. length shown ≡ 0 → left ≡ []) → IfSome o (λ left. left ≡ [])
    is None h = tt
    is (Some left) h = h none

pub length-within : (text : List ℕ) (within most : ℕ) → 0 < length text → within ≡ min (length text) most → 0 < most → 0 < length (take within text)
length-within text within most some is room = omega (arith, length-take-le within text (omega arith))

pub take-within : (text : List ℕ) (within place : ℕ) → Some place ≡ position is_line_feed (take within text) → take (place + 1) (take within text) ≡ take (place + 1) text
take-within text within place is =
    let at = place-is (position_or_len is_line_feed (take within text)) (length (take within text)) place is in
    take-take (place + 1) within text (omega (arith, at.0, at.1, length-take within text))

-- nothing was taken yet
pub takes-nil : (source : Source) → Takes source source []
takes-nil source = record { bytes = Consumes-nil source.bytes; room = omega arith }

-- what was taken in two steps
pub takes-then : (a b c : Source) (first second : List ℕ) → Takes a b first → Takes b c second → Takes a c (first ++ second)
takes-then a b c first second p q = record {
  bytes = Consumes-trans a.bytes b.bytes c.bytes first second p.bytes q.bytes;
  room = omega (arith, p.room, q.room, length-append first second);
}

-- what holds of the bytes after a second step holds of them after both
pub known-after : (a b c : Option (List ℕ)) (piece : List ℕ) (P : List ℕ → Type 0) → Consumes a b piece → IfKnown b c (λ _ rest. P rest) → IfKnown a c (λ _ rest. P rest)
known-after None b c piece P taken known = tt
known-after (Some text) None c piece P taken known = absurd taken
known-after (Some text) (Some left) None piece P taken known = absurd known
known-after (Some text) (Some left) (Some rest) piece P taken known = known

-- a step that ends cut is so seen from before the step in front of it
pub cuts-after : (cut : Bool) (a b c : Source) (piece : List ℕ) → Takes a b piece → b.failed ≡ a.failed → CutsIf cut b c → CutsIf cut a c
cuts-after true a b c piece taken same (inl failed) = inl failed
cuts-after true a b c piece taken same (inr over) = inr (over.0, known-after a.bytes b.bytes c.bytes piece (λ rest. 0 < length rest) taken.bytes over.1)
cuts-after false a b c piece taken same kept = kept ∙ same

pub free-both : (xs ys : List ℕ) → list_any is_line_feed xs ≡ false → list_any is_line_feed ys ≡ false → list_any is_line_feed (xs ++ ys) ≡ false
free-both xs ys p q = list_any-append is_line_feed xs ys ∙ rw (p, q) refl

-- pieces of a line that have no line feed so far
pub record Piece (before after : List ℕ) (old new : Source) : Type 0 where
  pub piece : List ℕ
  pub appended : after ≡ before ++ piece
  pub taken : Takes old new piece
  pub free : list_any is_line_feed piece ≡ false

pub piece-none : (text : List ℕ) (source : Source) → Piece text text source source
piece-none text source = record { piece = []; appended = sym (append-nil text); taken = takes-nil source; free = refl }

-- the next piece
more : (before mid after : List ℕ) (a b c : Source) (p : Piece before mid a b) (piece : List ℕ) → after ≡ mid ++ piece → Takes b c piece
    → (after ≡ before ++ (p.piece ++ piece)) × Takes a c (p.piece ++ piece)
more before mid after a b c p piece appended taken =
    (appended ∙ ap (λ (v : List ℕ). v ++ piece) p.appended ∙ append_assoc before p.piece piece, takes-then a b c p.piece piece p.taken taken)

pub piece-part : (before mid after : List ℕ) (a b c : Source) → Piece before mid a b → AddsPiece Part mid after b c → Piece before after a c
piece-part before mid after a b c p q =
    let m = more before mid after a b c p q.piece q.appended q.taken in
    record { piece = p.piece ++ q.piece; appended = m.0; taken = m.1; free = free-both p.piece q.piece p.free q.kind.0 }

pub piece-ended : (before mid after : List ℕ) (a b c : Source) → Piece before mid a b → AddsPiece Line mid after b c → AddsLine Ended before after a c
piece-ended before mid after a b c p q =
    let m = more before mid after a b c p q.piece q.appended q.taken in
    record {
      piece = p.piece ++ q.piece;
      appended = m.0;
      taken = m.1;
      kind = (p.piece ++ q.kind.0, free-both p.piece q.kind.0 p.free q.kind.1, ap (λ (v : List ℕ). p.piece ++ v) q.kind.2 ∙ sym (append_assoc p.piece q.kind.0 (10 ∷ [])));
    }

pub piece-last : (before mid after : List ℕ) (a b c : Source) → Piece before mid a b → AddsPiece End mid after b c → AddsLine Last before after a c
piece-last before mid after a b c p q =
    let m = more before mid after a b c p q.piece q.appended q.taken in
    record {
      piece = p.piece ++ q.piece;
      appended = m.0;
      taken = m.1;
      kind = (free-both p.piece q.piece p.free q.kind.0, q.kind.1);
    }

pub piece-cut : (before mid after : List ℕ) (a b c : Source) → Piece before mid a b → AddsPiece Failed mid after b c → length mid ≤ paragraph_limit → AddsLine Cut before after a c
piece-cut before mid after a b c p q within =
    let m = more before mid after a b c p q.piece q.appended q.taken in
    record {
      piece = p.piece ++ q.piece;
      appended = m.0;
      taken = m.1;
      kind = (ap (λ (v : List ℕ). list_any is_line_feed (p.piece ++ v)) q.kind ∙ ap (list_any is_line_feed) (append-nil p.piece) ∙ p.free, omega (arith, ap length q.appended, length-append mid q.piece, ap length q.kind));
    }

pub piece-full : (before after : List ℕ) (a b : Source) → Piece before after a b → paragraph_limit < length after → AddsLine Full before after a b
piece-full before after a b p over = record { piece = p.piece; appended = p.appended; taken = p.taken; kind = (p.free, over) }
