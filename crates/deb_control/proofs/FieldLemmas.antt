-- Fields from the front of a text on: continuation lines, and the folded value.
use Rattle.std.proofs.Common.{◌≡◌, ◌∙◌, ap, sym, refl, ℕ, Bool, cond, true, false, map, List, [], ◌∷◌, ◌++◌, append_assoc, Result, Ok, Err, OnErr}
use Rattle.std.specs.Prelude.{filter, fold}
use Rattle.std.specs.List.{before_first, after_first, join_with_byte, take_while}
use Rattle.std.proofs.lemmas.List.Sums.{take_while-cons}
use Rattle.deb_control.specs.Lines.{is_line_feed, is_continuation, lines_in, trim, is_nonempty}
use Rattle.deb_control.specs.Fields.{FieldText, continued, continuations, folded_onto, folded_of}
use Rattle.deb_control.proofs.LineLemmas.{lines_in-front}

-- the continuation lines that come first, line by line
pub take_while-continuation : (line : List ℕ) (lines : List (List ℕ)) → is_continuation line ≡ true
    → take_while is_continuation (line ∷ lines) ≡ line ∷ take_while is_continuation lines
take_while-continuation line lines is =
    take_while-cons is_continuation line lines ∙ ap (λ (b : Bool). cond b (line ∷ take_while is_continuation lines) []) is

pub take_while-other : (line : List ℕ) (lines : List (List ℕ)) → is_continuation line ≡ false → take_while is_continuation (line ∷ lines) ≡ []
take_while-other line lines other =
    take_while-cons is_continuation line lines ∙ ap (λ (b : Bool). cond b (line ∷ take_while is_continuation lines) []) other

-- the continuation lines where a text begins with one
pub continuations-more : (text : List ℕ) → is_continuation (before_first is_line_feed text) ≡ true
    → continuations text ≡ continued (before_first is_line_feed text) ∷ continuations (after_first is_line_feed text)
unfolding continuations
continuations-more [] is = cc
continuations-more (c ∷ cs) is =
    ap (λ (v : List (List ℕ)). map continued (take_while is_continuation v)) (lines_in-front c cs)
    ∙ ap (map continued) (take_while-continuation (before_first is_line_feed (c ∷ cs)) (lines_in (after_first is_line_feed (c ∷ cs))) is)

-- and where it does not
pub continuations-none : (text : List ℕ) → is_continuation (before_first is_line_feed text) ≡ false → continuations text ≡ []
unfolding continuations lines_in
continuations-none [] other = refl
continuations-none (c ∷ cs) other =
    ap (λ (v : List (List ℕ)). map continued (take_while is_continuation v)) (lines_in-front c cs)
    ∙ ap (map continued) (take_while-other (before_first is_line_feed (c ∷ cs)) (lines_in (after_first is_line_feed (c ∷ cs))) other)

-- two pieces joined first and then with the rest
join-onto : (text piece : List ℕ) (rest : List (List ℕ)) → join_with_byte 32 ((text ++ (32 ∷ piece)) ∷ rest) ≡ join_with_byte 32 (text ∷ piece ∷ rest)
join-onto text piece [] = refl
join-onto text piece (x ∷ xs) = append_assoc text (32 ∷ piece) (32 ∷ join_with_byte 32 (x ∷ xs))

-- folding line by line gives the pieces that are not empty, joined
fold-folded_onto : (text : List ℕ) (pieces : List (List ℕ)) → fold folded_onto text pieces ≡ join_with_byte 32 (filter is_nonempty (text ∷ pieces))
fold-folded_onto [] [] = refl
fold-folded_onto (c ∷ cs) [] = refl
fold-folded_onto [] ([] ∷ pieces) = fold-folded_onto [] pieces
fold-folded_onto (c ∷ cs) ([] ∷ pieces) = fold-folded_onto (c ∷ cs) pieces
fold-folded_onto [] ((d ∷ ds) ∷ pieces) = fold-folded_onto (d ∷ ds) pieces
fold-folded_onto (c ∷ cs) ((d ∷ ds) ∷ pieces) =
    fold-folded_onto ((c ∷ cs) ++ (32 ∷ d ∷ ds)) pieces ∙ join-onto (c ∷ cs) (d ∷ ds) (filter is_nonempty pieces)

pub folded_of-fold : (field : FieldText) → fold folded_onto (trim field.first) (map trim field.lines) ≡ folded_of field
unfolding folded_of
folded_of-fold field = fold-folded_onto (trim field.first) (map trim field.lines)

-- a text that has a character keeps it
fold-filled : (text : List ℕ) (pieces : List (List ℕ)) → is_nonempty text ≡ true → is_nonempty (fold folded_onto text pieces) ≡ true
fold-filled text [] h = h
fold-filled text ([] ∷ pieces) h = fold-filled text pieces h
fold-filled [] ((d ∷ ds) ∷ pieces) h = cc
fold-filled (c ∷ cs) ((d ∷ ds) ∷ pieces) h = fold-filled ((c ∷ cs) ++ (32 ∷ d ∷ ds)) pieces refl

-- and gets one with a piece that has one
pub piece-filled : (text piece : List ℕ) (pieces : List (List ℕ)) → is_nonempty piece ≡ true → is_nonempty (fold folded_onto text (piece ∷ pieces)) ≡ true
piece-filled text [] pieces h = cc
piece-filled [] (d ∷ ds) pieces h = fold-filled (d ∷ ds) pieces refl
piece-filled (c ∷ cs) (d ∷ ds) pieces h = fold-filled ((c ∷ cs) ++ (32 ∷ d ∷ ds)) pieces refl

-- the folded value has a character where the first value has one
pub first-filled : (field : FieldText) → is_nonempty (trim field.first) ≡ true → is_nonempty (folded_of field) ≡ true
first-filled field h = ap is_nonempty (sym (folded_of-fold field)) ∙ fold-filled (trim field.first) (map trim field.lines) h

pub where-err : {T E : Type 0} {Q : Type 0} (r : Result T E) → Q → OnErr r Q
where-err (Ok x) q = tt
where-err (Err e) q = q
