-- Lemmas behind the law that a text is its lines.
use Rattle.std.proofs.Common.{◌≡◌, ◌∙◌, sym, ap, refl, ℕ, ◌<◌, Bool, true, false, ◌||◌, length, List, [], ◌∷◌, ◌++◌, append-nil, append_assoc, ◌⊎◌, inl, inr, arith}
use Rattle.std.specs.List.{list_any, onto_first}
use Rattle.std.proofs.lemmas.Bool.{or_parts}
use borrow.Author.Tests.{eqb-true}
use Rattle.deb_control.specs.Lines.{is_line_feed, lines_of, HaveLines}

together : (b c : Bool) → b ≡ false → c ≡ false → (b || c) ≡ false
together b c e f = rw e f

-- a character before a line that is no line feed
longer-end : (c : ℕ) (line rest body : List ℕ) → (line ≡ body ++ 10 ∷ []) ⊎ ((line ≡ body) × (0 < length body) × (rest ≡ []))
    → (c ∷ line ≡ (c ∷ body) ++ 10 ∷ []) ⊎ ((c ∷ line ≡ c ∷ body) × (0 < length (c ∷ body)) × (rest ≡ []))
longer-end c line rest body (inl e) = inl (ap (λ xs. c ∷ xs) e)
longer-end c line rest body (inr e) = inr (ap (λ xs. c ∷ xs) e.0, omega arith, e.2)

onto-first : (c : ℕ) (text : List ℕ) (lines : List (List ℕ)) → is_line_feed c ≡ false → HaveLines text lines → HaveLines (c ∷ text) (onto_first c lines)
onto-first c text [] other have =
    ([], ap (λ xs. c ∷ xs) have, record { body = c ∷ []; free = together (is_line_feed c) false other refl; ended = inr (refl, omega arith, refl) }, refl)
onto-first c text (line ∷ lines) other have =
    let is = have.2 in
    (have.0, ap (λ xs. c ∷ xs) have.1, record { body = c ∷ is.body; free = together (is_line_feed c) (list_any is_line_feed is.body) other is.free; ended = longer-end c line have.0 is.body is.ended }, have.3)

are-by : (b : Bool) (c : ℕ) (cs : List ℕ) → is_line_feed c ≡ b → HaveLines cs (lines_of cs) → HaveLines (c ∷ cs) (lines_of (c ∷ cs))
are-by true c cs e have =
    rw e (cs, refl, record { body = []; free = refl; ended = inl (ap (λ d. d ∷ []) (eqb-true c 10 e)) }, have)
are-by false c cs e have = rw e (onto-first c cs (lines_of cs) e have)

pub lines-are : (text : List ℕ) → HaveLines text (lines_of text)
lines-are [] = refl
lines-are (c ∷ cs) = are-by (is_line_feed c) c cs refl (lines-are cs)

other-first : (c : ℕ) (cs : List ℕ) → is_line_feed c ≡ false → lines_of (c ∷ cs) ≡ onto_first c (lines_of cs)
other-first c cs e = rw e refl

-- a line with a line feed is the first of a text that begins with it
line-ended : (body rest : List ℕ) → list_any is_line_feed body ≡ false → lines_of (body ++ (10 ∷ rest)) ≡ (body ++ 10 ∷ []) ∷ lines_of rest
line-ended [] rest free = refl
line-ended (c ∷ cs) rest free =
    let two = or_parts (is_line_feed c) (list_any is_line_feed cs) free in
    other-first c (cs ++ (10 ∷ rest)) two.0 ∙ ap (onto_first c) (line-ended cs rest two.1)

-- a line that lacks it is the only one
line-open : (body : List ℕ) → 0 < length body → list_any is_line_feed body ≡ false → lines_of body ≡ body ∷ []
line-open [] some free = absurd (omega arith)
line-open (c ∷ []) some free = other-first c [] (or_parts (is_line_feed c) false free).0
line-open (c ∷ d ∷ ds) some free =
    let two = or_parts (is_line_feed c) (list_any is_line_feed (d ∷ ds)) free in
    other-first c (d ∷ ds) two.0 ∙ ap (onto_first c) (line-open (d ∷ ds) (omega arith) two.1)

first-by : (line rest body : List ℕ) → list_any is_line_feed body ≡ false
    → (line ≡ body ++ 10 ∷ []) ⊎ ((line ≡ body) × (0 < length body) × (rest ≡ [])) → lines_of (line ++ rest) ≡ line ∷ lines_of rest
first-by line rest body free (inl e) =
    ap (λ xs. lines_of (xs ++ rest)) e ∙ ap lines_of (append_assoc body (10 ∷ []) rest) ∙ line-ended body rest free ∙ ap (λ xs. xs ∷ lines_of rest) (sym e)
first-by line rest body free (inr e) =
    ap (λ xs. lines_of (line ++ xs)) e.2 ∙ ap lines_of (append-nil line ∙ e.0) ∙ line-open body e.1 free
    ∙ ap (λ xs. xs ∷ []) (sym e.0) ∙ ap (λ xs. line ∷ lines_of xs) (sym e.2)

pub lines-only : (text : List ℕ) (lines : List (List ℕ)) → HaveLines text lines → lines_of text ≡ lines
lines-only text [] have = ap lines_of have
lines-only text (line ∷ lines) have =
    let is = have.2 in
    ap lines_of have.1 ∙ first-by line have.0 is.body is.free is.ended ∙ ap (λ xs. line ∷ xs) (lines-only have.0 lines have.3)
