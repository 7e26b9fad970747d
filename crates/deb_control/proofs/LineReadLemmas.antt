-- What a read of a line gives: the line, of which blanks at its start may have been left out, and what it is.
use Rattle.std.proofs.Common.{◌≡◌, ◌≢◌, ◌∙◌, sym, ap, refl, ℕ, ◌+◌, ◌<◌, ◌≤◌, Bool, true, false, length, take, drop, List, [], ◌∷◌, ◌++◌, ◌⊎◌, inl, inr, arith, append-nil, append_assoc}
use Rattle.std.specs.List.{list_any, list_all}
use Rattle.std.proofs.lemmas.Bool.{cases_Bool, or_parts, and_parts}
use Rattle.std.proofs.lemmas.Bool.Decides.{nat_tests}
use Rattle.std.proofs.lemmas.List.{length-append}
use Rattle.std.proofs.lemmas.List.Folds.{list_all-append}
use Rattle.std.proofs.Transfers.{drop-appended}
use Rattle.deb_control.specs.Lines.{is_line_feed, is_blank, body_of, is_separator, lines_of, IsLine, HaveLines}
use Rattle.deb_control.specs.Fields.{paragraph_limit}
use Rattle.deb_control.specs.Source.{Source, Takes, CutsIf}
use Rattle.deb_control.specs.Pieces.{AddsLine, BeginsWith, TakesLine, FailsLine, IsReadLine, EndsLine, EndsLast, EndsCut, ReadsLine}
use Rattle.deb_control.specs.declared.source.LineEnd.TheVariants.{Ended, Last, Full, Cut}
use Rattle.deb_control.specs.declared.source.LineRead.{LineRead}
use Rattle.deb_control.specs.declared.source.LineRead.TheVariants.{Failed, End, Separator, Whole, Long}
use Rattle.deb_control.proofs.LineLemmas.{before-other}
use Rattle.deb_control.proofs.TextLineLemmas.{lines-are}
use Rattle.deb_control.proofs.SourceLemmas.{takes-nil, takes-then, free-both, cuts-after}
use Rattle.deb_control.proofs.GivesLemmas.{none-left}

-- ---- lists

blank-free : (c : ℕ) → is_blank c ≡ true → is_line_feed c ≡ false
blank-free c blank = grind (arith, nat_tests)

free-cons : (c : ℕ) (cs : List ℕ) → is_line_feed c ≡ false → list_any is_line_feed cs ≡ false → list_any is_line_feed (c ∷ cs) ≡ false
free-cons c cs other free = rw other free

pub free-blanks : (text : List ℕ) → list_all is_blank text ≡ true → list_any is_line_feed text ≡ false
free-blanks [] blank = refl
free-blanks (c ∷ cs) blank =
    let parts : (is_blank c ≡ true) × (list_all is_blank cs ≡ true) = and_parts _ _ blank in
    free-cons c cs (blank-free c parts.0) (free-blanks cs parts.1)

body_of-free : (free more : List ℕ) → list_any is_line_feed free ≡ false → body_of (free ++ more) ≡ free ++ body_of more
unfolding body_of
body_of-free [] more is = refl
body_of-free (c ∷ cs) more is =
    let two = or_parts (is_line_feed c) (list_any is_line_feed cs) is in
    before-other c (cs ++ more) two.0 ∙ ap (λ (v : List ℕ). c ∷ v) (body_of-free cs more two.1)

blanks-both : (xs ys : List ℕ) → list_all is_blank xs ≡ true → list_all is_blank ys ≡ true → list_all is_blank (xs ++ ys) ≡ true
blanks-both xs ys p q = list_all-append is_blank xs ys ∙ rw (p, q) refl

-- blanks in front change nothing
is_separator-blanks : (blanks piece : List ℕ) → list_all is_blank blanks ≡ true → is_separator (blanks ++ piece) ≡ is_separator piece
unfolding is_separator
is_separator-blanks blanks piece blank =
    ap (list_all is_blank) (body_of-free blanks piece (free-blanks blanks blank)) ∙ list_all-append is_blank blanks (body_of piece) ∙ rw blank refl

-- a line that begins with more than blanks is no separator
is_separator-more : (seen more : List ℕ) → list_any is_line_feed seen ≡ false → list_all is_blank seen ≡ false → is_separator (seen ++ more) ≡ false
unfolding is_separator
is_separator-more seen more free other =
    ap (list_all is_blank) (body_of-free seen more free) ∙ list_all-append is_blank seen (body_of more) ∙ rw other refl

not_blank-after : (blanks piece : List ℕ) → list_all is_blank blanks ≡ true → list_all is_blank piece ≡ false → list_all is_blank (blanks ++ piece) ≡ false
not_blank-after blanks piece p q = list_all-append is_blank blanks piece ∙ rw (p, q) refl

-- ---- lines

ended-longer : (seen line rest body : List ℕ) → (line ≡ body ++ 10 ∷ []) ⊎ ((line ≡ body) × (0 < length body) × (rest ≡ []))
    → (seen ++ line ≡ (seen ++ body) ++ 10 ∷ []) ⊎ ((seen ++ line ≡ seen ++ body) × (0 < length (seen ++ body)) × (rest ≡ []))
ended-longer seen line rest body (inl e) = inl (ap (λ (v : List ℕ). seen ++ v) e ∙ sym (append_assoc seen body (10 ∷ [])))
ended-longer seen line rest body (inr e) = inr (ap (λ (v : List ℕ). seen ++ v) e.0, omega (arith, e.1, length-append seen body), e.2)

-- a piece of a line goes on to the end of the line
record Longer (seen rest : List ℕ) : Type 0 where
  more : List ℕ
  behind : List ℕ
  joined : rest ≡ more ++ behind
  line_is : IsLine (seen ++ more) behind

longer-by : (seen rest : List ℕ) (lines : List (List ℕ)) → list_any is_line_feed seen ≡ false → 0 < length seen → HaveLines rest lines → Longer seen rest
longer-by seen rest [] free some have = record { more = []; behind = []; joined = have; line_is = record { body = seen; free = free; ended = inr (append-nil seen, some, refl) } }
longer-by seen rest (line ∷ lines) free some have = record {
  more = line;
  behind = have.0;
  joined = have.1;
  line_is = record { body = seen ++ have.2.body; free = free-both seen have.2.body free have.2.free; ended = ended-longer seen line have.0 have.2.body have.2.ended };
}

longer : (seen rest : List ℕ) → list_any is_line_feed seen ≡ false → 0 < length seen → Longer seen rest
longer seen rest free some = longer-by seen rest (lines_of rest) free some (lines-are rest)

-- ---- a line of which blanks were left out

-- so far the text stands as it was, and blanks at the start of the line were left out
pub record Dropped (before after : List ℕ) (start : ℕ) (over : Bool) (old new : Source) : Type 0 where
  pub blanks : List ℕ
  pub taken : Takes old new blanks
  pub blank : list_all is_blank blanks ≡ true
  pub kept : after ≡ before
  pub from : start ≡ length before
  pub none : over ≡ false → blanks ≡ []
  pub some : over ≡ true → paragraph_limit < start + length blanks

pub dropped-none : (text : List ℕ) (start : ℕ) (source : Source) → start ≡ length text → Dropped text text start false source source
dropped-none text start source from = record {
  blanks = [];
  taken = takes-nil source;
  blank = refl;
  kept = refl;
  from = from;
  none = λ _. refl;
  some = λ over. absurd cc;
}

-- the whole line: what was left out and what was kept
record WholeLine (before after : List ℕ) (start : ℕ) (over : Bool) (old new : Source) (blanks piece : List ℕ) : Type 0 where
  taken : Takes old new (blanks ++ piece)
  blank : list_all is_blank blanks ≡ true
  appended : after ≡ before ++ piece
  from : start ≡ length before
  none : over ≡ false → blanks ≡ []
  some : over ≡ true → paragraph_limit < start + length blanks

piece-behind : (before after piece : List ℕ) (start : ℕ) → start ≡ length before → after ≡ before ++ piece → drop start after ≡ piece
piece-behind before after piece start from appended = ap (λ (k : ℕ). drop k after) from ∙ drop-appended before after piece appended

whole-line : (end : _) (before mid after : List ℕ) (start : ℕ) (over : Bool) (a b c : Source) (d : Dropped before mid start over a b) (p : AddsLine end mid after b c)
    → WholeLine before after start over a c d.blanks p.piece
whole-line end before mid after start over a b c d p = record {
  taken = takes-then a b c d.blanks p.piece d.taken p.taken;
  blank = d.blank;
  appended = p.appended ∙ ap (λ (v : List ℕ). v ++ p.piece) d.kept;
  from = d.from;
  none = d.none;
  some = d.some;
}

long-size : (before after blanks piece : List ℕ) (start : ℕ) (over : Bool) → after ≡ before ++ piece → start ≡ length before
    → (over ≡ true → paragraph_limit < start + length blanks) → (over ≡ false → paragraph_limit < length after) → paragraph_limit < length before + length (blanks ++ piece)
long-size before after blanks piece start over appended from some fits = elim (cases_Bool over) [
  | inl t ↦ omega (arith, some t, from, length-append blanks piece)
  | inr f ↦ omega (arith, fits f, ap length appended, length-append before piece, length-append blanks piece)
]

take-front : (xs ys : List ℕ) → take (length xs) (xs ++ ys) ≡ xs
take-front [] ys = refl
take-front (x ∷ xs) ys = ap (λ (v : List ℕ). x ∷ v) (take-front xs ys)

-- what the line is settled to be
line-settled : (read : LineRead) (before after text_then : List ℕ) (start : ℕ) (over : Bool) (a c : Source) (blanks piece text rest : List ℕ) → WholeLine before after start over a c blanks piece
    → BeginsWith (blanks ++ piece) text rest → EndsLine read start over after text_then → TakesLine read before text_then text rest
line-settled Separator before after text_then start over a c blanks piece text rest w is ends =
    let behind = piece-behind before after piece start w.from w.appended in
    (blanks ++ piece, is, is_separator-blanks blanks piece w.blank ∙ ap is_separator (sym behind) ∙ ends.0)
line-settled Whole before after text_then start over a c blanks piece text rest w is ends =
    let behind = piece-behind before after piece start w.from w.appended in
    let none = w.none ends.2 in (
      blanks ++ piece,
      is,
      is_separator-blanks blanks piece w.blank ∙ ap is_separator (sym behind) ∙ ends.0,
      ends.1 ∙ w.appended ∙ ap (λ (v : List ℕ). before ++ (v ++ piece)) (sym none),
    )
line-settled Long before after text_then start over a c blanks piece text rest w is ends =
    let behind = piece-behind before after piece start w.from w.appended in (
      blanks ++ piece,
      rest,
      is,
      is_separator-blanks blanks piece w.blank ∙ ap is_separator (sym behind) ∙ ends.0,
      long-size before after blanks piece start over w.appended w.from w.some ends.1,
    )
line-settled Failed before after text_then start over a c blanks piece text rest w is ends = absurd ends
line-settled End before after text_then start over a c blanks piece text rest w is ends = absurd ends

settled-size : (read : LineRead) (before after text_then : List ℕ) (start : ℕ) (over : Bool) (a c : Source) (blanks piece : List ℕ) → WholeLine before after start over a c blanks piece
    → 0 < length (blanks ++ piece) → EndsLine read start over after text_then → IsReadLine read before text_then a c
settled-size Separator before after text_then start over a c blanks piece w some ends = (
  ends.1 ∙ ap (take start) w.appended ∙ ap (λ (k : ℕ). take k (before ++ piece)) w.from ∙ take-front before piece,
  omega (arith, w.taken.room),
)
settled-size Whole before after text_then start over a c blanks piece w some ends = (omega (arith, ap length ends.1, ends.3), omega (arith, w.taken.room))
settled-size Long before after text_then start over a c blanks piece w some ends = tt
settled-size Failed before after text_then start over a c blanks piece w some ends = tt
settled-size End before after text_then start over a c blanks piece w some ends = absurd ends

settled-kept : (read : LineRead) (after text_then : List ℕ) (start : ℕ) (over : Bool) (a c : Source) → c.failed ≡ a.failed → EndsLine read start over after text_then → FailsLine read a c
settled-kept Separator after text_then start over a c same ends = same
settled-kept Whole after text_then start over a c same ends = same
settled-kept Long after text_then start over a c same ends = tt
settled-kept Failed after text_then start over a c same ends = absurd ends
settled-kept End after text_then start over a c same ends = absurd ends

-- ---- the ends of a line

-- a line that came to its line feed
pub read-ended : (read : LineRead) (before mid after text_then : List ℕ) (start : ℕ) (over : Bool) (a b c : Source) → Dropped before mid start over a b → AddsLine Ended mid after b c
    → b.failed ≡ a.failed → c.failed ≡ b.failed → EndsLine read start over after text_then → ReadsLine read before text_then a c
read-ended read before mid after text_then start over a b c d p same same' ends =
    let w = whole-line Ended before mid after start over a b c d p in
    let some : 0 < length (d.blanks ++ p.piece) = omega (arith, ap length p.kind.2, length-append p.kind.0 (10 ∷ []), length-append d.blanks p.piece) in
    record {
      value = record {
        piece = d.blanks ++ p.piece;
        taken = w.taken;
        value = λ rest may. line-settled read before after text_then start over a c d.blanks p.piece ((d.blanks ++ p.piece) ++ rest) rest w (record {
          joined = refl;
          line_is = record {
            body = d.blanks ++ p.kind.0;
            free = free-both d.blanks p.kind.0 (free-blanks d.blanks d.blank) p.kind.1;
            ended = inl (ap (λ (v : List ℕ). d.blanks ++ v) p.kind.2 ∙ sym (append_assoc d.blanks p.kind.0 (10 ∷ [])));
          };
        }) ends;
      };
      size = settled-size read before after text_then start over a c d.blanks p.piece w some ends;
      failed = settled-kept read after text_then start over a c (same' ∙ same) ends;
    }

nothing : (xs : List ℕ) → length xs ≡ 0 → xs ≡ []
nothing [] none = refl
nothing (x ∷ xs) none = absurd (omega arith)

some-line : (before mid after : List ℕ) (start : ℕ) (over : Bool) (a b c : Source) (d : Dropped before mid start over a b) (p : AddsLine Last mid after b c)
    → start ≤ paragraph_limit → (over ≡ false → length after ≢ start) → 0 < length (d.blanks ++ p.piece)
some-line before mid after start over a b c d p within differ = elim (cases_Bool over) [
  | inl t ↦ omega (arith, d.some t, length-append d.blanks p.piece)
  | inr f ↦
      let longer : length after ≢ start = differ f in
      omega (arith, longer, ap length p.appended, ap length d.kept, length-append mid p.piece, d.from, length-append d.blanks p.piece)
]

last-line : (read : LineRead) (before mid after text_then : List ℕ) (start : ℕ) (over : Bool) (a b c : Source) → Dropped before mid start over a b → AddsLine Last mid after b c
    → start ≤ paragraph_limit → b.failed ≡ a.failed → c.failed ≡ b.failed → (over ≡ false → length after ≢ start) → EndsLine read start over after text_then → ReadsLine read before text_then a c
last-line read before mid after line start over a b c d p within same same' differ ends =
    let w = whole-line Last before mid after start over a b c d p in
    let some : 0 < length (d.blanks ++ p.piece) = some-line before mid after start over a b c d p within differ in
    record {
      value = record {
        piece = d.blanks ++ p.piece;
        taken = w.taken;
        value = λ rest may. line-settled read before after line start over a c d.blanks p.piece ((d.blanks ++ p.piece) ++ rest) rest w (record {
          joined = refl;
          line_is = record {
            body = d.blanks ++ p.piece;
            free = free-both d.blanks p.piece (free-blanks d.blanks d.blank) p.kind.0;
            ended = inr (refl, some, none-left c.bytes rest p.kind.1 may);
          };
        }) ends;
      };
      size = settled-size read before after line start over a c d.blanks p.piece w some ends;
      failed = settled-kept read after line start over a c (same' ∙ same) ends;
    }

pub read-last : (read : LineRead) (before mid after text_then : List ℕ) (start : ℕ) (over : Bool) (a b c : Source) → Dropped before mid start over a b → AddsLine Last mid after b c
    → start ≤ paragraph_limit → b.failed ≡ a.failed → c.failed ≡ b.failed → EndsLast read start over after text_then → ReadsLine read before text_then a c
read-last End before mid after line start over a b c d p within same same' ends =
    let w = whole-line Last before mid after start over a b c d p in
    let none : d.blanks ≡ [] = d.none ends.1 in
    let no_piece : p.piece ≡ [] = nothing p.piece (omega (arith, ends.0, ap length p.appended, ap length d.kept, length-append mid p.piece, d.from)) in
    record {
      value = record {
        piece = d.blanks ++ p.piece;
        taken = w.taken;
        value = λ rest may.
            let at_end = none-left c.bytes rest p.kind.1 may in
            (ap (λ (v : List ℕ). (v ++ p.piece) ++ rest) none ∙ ap (λ (v : List ℕ). v ++ rest) no_piece ∙ at_end, at_end);
      };
      size = (ends.2 ∙ w.appended ∙ ap (λ (v : List ℕ). before ++ v) no_piece ∙ append-nil before, p.kind.1);
      failed = same' ∙ same;
    }
read-last Separator before mid after line start over a b c d p within same same' ends = last-line Separator before mid after line start over a b c d p within same same' ends.0 ends.1
read-last Whole before mid after line start over a b c d p within same same' ends = last-line Whole before mid after line start over a b c d p within same same' ends.0 ends.1
read-last Long before mid after line start over a b c d p within same same' ends = last-line Long before mid after line start over a b c d p within same same' ends.0 ends.1
read-last Failed before mid after line start over a b c d p within same same' ends = absurd ends.1

some-text : (text : List ℕ) → list_all is_blank text ≡ false → 0 < length text
some-text [] other = absurd cc
some-text (c ∷ cs) other = omega arith

-- a piece of a line that is too long already
seen-long : (before text_then : List ℕ) (a c : Source) (seen : List ℕ) → Takes a c seen → list_any is_line_feed seen ≡ false → list_all is_blank seen ≡ false
    → paragraph_limit < length before + length seen → ReadsLine Long before text_then a c
seen-long before line a c seen taken free other over = record {
  value = record {
    piece = seen;
    taken = taken;
    value = λ rest may.
        let l = longer seen rest free (some-text seen other) in (
          seen ++ l.more,
          l.behind,
          record { joined = ap (λ (v : List ℕ). seen ++ v) l.joined ∙ sym (append_assoc seen l.more l.behind); line_is = l.line_is },
          is_separator-more seen l.more free other,
          omega (arith, over, length-append seen l.more),
        );
  };
  size = tt;
  failed = tt;
}

pub read-cut : (read : LineRead) (before mid after : List ℕ) (start : ℕ) (over : Bool) (a b c : Source) → Dropped before mid start over a b → AddsLine Cut mid after b c
    → start ≤ paragraph_limit → b.failed ≡ a.failed → CutsIf true b c → EndsCut read start over after → ReadsLine read before after a c
read-cut Long before mid after start over a b c d p within same cut ends =
    let w = whole-line Cut before mid after start over a b c d p in
    let behind = piece-behind before after p.piece start w.from w.appended in
    seen-long before after a c (d.blanks ++ p.piece) w.taken (free-both d.blanks p.piece (free-blanks d.blanks d.blank) p.kind.0)
    (not_blank-after d.blanks p.piece d.blank (ap (list_all is_blank) (sym behind) ∙ ends.1)) (omega (arith, d.some ends.0, d.from, length-append d.blanks p.piece))
read-cut Failed before mid after start over a b c d p within same cut ends =
    let w = whole-line Cut before mid after start over a b c d p in
    let behind = piece-behind before after p.piece start w.from w.appended in
    let small : (list_all is_blank (d.blanks ++ p.piece) ≡ true) ⊎ (length before + length (d.blanks ++ p.piece) ≤ paragraph_limit) = elim (cases_Bool over) [
      | inl t ↦ inl (blanks-both d.blanks p.piece d.blank (ap (list_all is_blank) (sym behind) ∙ ends t))
      | inr f ↦ inr (omega (arith, p.kind.1, ap length w.appended, length-append before p.piece, length-append d.blanks p.piece, ap length (d.none f)))
    ] in
    record {
      value = record {
        piece = d.blanks ++ p.piece;
        taken = w.taken;
        value = λ rest may. (d.blanks ++ p.piece, refl, free-both d.blanks p.piece (free-blanks d.blanks d.blank) p.kind.0, (omega (arith, within, d.from), small));
      };
      size = tt;
      failed = cuts-after true a b c d.blanks d.taken same cut;
    }
read-cut End before mid after start over a b c d p within same cut ends = absurd ends
read-cut Separator before mid after start over a b c d p within same cut ends = absurd ends
read-cut Whole before mid after start over a b c d p within same cut ends = absurd ends

pub read-full : (before mid after : List ℕ) (start : ℕ) (over : Bool) (a b c : Source) → Dropped before mid start over a b → AddsLine Full mid after b c
    → list_all is_blank (drop start after) ≡ false → ReadsLine Long before after a c
read-full before mid after start over a b c d p other =
    let w = whole-line Full before mid after start over a b c d p in
    let behind = piece-behind before after p.piece start w.from w.appended in
    seen-long before after a c (d.blanks ++ p.piece) w.taken (free-both d.blanks p.piece (free-blanks d.blanks d.blank) p.kind.0)
    (not_blank-after d.blanks p.piece d.blank (ap (list_all is_blank) (sym behind) ∙ other))
    (omega (arith, p.kind.1, ap length w.appended, length-append before p.piece, length-append d.blanks p.piece))

-- blanks that fill the room are left out
pub dropped-more : (before mid after text_then : List ℕ) (start : ℕ) (over : Bool) (a b c : Source) → Dropped before mid start over a b → AddsLine Full mid after b c
    → list_all is_blank (drop start after) ≡ true → text_then ≡ take start after → Dropped before text_then start true a c
dropped-more before mid after line start over a b c d p blank cut =
    let w = whole-line Full before mid after start over a b c d p in
    let behind = piece-behind before after p.piece start w.from w.appended in
    record {
      blanks = d.blanks ++ p.piece;
      taken = w.taken;
      blank = blanks-both d.blanks p.piece d.blank (ap (list_all is_blank) (sym behind) ∙ blank);
      kept = cut ∙ ap (take start) w.appended ∙ ap (λ (k : ℕ). take k (before ++ p.piece)) w.from ∙ take-front before p.piece;
      from = d.from;
      none = λ f. absurd cc;
      some = λ t. omega (arith, p.kind.1, ap length w.appended, length-append before p.piece, length-append d.blanks p.piece, d.from);
    }

pub fewer-left : (before mid after : List ℕ) (start : ℕ) (over : Bool) (a b c : Source) → Dropped before mid start over a b → AddsLine Full mid after b c → start ≤ paragraph_limit → c.room < b.room
fewer-left before mid after start over a b c d p within = omega (arith, p.kind.1, p.taken.room, ap length p.appended, ap length d.kept, length-append mid p.piece, d.from)
