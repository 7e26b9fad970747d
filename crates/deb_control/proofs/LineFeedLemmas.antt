-- The first byte that is a line feed, or a colon, stands at the first place that passes its test.
use Rattle.std.proofs.Common.{◌≡◌, ◌∙◌, sym, ap, refl, ℕ, ◌+◌, ◌<◌, get_or, Bool, true, false, cond, List, length, Option, None, Some, arith}
use Rattle.std.specs.Prelude.{◌==◌, nat_lt, position}
use Rattle.std.specs.List.{position_or_len}
use Rattle.std.proofs.lemmas.Bool.Decides.{nat_tests}
use Rattle.std.specs.Str.{IsUtf8, IsCharBoundary}
use Rattle.std.proofs.lemmas.List.Sums.{position_or_len_is}
use Rattle.std.proofs.lemmas.List.Quantifiers.{position-Some}
use Rattle.std.proofs.lemmas.Str.{IsCharBoundary-before_ascii, IsCharBoundary-after_ascii}
use Rattle.memchr.specs.Find.{IsFirstByte, is_byte}
use Rattle.deb_control.specs.Lines.{is_line_feed}
use Rattle.deb_control.specs.Fields.{is_colon}

fails : (b : Bool) → ¬ (b ≡ true) → b ≡ false
fails true h = absurd (h refl)
fails false h = refl

not_below : (n : ℕ) → nat_lt n n ≡ false
not_below n = grind (arith, nat_tests)

below : (k n : ℕ) → k < n → nat_lt k n ≡ true
below k n h = grind (arith, nat_tests)

pub byte-place : (b : ℕ) (text : List ℕ) (place : Option ℕ) → IsFirstByte (is_byte b) text place → place ≡ position (λ c. c == b) text
byte-place b text None none =
    let at : position_or_len (λ c. c == b) text ≡ length text =
    position_or_len_is (λ c. c == b) text (length text) 0 (omega arith) (λ k h. fails _ (none k (omega arith) h)) (λ h. absurd (omega (arith, h))) in
    sym (ap (λ n. cond (nat_lt n (length text)) (Some n) None) at ∙ ap (λ b. cond b (Some (length text)) None) (not_below (length text)))
byte-place b text (Some place) found =
    let at : position_or_len (λ c. c == b) text ≡ place =
    position_or_len_is (λ c. c == b) text place 0 (omega (arith, found.0.high)) (λ k h. fails _ (found.0.before k (omega arith) h)) (λ h. found.1) in
    sym (ap (λ n. cond (nat_lt n (length text)) (Some n) None) at ∙ ap (λ b. cond b (Some place) None) (below place (length text) found.0.high))

pub feed-place : (text : List ℕ) (place : Option ℕ) → IsFirstByte (is_byte 10) text place → place ≡ position is_line_feed text
feed-place text place = byte-place 10 text place

pub colon-place : (text : List ℕ) (place : Option ℕ) → IsFirstByte (is_byte 58) text place → place ≡ position is_colon text
colon-place text place = byte-place 58 text place

-- ---- where a text is cut round a byte that is ASCII

pub record CutRound (text : List ℕ) (place : ℕ) : Type 0 where
  pub here : IsCharBoundary text place
  pub behind : IsCharBoundary text (place + 1)

is_byte-low : (c b : ℕ) → (c == b) ≡ true → b < 128 → c < 128
is_byte-low c b is low = grind (arith, nat_tests)

cut-round : (b : ℕ) (text : List ℕ) (place : ℕ) → b < 128 → IsUtf8 text → position (λ c. c == b) text ≡ Some place → CutRound text place
cut-round b text place low utf8 is =
    let found = position-Some (λ c. c == b) text place 0 is in
    let byte : get_or text place 0 < 128 = is_byte-low (get_or text place 0) b found.1 low in
    record { here = IsCharBoundary-before_ascii text place found.0 byte; behind = IsCharBoundary-after_ascii text place utf8 found.0 byte }

pub line_feed-cut : (bytes text : List ℕ) (place : ℕ) → bytes ≡ text → IsUtf8 text → position is_line_feed bytes ≡ Some place → CutRound text place
line_feed-cut bytes text place same utf8 is = cut-round 10 text place (omega arith) utf8 (ap (position is_line_feed) (sym same) ∙ is)

pub colon-cut : (bytes text : List ℕ) (place : ℕ) → bytes ≡ text → IsUtf8 text → position is_colon bytes ≡ Some place → CutRound text place
colon-cut bytes text place same utf8 is = cut-round 58 text place (omega arith) utf8 (ap (position is_colon) (sym same) ∙ is)
