-- Lemmas on what a reader has left.
use Rattle.std.proofs.Common.{take, drop, take-add, subst, append-nil, ◌≤◌, Option, None, Some, ◌≡◌, ℕ, ◌+◌, true, false, List, [], ◌∷◌, ◌++◌, length, sym, ap, ◌∙◌, append_assoc, arith, length-append}
use Rattle.std.specs.Io.KnownBytes.{Consumes, Appends, Keeps}
use Rattle.std.specs.Str.{IsUtf8, is_utf8}
use Rattle.std.proofs.lemmas.Str.{IsUtf8-from_is_utf8}
use Rattle.std.proofs.lemmas.Bool.{false_from_ne_true}
use Rattle.std.proofs.lemmas.Bool.Decides.{nat_tests}
use Rattle.deb_text.specs.Lines.{IsOneLine}
use Rattle.deb_text.proofs.ListLemmas.{IsOneLine-append}
use Rattle.wb_streams.specs.Line.{is_long, line_limit}

pub Consumes-then : (a b c : Option (List ℕ)) (xs ys : List ℕ) → Consumes a b xs → Consumes b c ys → Consumes a c (xs ++ ys)
Consumes-then None b c xs ys p q = tt
Consumes-then (Some x) None c xs ys p q = absurd p
Consumes-then (Some x) (Some y) None xs ys p q = absurd q
Consumes-then (Some x) (Some y) (Some z) xs ys p q = p ∙ ap (λ l. xs ++ l) q ∙ sym (append_assoc xs ys z)

pub IsOneLine-one : (c : ℕ) → ¬ (c ≡ 10) → IsOneLine (c ∷ [])
IsOneLine-one c h = grind (arith, nat_tests)

-- a line that fills the room, and one byte more, is too long
pub over_long : (a b c : Option (List ℕ)) (line : List ℕ) (byte : ℕ) → line_limit ≤ length line → IsOneLine line → ¬ (byte ≡ 10)
    → Consumes a b line → Consumes b c (byte ∷ [])
    → (taken : List ℕ) × (is_long taken ≡ true) × IsOneLine taken × Consumes a c taken
over_long a b c line byte full none other p q = (
  line ++ byte ∷ [],
  grind (arith, nat_tests, length-append line (byte ∷ [])),
  IsOneLine-append line (byte ∷ []) none (IsOneLine-one byte other),
  Consumes-then a b c line (byte ∷ []) p q,
)

-- ---- UTF-8 as a test

pub is_utf8-false : (bs : List ℕ) → ¬ (IsUtf8 bs) → is_utf8 bs ≡ false
is_utf8-false bs h = false_from_ne_true (is_utf8 bs) (λ e. h (IsUtf8-from_is_utf8 bs e))

-- ---- what a writer holds

pub Appends-then : (a b c : Option (List ℕ)) (xs ys : List ℕ) → Appends a b xs → Appends b c ys → Appends a c (xs ++ ys)
Appends-then None b c xs ys p q = tt
Appends-then (Some x) None c xs ys p q = absurd p
Appends-then (Some x) (Some y) None xs ys p q = absurd q
Appends-then (Some x) (Some y) (Some z) xs ys p q = q ∙ ap (λ l. l ++ ys) p ∙ append_assoc x xs ys

-- more of a text that was written up to a place
pub Appends-take : (a b c : Option (List ℕ)) (bs : List ℕ) (m n : ℕ) → Appends a b (take m bs) → Appends b c (take n (drop m bs)) → Appends a c (take (m + n) bs)
Appends-take a b c bs m n p q = subst (Appends a c) (sym (take-add m n bs)) (Appends-then a b c (take m bs) (take n (drop m bs)) p q)

pub Appends-same : (a : Option (List ℕ)) → Appends a a []
Appends-same None = tt
Appends-same (Some x) = sym (append-nil x)

-- what grew by nothing stayed as it was
pub Keeps-nothing : (a b : Option (List ℕ)) → Appends a b [] → Keeps a b
Keeps-nothing None b p = tt
Keeps-nothing (Some x) None p = absurd p
Keeps-nothing (Some x) (Some y) p = p ∙ append-nil x
