-- Texts as the lists of their bytes, and their order, which is that of their bytes.
use Rattle.std.specs.Prelude.{ℕ, ◌≤◌, Bool, not, List, length}
use Rattle.std.specs.Coded.{Coded, coded_ℕ, coded_list}
use Rattle.std.specs.Str.{IsUtf8}
use Rattle.std.specs.declared.cmp.Ordering.{Ordering}
use Rattle.std.specs.Ordering.{nat_cmp, on, then_cmp}
use Rattle.std.specs.Cmp.Lexicographic.{slice_cmp}
use Rattle.deb_text.specs.Lists.{is_nonempty}

-- the order of two texts by their bytes
abbrev pub text_cmp : List ℕ → List ℕ → Ordering
text_cmp = slice_cmp nat_cmp

-- the order of two pairs of texts: by the first, then by the second
abbrev pub pair_cmp : List ℕ × List ℕ → List ℕ × List ℕ → Ordering
pair_cmp = then_cmp (on (λ p. p.0) text_cmp) (on (λ p. p.1) text_cmp)

-- the code of a text, by which a prover distinguishes it from others
abbrev pub coded_text : Coded (List ℕ)
coded_text = coded_list coded_ℕ

-- whether a text is empty
abbrev pub is_empty_text : List ℕ → Bool
is_empty_text text = not (is_nonempty text)

-- a UTF-8 text of at most this many bytes
pub record IsTextWithin (limit : ℕ) (text : List ℕ) : Type 0 where
  pub utf8 : IsUtf8 text
  pub within : length text ≤ limit
