-- The first space or tab of a text, and that a text may be cut there.
use Rattle.std.proofs.Common.{◌≡◌, ℕ, suc, ◌+◌, ◌<◌, ◌≤◌, Bool, true, false, cond, not, List, [], ◌∷◌, length, get_or, position, Some, None, refl, sym, ap, subst, ◌∙◌, arith}
use Rattle.std.specs.List.{position_or_len, after_first}
use Rattle.std.specs.Prelude.{nat_lt}
use Rattle.std.specs.Str.{IsUtf8, IsCharBoundary}
use Rattle.std.proofs.lemmas.Bool.Decides.{nat_tests}
use Rattle.std.proofs.lemmas.List.{drop_all}
use Rattle.std.proofs.lemmas.Str.{IsCharBoundary-after_ascii}
use Rattle.deb_control.specs.Lines.{is_blank}

blank-ascii : (c : ℕ) → is_blank c ≡ true → c < 128
blank-ascii c h = grind (arith, nat_tests)

blank-at : (text : List ℕ) → position_or_len is_blank text < length text → is_blank (get_or text (position_or_len is_blank text) 0) ≡ true
blank-at [] h = absurd (omega arith)
blank-at (c ∷ cs) h = elim (is_blank c) as (λ b. is_blank c ≡ b → is_blank (get_or (c ∷ cs) (cond (not b) (1 + position_or_len is_blank cs) 0) 0) ≡ true) [
  | true ↦ λ e. e
  | false ↦ λ e.
      let less : position_or_len is_blank cs < length cs = omega (arith, rw e at h) in
      let next : 1 + position_or_len is_blank cs ≡ suc (position_or_len is_blank cs) = omega arith in
      ap (λ n. is_blank (get_or (c ∷ cs) n 0)) next ∙ blank-at cs less
] refl

placed : (b : Bool) (n at : ℕ) → cond b (Some n) None ≡ Some at → (b ≡ true) × (n ≡ at)
placed true n at e = (refl, cc)
placed false n at e = absurd (cc)

not_placed : (b : Bool) (n : ℕ) → cond b (Some n) None ≡ None → b ≡ false
not_placed true n e = absurd (cc)
not_placed false n e = refl

-- where a text has its first blank, and that it may be cut round it
pub record HasBlank (text : List ℕ) (at : ℕ) : Type 0 where
  pub place : position_or_len is_blank text ≡ at
  pub inside : at < length text
  pub here : IsCharBoundary text at
  pub behind : IsCharBoundary text (at + 1)

pub has-blank : (bytes text : List ℕ) (at : ℕ) → bytes ≡ text → IsUtf8 text → position is_blank bytes ≡ Some at → HasBlank text at
has-blank bytes text at same utf8 found =
    let two = placed (nat_lt (position_or_len is_blank text) (length text)) (position_or_len is_blank text) at (ap (position is_blank) (sym same) ∙ found) in
    let inside : position_or_len is_blank text < length text = grind (arith, nat_tests) in
    let blank : get_or text (position_or_len is_blank text) 0 < 128 = blank-ascii _ (blank-at text inside) in
    record {
      place = two.1;
      inside = subst (λ n. n < length text) two.1 inside;
      here = (omega (arith, two.1, inside), λ l k. absurd (omega (arith, subst (λ n. get_or text n 0 < 128) two.1 blank)));
      behind = subst (λ n. IsCharBoundary text (n + 1)) two.1 (IsCharBoundary-after_ascii text (position_or_len is_blank text) utf8 inside blank);
    }

-- what stands after the only word of a text
pub no_blank-rest : (bytes text : List ℕ) → bytes ≡ text → position is_blank bytes ≡ None → [] ≡ after_first is_blank text
no_blank-rest bytes text same none =
    let past : nat_lt (position_or_len is_blank text) (length text) ≡ false = not_placed _ _ (ap (position is_blank) (sym same) ∙ none) in
    let far : length text ≤ position_or_len is_blank text + 1 = grind (arith, nat_tests) in
    sym (drop_all (position_or_len is_blank text + 1) text far)
