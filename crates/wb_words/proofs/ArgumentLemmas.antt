-- The words and the numbers of arguments, as std's functions read them.
use Rattle.std.proofs.Common.{◌≡◌, ◌++◌, ℕ, true, false, List, [], ◌∷◌, map, refl, ap, sym, arith}
use Rattle.std.specs.Prelude.{Result, Ok, Err, Some, None, codes, if◌then◌else◌}
use Rattle.std.specs.Prelude.{◌≤ℤ◌, FitsSigned, ℤ}
use Rattle.std.specs.Int.{w64}
use Rattle.std.specs.Result.{result_ok}
use Rattle.std.specs.Borrow.{Bor}
use Rattle.std.specs.List.{join_by}
use Rattle.std.specs.Str.Parse.{ParsesSigned, ParsesUnsigned, digits_value, signed_digits_value}
use Rattle.std.specs.Str.Parse.{without_leading_plus}
use Rattle.std.proofs.lemmas.Int.{ints}
use Rattle.std.proofs.lemmas.List.Folds.{flat_map-map}
use Rattle.clap.specs.Words.{Accepts, Text}
use Rattle.clap.specs.ValueTests.{is_signed_in, is_unsigned_in}
use Rattle.clap.specs.declared.builder.value_parser.ValueParser.TheVariants as vp
use Rattle.clap.proofs.ValueTestLemmas.{Accepts-accepts, accepts-Accepts}
use Rattle.wb_words.specs.Arguments.{greatest_integer, integer_in, joined, least_integer, number_in}
use Rattle.wb_words.specs.Arguments.{number_limit}

-- ---- words

-- texts are joined alike, whether they stand behind references or not
pub join_by-joined : (words : List (Bor Text)) → join_by (λ (word : Bor Text). word.now) (codes " ") words
    ≡ joined (map (λ word. word.now) words)
join_by-joined [] = refl
join_by-joined (word ∷ words) =
    ap (λ (more : Text). word.now ++ more) (sym (flat_map-map (λ (text : Text). codes " " ++ text) (λ (later : Bor Text). later.now) words))

pub ruleset argument_laws = (join_by-joined)

-- ---- numbers

-- a text is read as the number that it writes
pub parsed-number_in : {E : Type 0} (text : Text) (r : Result ℕ E) → ParsesUnsigned 64 10 text r → result_ok r ≡ number_in text
unfolding number_in
parsed-number_in text (Ok x) h =
    let passes : is_unsigned_in 0 number_limit text ≡ true =
    Accepts-accepts false (vp.Unsigned 0 number_limit) text (h.0.0, h.0.1, omega arith, omega arith) in
    rw (passes, h.1) refl
parsed-number_in text (Err e) h =
    elim (is_unsigned_in 0 number_limit text) as (λ passes. is_unsigned_in 0 number_limit text ≡ passes
    → None ≡ (if passes then Some (digits_value 10 (without_leading_plus text)) else None)) [
      | true ↦ λ e. let read : Accepts false (vp.Unsigned 0 number_limit) text =
          accepts-Accepts false (vp.Unsigned 0 number_limit) text e in absurd (h (read.0, read.1))
      | false ↦ λ e. refl
    ] refl

-- ---- integers

-- what 64 bits with a sign hold lies within the limits of what is read
within-limits : (z : ℤ) → FitsSigned w64 z → (least_integer ≤ℤ z) × (z ≤ℤ greatest_integer)
within-limits z fits = (omega (arith, ints), omega (arith, ints))

-- a text is read as the integer that it writes
pub parsed-integer_in : {E : Type 0} (text : Text) (r : Result ℤ E) → ParsesSigned w64 10 text r
    → result_ok r ≡ integer_in text
unfolding integer_in
parsed-integer_in text (Ok x) h =
    let within = within-limits (signed_digits_value 10 text) h.0.1 in
    let passes : is_signed_in least_integer greatest_integer text ≡ true =
    Accepts-accepts false (vp.Signed least_integer greatest_integer) text (h.0.0, h.0.1, within.0, within.1) in
    rw (passes, h.1) refl
parsed-integer_in text (Err e) h =
    elim (is_signed_in least_integer greatest_integer text) as (λ passes.
    is_signed_in least_integer greatest_integer text ≡ passes
    → None ≡ (if passes then Some (signed_digits_value 10 text) else None)) [
      | true ↦ λ e. let read : Accepts false (vp.Signed least_integer greatest_integer) text =
          accepts-Accepts false (vp.Signed least_integer greatest_integer) text e in absurd (h (read.0, read.1))
      | false ↦ λ e. refl
    ] refl
