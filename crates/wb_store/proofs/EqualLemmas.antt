-- When SQL finds two values equal, and how it orders them.
use Rattle.std.proofs.Common.{◌≡◌, ℕ, pos, Bool, true, false, ◌&&◌, List, Option, None, Some, is_some, bytes_eq, nat_eq}
use Rattle.std.proofs.Common.{Decides, refl, ap, subst, ◌∙◌, arith, Ordering, Less, Equal, Greater, nat_cmp, int_cmp}
use Rattle.std.proofs.Common.{is_eq, is_ge}
use Rattle.std.specs.Ordering.{ordering_then}
use Rattle.std.proofs.lemmas.Bool.Decides.{nat_tests, same_from_decides}
use Rattle.std.proofs.lemmas.Cmp.{tied_itself}
use Rattle.std.proofs.lemmas.Int.{ints}
use Rattle.std.proofs.lemmas.Slice.Eq.{bytes_eq-Decides}
use Rattle.sqlite.specs.Collation.TheVariants.{Binary}
use Rattle.sqlite.specs.declared.types.Value.{Value}
use Rattle.sqlite.specs.declared.types.Value.TheVariants.{Null, Text}
use Rattle.sqlite_sql.specs.declared.ops.BinaryOp.TheVariants.{Compare}
use Rattle.sqlite_sql.specs.declared.ops.CompareOp.TheVariants.{Eq, Ge}
use Rattle.sqlite_sql.specs.Ops.{binary, is_true, from_truth}
use Rattle.sqlite_value.specs.Order.{value_cmp}
use Rattle.sqlite_value.proofs.OrderLemmas.{value_cmp-Int, value_cmp-Text}
use Rattle.deb_text.specs.Options.{has_value}
use Rattle.deb_text.specs.Text.{text_cmp}
use Rattle.deb_text.proofs.KeyLemmas.{text_cmp_total, text_cmp-same, eq_by_cmp-same}
use Rattle.wb_merge.proofs.NameLemmas.{bytes_eq-turned}
use Rattle.wb_rows.specs.Cells.{number, text_or_null, number_or_null}

-- SQL finds the two values equal
abbrev pub are_equal : Value → Value → Bool
are_equal a b = is_true (binary (Compare Eq Binary) a b)

pub true_is : (b : Bool) → is_true (from_truth (Some b)) ≡ b
true_is true = refl
true_is false = refl

text_cmp-Decides : (s t : List ℕ) → Decides (is_eq (text_cmp s t)) (s ≡ t)
text_cmp-Decides s t = (eq_by_cmp-same text_cmp-same s t, λ e. subst (λ u. is_eq (text_cmp s u) ≡ true) e (ap is_eq (tied_itself text_cmp_total s)))

-- two texts, if they have the same bytes
pub equal-Text : (s t : List ℕ) → are_equal (Text s) (Text t) ≡ bytes_eq s t
unfolding binary
equal-Text s t =
    true_is (is_eq (value_cmp (Text s) (Text t))) ∙ ap is_eq (value_cmp-Text s t)
    ∙ same_from_decides (is_eq (text_cmp s t)) (bytes_eq s t) (text_cmp-Decides s t) (bytes_eq-Decides s t)

-- two numbers, the other way round
pub nat_eq-turned : (m n : ℕ) → nat_eq m n ≡ nat_eq n m
nat_eq-turned m n = grind (arith, nat_tests)

int_cmp-numbers : (m n : ℕ) → int_cmp (pos m) (pos n) ≡ nat_cmp m n
int_cmp-numbers m n = grind (arith, nat_tests, ints)

nat_cmp-equal : (m n : ℕ) → is_eq (nat_cmp m n) ≡ nat_eq n m
nat_cmp-equal m n = grind (arith, nat_tests)

-- two numbers, if they are the same
pub equal-number : (m n : ℕ) → are_equal (number m) (number n) ≡ nat_eq n m
unfolding binary
equal-number m n = true_is (is_eq (value_cmp (number m) (number n))) ∙ ap is_eq (value_cmp-Int (pos m) (pos n)) ∙ ap is_eq (int_cmp-numbers m n) ∙ nat_cmp-equal m n

-- NULL equals nothing
pub equal-Null : (b : Value) → are_equal Null b ≡ false
unfolding binary
equal-Null b = refl

-- a text that may be missing
pub equal-text_or_null : (found : Option (List ℕ)) (t : List ℕ) → are_equal (text_or_null found) (Text t) ≡ has_value (bytes_eq t) found
equal-text_or_null None t = equal-Null (Text t)
equal-text_or_null (Some s) t = equal-Text s t ∙ bytes_eq-turned s t

-- a number that may be missing
pub equal-number_or_null : (found : Option ℕ) (n : ℕ) → are_equal (number_or_null found) (number n) ≡ has_value (nat_eq n) found
equal-number_or_null None n = equal-Null (number n)
equal-number_or_null (Some m) n = equal-number m n

-- the order of two numbers
pub order-number : (m n : ℕ) → value_cmp (number m) (number n) ≡ nat_cmp m n
order-number m n = value_cmp-Int (pos m) (pos n) ∙ int_cmp-numbers m n

-- SQL finds the value to be at least 0
abbrev pub is_from_zero : Value → Bool
is_from_zero a = is_true (binary (Compare Ge Binary) a (number 0))

nat_cmp-zero : (n : ℕ) → is_ge (nat_cmp n 0) ≡ true
nat_cmp-zero n = grind (arith, nat_tests)

-- each number from 0 is, and NULL is not
pub from_zero-number_or_null : (found : Option ℕ) → is_from_zero (number_or_null found) ≡ is_some found
unfolding binary
from_zero-number_or_null None = refl
from_zero-number_or_null (Some n) = true_is (is_ge (value_cmp (number n) (number 0))) ∙ ap is_ge (order-number n 0)
    ∙ nat_cmp-zero n

pub and_true : (b : Bool) → (b && true) ≡ b
and_true true = refl
and_true false = refl

-- a comparison with nothing after it
pub then_none : (r : Ordering) → ordering_then r Equal ≡ r
then_none Less = refl
then_none Equal = refl
then_none Greater = refl
