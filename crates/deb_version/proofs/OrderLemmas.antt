-- Lemmas on the keys of parts, and on one step of their comparison.
use Rattle.std.proofs.Common.{◌≡◌, ◌≢◌, ℕ, suc, min, ◌+◌, ◌<◌, ◌≤◌, Bool, true, false, cond, List, [], ◌∷◌, length, take, drop, refl, sym, ap, ◌∙◌, arith, length-drop}
use Rattle.std.specs.Prelude.{ℤ, pos, ◌+ℤ◌}
use Rattle.std.specs.Char.{is_ascii_digit}
use Rattle.std.specs.List.{list_all, prefix_len}
use Rattle.std.specs.declared.cmp.Ordering.{Ordering}
use Rattle.std.specs.declared.cmp.Ordering.TheVariants.{Less, Equal, Greater}
use Rattle.std.specs.Ordering.{ordering_then, is_ne, nat_cmp, int_cmp}
use Rattle.std.proofs.lemmas.Bool.Decides.{nat_tests}
use Rattle.std.proofs.lemmas.Cmp.{by_ranked, ranked}
use Rattle.std.proofs.lemmas.Int.{ints}
use Rattle.deb_version.specs.Syntax.{with_digit, value_after, value_of}
use Rattle.deb_version.specs.Order.{weight_of, key_in_run, key_in_digits, key_of, key_cmp, part_cmp, first_weight}

-- the key of what is left of a part, without its first item
abbrev tail_at : List ℕ → List ℤ
tail_at [] = pos 0 ∷ []
tail_at (c ∷ cs) = cond (is_ascii_digit c) (key_in_digits (with_digit 0 c) cs) (key_in_run cs)

cond-cons : (b : Bool) (x y : ℤ) (xs ys : List ℤ) → cond b (x ∷ xs) (y ∷ ys) ≡ cond b x y ∷ cond b xs ys
cond-cons true x y xs ys = refl
cond-cons false x y xs ys = refl

key_in_run-first : (a : List ℕ) → key_in_run a ≡ first_weight a ∷ tail_at a
unfolding first_weight
key_in_run-first [] = refl
key_in_run-first (c ∷ cs) = cond-cons (is_ascii_digit c) (pos 0) (weight_of c) (key_in_digits (with_digit 0 c) cs) (key_in_run cs)

run-cmp : (a b : List ℕ) → key_cmp (key_in_run a) (key_in_run b) ≡ ordering_then (int_cmp (first_weight a) (first_weight b)) (key_cmp (tail_at a) (tail_at b))
run-cmp a b = ap (λ k. key_cmp k (key_in_run b)) (key_in_run-first a) ∙ ap (key_cmp (first_weight a ∷ tail_at a)) (key_in_run-first b)

rank-cmp : (m n : ℕ) (x y : ℤ) → pos m ≡ x +ℤ pos 1 → pos n ≡ y +ℤ pos 1 → int_cmp x y ≡ nat_cmp m n
rank-cmp m n x y d e = grind (arith, ints, nat_tests)

pub pos-cmp : (m n : ℕ) → int_cmp (pos m) (pos n) ≡ nat_cmp m n
pos-cmp m n = grind (arith, ints, nat_tests)

nat_cmp-same : (n : ℕ) → nat_cmp n n ≡ Equal
nat_cmp-same n = grind (arith, nat_tests)

then-decided : (m n : ℕ) (o : Ordering) → m ≢ n → ordering_then (nat_cmp m n) o ≡ nat_cmp m n
then-decided m n o h =
    by_ranked (m < n) (m ≡ n) (n < m) (nat_cmp m n) (ranked m n (nat_cmp m n) refl) (λ e _. rw e refl) (λ _ q. absurd (h q)) (λ e _. rw e refl)

-- different first weights decide
pub run_decided : (a b : List ℕ) (m n : ℕ) → pos m ≡ first_weight a +ℤ pos 1 → pos n ≡ first_weight b +ℤ pos 1 → m ≢ n → key_cmp (key_in_run a) (key_in_run b) ≡ nat_cmp m n
run_decided a b m n d e h =
    let rest : Ordering = key_cmp (tail_at a) (tail_at b) in
    run-cmp a b ∙ ap (λ o. ordering_then o rest) (rank-cmp m n (first_weight a) (first_weight b) d e) ∙ then-decided m n rest h

-- inside a run the next character is passed
pub record RunGoesOn (a : List ℕ) : Type 0 where
  pub some : 1 ≤ length a
  pub passed : tail_at a ≡ key_in_run (drop 1 a)

goes-on : (b : Bool) (c m : ℕ) (cs : List ℕ) → is_ascii_digit c ≡ b → pos m ≡ cond b (pos 0) (weight_of c) +ℤ pos 1 → m ≢ 1 → tail_at (c ∷ cs) ≡ key_in_run cs
goes-on true c m cs e d h = absurd (h (omega (arith, ints, d)))
goes-on false c m cs e d h = rw e refl

pub run_goes_on : (a : List ℕ) (m : ℕ) → pos m ≡ first_weight a +ℤ pos 1 → m ≢ 1 → RunGoesOn a
unfolding first_weight
run_goes_on [] m d h = absurd (h (omega (arith, ints, d)))
run_goes_on (c ∷ cs) m d h = record {
  some = omega arith;
  passed = goes-on (is_ascii_digit c) c m cs refl d h;
}

pub run_passed : (a b : List ℕ) (m n : ℕ) → pos m ≡ first_weight a +ℤ pos 1 → pos n ≡ first_weight b +ℤ pos 1 → m ≡ n → m ≢ 1
    → key_cmp (key_in_run a) (key_in_run b) ≡ key_cmp (key_in_run (drop 1 a)) (key_in_run (drop 1 b))
run_passed a b m n d e q h =
    let rest : Ordering = key_cmp (tail_at a) (tail_at b) in
    let same : nat_cmp m n ≡ Equal = ap (nat_cmp m) (sym q) ∙ nat_cmp-same m in
    run-cmp a b
    ∙ ap (λ o. ordering_then o rest) (rank-cmp m n (first_weight a) (first_weight b) d e ∙ same)
    ∙ ap (λ k. key_cmp k (tail_at b)) (run_goes_on a m d h).passed
    ∙ ap (key_cmp (key_in_run (drop 1 a))) (run_goes_on b n e (λ z. h (q ∙ z))).passed

-- how many digits a text begins with
abbrev digits_len : List ℕ → ℕ
digits_len cs = prefix_len is_ascii_digit cs

digits-by : (b : Bool) (n c : ℕ) (cs : List ℕ) → is_ascii_digit c ≡ b
    → key_in_digits (with_digit n c) cs ≡ pos (value_after (with_digit n c) (take (digits_len cs) cs)) ∷ key_of (drop (digits_len cs) cs)
    → key_in_digits n (c ∷ cs) ≡ pos (value_after n (take (cond b (1 + digits_len cs) 0) (c ∷ cs))) ∷ key_of (drop (cond b (1 + digits_len cs) 0) (c ∷ cs))
digits-by true n c cs e h =
    let more : suc (digits_len cs) ≡ 1 + digits_len cs = omega arith in
    rw e (h ∙ ap (λ k. pos (value_after n (take k (c ∷ cs))) ∷ key_of (drop k (c ∷ cs))) more)
digits-by false n c cs e h = rw e refl

-- inside a digit run the key goes on with the number of the digits, and then with the key of the rest
pub key_in_digits-runs : (n : ℕ) (cs : List ℕ) → key_in_digits n cs ≡ pos (value_after n (take (digits_len cs) cs)) ∷ key_of (drop (digits_len cs) cs)
key_in_digits-runs n [] = refl
key_in_digits-runs n (c ∷ cs) = digits-by (is_ascii_digit c) n c cs refl (key_in_digits-runs (with_digit n c) cs)

weight_of-not_zero : (c : ℕ) → pos 1 ≡ weight_of c +ℤ pos 1 → ⊥
unfolding weight_of
weight_of-not_zero c e = grind (arith, ints, nat_tests)

-- at the end of a run the digits after it are a number
pub record RunEnds (a : List ℕ) : Type 0 where
  pub number : tail_at a ≡ pos (value_of (take (digits_len a) a)) ∷ key_of (drop (digits_len a) a)
  pub some : min 1 (length a) ≤ digits_len a

ends-by : (b : Bool) (c : ℕ) (cs : List ℕ) → is_ascii_digit c ≡ b → pos 1 ≡ cond b (pos 0) (weight_of c) +ℤ pos 1 → is_ascii_digit c ≡ true
ends-by true c cs e d = e
ends-by false c cs e d = absurd (weight_of-not_zero c d)

digit-first : (c : ℕ) (cs : List ℕ) → is_ascii_digit c ≡ true → tail_at (c ∷ cs) ≡ key_in_digits 0 (c ∷ cs)
digit-first c cs e = rw e refl

pub run_ends : (a : List ℕ) → pos 1 ≡ first_weight a +ℤ pos 1 → RunEnds a
unfolding first_weight value_of
run_ends [] d = record { number = refl; some = omega arith }
run_ends (c ∷ cs) d =
    let e = ends-by (is_ascii_digit c) c cs refl d in
    record {
      number = digit-first c cs e ∙ digits-by (is_ascii_digit c) 0 c cs refl (key_in_digits-runs (with_digit 0 c) cs);
      some = rw e (omega arith);
    }

-- two zeros at the end of a key say nothing
padded-left : (k : List ℤ) → key_cmp (pos 0 ∷ pos 0 ∷ []) k ≡ key_cmp [] k
padded-left [] = refl
padded-left (x ∷ []) = refl
padded-left (x ∷ y ∷ k) = refl

padded-right : (k : List ℤ) → key_cmp k (pos 0 ∷ pos 0 ∷ []) ≡ key_cmp k []
padded-right [] = refl
padded-right (x ∷ []) = refl
padded-right (x ∷ y ∷ k) = refl

pub key_cmp-padded : (a b : List ℕ) → key_cmp (key_in_run a) (key_in_run b) ≡ key_cmp (key_of a) (key_of b)
key_cmp-padded [] [] = refl
key_cmp-padded [] (y ∷ ys) = padded-left (key_in_run (y ∷ ys))
key_cmp-padded (x ∷ xs) [] = padded-right (key_in_run (x ∷ xs))
key_cmp-padded (x ∷ xs) (y ∷ ys) = refl

pub run_ended : (a b : List ℕ) → pos 1 ≡ first_weight a +ℤ pos 1 → pos 1 ≡ first_weight b +ℤ pos 1
    → key_cmp (key_in_run a) (key_in_run b)
    ≡ ordering_then (nat_cmp (value_of (take (digits_len a) a)) (value_of (take (digits_len b) b))) (key_cmp (key_in_run (drop (digits_len a) a)) (key_in_run (drop (digits_len b) b)))
run_ended a b d e =
    let m : ℕ = value_of (take (digits_len a) a) in
    let n : ℕ = value_of (take (digits_len b) b) in
    let rest : Ordering = key_cmp (tail_at a) (tail_at b) in
    run-cmp a b
    ∙ ap (λ o. ordering_then o rest) (rank-cmp 1 1 (first_weight a) (first_weight b) d e)
    ∙ ap (λ k. key_cmp k (tail_at b)) (run_ends a d).number
    ∙ ap (key_cmp (pos m ∷ key_of (drop (digits_len a) a))) (run_ends b e).number
    ∙ ap (λ o. ordering_then o (key_cmp (key_of (drop (digits_len a) a)) (key_of (drop (digits_len b) b)))) (pos-cmp m n)
    ∙ ap (ordering_then (nat_cmp m n)) (sym (key_cmp-padded (drop (digits_len a) a) (drop (digits_len b) b)))

pub part_cmp-start : (a b : List ℕ) → key_cmp (key_in_run a) (key_in_run b) ≡ part_cmp a b
unfolding part_cmp
part_cmp-start a b = key_cmp-padded a b

all-by : (b : Bool) (c : ℕ) (cs : List ℕ) → is_ascii_digit c ≡ b → list_all is_ascii_digit (take (digits_len cs) cs) ≡ true
    → list_all is_ascii_digit (take (cond b (1 + digits_len cs) 0) (c ∷ cs)) ≡ true
all-by true c cs e h =
    let more : suc (digits_len cs) ≡ 1 + digits_len cs = omega arith in
    ap (λ k. list_all is_ascii_digit (take k (c ∷ cs))) (sym more) ∙ rw e h
all-by false c cs e h = refl

-- the digits that a part begins with are digits
pub all_digits : (cs : List ℕ) → list_all is_ascii_digit (take (digits_len cs) cs) ≡ true
all_digits [] = refl
all_digits (c ∷ cs) = all-by (is_ascii_digit c) c cs refl (all_digits cs)

pub is_ne-decided : (o p : Ordering) → is_ne o ≡ true → o ≡ ordering_then o p
is_ne-decided Less p h = refl
is_ne-decided Equal p h = cc
is_ne-decided Greater p h = refl

pub is_ne-equal : (o p : Ordering) → is_ne o ≡ false → p ≡ ordering_then o p
is_ne-equal Less p h = cc
is_ne-equal Equal p h = refl
is_ne-equal Greater p h = cc

-- the digits of two parts, and what follows them
pub record Split (part digits rest : List ℕ) : Type 0 where
  pub front : digits ≡ take (digits_len part) part
  pub back : rest ≡ drop (digits_len part) part

-- where the runs of both end, their numbers decide, and then what follows the digits
pub numbers_decide : (a b da ra db rb : List ℕ) (m n : ℕ) (o : Ordering) → Split a da ra → Split b db rb
    → pos m ≡ first_weight a +ℤ pos 1 → pos n ≡ first_weight b +ℤ pos 1 → m ≡ n → m ≡ 1
    → o ≡ nat_cmp (value_of da) (value_of db)
    → key_cmp (key_in_run a) (key_in_run b) ≡ ordering_then o (key_cmp (key_in_run ra) (key_in_run rb))
numbers_decide a b da ra db rb m n o s t d e q one h =
    let fa : pos 1 ≡ first_weight a +ℤ pos 1 = ap pos (sym one) ∙ d in
    let fb : pos 1 ≡ first_weight b +ℤ pos 1 = ap pos (sym one ∙ q) ∙ e in
    run_ended a b fa fb ∙ rw (h, s.front, t.front, s.back, t.back) refl

-- and the parts get shorter, unless both are at their ends
pub numbers_shorten : (a b da ra db rb : List ℕ) (m n : ℕ) → Split a da ra → Split b db rb
    → pos m ≡ first_weight a +ℤ pos 1 → pos n ≡ first_weight b +ℤ pos 1 → m ≡ n → m ≡ 1
    → 0 < length a + length b
    → length ra + length rb < length a + length b
numbers_shorten a b da ra db rb m n s t d e q one h =
    let fa : pos 1 ≡ first_weight a +ℤ pos 1 = ap pos (sym one) ∙ d in
    let fb : pos 1 ≡ first_weight b +ℤ pos 1 = ap pos (sym one ∙ q) ∙ e in
    omega (
      arith,
      (run_ends a fa).some,
      (run_ends b fb).some,
      ap length s.back ∙ length-drop (digits_len a) a,
      ap length t.back ∙ length-drop (digits_len b) b,
    )
