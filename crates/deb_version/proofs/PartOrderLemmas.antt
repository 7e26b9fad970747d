-- Lemmas behind the laws of the order of parts.
use Rattle.std.proofs.Common.{◌≡◌, ◌≢◌, ℕ, ◌+◌, ◌<◌, Bool, true, false, cond, eqb, List, [], ◌∷◌, ◌++◌, map, refl, sym, ap, ◌∙◌, arith}
use Rattle.std.specs.Prelude.{ℤ, pos, negsuc}
use Rattle.std.specs.Char.{is_ascii_alphabetic, is_ascii_alphanumeric, is_ascii_digit}
use Rattle.std.specs.declared.cmp.Ordering.{Ordering}
use Rattle.std.specs.declared.cmp.Ordering.TheVariants.{Less, Equal, Greater}
use Rattle.std.specs.Ordering.{ordering_then, is_ne, nat_cmp, int_cmp}
use Rattle.std.specs.Cmp.{tied_itself}
use Rattle.std.proofs.lemmas.Bool.Decides.{nat_tests}
use Rattle.std.proofs.lemmas.Int.{ints}
use Rattle.deb_version.specs.Syntax.{with_digit, value_of}
use Rattle.deb_version.specs.Order.{weight_of, key_in_run, key_in_digits, key_of, key_cmp, part_cmp}
use Rattle.deb_version.specs.OrderLaws.{MayFollow, LettersAreEarlier, PartsCompareByRuns, ZerosKeepTheOrder, key_cmp_total}
use Rattle.deb_version.proofs.LawLemmas.{then-same, run-then}
use Rattle.deb_version.proofs.NumberLemmas.{value_of-zero}
use Rattle.deb_version.proofs.OrderLemmas.{pos-cmp, key_cmp-padded}

weight-letter : (a b : Bool) (c : ℕ) → a ≡ false → b ≡ true → cond a (negsuc 0) (cond b (pos c) (pos (c + 256))) ≡ pos c
weight-letter a b c e h = rw (e, h) refl

weight-other : (a b : Bool) (c : ℕ) → a ≡ false → b ≡ false → cond a (negsuc 0) (cond b (pos c) (pos (c + 256))) ≡ pos (c + 256)
weight-other a b c e h = rw (e, h) refl

-- a letter weighs its code, another character that is no digit and not `~` weighs 256 more than its code
letter-weight : (c : ℕ) → is_ascii_alphabetic c ≡ true → (is_ascii_digit c ≡ false) × (weight_of c ≡ pos c) × (c < 256)
unfolding weight_of
letter-weight c h =
    (grind (arith, nat_tests), weight-letter (eqb c 126) (is_ascii_alphabetic c) c (grind (arith, nat_tests)) h, grind (arith, nat_tests))

other-weight : (c : ℕ) → is_ascii_alphanumeric c ≡ false → c ≢ 126 → (is_ascii_digit c ≡ false) × (weight_of c ≡ pos (c + 256))
unfolding weight_of
other-weight c h e =
    (grind (arith, nat_tests), weight-other (eqb c 126) (is_ascii_alphabetic c) c (grind (arith, nat_tests)) (grind (arith, nat_tests)))

pos-Less : (m n : ℕ) → m < n → int_cmp (pos m) (pos n) ≡ Less
pos-Less m n h = grind (arith, ints, nat_tests)

-- where what is left differs first by the two, its key is smaller, in a run and in digits
abbrev IsEarlier : List ℕ → List ℕ → List ℕ → Type 0
IsEarlier one two cs =
    (key_cmp (key_in_run (cs ++ one)) (key_in_run (cs ++ two)) ≡ Less)
    × ((n : ℕ) → key_cmp (key_in_digits n (cs ++ one)) (key_in_digits n (cs ++ two)) ≡ Less)

earlier-by : (b : Bool) (c : ℕ) (one two cs : List ℕ) → is_ascii_digit c ≡ b → IsEarlier one two cs → IsEarlier one two (c ∷ cs)
earlier-by true c one two cs e h = (rw e (h.1 (with_digit 0 c)), λ n. rw e (h.1 (with_digit n c)))
earlier-by false c one two cs e h =
    let run : ordering_then (int_cmp (weight_of c) (weight_of c)) (key_cmp (key_in_run (cs ++ one)) (key_in_run (cs ++ two))) ≡ Less = then-same (weight_of c) _ ∙ h.0 in
    (rw e run, λ n. rw e (then-same (pos n) _ ∙ run))

earlier-first : (more other_more : List ℕ) (letter other : ℕ)
    → is_ascii_alphabetic letter ≡ true → is_ascii_alphanumeric other ≡ false → other ≢ 126 → IsEarlier (letter ∷ more) (other ∷ other_more) []
earlier-first more other_more letter other h k e =
    let l = letter-weight letter h in
    let o = other-weight other k e in
    let less : int_cmp (weight_of letter) (weight_of other) ≡ Less =
    ap (λ w. int_cmp w (weight_of other)) l.1 ∙ ap (int_cmp (pos letter)) o.1 ∙ pos-Less letter (other + 256) (omega (arith, l.2)) in
    let a : is_ascii_digit letter ≡ false = l.0 in
    let b : is_ascii_digit other ≡ false = o.0 in
    let run : ordering_then (int_cmp (weight_of letter) (weight_of other)) (key_cmp (key_in_run more) (key_in_run other_more)) ≡ Less =
    ap (λ order. ordering_then order (key_cmp (key_in_run more) (key_in_run other_more))) less in
    (rw (a, b) run, λ n. rw (a, b) (then-same (pos n) _ ∙ run))

earlier : (more other_more : List ℕ) (letter other : ℕ)
    → is_ascii_alphabetic letter ≡ true → is_ascii_alphanumeric other ≡ false → other ≢ 126
    → (cs : List ℕ) → IsEarlier (letter ∷ more) (other ∷ other_more) cs
earlier more other_more letter other h k e [] = earlier-first more other_more letter other h k e
earlier more other_more letter other h k e (c ∷ cs) =
    earlier-by (is_ascii_digit c) c (letter ∷ more) (other ∷ other_more) cs refl (earlier more other_more letter other h k e cs)

pub letters-earlier : LettersAreEarlier
unfolding part_cmp
letters-earlier [] more other_more letter other h k e = (earlier-first more other_more letter other h k e).0
letters-earlier (c ∷ cs) more other_more letter other h k e = (earlier more other_more letter other h k e (c ∷ cs)).0

pos-Greater : (n : ℕ) → 0 < n → int_cmp (pos n) (pos 0) ≡ Greater
pos-Greater n h = grind (arith, ints, nat_tests)

some-by : (a b : Bool) (c : ℕ) → (b ≡ true → 0 < c)
    → (is_ne (int_cmp (pos 0) (cond a (negsuc 0) (cond b (pos c) (pos (c + 256))))) ≡ true)
    × (is_ne (int_cmp (cond a (negsuc 0) (cond b (pos c) (pos (c + 256)))) (pos 0)) ≡ true)
some-by true b c h = (refl, refl)
some-by false true c h = (ap is_ne (pos-Less 0 c (h refl)), ap is_ne (pos-Greater c (h refl)))
some-by false false c h = (ap is_ne (pos-Less 0 (c + 256) (omega arith)), ap is_ne (pos-Greater (c + 256) (omega arith)))

letter-some : (c : ℕ) → is_ascii_alphabetic c ≡ true → 0 < c
letter-some c h = grind (arith, nat_tests)

-- no character weighs as much as the end of a run
weight-some : (c : ℕ) → (is_ne (int_cmp (pos 0) (weight_of c)) ≡ true) × (is_ne (int_cmp (weight_of c) (pos 0)) ≡ true)
unfolding weight_of
weight-some c = some-by (eqb c 126) (is_ascii_alphabetic c) c (letter-some c)

then-assoc : (o p q : Ordering) → ordering_then o (ordering_then p q) ≡ ordering_then (ordering_then o p) q
then-assoc Less p q = refl
then-assoc Equal p q = refl
then-assoc Greater p q = refl

-- a decided comparison stays decided, whatever follows it
decided : (o p q r : Ordering) → is_ne o ≡ true → ordering_then o p ≡ ordering_then (ordering_then o q) r
decided Less p q r h = refl
decided Equal p q r h = cc
decided Greater p q r h = refl

pairs-cmp : (run other_run : List ℕ) (m n : ℕ) (key other_key : List ℤ)
    → key_cmp (map weight_of run ++ (pos 0 ∷ pos m ∷ key)) (map weight_of other_run ++ (pos 0 ∷ pos n ∷ other_key))
    ≡ ordering_then (key_cmp (map weight_of run) (map weight_of other_run)) (ordering_then (nat_cmp m n) (key_cmp key other_key))
pairs-cmp [] [] m n key other_key = ap (λ o. ordering_then o (key_cmp key other_key)) (pos-cmp m n)
pairs-cmp [] (d ∷ ds) m n key other_key = decided (int_cmp (pos 0) (weight_of d)) _ _ _ (weight-some d).0
pairs-cmp (c ∷ cs) [] m n key other_key = decided (int_cmp (weight_of c) (pos 0)) _ _ _ (weight-some c).1
pairs-cmp (c ∷ cs) (d ∷ ds) m n key other_key =
    ap (ordering_then (int_cmp (weight_of c) (weight_of d))) (pairs-cmp cs ds m n key other_key) ∙ then-assoc (int_cmp (weight_of c) (weight_of d)) _ _

pub parts-by_runs : PartsCompareByRuns
unfolding part_cmp
parts-by_runs run digits rest other_run other_digits other_rest one two =
    sym (key_cmp-padded (run ++ (digits ++ rest)) (other_run ++ (other_digits ++ other_rest)))
    ∙ ap (λ k. key_cmp k (key_in_run (other_run ++ (other_digits ++ other_rest)))) (run-then run digits rest one.characters one.number one.follows)
    ∙ ap (key_cmp (map weight_of run ++ (pos 0 ∷ pos (value_of digits) ∷ key_of rest)))
    (run-then other_run other_digits other_rest two.characters two.number two.follows)
    ∙ pairs-cmp run other_run (value_of digits) (value_of other_digits) (key_of rest) (key_of other_rest)

may-follow : (digits rest : List ℕ) → MayFollow digits rest → MayFollow (48 ∷ digits) rest
may-follow digits [] h = tt
may-follow digits (c ∷ cs) h = (omega arith, h.1)

pub zeros-keep : ZerosKeepTheOrder
unfolding part_cmp
zeros-keep run digits rest pair =
    let with_zero = run-then run (48 ∷ digits) rest pair.characters pair.number (may-follow digits rest pair.follows) in
    let without = run-then run digits rest pair.characters pair.number pair.follows in
    let same : key_in_run (run ++ (48 ∷ (digits ++ rest))) ≡ key_in_run (run ++ (digits ++ rest)) =
    with_zero ∙ ap (λ n. map weight_of run ++ (pos 0 ∷ pos n ∷ key_of rest)) (value_of-zero digits) ∙ sym without in
    sym (key_cmp-padded (run ++ (48 ∷ (digits ++ rest))) (run ++ (digits ++ rest)))
    ∙ ap (λ k. key_cmp k (key_in_run (run ++ (digits ++ rest)))) same
    ∙ tied_itself key_cmp_total (key_in_run (run ++ (digits ++ rest)))
