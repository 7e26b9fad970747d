-- The laws of the order of versions: it is total, and it is by runs of characters (Debian Policy 5.6.12).
use Rattle.std.specs.Prelude.{◌≡◌, ◌≢◌, ℕ, zero, suc, ◌+◌, ◌<◌, ◌≤◌, true, false, not, ℤ, pos, List, [], ◌∷◌, ◌++◌, map, length, codes}
use Prim.Native.Char.{code}
use Rattle.std.specs.Char.{is_ascii_alphabetic, is_ascii_alphanumeric, is_ascii_digit}
use Rattle.std.specs.List.{list_all}
use Rattle.std.specs.Cmp.{IsTotalOrder, then_total, on_total, int_cmp_total, nat_cmp_total}
use Rattle.std.specs.declared.cmp.Ordering.{Ordering}
use Rattle.std.specs.declared.cmp.Ordering.TheVariants.{Less, Equal}
use Rattle.std.specs.Ordering.{ordering_then, ordering_reverse, int_cmp, nat_cmp, on, then_cmp}
use Rattle.std.proofs.Common.{refl, sym, ap, ◌∙◌, arith}
use Rattle.deb_version.specs.Syntax.{parts_of, value_of}
use Rattle.deb_version.specs.Order.{weight_of, key_of, key_cmp, part_cmp, revision_or_zero, parts_cmp, version_cmp}

-- the first item of a key, and 0 if it has none
abbrev first_item : List ℤ → ℤ
first_item [] = pos 0
first_item (x ∷ xs) = x

-- the items of a key after the first
abbrev other_items : List ℤ → List ℤ
other_items [] = []
other_items (x ∷ xs) = xs

-- the order of the first n items of two keys
abbrev cmp_within : ℕ → List ℤ → List ℤ → Ordering
cmp_within zero = λ _ _. Equal
cmp_within (suc n) = then_cmp (on first_item int_cmp) (on other_items (cmp_within n))

-- the order of the first n items of two keys is total
cmp_within-total : (n : ℕ) → IsTotalOrder (cmp_within n)
cmp_within-total zero = record { antisymm = λ _ _. refl; trans = λ _ _ _ e _. e; congr = λ _ _ _ _. refl }
cmp_within-total (suc n) = then_total (on_total first_item int_cmp_total) (on_total other_items (cmp_within-total n))

-- the order of two keys of at most n items is that of their first n items
key_cmp-within : (n : ℕ) (xs ys : List ℤ) → length xs ≤ n → length ys ≤ n → key_cmp xs ys ≡ cmp_within n xs ys
key_cmp-within zero [] [] h k = refl
key_cmp-within zero [] (y ∷ ys) h k = absurd (omega arith)
key_cmp-within zero (x ∷ xs) ys h k = absurd (omega arith)
key_cmp-within (suc n) [] [] h k = key_cmp-within n [] [] (omega arith) (omega arith)
key_cmp-within (suc n) [] (y ∷ ys) h k =
    ap (ordering_then (int_cmp (pos 0) y)) (key_cmp-within n [] ys (omega arith) (omega arith))
key_cmp-within (suc n) (x ∷ xs) [] h k =
    ap (ordering_then (int_cmp x (pos 0))) (key_cmp-within n xs [] (omega arith) (omega arith))
key_cmp-within (suc n) (x ∷ xs) (y ∷ ys) h k =
    ap (ordering_then (int_cmp x y)) (key_cmp-within n xs ys (omega arith) (omega arith))

-- keys are in a total order
pub key_cmp_total : IsTotalOrder key_cmp
key_cmp_total = record {
  antisymm = λ x y.
      let n : ℕ = length x + length y in
      key_cmp-within n x y (omega arith) (omega arith)
      ∙ (cmp_within-total n).antisymm x y
      ∙ ap ordering_reverse (sym (key_cmp-within n y x (omega arith) (omega arith)));
  trans = λ x y z p q.
      let n : ℕ = length x + length y + length z in
      key_cmp-within n x z (omega arith) (omega arith)
      ∙ (cmp_within-total n).trans x y z (sym (key_cmp-within n x y (omega arith) (omega arith)) ∙ p) (sym (key_cmp-within n y z (omega arith) (omega arith)) ∙ q);
  congr = λ x y z p.
      let n : ℕ = length x + length y + length z in
      key_cmp-within n x z (omega arith) (omega arith)
      ∙ (cmp_within-total n).congr x y z (sym (key_cmp-within n x y (omega arith) (omega arith)) ∙ p)
      ∙ sym (key_cmp-within n y z (omega arith) (omega arith));
}

-- upstream versions are in a total order, and so are revisions (Policy 5.6.12)
pub part_cmp_total : IsTotalOrder part_cmp
unfolding part_cmp
part_cmp_total = on_total key_of key_cmp_total

-- versions are in a total order (Policy 5.6.12)
pub version_cmp_total : IsTotalOrder version_cmp
unfolding version_cmp parts_cmp
version_cmp_total =
    on_total parts_of (then_total (on_total (λ parts. parts.epoch) nat_cmp_total)
    (then_total (on_total (λ parts. parts.upstream) part_cmp_total) (on_total revision_or_zero part_cmp_total)))

-- what may follow the digits of a pair of runs: nothing, or, after at least one digit, a character that is no digit (Policy 5.6.12)
abbrev pub MayFollow : List ℕ → List ℕ → Type 0
MayFollow digits [] = Unit {0}
MayFollow digits (c ∷ rest) = (0 < length digits) × (is_ascii_digit c ≡ false)

-- the first non-digit run of a part, the digit run after it, and what follows these (Policy 5.6.12)
pub record IsFirstPair (run digits rest : List ℕ) : Type 0 where
  pub characters : list_all (λ c. not (is_ascii_digit c)) run ≡ true
  pub number : list_all is_ascii_digit digits ≡ true
  pub follows : MayFollow digits rest

-- the key of a part is that of its first non-digit run and the digit run after it, and then the key of the rest (Policy 5.6.12)
abbrev pub KeyIsByRuns : Type 0
KeyIsByRuns = (run digits rest : List ℕ)
    → IsFirstPair run digits rest → 0 < length run + length digits
    → key_of (run ++ (digits ++ rest)) ≡ map weight_of run ++ (pos 0 ∷ pos (value_of digits) ∷ key_of rest)

-- zeros before the digits of a number change nothing (Policy 5.6.12)
abbrev pub ZerosSayNothing : Type 0
ZerosSayNothing = (digits : List ℕ) → value_of (codes "0" ++ digits) ≡ value_of digits

-- a part with `~` and anything more after its end is earlier than the part (Policy 5.6.12)
abbrev pub TildeIsEarlier : Type 0
TildeIsEarlier = (part more : List ℕ) → part_cmp (part ++ (codes "~" ++ more)) part ≡ Less

-- runs of non-digits compare by the weights of their characters, where the end of a run weighs 0 (Policy 5.6.12)
abbrev pub run_cmp : List ℕ → List ℕ → Ordering
run_cmp = on (map weight_of) key_cmp

-- parts compare by their first non-digit runs, then by the numbers after these, then by what follows (Policy 5.6.12)
abbrev pub PartsCompareByRuns : Type 0
PartsCompareByRuns = (run digits rest other_run other_digits other_rest : List ℕ)
    → IsFirstPair run digits rest → IsFirstPair other_run other_digits other_rest
    → part_cmp (run ++ (digits ++ rest)) (other_run ++ (other_digits ++ other_rest))
    ≡ ordering_then (run_cmp run other_run) (ordering_then (nat_cmp (value_of digits) (value_of other_digits)) (part_cmp rest other_rest))

-- if two parts differ first by a letter and by a character that is no letter, no digit and not `~`, the one with the letter is earlier (Policy 5.6.12)
abbrev pub LettersAreEarlier : Type 0
LettersAreEarlier = (part more other_more : List ℕ) (letter other : ℕ)
    → is_ascii_alphabetic letter ≡ true → is_ascii_alphanumeric other ≡ false → other ≢ code "~"
    → part_cmp (part ++ (letter ∷ more)) (part ++ (other ∷ other_more)) ≡ Less

-- a zero before the digits of a number changes nothing in the order of parts (Policy 5.6.12)
abbrev pub ZerosKeepTheOrder : Type 0
ZerosKeepTheOrder = (run digits rest : List ℕ) → IsFirstPair run digits rest
    → part_cmp (run ++ (codes "0" ++ (digits ++ rest))) (run ++ (digits ++ rest)) ≡ Equal

-- each of these is earlier than the next
abbrev pub Ascend : (List ℕ → List ℕ → Ordering) → List (List ℕ) → Type 0
Ascend cmp [] = Unit {0}
Ascend cmp (one ∷ []) = Unit {0}
Ascend cmp (one ∷ (other ∷ more)) = (cmp one other ≡ Less) × Ascend cmp (other ∷ more)
