-- The order of versions: the key of a part, and how two texts compare (Debian Policy 5.6.12).
use Rattle.std.specs.Prelude.{ℕ, ◌+◌, ℤ, pos, negsuc, List, [], ◌∷◌, if◌then◌else◌, ◌==◌, codes}
use Prim.Native.Char.{code}
use Rattle.std.specs.Char.{is_ascii_alphabetic, is_ascii_digit}
use Rattle.std.specs.Option.{unwrap_or}
use Rattle.std.specs.declared.cmp.Ordering.{Ordering}
use Rattle.std.specs.declared.cmp.Ordering.TheVariants.{Equal}
use Rattle.std.specs.Ordering.{ordering_then, int_cmp, nat_cmp, on, then_cmp}
use Rattle.deb_version.specs.Syntax.{Parts, parts_of, with_digit}

-- the weight of a character of a non-digit run: `~` is before the end of the run, which is 0, and letters are before the others (Policy 5.6.12)
unfoldable pub weight_of : ℕ → ℤ
weight_of c = if c == code "~" then negsuc 0 else (if is_ascii_alphabetic c then pos c else pos (c + 256))

-- the key of what is left of a part, inside a non-digit run and inside a digit run (Policy 5.6.12)
abbrev mutual
  -- the key of what is left of a part inside a non-digit run: the weights of the run, then 0, then the digit run after it (Policy 5.6.12)
  pub key_in_run : List ℕ → List ℤ
  key_in_run [] = pos 0 ∷ pos 0 ∷ []
  key_in_run (c ∷ cs) = if is_ascii_digit c then pos 0 ∷ key_in_digits (with_digit 0 c) cs else weight_of c ∷ key_in_run cs

  -- the key of what is left of a part inside a digit run whose digits so far write n (Policy 5.6.12)
  pub key_in_digits : ℕ → List ℕ → List ℤ
  key_in_digits n [] = pos n ∷ []
  key_in_digits n (c ∷ cs) = if is_ascii_digit c then key_in_digits (with_digit n c) cs else pos n ∷ weight_of c ∷ key_in_run cs

-- the key of a part: for each pair of a non-digit run and the digit run after it, the weights, then 0, then the number (Policy 5.6.12)
abbrev pub key_of : List ℕ → List ℤ
key_of [] = []
key_of (c ∷ cs) = key_in_run (c ∷ cs)

-- keys compare item by item, with 0 for each missing item
abbrev pub key_cmp : List ℤ → List ℤ → Ordering
key_cmp [] [] = Equal
key_cmp [] (y ∷ ys) = ordering_then (int_cmp (pos 0) y) (key_cmp [] ys)
key_cmp (x ∷ xs) [] = ordering_then (int_cmp x (pos 0)) (key_cmp xs [])
key_cmp (x ∷ xs) (y ∷ ys) = ordering_then (int_cmp x y) (key_cmp xs ys)

-- two upstream versions, or two revisions, compare by their keys (Policy 5.6.12)
unfoldable pub part_cmp : List ℕ → List ℕ → Ordering
part_cmp = on key_of key_cmp

-- the revision, which is `0` if none is written (Policy 5.6.12)
unfoldable pub revision_or_zero : Parts → List ℕ
revision_or_zero parts = unwrap_or parts.revision (codes "0")

-- by epoch, then by upstream version, then by revision (Policy 5.6.12)
unfoldable pub parts_cmp : Parts → Parts → Ordering
parts_cmp =
    then_cmp (on (λ parts. parts.epoch) nat_cmp) (then_cmp (on (λ parts. parts.upstream) part_cmp) (on revision_or_zero part_cmp))

-- the order of the texts of two versions, by their parts (Policy 5.6.12)
unfoldable pub version_cmp : List ℕ → List ℕ → Ordering
version_cmp = on parts_of parts_cmp

-- the first item of the key of what is left of a part: the weight of a non-digit, and 0 at a digit and at the end (Policy 5.6.12)
unfoldable pub first_weight : List ℕ → ℤ
first_weight [] = pos 0
first_weight (c ∷ cs) = if is_ascii_digit c then pos 0 else weight_of c
