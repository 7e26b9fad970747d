-- Two files of one length that hold the same bytes.
use Rattle.std.proofs.Common.{◌≡◌, ℕ, ◌<◌, ◌∷◌, [], suc, List, length, slice_index, refl, ap, ap₂, arith, subst, sym}
use Rattle.std.proofs.Common.{◌+◌, ◌++◌, ◌∙◌, take, drop}
use lib.Seq.{take-append_seam}
use Rattle.sqlite_disk.specs.Disk.{Holds, Torn}

-- lists of one length with the same element at each place are the same
same-list : (xs ys : List ℕ) → length xs ≡ length ys
    → ((i : ℕ) → i < length ys → slice_index xs i ≡ slice_index ys i) → xs ≡ ys
same-list [] [] e h = refl
same-list [] (y ∷ ys) e h = absurd (omega arith)
same-list (x ∷ xs) [] e h = absurd (omega arith)
same-list (x ∷ xs) (y ∷ ys) e h =
    ap₂ (λ (z : ℕ) (zs : List ℕ). z ∷ zs) (h 0 (omega arith)) (same-list xs ys (omega arith) (λ i below. h (suc i) (omega arith)))

-- a file that holds these bytes, and is no longer, is these bytes
pub holds-whole : (file bytes : List ℕ) → length file ≡ length bytes → Holds file 0 bytes → file ≡ bytes
holds-whole file bytes e h = same-list file bytes e (λ i below.
    let at : 0 + i ≡ i = omega arith in subst (λ (k : ℕ). slice_index file k ≡ slice_index bytes i) at (h.each i below))

-- a file that was empty, and of which these bytes were written, is these bytes
pub written-whole : (old file bytes : List ℕ) → old ≡ [] → Torn 0 (length bytes) old file → Holds file 0 bytes
    → file ≡ bytes
written-whole old file bytes empty torn h =
    holds-whole file bytes (omega (arith, torn.no_longer, h.within, ap length empty)) h

-- what was written into the front of a list that was as long is the whole of it
pub written-back : (bytes items : List ℕ) (count : ℕ) → length bytes ≡ count
    → take count (bytes ++ drop (length bytes) items) ≡ bytes
written-back bytes items count e =
    ap (λ (n : ℕ). take n (bytes ++ drop (length bytes) items)) (sym e)
    ∙ take-append_seam bytes (drop (length bytes) items)
