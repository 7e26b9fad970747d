-- Lemmas on what a reader has left and what a writer holds.
use Rattle.wb_streams.specs.Streams.{AppendsFront}
use Rattle.std.proofs.Math.Seq.{take-append-add}
use Rattle.std.specs.List.{concat}
use Rattle.std.proofs.lemmas.List.{length-take-le, take-append-le, take_all}
use Rattle.std.proofs.Common.{Bor, ◌-◌, get_or, map, length, length-append, arith, take, drop, take-add, subst, append-nil, ◌≤◌, Option, None, Some, ◌≡◌, ℕ, ◌+◌, List, [], ◌∷◌, ◌++◌, sym, ap, ◌∙◌, append_assoc, refl}
use Rattle.std.specs.Io.KnownBytes.{Consumes, Appends, Keeps}

pub Consumes-nil : (a : Option (List ℕ)) → Consumes a a []
Consumes-nil None = tt
Consumes-nil (Some x) = refl

pub Consumes-then : (a b c : Option (List ℕ)) (xs ys : List ℕ) → Consumes a b xs → Consumes b c ys → Consumes a c (xs ++ ys)
Consumes-then None b c xs ys p q = tt
Consumes-then (Some x) None c xs ys p q = absurd p
Consumes-then (Some x) (Some y) None xs ys p q = absurd q
Consumes-then (Some x) (Some y) (Some z) xs ys p q = p ∙ ap (λ l. xs ++ l) q ∙ sym (append_assoc xs ys z)

-- a read that failed changes nothing
pub Consumes-kept : (a b c : Option (List ℕ)) (xs : List ℕ) → Consumes a b xs → Keeps b c → Consumes a c xs
Consumes-kept None b c xs p q = tt
Consumes-kept (Some x) None c xs p q = absurd p
Consumes-kept (Some x) (Some y) None xs p q = absurd q
Consumes-kept (Some x) (Some y) (Some z) xs p q = p ∙ ap (λ l. xs ++ l) (sym q)

-- a room that was filled up to a place, and from there on by more
pub Consumes-on : (a b c : Option (List ℕ)) (before after : List ℕ) (at more : ℕ)
    → take at after ≡ take at before → Consumes a b (take at before) → Consumes b c (take more (drop at after)) → Consumes a c (take (at + more) after)
Consumes-on a b c before after at more same p q =
    subst (Consumes a c) (sym (take-add at more after))
    (Consumes-then a b c (take at after) (take more (drop at after)) (subst (Consumes a b) (sym same) p) q)

-- a read that took nothing changes nothing
pub Consumes-none : (a b c : Option (List ℕ)) (xs ys : List ℕ) (n : ℕ) → n ≡ 0 → Consumes a b xs → Consumes b c (take n ys) → Consumes a c xs
Consumes-none a b c xs ys n none p q =
    subst (Consumes a c) (append-nil xs) (Consumes-then a b c xs [] p (subst (λ k. Consumes b c (take k ys)) none q))

-- a room whose front is a text and what was read after it, and that was filled further
pub room-grown : (before after front taken : List ℕ) (at more : ℕ)
    → take at after ≡ take at before → take at before ≡ front ++ taken → take (at + more) after ≡ front ++ (taken ++ take more (drop at after))
room-grown before after front taken at more same is =
    take-add at more after ∙ ap (λ l. l ++ take more (drop at after)) (same ∙ is) ∙ append_assoc front taken (take more (drop at after))

-- what was read after a front is no more than the room takes after it
pub taken-fits : (room front taken : List ℕ) (filled size : ℕ) → filled ≤ length room → length room ≡ size
    → take filled room ≡ front ++ taken → length taken ≤ size - length front
taken-fits room front taken filled size within same is =
    let sum : length (take filled room) ≡ length front + length taken = ap length is ∙ length-append front taken in
    let part : length (take filled room) ≡ filled = length-take-le filled room within in
    omega arith

-- ---- what a writer holds

pub Appends-nil : (a : Option (List ℕ)) → Appends a a []
Appends-nil None = tt
Appends-nil (Some x) = sym (append-nil x)

pub Appends-then : (a b c : Option (List ℕ)) (xs ys : List ℕ) → Appends a b xs → Appends b c ys → Appends a c (xs ++ ys)
Appends-then None b c xs ys p q = tt
Appends-then (Some x) None c xs ys p q = absurd p
Appends-then (Some x) (Some y) None xs ys p q = absurd q
Appends-then (Some x) (Some y) (Some z) xs ys p q = q ∙ ap (λ l. l ++ ys) p ∙ append_assoc x xs ys

-- more of a text that was written up to a place
pub Appends-take : (a b c : Option (List ℕ)) (bs : List ℕ) (m n : ℕ) → Appends a b (take m bs) → Appends b c (take n (drop m bs)) → Appends a c (take (m + n) bs)
Appends-take a b c bs m n p q = subst (Appends a c) (sym (take-add m n bs)) (Appends-then a b c (take m bs) (take n (drop m bs)) p q)

-- a text, a part of the next, and not what follows that
pub AppendsFront-then : (a b c : Option (List ℕ)) (before text rest all : List ℕ) → Appends a b before → AppendsFront b c text
    → all ≡ before ++ (text ++ rest) → AppendsFront a c all
AppendsFront-then a b c before text rest all p (count, less, q) is =
    let size : length all ≡ length before + (length text + length rest) = ap length is ∙ length-append before (text ++ rest) ∙ ap (λ n. length before + n) (length-append text rest) in
    let front : take (length before + count) all ≡ before ++ take count text =
    ap (take (length before + count)) is ∙ take-append-add before (text ++ rest) count ∙ ap (λ l. before ++ l) (take-append-le count text rest (omega arith)) in
    (length before + count, omega arith, subst (Appends a c) (sym front) (Appends-then a b c before (take count text) p q))

-- texts of which there is one are the first and the others
pub texts_step : (texts : List (Bor (List ℕ))) (d : Bor (List ℕ)) → 1 ≤ length texts
    → concat (map (λ t. t.now) texts) ≡ (get_or texts 0 d).now ++ concat (map (λ t. t.now) (take (length texts - 1) (drop 1 texts)))
texts_step [] d some = absurd (omega arith)
texts_step (x ∷ xs) d some = ap (λ l. x.now ++ concat (map (λ (t : Bor (List ℕ)). t.now) l)) (sym (take_all (length (x ∷ xs) - 1) xs (omega arith)))
