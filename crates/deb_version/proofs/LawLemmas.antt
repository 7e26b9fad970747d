-- Lemmas behind the laws of the definitions.
use Rattle.std.proofs.Common.{◌≡◌, ℕ, ◌+◌, ◌-◌, ◌<◌, Bool, true, false, not, cond, List, [], ◌∷◌, ◌++◌, map, length, get_or, take, drop, refl, sym, ap, ◌∙◌, arith, append-nil, append_assoc, take-append-drop}
use Rattle.std.specs.Prelude.{ℤ, pos}
use Rattle.std.specs.Char.{is_ascii_digit}
use Rattle.std.specs.List.{list_any, list_all, position_or_len}
use Rattle.std.specs.declared.cmp.Ordering.{Ordering}
use Rattle.std.specs.declared.cmp.Ordering.TheVariants.{Less}
use Rattle.std.specs.Ordering.{ordering_then, int_cmp}
use Rattle.std.specs.Cmp.{tied_itself, int_cmp_total}
use Rattle.std.proofs.lemmas.List.{drop_more}
use Rattle.std.proofs.lemmas.List.Sums.{split_at_first, passes_at_first}
use Rattle.std.proofs.lemmas.Bool.{and_parts, not-true}
use borrow.Author.Tests.{ltb-true, eqb-true}
use Rattle.deb_version.specs.Syntax.{is_colon, is_hyphen, has_epoch, epoch_text, rest_of, has_revision, upstream_text, revision_text, with_digit, value_after, value_of, TextIsItsParts}
use Rattle.deb_version.specs.Order.{weight_of, key_in_run, key_in_digits, key_of, key_cmp, part_cmp}
use Rattle.deb_version.specs.OrderLaws.{MayFollow, KeyIsByRuns, TildeIsEarlier}
use Rattle.deb_version.proofs.CutLemmas.{hyphens, last-passes, list_any-first, list_any-last, has_revision-is, no_revision, revision_at}

pub then-same : (x : ℤ) (o : Ordering) → ordering_then (int_cmp x x) o ≡ o
then-same x o = ap (λ p. ordering_then p o) (tied_itself int_cmp_total x)

-- `~` after what is left of a part makes its key smaller, in a run and in digits
abbrev IsSmaller : List ℕ → List ℕ → Type 0
IsSmaller more cs =
    (key_cmp (key_in_run (cs ++ 126 ∷ more)) (key_in_run cs) ≡ Less)
    × ((n : ℕ) → key_cmp (key_in_digits n (cs ++ 126 ∷ more)) (key_in_digits n cs) ≡ Less)

smaller-by : (b : Bool) (c : ℕ) (more cs : List ℕ) → is_ascii_digit c ≡ b → IsSmaller more cs → IsSmaller more (c ∷ cs)
smaller-by true c more cs e h = (rw e (h.1 (with_digit 0 c)), λ n. rw e (h.1 (with_digit n c)))
smaller-by false c more cs e h =
    let run : ordering_then (int_cmp (weight_of c) (weight_of c)) (key_cmp (key_in_run (cs ++ 126 ∷ more)) (key_in_run cs)) ≡ Less = then-same (weight_of c) _ ∙ h.0 in
    (rw e run, λ n. rw e (then-same (pos n) _ ∙ run))

smaller : (more cs : List ℕ) → IsSmaller more cs
unfolding weight_of
smaller more [] = (refl, λ n. then-same (pos n) Less)
smaller more (c ∷ cs) = smaller-by (is_ascii_digit c) c more cs refl (smaller more cs)

pub tilde_earlier : TildeIsEarlier
unfolding part_cmp weight_of
tilde_earlier [] more = refl
tilde_earlier (c ∷ cs) more = (smaller more (c ∷ cs)).0

-- nothing, or a character that is no digit
abbrev IsAfterDigits : List ℕ → Type 0
IsAfterDigits [] = Unit {0}
IsAfterDigits (c ∷ cs) = is_ascii_digit c ≡ false

digits-then : (n : ℕ) (digits rest : List ℕ) → list_all is_ascii_digit digits ≡ true → IsAfterDigits rest → key_in_digits n (digits ++ rest) ≡ pos (value_after n digits) ∷ key_of rest
digits-then n [] [] d m = refl
digits-then n [] (c ∷ cs) d m = rw m refl
digits-then n (x ∷ xs) rest d m =
    let two = and_parts (is_ascii_digit x) (list_all is_ascii_digit xs) d in
    let first : is_ascii_digit x ≡ true = two.0 in
    rw first (digits-then (with_digit n x) xs rest two.1 m)

after-digits : (digits rest : List ℕ) → MayFollow digits rest → IsAfterDigits rest
after-digits digits [] m = tt
after-digits digits (c ∷ cs) m = m.1

pub run-then : (run digits rest : List ℕ) → list_all (λ c. not (is_ascii_digit c)) run ≡ true → list_all is_ascii_digit digits ≡ true → MayFollow digits rest
    → key_in_run (run ++ (digits ++ rest)) ≡ map weight_of run ++ (pos 0 ∷ pos (value_of digits) ∷ key_of rest)
unfolding value_of
run-then [] [] [] r d m = refl
run-then [] [] (c ∷ cs) r d m = absurd (omega (arith, m.0))
run-then [] (x ∷ xs) rest r d m =
    let two = and_parts (is_ascii_digit x) (list_all is_ascii_digit xs) d in
    let first : is_ascii_digit x ≡ true = two.0 in
    rw first (ap (λ k. pos 0 ∷ k) (digits-then (with_digit 0 x) xs rest two.1 (after-digits (x ∷ xs) rest m)))
run-then (c ∷ cs) digits rest r d m =
    let two = and_parts (not (is_ascii_digit c)) (list_all (λ x. not (is_ascii_digit x)) cs) r in
    let other : is_ascii_digit c ≡ false = not-true (is_ascii_digit c) two.0 in
    rw other (ap (λ k. weight_of c ∷ k) (run-then cs digits rest two.1 d m))

pub key_of-runs : KeyIsByRuns
key_of-runs [] [] rest pair h = absurd (omega arith)
key_of-runs [] (x ∷ xs) rest pair h = run-then [] (x ∷ xs) rest pair.characters pair.number pair.follows
key_of-runs (c ∷ cs) digits rest pair h = run-then (c ∷ cs) digits rest pair.characters pair.number pair.follows

-- the text of an epoch with its colon, and then the rest
epoch-by : (t : List ℕ) (b : Bool) → list_any is_colon t ≡ b → t ≡ cond (has_epoch t) (epoch_text t ++ 58 ∷ []) [] ++ rest_of t
unfolding has_epoch epoch_text rest_of
epoch-by t false e = rw e refl
epoch-by t true e =
    let i : ℕ = position_or_len is_colon t in
    let inside : i < length t = ltb-true i (length t) (sym (list_any-first is_colon t) ∙ e) in
    let mark : get_or t i 0 ≡ 58 = eqb-true _ _ (passes_at_first is_colon t 0 inside) in
    let whole = split_at_first is_colon t 0 inside ∙ ap (λ x. take i t ++ (x ∷ drop (i + 1) t)) mark ∙ sym (append_assoc (take i t) (58 ∷ []) (drop (i + 1) t)) in
    whole ∙ rw e refl

upstream-by : (t : List ℕ) (b : Bool) → has_revision t ≡ b → rest_of t ≡ upstream_text t ++ cond (has_revision t) (45 ∷ revision_text t) []
upstream-by t false e = rw (e, append-nil) (sym (no_revision t e).part)
upstream-by t true e =
    let r : List ℕ = rest_of t in
    let i : ℕ = length r - hyphens r - 1 in
    let here : list_any is_hyphen r ≡ true = sym (has_revision-is t) ∙ e in
    let short : hyphens r < length r = ltb-true (hyphens r) (length r) (sym (list_any-last is_hyphen r) ∙ here) in
    let place : i + hyphens r + 1 ≡ length r = omega arith in
    let at = revision_at t i e place in
    let mark : get_or r i 0 ≡ 45 = eqb-true _ _ (last-passes is_hyphen r i place) in
    let whole = sym (take-append-drop i r) ∙ ap (λ xs. take i r ++ xs) (drop_more r i 0 (omega arith) ∙ ap (λ x. x ∷ drop (i + 1) r) mark) in
    whole ∙ rw (e, at.part, at.revision) refl

pub text_parts : TextIsItsParts
text_parts t =
    epoch-by t (list_any is_colon t) refl
    ∙ ap (λ xs. cond (has_epoch t) (epoch_text t ++ 58 ∷ []) [] ++ xs) (upstream-by t (has_revision t) refl)
