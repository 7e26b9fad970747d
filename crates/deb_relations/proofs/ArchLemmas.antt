-- A word that is a front and a back.
use Rattle.std.proofs.Common.{◌≡◌, ◌≢◌, ℕ, Bool, false, List, [], ◌∷◌, ◌++◌, sym, ap, ◌∙◌, Decides, bytes_eq}
use Rattle.std.proofs.lemmas.Bool.{false_from_ne_true}
use Rattle.std.proofs.lemmas.Bool.Decides.{same_from_decides}
use Rattle.std.proofs.lemmas.Slice.Eq.{bytes_eq-Decides}

append-same : (xs ys zs : List ℕ) → xs ++ ys ≡ xs ++ zs → ys ≡ zs
append-same [] ys zs h = h
append-same (x ∷ xs) ys zs h = append-same xs ys zs (cc)

pub joined-some : (word front back w f b rest : List ℕ) (r : Bool) → w ≡ word → f ≡ front → b ≡ back → w ≡ f ++ rest → Decides r (rest ≡ b) → r ≡ bytes_eq word (front ++ back)
joined-some word front back w f b rest r p q s parts d =
    let one : word ≡ front ++ rest = sym p ∙ parts ∙ ap (λ x. x ++ rest) q in
    same_from_decides {P = word ≡ front ++ back} r (bytes_eq word (front ++ back))
    (λ e. one ∙ ap (λ x. front ++ x) (d.0 e ∙ s), λ e. d.1 (append-same front rest back (sym one ∙ e) ∙ sym s))
    (bytes_eq-Decides word (front ++ back))

pub joined-none : (word front back w f : List ℕ) → w ≡ word → f ≡ front → ((rest : List ℕ) → w ≢ f ++ rest) → false ≡ bytes_eq word (front ++ back)
joined-none word front back w f p q h =
    sym (false_from_ne_true (bytes_eq word (front ++ back)) (λ e.
    h back (p ∙ (bytes_eq-Decides word (front ++ back)).0 e ∙ ap (λ x. x ++ back) (sym q))))
