-- What holds of the bytes that a reader gave, whatever may be left after them.
use Rattle.std.proofs.Common.{◌≡◌, ◌∙◌, sym, ap, refl, ℕ, List, [], ◌++◌, append_assoc, Option, None, Some, subst}
use Rattle.std.specs.Io.KnownBytes.{Consumes}
use Rattle.deb_control.specs.Source.{Source, Gives, IfKnown, MayBeLeft}
use Rattle.deb_control.proofs.SourceLemmas.{takes-nil, takes-then}

-- at the end of the input nothing but the empty text may be left
pub none-left : (bytes : Option (List ℕ)) (rest : List ℕ) → bytes ≡ Some [] → MayBeLeft bytes rest → rest ≡ []
none-left bytes rest at_end may = subst (λ (b : Option (List ℕ)). MayBeLeft b rest) at_end may

-- what may be left after a piece may be left before it, with the piece in front
pub left-before : (a b : Option (List ℕ)) (piece rest : List ℕ) → Consumes a b piece → MayBeLeft b rest → MayBeLeft a (piece ++ rest)
left-before None b piece rest taken may = tt
left-before (Some text) None piece rest taken may = absurd taken
left-before (Some text) (Some left) piece rest taken may = ap (λ (v : List ℕ). piece ++ v) may ∙ sym taken

-- if the bytes are known, it holds of these
pub known-of : (old new : Source) (P : List ℕ → List ℕ → Type 0) → Gives old new P → IfKnown old.bytes new.bytes P
known-of old new P g = by old.bytes new.bytes g.taken.bytes g.value
  where
    by : (a b : Option (List ℕ)) → Consumes a b g.piece → ((rest : List ℕ) → MayBeLeft b rest → P (g.piece ++ rest) rest) → IfKnown a b P
    by None b taken value = tt
    by (Some text) None taken value = absurd taken
    by (Some text) (Some rest) taken value = subst (λ (v : List ℕ). P v rest) (sym taken) (value rest refl)

pub gives-map : (old new : Source) (P Q : List ℕ → List ℕ → Type 0) → Gives old new P → ((text rest : List ℕ) → P text rest → Q text rest) → Gives old new Q
gives-map old new P Q g is = record { piece = g.piece; taken = g.taken; value = λ rest may. is (g.piece ++ rest) rest (g.value rest may) }

-- what holds of two steps, one after the other
pub gives-then : (a b c : Source) (P Q R : List ℕ → List ℕ → Type 0) → Gives a b P → Gives b c Q → ((x y z : List ℕ) → P x y → Q y z → R x z) → Gives a c R
gives-then a b c P Q R p q is = record {
  piece = p.piece ++ q.piece;
  taken = takes-then a b c p.piece q.piece p.taken q.taken;
  value = λ rest may.
      subst (λ (v : List ℕ). R v rest) (sym (append_assoc p.piece q.piece rest))
      (is (p.piece ++ (q.piece ++ rest)) (q.piece ++ rest) rest (p.value (q.piece ++ rest) (left-before b.bytes c.bytes q.piece rest q.taken.bytes may)) (q.value rest may));
}

pub gives-same : (source : Source) (P : List ℕ → List ℕ → Type 0) → ((text : List ℕ) → P text text) → Gives source source P
gives-same source P is = record { piece = []; taken = takes-nil source; value = λ rest may. is rest }
