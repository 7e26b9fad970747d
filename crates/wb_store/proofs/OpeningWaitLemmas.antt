-- Which waits an opening takes: those that are read, reduced and printed again as they are.
use Rattle.std.proofs.Common.{◌≡◌, ◌≢◌, ℕ, ◌≤◌, List, [], length, Bool, true, false, bytes_eq, Ok, inl, inr, sym, ap, subst, ◌∙◌, arith}
use Rattle.std.proofs.lemmas.Slice.Eq.{bytes_eq-Decides}
use Rattle.deb_relations.specs.declared.arch.ArchWords.{ArchWords}
use Rattle.deb_relations.specs.declared.relations.Alternative.{Alternative}
use Rattle.deb_relations.specs.Grammar.{Reads, is_not_blank}
use Rattle.deb_relations.specs.Printing.{printed}
use Rattle.deb_relations.specs.Reading.{reading_of}
use Rattle.deb_relations.specs.Reduction.{reduced}
use Rattle.deb_relations.proofs.ReadingLemmas.{reads-reading}
use Rattle.deb_relations.proofs.ReadBackLemmas.{reads-good, reduced-good, printed-reads}
use Rattle.deb_relations.proofs.ReducedLemmas.{reduced-again}
use Rattle.wb_states.specs.Limits.{relations_limit}
use Rattle.wb_states.specs.Machine.{AreWaits}

nothing_read : Reads [] []
unfolding Reads is_not_blank
nothing_read = (omega arith, tt)

-- the text is read as relations that are printed as it is when they are reduced
abbrev StaysReduced : ArchWords → List ℕ → Type 0
StaysReduced arch waits = (relations : List (List Alternative)) × (reading_of waits ≡ Ok relations) × (printed (reduced arch relations) ≡ waits)

no_waits : (arch : ArchWords) (waits : List ℕ) → waits ≡ [] → StaysReduced arch waits
unfolding reduced printed
no_waits arch waits none = ([], ap reading_of none ∙ reads-reading [] [] nothing_read, sym none)

stays : (arch : ArchWords) (waits : List ℕ) → length waits ≤ relations_limit → AreWaits arch waits → StaysReduced arch waits
stays arch waits within (inl none) = no_waits arch waits none
stays arch waits within (inr (text, (relations, (reads, is)))) =
    let short : length (printed (reduced arch relations)) ≤ 65536 = omega (arith, within, ap length is) in
    let back : Reads (printed (reduced arch relations)) (reduced arch relations) =
    printed-reads (reduced arch relations) (reduced-good arch relations (reads-good text relations reads)) short in
    (reduced arch relations, reads-reading waits (reduced arch relations) (subst (λ t. Reads t (reduced arch relations)) (sym is) back), ap printed (reduced-again arch arch relations) ∙ sym is)

-- whether one thing is so exactly if another is, for a Boolean
abbrev pub Tells : Bool → Type 0 → Type 0
Tells b P = (b ≡ true → P) × (P → b ≡ true)

module _ (arch : ArchWords) (waits : List ℕ) (within : length waits ≤ relations_limit) where
  -- a text without a reading is none
  pub not_waits : ((relations : List (List Alternative)) → reading_of waits ≢ Ok relations) → Tells false (AreWaits arch waits)
  not_waits unread = (λ wrong. cc, λ are. let kept = stays arch waits within are in absurd (unread kept.0 kept.1))

  -- a text is, exactly if its reading is printed as it when it is reduced
  pub are_waits : (is : Bool) (text : List ℕ) (relations : List (List Alternative)) → is ≡ bytes_eq text waits → text ≡ printed (reduced arch relations) → Reads waits relations → Tells is (AreWaits arch waits)
  are_waits is text relations test made reads =
      let same = bytes_eq-Decides text waits in (
        λ yes. inr (waits, (relations, (reads, sym (same.0 (sym test ∙ yes)) ∙ made))),
        λ are.
            let kept = stays arch waits within are in
            let both : Ok kept.0 ≡ Ok relations = sym kept.1 ∙ reads-reading waits relations reads in
            let one : kept.0 ≡ relations = cc in
            test ∙ same.1 (made ∙ ap (λ l. printed (reduced arch l)) (sym one) ∙ kept.2),
      )
