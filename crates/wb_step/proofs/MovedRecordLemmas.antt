-- A record that is moved keeps its form, and has a holder, a take number and waits that it may have.
use Rattle.std.proofs.Common.{◌≡◌, ℕ, ◌+◌, ◌≤◌, List, None, IsTrue, IfSome, inl, inr, refl, sym, ap, subst}
use Rattle.std.specs.FinSet as set
use Rattle.deb_text.specs.Options.{ok_unless}
use Rattle.deb_relations.specs.Grammar.{Reads}
use Rattle.deb_relations.specs.Printing.{printed}
use Rattle.deb_relations.specs.Reduction.{reduced}
use Rattle.wb_states.specs.declared.moves.Move.{Move}
use Rattle.wb_states.specs.declared.moves.Move.TheVariants as to
use Rattle.wb_states.specs.declared.record.Record.{Record}
use Rattle.wb_states.specs.Limits.{rebuild_limit, note_limit}
use Rattle.wb_states.specs.Machine.{Machine, arch_words, AreWaits}
use Rattle.wb_states.specs.Moves.{record_after_move, move_outcome, move_refusal}
use Rattle.wb_states.specs.Names.{is_builder_name}
use Rattle.wb_states.specs.Record.{IsWellFormed}
use Rattle.deb_text.specs.Text.{IsTextWithin}
use Rattle.wb_states.specs.MoveTable.{HasForm}
use Rattle.wb_states.proofs.MoveFormLemmas.{move_outcome-well}

-- what a move brings has its form: a builder that may build for the architecture, the next take number, which is the
-- last one given afterwards, relations that were read, or a text
abbrev pub IsGoodMove : Machine → ℕ → List ℕ → Move → Type 0
IsGoodMove machine handed arch (to.Take holder take_number) =
    IsTrue (is_builder_name holder)
    × (IsTrue (set.contains machine.builders (holder, arch)) × ((take_number ≡ machine.handed + 1) × (handed ≡ machine.handed + 1)))
IsGoodMove machine handed arch (to.Waits relations words) = (words ≡ arch_words machine arch) × ((text : List ℕ) × Reads text relations)
IsGoodMove machine handed arch (to.DepWait relations words) = (words ≡ arch_words machine arch) × ((text : List ℕ) × Reads text relations)
IsGoodMove machine handed arch (to.Attempted reason) = IsTextWithin note_limit reason
IsGoodMove machine handed arch (to.Fail note) = IsTextWithin note_limit note
IsGoodMove machine handed arch (to.NotForUs note) = IsTextWithin note_limit note
IsGoodMove machine handed arch (to.Rebuild number message) = (number ≤ rebuild_limit) × IsTextWithin note_limit message
IsGoodMove machine handed arch _ = Unit {0}

-- what such a move brings has its form
good-form : (machine : Machine) (handed : ℕ) (arch : List ℕ) (move : Move) → IsGoodMove machine handed arch move → HasForm move
good-form machine handed arch (to.Take holder take_number) good = good.0
good-form machine handed arch to.Built good = tt
good-form machine handed arch to.Uploaded good = tt
good-form machine handed arch (to.Waits relations words) good = good.1
good-form machine handed arch (to.DepWait relations words) good = good.1
good-form machine handed arch to.PutBack good = tt
good-form machine handed arch to.GiveBack good = tt
good-form machine handed arch (to.Attempted reason) good = good
good-form machine handed arch (to.Fail note) good = good
good-form machine handed arch (to.NotForUs note) good = good
good-form machine handed arch (to.Rebuild number message) good = good

-- a record that is moved by a good move keeps its form
pub record_after_move-well : (machine : Machine) (handed : ℕ) (arch : List ℕ) (current : Record) → IsWellFormed current → (move : Move) → IsGoodMove machine handed arch move
    → move_refusal move current ≡ None → IsWellFormed (record_after_move move current)
unfolding move_outcome
record_after_move-well machine handed arch current old move good allowed =
    move_outcome-well move current (record_after_move move current) old (good-form machine handed arch move good) (ap (λ refusal. ok_unless refusal (record_after_move move current)) allowed)

-- what the moved record has is what it had, or what the move brought
module _ (machine : Machine) (handed : ℕ) (arch : List ℕ) (current : Record) where
  pub record_after_move-holder : (move : Move) → IsGoodMove machine handed arch move → IfSome current.holder (λ builder. IsTrue (set.contains machine.builders (builder, arch)))
      → IfSome (record_after_move move current).holder (λ builder. IsTrue (set.contains machine.builders (builder, arch)))
  unfolding record_after_move
  record_after_move-holder (to.Take holder take_number) good old = good.1.0
  record_after_move-holder to.Built good old = old
  record_after_move-holder to.Uploaded good old = old
  record_after_move-holder (to.Waits relations words) good old = tt
  record_after_move-holder (to.DepWait relations words) good old = tt
  record_after_move-holder to.PutBack good old = tt
  record_after_move-holder (to.Attempted reason) good old = tt
  record_after_move-holder to.GiveBack good old = tt
  record_after_move-holder (to.Fail note) good old = tt
  record_after_move-holder (to.NotForUs note) good old = tt
  record_after_move-holder (to.Rebuild number message) good old = tt

  pub record_after_move-waits : (move : Move) → IsGoodMove machine handed arch move → AreWaits (arch_words machine arch) (record_after_move move current).waits
  unfolding record_after_move
  record_after_move-waits (to.Waits relations words) good = subst (λ w. AreWaits w (printed (reduced words relations))) good.0 (inr (good.1.0, (relations, (good.1.1, refl))))
  record_after_move-waits (to.DepWait relations words) good = subst (λ w. AreWaits w (printed (reduced words relations))) good.0 (inr (good.1.0, (relations, (good.1.1, refl))))
  record_after_move-waits _ good = inl refl

  -- what holds of the new take number and of the one that it had holds of the one that it has
  pub record_after_move-number : (P : ℕ → Type 0) (move : Move) → IsGoodMove machine handed arch move → (handed ≡ machine.handed + 1 → P (machine.handed + 1)) → IfSome current.take P → IfSome (record_after_move move current).take P
  unfolding record_after_move
  record_after_move-number P (to.Take holder take_number) good new old = subst P (sym good.1.1.0) (new good.1.1.1)
  record_after_move-number P to.Built good new old = old
  record_after_move-number P to.Uploaded good new old = old
  record_after_move-number P (to.Waits relations words) good new old = tt
  record_after_move-number P (to.DepWait relations words) good new old = tt
  record_after_move-number P to.PutBack good new old = tt
  record_after_move-number P (to.Attempted reason) good new old = tt
  record_after_move-number P to.GiveBack good new old = tt
  record_after_move-number P (to.Fail note) good new old = tt
  record_after_move-number P (to.NotForUs note) good new old = tt
  record_after_move-number P (to.Rebuild number message) good new old = tt
