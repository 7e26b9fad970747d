-- A move that brings what has its form keeps the form of a record.
use Rattle.std.proofs.Common.{◌≡◌, ℕ, ◌≤◌, Bool, true, false, cond, not, nat_lt, length, List, [], Option, Some, None, Ok, IsTrue, IfSome, is_some, refl, sym, ap, subst, ◌∙◌, arith}
use Rattle.std.proofs.lemmas.Bool.Decides.{nat_tests}
use Rattle.deb_relations.specs.declared.arch.ArchWords.{ArchWords}
use Rattle.deb_relations.specs.declared.fault.RelationFault.TheVariants.{TooLong}
use Rattle.deb_relations.specs.declared.relations.Alternative.{Alternative}
use Rattle.deb_relations.specs.Grammar.{Reads}
use Rattle.deb_relations.proofs.PrintedLemmas.{reduced-utf8}
use Rattle.wb_states.specs.declared.moves.Move.{Move}
use Rattle.wb_states.specs.declared.moves.Move.TheVariants as to
use Rattle.wb_states.specs.declared.record.Record.{Record}
use Rattle.wb_states.specs.declared.refusal.Refusal.{Refusal}
use Rattle.wb_states.specs.declared.refusal.Refusal.TheVariants.{BadRelations}
use Rattle.wb_states.specs.declared.state.State.{State}
use Rattle.wb_states.specs.declared.state.State.TheVariants.{NeedsBuild, Building, Built, Uploaded, DepWait, Failed, NotForUs, BuildAttempted}
use Rattle.wb_states.specs.Limits.{note_limit, relations_limit}
use Rattle.wb_states.specs.Moves.{may_go, move_outcome, value_refusal, waits_for, waits_refusal}
use Rattle.wb_states.specs.Names.{is_builder_name}
use Rattle.wb_states.specs.Record.{IsWellFormed}
use Rattle.deb_text.specs.Text.{IsTextWithin, is_empty_text}
use Rattle.wb_states.specs.State.{is_held, is_dep_wait}
use Rattle.wb_states.specs.MoveTable.{row_of, HasForm}
use Rattle.wb_states.proofs.InStateLemmas.{empty_within}
use Rattle.wb_states.proofs.MoveRowLemmas.{move_outcome-done, move_outcome-row, move_outcome-value, take-from, built-from, uploaded-from, put_back-from, attempted-ready, rebuild-from, rebuild-free}

-- ---- waits that are not refused

waits-there : (waits : List ℕ) → waits_refusal waits ≡ None → (is_empty_text waits ≡ false) × (length waits ≤ relations_limit)
waits-there waits is =
    (elim (is_empty_text waits) as (λ empty. is_empty_text waits ≡ empty
    → cond empty (Some (BadRelations None)) (cond (nat_lt relations_limit (length waits)) (Some (BadRelations (Some TooLong))) None) ≡ None
    → (is_empty_text waits ≡ false) × (length waits ≤ relations_limit)) [
      | true ↦ λ _ h. absurd (some (BadRelations None) h)
      | false ↦ λ there h. (there, short (nat_lt relations_limit (length waits)) refl h)
    ]) refl is
  where
    some : (refusal : Refusal) → Some refusal ≡ None → ⊥
    some refusal e = cc

    short : (long : Bool) → nat_lt relations_limit (length waits) ≡ long → cond long (Some (BadRelations (Some TooLong))) None ≡ None → length waits ≤ relations_limit
    short true e h = absurd (some (BadRelations (Some TooLong)) h)
    short false e h = grind (arith, nat_tests)

-- ---- what a record has in its state

-- a holder, a take number, waits and a note that a record may have in a state
record Fits (state : State) (holder : Option (List ℕ)) (take : Option ℕ) (waits note : List ℕ) : Type 0 where
  held : is_some holder ≡ is_held state
  taken : is_some take ≡ is_held state
  builder : IfSome holder (λ builder. IsTrue (is_builder_name builder))
  waiting : not (is_empty_text waits) ≡ is_dep_wait state
  short_waits : IsTextWithin relations_limit waits
  short_note : IsTextWithin note_limit note

well-with : (old : Record) → IsWellFormed old → (state : State) (holder : Option (List ℕ)) (take : Option ℕ) (waits note : List ℕ)
    → Fits state holder take waits note → IsWellFormed (record old { state = state; holder = holder; take = take; waits = waits; note = note })
well-with old well state holder take waits note fits = record {
  version = well.version;
  priority = well.priority;
  section = well.section;
  number = well.number;
  state = record { held = fits.held; taken = fits.taken; waiting = fits.waiting };
  builder = fits.builder;
  waits = fits.short_waits;
  depends = well.depends;
  note = fits.short_note;
  message = well.message;
  build_priority = well.build_priority;
}

-- in a state in which nothing is held and nothing is waited for
fits-free : (state : State) (note : List ℕ) → is_held state ≡ false → is_dep_wait state ≡ false → IsTextWithin note_limit note → Fits state None None [] note
fits-free state note free ready short = record {
  held = sym free;
  taken = sym free;
  builder = tt;
  waiting = sym ready;
  short_waits = empty_within relations_limit;
  short_note = short;
}

-- in Dep-Wait, for relations that were read
fits-waits : (relations : List (List Alternative)) (arch : ArchWords) (text : List ℕ) → Reads text relations → waits_refusal (waits_for relations arch) ≡ None
    → Fits DepWait None None (waits_for relations arch) []
fits-waits relations arch text reads allowed =
    let there = waits-there (waits_for relations arch) allowed in
    record {
      held = refl;
      taken = refl;
      builder = tt;
      waiting = ap not there.0;
      short_waits = record { utf8 = reduced-utf8 text relations arch reads; within = there.1 };
      short_note = empty_within note_limit;
    }

pub held-before-built : (state : State) → may_go to.Built state ≡ true → is_held state ≡ true
unfolding may_go
held-before-built Building is = refl
held-before-built _ is = absurd cc

pub held-before-uploaded : (state : State) → may_go to.Uploaded state ≡ true → is_held state ≡ true
unfolding may_go
held-before-uploaded Building is = refl
held-before-uploaded Built is = refl
held-before-uploaded _ is = absurd cc

-- ---- the rows

row-well : (move : Move) (old : Record) → IsWellFormed old → HasForm move → may_go move old.state ≡ true → value_refusal move old ≡ None → IsWellFormed (row_of move old)
row-well (to.Take holder take_number) old well form may allowed =
    well-with old well Building (Some holder) (Some take_number) old.waits [] (record {
      held = refl;
      taken = refl;
      builder = form;
      waiting = well.state.waiting ∙ (take-from holder take_number old.state may).waits;
      short_waits = well.waits;
      short_note = empty_within note_limit;
    })
row-well to.Built old well form may allowed =
    well-with old well Built old.holder old.take old.waits [] (record {
      held = well.state.held ∙ held-before-built old.state may;
      taken = well.state.taken ∙ held-before-built old.state may;
      builder = well.builder;
      waiting = well.state.waiting ∙ (built-from old.state may).waits;
      short_waits = well.waits;
      short_note = empty_within note_limit;
    })
row-well to.Uploaded old well form may allowed =
    well-with old well Uploaded old.holder old.take old.waits [] (record {
      held = well.state.held ∙ held-before-uploaded old.state may;
      taken = well.state.taken ∙ held-before-uploaded old.state may;
      builder = well.builder;
      waiting = well.state.waiting ∙ (uploaded-from old.state may).waits;
      short_waits = well.waits;
      short_note = empty_within note_limit;
    })
row-well (to.Waits relations arch) old well form may allowed =
    well-with old well DepWait None None (waits_for relations arch) [] (fits-waits relations arch form.0 form.1 allowed)
row-well to.PutBack old well form may allowed =
    well-with old well NeedsBuild None None old.waits [] (record {
      held = refl;
      taken = refl;
      builder = tt;
      waiting = well.state.waiting ∙ (put_back-from old.state may).waits;
      short_waits = well.waits;
      short_note = empty_within note_limit;
    })
row-well (to.Attempted reason) old well form may allowed =
    well-with old well BuildAttempted None None old.waits reason (record {
      held = refl;
      taken = refl;
      builder = tt;
      waiting = well.state.waiting ∙ attempted-ready reason old.state may;
      short_waits = well.waits;
      short_note = form;
    })
row-well to.GiveBack old well form may allowed =
    well-with old well NeedsBuild None None [] [] (fits-free NeedsBuild [] refl refl (empty_within note_limit))
row-well (to.DepWait relations arch) old well form may allowed =
    well-with old well DepWait None None (waits_for relations arch) [] (fits-waits relations arch form.0 form.1 allowed)
row-well (to.Fail note) old well form may allowed =
    well-with old well Failed None None [] note (fits-free Failed note refl refl form)
row-well (to.NotForUs note) old well form may allowed =
    well-with old well NotForUs None None [] note (fits-free NotForUs note refl refl form)
row-well (to.Rebuild number message) old well form may allowed = record {
  version = well.version;
  priority = well.priority;
  section = well.section;
  number = form.0;
  state = record {
    held = well.state.held ∙ rebuild-free number message old.state may;
    taken = well.state.taken ∙ rebuild-free number message old.state may;
    waiting = well.state.waiting ∙ (rebuild-from number message old.state may).waits;
  };
  builder = well.builder;
  waits = well.waits;
  depends = well.depends;
  note = empty_within note_limit;
  message = form.1;
  build_priority = well.build_priority;
}

pub move_outcome-well : (move : Move) (old new : Record) → IsWellFormed old → HasForm move → move_outcome move old ≡ Ok new → IsWellFormed new
move_outcome-well move old new well form is =
    subst IsWellFormed (sym (move_outcome-row move old new well is))
    (row-well move old well form (move_outcome-done move old new is).0 (move_outcome-value move old new is))
