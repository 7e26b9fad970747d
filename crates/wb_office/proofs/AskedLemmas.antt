-- An office that was asked commands, one after another, and which of them stand then.
use Rattle.std.proofs.Common.{◌≡◌, Bool, true, false, List, [], ◌∷◌, sym, ap, subst, ◌∙◌}
use Rattle.std.proofs.lemmas.Bool.{both_ways}
use Rattle.std.proofs.lemmas.Result.{IfOk-weaker}
use Rattle.sqlite_trees.specs.declared.store.Store.{Ghosts}
use Rattle.sqlite.specs.Held.{Held, state}
use Rattle.sqlite.specs.State.{HasCleanDisk}
use Rattle.wb_states.specs.declared.command.Command.{Command}
use Rattle.wb_states.specs.declared.store_fault.StoreFault.{StoreFault}
use Rattle.wb_states.specs.Machine.{Machine}
use Rattle.wb_office.specs.declared.known.Known.{Known}
use Rattle.wb_office.specs.declared.office.Office.{Office}
use Rattle.wb_office.specs.Asked.{AreAsked, IsAsked}
use Rattle.wb_office.specs.Failed.{HasFailed}
use Rattle.wb_office.specs.Lives.{EndsLife, Outcome}
use Rattle.wb_office.specs.Standing.{LeavesOne, StandsAt}
use Rattle.wb_office.proofs.ApplyLemmas.{carried_memory, carried_refused, carried_store, open_or_shut}
use Rattle.wb_office.proofs.LifeLemmas.{Carried, Led, led_none, led_on, led_shut, led_whole}

-- what an office promises speaks of: whether it is closed, what is known of its tables, and the tables
abbrev Seen : Type 0 → Type 0
Seen S = Bool × Known × Held S

abbrev seen : {S : Type 0} → Office S → Seen S
seen office = (office.is_closed, office.known, office.store)

-- these are the same of offices of which each is the same
same_seen : {S : Type 0} (one other : Office S) → one.is_closed ≡ other.is_closed → one.known ≡ other.known
    → one.store ≡ other.store → seen one ≡ seen other
same_seen {S} one other closed known store =
    let with : Bool → Known → Held S → Seen S = λ c k s. (c, k, s) in
    ap (λ c. with c one.known one.store) closed ∙ ap (λ k. with other.is_closed k one.store) known
    ∙ ap (λ s. with other.is_closed other.known s) store

module _ {S : Type 0} (g : Ghosts S) where
  abbrev Clean : Seen S → Type 0
  Clean office = HasCleanDisk (state g office.2)

  abbrev Shut : Seen S → Type 0
  Shut office = office.0 ≡ true

  abbrev Stands : Seen S → Machine → Type 0
  Stands office machine = StandsAt machine office.0 office.1 (state g office.2)

  abbrev Leaves : Seen S → Machine → Machine → StoreFault → Type 0
  Leaves office before after fault =
      LeavesOne before after office.0 (state g office.2) × HasFailed g before fault office.2

  -- what one command leads an open office through
  carried : (command : Command) (outcome : Outcome) (old mid : Office S) → IsAsked g command outcome old mid → old.is_closed ≡ false
      → Carried Clean Shut Stands Leaves command outcome (seen old) (seen mid)
  carried command outcome old mid asked opened = record {
    opened = λ closed. both_ways old.is_closed opened closed;
    stands = asked.stands opened;
    was_clean = asked.was_clean;
    reply = λ machine clean stands. IfOk-weaker outcome _ _ (λ reply done. (done.0, done.1)) (asked.reply clean machine stands);
    refused = λ machine clean stands.
        carried_refused g command old.is_closed old.known old.store mid.is_closed mid.known mid.store outcome asked machine clean stands;
    memory = λ machine clean stands.
        carried_memory g command old.is_closed old.known old.store mid.is_closed mid.known mid.store outcome asked machine clean stands;
    store = λ machine clean stands.
        carried_store g command old.is_closed old.known old.store mid.is_closed mid.known mid.store outcome asked machine clean stands;
  }

  -- an office was asked one command, and then others
  led_one : (command : Command) (commands : List Command) (outcome : Outcome) (outcomes : List Outcome)
      (old mid new : Office S) → IsAsked g command outcome old mid
      → Led Clean Shut Stands Leaves commands outcomes (seen mid) (seen new)
      → Led Clean Shut Stands Leaves (command ∷ commands) (outcome ∷ outcomes) (seen old) (seen new)
  led_one command commands outcome outcomes old mid new asked rest = open_or_shut old.is_closed shut opened
    where
      shut : old.is_closed ≡ true
          → Led Clean Shut Stands Leaves (command ∷ commands) (outcome ∷ outcomes) (seen old) (seen new)
      shut closed =
          let left = asked.shut closed in
          let same : seen mid ≡ seen old = same_seen mid old (left.1 ∙ sym closed) left.2 left.3 in
          subst (λ o. Led Clean Shut Stands Leaves (command ∷ commands) (o ∷ outcomes) (seen old) (seen new)) (sym left.0)
          (led_shut Clean Shut Stands Leaves command commands outcomes (seen old) (seen new) closed
          (subst (λ x. Led Clean Shut Stands Leaves commands outcomes x (seen new)) same rest))

      opened : old.is_closed ≡ false
          → Led Clean Shut Stands Leaves (command ∷ commands) (outcome ∷ outcomes) (seen old) (seen new)
      opened was =
          led_on Clean Shut Stands Leaves command commands (seen old) (seen mid) outcome outcomes (seen new)
          (carried command outcome old mid asked was) rest

  asked_led : (commands : List Command) (outcomes : List Outcome) (old new : Office S)
      → AreAsked g commands outcomes old new
      → Led Clean Shut Stands Leaves commands outcomes (seen old) (seen new)
  asked_led [] [] old new same =
      subst (λ x. Led Clean Shut Stands Leaves [] [] (seen old) (seen x)) (sym same)
      (led_none Clean Shut Stands Leaves (seen old))
  asked_led [] (outcome ∷ outcomes) old new none = absurd none
  asked_led (command ∷ commands) [] old new none = absurd none
  asked_led (command ∷ commands) (outcome ∷ outcomes) old new (mid, asked, later) =
      led_one command commands outcome outcomes old mid new asked (asked_led commands outcomes mid new later)

  -- what is known of an office that was open, once it was asked commands
  pub asked_whole : (commands : List Command) (outcomes : List Outcome) (old new : Office S) → old.is_closed ≡ false
      → AreAsked g commands outcomes old new
      → (Clean (seen new) → Clean (seen old)) × ((machine : Machine) → Clean (seen new) → Stands (seen old) machine
      → EndsLife (λ (office : Office S). Stands (seen office)) (λ (office : Office S). Leaves (seen office)) machine
      commands outcomes new)
  asked_whole commands outcomes old new opened asked =
      led_whole Clean Shut Stands Leaves commands outcomes (seen old) (seen new)
      (λ closed. both_ways old.is_closed opened closed) (asked_led commands outcomes old new asked)
