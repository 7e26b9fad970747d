-- What an office over tables answers to a query, and how it stands then.
use Rattle.std.proofs.Common.{◌≡◌, ◌≢◌, inl, inr, true, false, not, cond, Bool, ℕ, List, map as each, Option, None}
use Rattle.std.proofs.Common.{Some, is_some}
use Rattle.std.specs.Option.{option_and_then, option_map}
use Rattle.std.proofs.Common.{Result, Ok, Err, IfOk, IfErr, refl, sym, ap, subst, ◌∙◌}
use Rattle.std.proofs.lemmas.Bool.{both_ways}
use Rattle.std.specs.FinMap as map
use Rattle.sqlite_trees.specs.declared.store.Store.{Ghosts}
use Rattle.sqlite.specs.Held.{Held, state}
use Rattle.sqlite.specs.State.{HasCleanDisk}
use Rattle.wb_states.specs.declared.arch.OsCpu.{OsCpu}
use Rattle.wb_states.specs.declared.refusal.Refusal.{Refusal}
use Rattle.wb_states.specs.declared.refusal.Refusal.TheVariants.{BadName, Closed, Memory, Store, UnknownArch}
use Rattle.wb_states.specs.declared.refusal.Refusal.TheVariants.{UnknownBuilder}
use Rattle.wb_states.specs.declared.store_fault.StoreFault.{StoreFault}
use Rattle.wb_states.specs.Holds.{held_of, holder_of, taken_as}
use Rattle.wb_states.specs.Machine.{Key, Machine}
use Rattle.wb_states.specs.Refusals.{IsOfMachine}
use Rattle.wb_states.specs.declared.keyed.KeyedRecord.{KeyedRecord}
use Rattle.wb_states.specs.Lookups.{entry_of, keyed}
use Rattle.wb_states.specs.Queue.{Entry}
use Rattle.wb_states.specs.declared.state.State.{State}
use Rattle.wb_states.specs.declared.counts.StateCounts.{StateCounts}
use Rattle.wb_states.specs.declared.query.Answer.{Answer}
use Rattle.wb_states.specs.declared.query.Answer.TheVariants.{Archs, Builders, ByState, Mine, Office, Queue, Summary}
use Rattle.wb_states.specs.Machine.{is_unknown_arch, is_unknown_builder}
use Rattle.wb_states.specs.Refusals.{is_of_store}
use Rattle.wb_states.specs.Queries.{mine_in}
use Rattle.wb_states.proofs.QueryLemmas.{keyed-entries}
use Rattle.wb_step.specs.Offices.{StandsOn}
use Rattle.wb_store.proofs.SettledLemmas.{settled_back}
use Rattle.wb_office.specs.declared.known.Known.{Known}
use Rattle.wb_office.specs.Asks.{Asks, IsAskedAt, IsUnread}
use Rattle.wb_office.specs.Applies.{CannotGoOn, EndsWith}
use Rattle.wb_store.specs.Finds.{FailsToFind, Finds}
use Rattle.wb_office.specs.Failed.{HasFailed}
use Rattle.wb_office.specs.Standing.{Knows, StandsAt, LeavesOne}
use Rattle.wb_office.proofs.AnswerLemmas.{found, not_found, stays_others}
use Rattle.wb_store.proofs.OthersLemmas.{others_equal}
use Rattle.wb_store.proofs.FindsLemmas.{finds_weaker}
use Rattle.wb_store.proofs.StaysLemmas.{was_clean}
use Rattle.wb_office.proofs.ApplyLemmas.{either_of, none_opens, not_closed_for, of_fault, office_over, open_or_shut}
use Rattle.wb_office.proofs.ApplyLemmas.{same_err, settled_at, stays_shut}

-- ---- what was looked up

-- an architecture without words was never added
pub unknown-is : (machine : Machine) (arch : List ℕ) (words : Option OsCpu) (is_unknown : Bool) → words ≡ map.get machine.archs arch → is_some words ≡ not is_unknown → is_unknown ≡ is_unknown_arch machine arch
unknown-is machine arch words is_unknown is_words known = not_not is_unknown ∙ ap not (sym known) ∙ ap (λ w. not (is_some w)) is_words
  where
    not_not : (b : Bool) → b ≡ not (not b)
    not_not true = refl
    not_not false = refl

-- what is answered of an unknown architecture, and of a known one
pub of_unknown : {is_unknown was_unknown : Bool} (found : Result Answer Refusal) → is_unknown ≡ was_unknown → is_unknown ≡ true → Err UnknownArch ≡ cond was_unknown (Err UnknownArch) found
of_unknown found same unknown = ap (λ b. cond b (Err UnknownArch) found) (sym unknown ∙ same)

pub of_known : {is_unknown was_unknown : Bool} {answer found : Result Answer Refusal} → is_unknown ≡ was_unknown → is_unknown ≡ false → answer ≡ found → answer ≡ cond was_unknown (Err UnknownArch) found
of_known {found = found} same known is = is ∙ ap (λ b. cond b (Err UnknownArch) found) (sym known ∙ same)

-- the answer with the queue of an architecture, and that with its records in a state
abbrev pub queue_with : List ℕ → List KeyedRecord → Result Answer Refusal
queue_with arch records = Ok (Queue arch records)

abbrev pub by_state_with : State → List ℕ → List KeyedRecord → Result Answer Refusal
by_state_with state arch records = Ok (ByState arch state records)

-- the answer with the numbers of an architecture's records
abbrev pub summary_with : ℕ → List ℕ → StateCounts → Result Answer Refusal
summary_with accepted arch counts = Ok (Summary accepted arch counts)

-- the answer with the two counts of the office, with its architectures and with its builders
abbrev pub office_with : ℕ → ℕ → Result Answer Refusal
office_with accepted handed = Ok (Office accepted handed)

abbrev pub archs_with : ℕ → List (List ℕ × OsCpu) → Result Answer Refusal
archs_with accepted archs = Ok (Archs accepted archs)

abbrev pub builders_with : ℕ → List Key → Result Answer Refusal
builders_with accepted pairs = Ok (Builders accepted pairs)

-- the records that were looked up are the queue of the state, or its records in the state that was asked for
pub queue-is : (arch : List ℕ) {rows : List KeyedRecord} {entries : List Entry} → each entry_of rows ≡ entries → ◌≡◌ {A = Result Answer Refusal} (Ok (Queue arch rows)) (Ok (Queue arch (each keyed entries)))
queue-is arch is = ap (λ rows. Ok (Queue arch rows)) (sym (keyed-entries is))

pub by_state-is : (arch : List ℕ) (state : State) {rows : List KeyedRecord} {entries : List Entry} → each entry_of rows ≡ entries
    → ◌≡◌ {A = Result Answer Refusal} (Ok (ByState arch state rows)) (Ok (ByState arch state (each keyed entries)))
by_state-is arch state is = ap (λ rows. Ok (ByState arch state rows)) (sym (keyed-entries is))

-- the answer with what a builder holds
abbrev pub mine_with : List ℕ → List KeyedRecord → Result Answer Refusal
mine_with builder records = Ok (Mine builder records)

-- what a known builder holds is the answer of the state
pub mine-is : (machine : Machine) (builder : List ℕ) (rows : List KeyedRecord) → is_unknown_builder machine builder ≡ false → each entry_of rows ≡ held_of machine builder
    → Ok (Mine builder rows) ≡ mine_in machine builder
mine-is machine builder rows known held = sym (λ i. cond (known i) (Err UnknownBuilder) (Ok (Mine builder (keyed-entries held i))))

-- an unknown builder is refused in the answer of the state
pub mine-unknown : (machine : Machine) (builder : List ℕ) → is_unknown_builder machine builder ≡ true → Err UnknownBuilder ≡ mine_in machine builder
mine-unknown machine builder unknown = sym (λ i. cond (unknown i) (Err UnknownBuilder) (Ok (Mine builder (each keyed (held_of machine builder)))))

-- ---- who holds a take number

-- the holder of the record that was found is that of the state
pub holder-found : (machine : Machine) (take_number : ℕ) (found : Option KeyedRecord) → option_map entry_of found ≡ taken_as machine take_number
    → option_and_then (λ (row : KeyedRecord). row.current.holder) found ≡ holder_of machine take_number
unfolding holder_of
holder-found machine take_number None is = ap (option_and_then (λ (entry : Entry). entry.1.holder)) is
holder-found machine take_number (Some row) is = ap (option_and_then (λ (entry : Entry). entry.1.holder)) is

-- what is answered is the holder
pub holder-answered : {holder answer : Option (List ℕ)} → ◌≡◌ {A = Result (Option (List ℕ)) Refusal} (Ok holder) (Ok answer) → answer ≡ holder
holder-answered is = cc

-- a state refuses nobody who asks for a holder
pub holder-has-no-store : (take_number : ℕ) (machine : Machine) (refusal : Refusal) → is_of_store refusal ≡ true
    → ¬ ◌≡◌ {A = Result (Option (List ℕ)) Refusal} (Ok (holder_of machine take_number)) (Err refusal)
holder-has-no-store take_number machine refusal of_store is = cc

-- ---- what is known

-- a look-up that makes nothing known
pub keeps_known : {S A : Type 0} {g : Ghosts S} {answer_in : Machine → A} {old new : Held S}
    (known : Known) (r : Result A StoreFault)
    → Finds g (λ machine answer. answer ≡ answer_in machine) old new r
    → Finds g (λ machine answer. Knows machine known → (answer ≡ answer_in machine) × Knows machine known) old new r
keeps_known known r finds = finds_weaker r finds (λ machine answer sound is knows. (is, knows))

-- ---- one query

module _ {S A : Type 0} {g : Ghosts S} {answer_of : Machine → Result A Refusal} {is_bad was_closed : Bool} {was_known : Known} {old : Held S} where
  -- a closed office says so
  pub asked_shut : was_closed ≡ true → Asks g answer_of is_bad was_closed was_known old was_closed was_known old (Err Closed)
  asked_shut closed = record {
    was_clean = λ clean. clean;
    limit = refl;
    shut = λ _. (refl, closed, refl, refl);
    stands = λ opened. absurd (both_ways was_closed opened closed);
    named = λ opened bad. absurd (both_ways was_closed opened closed);
    knows = λ clean machine stands. stands.knows;
    asked = λ clean machine stands opened. absurd (both_ways was_closed opened closed);
  }

  -- a malformed name is refused, and nothing is done
  pub asked_malformed : was_closed ≡ false → is_bad ≡ true → ((machine : Machine) → answer_of machine ≡ Err BadName)
      → Asks g answer_of is_bad was_closed was_known old was_closed was_known old (Err BadName)
  asked_malformed opened bad refuses = record {
    was_clean = λ clean. clean;
    limit = refl;
    shut = λ closed. absurd (both_ways was_closed opened closed);
    stands = λ _. record { ok = tt; never = λ is. cc; ends = λ of_store. cc; opens = λ _ _ closed. both_ways was_closed opened closed };
    named = λ _ _. (refl, opened, refl);
    knows = λ clean machine stands. stands.knows;
    asked = λ clean machine stands _. inl (refuses machine, settled_at stands opened, opened, others_equal (state g old).now (state g old).now refl);
  }

  -- the look-ups succeed
  pub asked_found : {answer_in : Machine → Result A Refusal} {known : Known} {new : Held S} (r : Result A Refusal)
      → was_closed ≡ false → is_bad ≡ false
      → ((machine : Machine) → answer_of machine ≡ answer_in machine) → IfErr r (λ refusal. is_of_store refusal ≡ false)
      → Finds g (λ machine answer. Knows machine was_known → (answer ≡ answer_in machine) × Knows machine known)
      old new (Ok r)
      → Asks g answer_of is_bad was_closed was_known old was_closed known new r
  asked_found {known = known} {new = new} r opened is_good same of_state finds = record {
    was_clean = was_clean (state g old) (state g new) finds.survives;
    limit = finds.survives.limit;
    shut = λ closed. absurd (both_ways was_closed opened closed);
    stands = λ _. found_stands r of_state;
    named = λ _ bad. absurd (both_ways is_bad is_good bad);
    knows = λ clean machine stands.
        ((found g old new finds clean stands.consistent (settled_at stands opened)).1 stands.knows).1;
    asked = λ clean machine stands _.
        let at = found g old new finds clean stands.consistent (settled_at stands opened) in
        let kept = stays_others g old new (finds.same clean (settled_at stands opened).holds.stands.has) in
        inl (same machine ∙ sym (at.1 stands.knows).0, at.0, opened, kept);
  }
    where
      found_stands : (r : Result A Refusal) → IfErr r (λ refusal. is_of_store refusal ≡ false) → StandsOn (was_closed ≡ true) r
      found_stands (Ok answer) of_state = record { ok = λ closed. both_ways was_closed opened closed; never = λ is. cc; ends = tt; opens = tt }
      found_stands (Err refusal) of_state = record {
        ok = tt;
        never = λ is. both_ways (is_of_store refusal) of_state (ap is_of_store (same_err is));
        ends = λ of_store. absurd (both_ways (is_of_store refusal) of_state of_store);
        opens = λ _ _ closed. both_ways was_closed opened closed;
      }

  -- a look-up fails
  pub asked_unread : {B : Type 0} {Answers : Machine → B → Type 0} {at new : Held S} {is_closed : Bool}
      {e : StoreFault} {refusal : Refusal} {known : Known} → was_closed ≡ false → is_bad ≡ false
      → ((machine : Machine) → Knows machine was_known → Knows machine known)
      → Finds g Answers old at (Err e) → EndsWith g e at new refusal is_closed
      → Asks g answer_of is_bad was_closed was_known old is_closed known new (Err refusal)
  asked_unread {at = at} {e = e} {refusal = refusal} opened is_good keeps finds ends = record {
    was_clean = λ clean. was_clean (state g old) (state g at) finds.survives (ends.was_clean clean);
    limit = ends.limit ∙ finds.survives.limit;
    shut = λ closed. absurd (both_ways was_closed opened closed);
    stands = λ _. record { ok = tt; never = λ is. not_closed_for e (sym ends.told ∙ same_err is); ends = ends.ends; opens = λ no_store other _. none_opens e ends.told no_store other };
    named = λ _ bad. absurd (both_ways is_bad is_good bad);
    knows = λ clean machine stands. keeps machine stands.knows;
    asked = λ clean machine stands _.
        let failed = not_found g old at finds (ends.was_clean clean) (settled_at stands opened) in
        inr (
          refusal,
          refl,
          record {
            fault = e;
            at = at;
            failed = failed.0;
            told = ends.told;
            back = ends.back clean machine failed.1;
            is_open = ends.is_open clean;
            ends = ends.ends;
            closes = ends.closes clean;
            same = ends.same;
          },
        );
  }

-- ---- the office that answers queries

module _ {S A : Type 0} {g : Ghosts S} {answer_of : Machine → Result A Refusal} {is_bad : Bool} {was_closed : Bool} {was_known : Known} {old : Held S} {is_closed : Bool} {known : Known} {new : Held S}
    {r : Result A Refusal} (h : Asks g answer_of is_bad was_closed was_known old is_closed known new r)
    (of_state : (machine : Machine) (refusal : Refusal) → is_of_store refusal ≡ true → ¬ (answer_of machine ≡ Err refusal))
    (machine : Machine) (clean : HasCleanDisk (state g new)) (stands : StandsAt machine was_closed was_known (state g old)) where
  -- however it is answered, the office stands as it did
  stays_open : IsAskedAt g answer_of machine old is_closed new r → was_closed ≡ false → StandsAt machine is_closed known (state g new)
  stays_open (inl answered) opened = record {
    consistent = stands.consistent;
    knows = h.knows clean machine stands;
    back = settled_back (state g new) answered.1;
    is_open = λ _. answered.1.is_open;
  }
  stays_open (inr (refusal, is, unread)) opened = record {
    consistent = stands.consistent;
    knows = h.knows clean machine stands;
    back = unread.back;
    is_open = unread.is_open;
  }

  stays : StandsAt machine is_closed known (state g new)
  stays = open_or_shut was_closed (λ closed. let s = h.shut closed in stays_shut g stands s.1 s.2 s.3)
      (λ opened. stays_open (h.asked clean machine stands opened) opened)

  -- a refusal for an error of a look-up is no refusal of the state
  unread_is : {refusal : Refusal} → IsUnread g machine old new is_closed refusal → refusal ≢ Memory → is_of_store refusal ≡ true
  unread_is unread other = ap is_of_store unread.told ∙ of_fault unread.fault (λ is. other (unread.told ∙ is))

  -- what is answered, but that it is closed or out of memory, is answered of the state
  is_answer : (result : Result A Refusal) → r ≡ result → IfErr result (λ refusal. (refusal ≢ Memory) × (is_of_store refusal ≡ false)) → answer_of machine ≡ result
  is_answer result is plain = open_or_shut was_closed
      (λ closed. absurd (shut_plain (subst (λ x. IfErr x (λ refusal. (refusal ≢ Memory) × (is_of_store refusal ≡ false))) (sym is ∙ (h.shut closed).0) plain)))
      (λ opened. at_answer (h.asked clean machine stands opened))
    where
      shut_plain : (Closed ≢ Memory) × (is_of_store Closed ≡ false) → ⊥
      shut_plain other = cc

      plain_at : {refusal : Refusal} → r ≡ Err refusal → (refusal ≢ Memory) × (is_of_store refusal ≡ false)
      plain_at failed = subst (λ x. IfErr x (λ refusal. (refusal ≢ Memory) × (is_of_store refusal ≡ false))) (sym is ∙ failed) plain

      at_answer : IsAskedAt g answer_of machine old is_closed new r → answer_of machine ≡ result
      at_answer (inl answered) = answered.0 ∙ is
      at_answer (inr (refusal, failed, unread)) =
          let other = plain_at failed in
          absurd (both_ways (is_of_store refusal) other.1 (unread_is unread other.0))

  pub asked_answer : IfOk r (λ answer. (answer_of machine ≡ Ok answer) × StandsAt machine is_closed known (state g new))
  asked_answer = at_ok r refl
    where
      at_ok : (result : Result A Refusal) → r ≡ result → IfOk result (λ answer. (answer_of machine ≡ Ok answer) × StandsAt machine is_closed known (state g new))
      at_ok (Ok answer) is = (is_answer (Ok answer) is tt, stays)
      at_ok (Err refusal) is = tt

  pub asked_refused : IfErr r (λ refusal. IsOfMachine refusal → is_of_store refusal ≡ false → (answer_of machine ≡ Err refusal) × StandsAt machine is_closed known (state g new))
  asked_refused = at_err r refl
    where
      at_err : (result : Result A Refusal) → r ≡ result
          → IfErr result (λ refusal. IsOfMachine refusal → is_of_store refusal ≡ false → (answer_of machine ≡ Err refusal) × StandsAt machine is_closed known (state g new))
      at_err (Ok answer) is = tt
      at_err (Err refusal) is = λ of_machine no_store. (is_answer (Err refusal) is (of_machine, no_store), stays)

  pub asked_memory : r ≡ Err Memory → (is_bad ≡ false) × StandsAt machine is_closed known (state g new)
  asked_memory is = (formed, stays)
    where
      closed_is_not_memory : ¬ ◌≡◌ {A = Result A Refusal} (Err Closed) (Err Memory)
      closed_is_not_memory same = cc

      bad_is_not_memory : ¬ ◌≡◌ {A = Result A Refusal} (Err BadName) (Err Memory)
      bad_is_not_memory same = cc

      formed : is_bad ≡ false
      formed = open_or_shut was_closed (λ closed. absurd (closed_is_not_memory (sym (h.shut closed).0 ∙ is)))
          (λ opened. (elim is_bad as (λ b. is_bad ≡ b → b ≡ false) [
            | true ↦ λ bad. absurd (bad_is_not_memory (sym (h.named opened bad).0 ∙ is))
            | false ↦ λ good. refl
          ]) refl)

  -- it is closed out of memory only if its connection cannot be used on
  pub asked_cause : was_closed ≡ false → r ≡ Err Memory → is_closed ≡ true → CannotGoOn g new
  asked_cause opened is closed = elim (h.asked clean machine stands opened) [
    | inl answered ↦ absurd (both_ways is_closed answered.2 closed)
    | inr (refusal, failed, unread) ↦ inl (unread.at, unread.closes (same_err (sym failed ∙ is)) closed)
  ]

  -- it says that it is closed only if it was
  asked_when_shut : r ≡ Err Closed → was_closed ≡ true
  asked_when_shut is = open_or_shut was_closed (λ closed. closed) (λ opened. absurd ((h.stands opened).never is))

  pub asked_closed : r ≡ Err Closed → (is_closed ≡ true) × StandsAt machine is_closed known (state g new)
  asked_closed is = ((h.shut (asked_when_shut is)).1, stays)

  -- after a fault of the store it is closed, and nothing was changed
  pub asked_store : (f : StoreFault) → r ≡ Err (Store f) → LeavesOne machine machine is_closed (state g new) × HasFailed g machine f new
  asked_store f is = open_or_shut was_closed (λ closed. absurd (store_is_not_closed (sym is ∙ (h.shut closed).0))) (λ opened.
      (record { closed = closes (h.asked clean machine stands opened); left = either_of machine (state g new) stays.back }, failed opened (h.asked clean machine stands opened)))
    where
      store_is_not_closed : ¬ ◌≡◌ {A = Result A Refusal} (Err (Store f)) (Err Closed)
      store_is_not_closed same = cc

      no_memory : ¬ (Store f ≡ Memory)
      no_memory none = cc

      -- the store failed with the fault that is told
      failed : was_closed ≡ false → IsAskedAt g answer_of machine old is_closed new r → HasFailed g machine f new
      failed opened (inl answered) = absurd (of_state machine (Store f) refl (answered.0 ∙ is))
      failed opened (inr (refusal, fails, unread)) =
          let told : refusal ≡ Store f = same_err (sym fails ∙ is) in
          let same : new ≡ unread.at = unread.same (λ none. no_memory (sym told ∙ none)) in
          inr (inl (old, office_over g stands opened, unread.fault, subst (λ held. FailsToFind g old held unread.fault) (sym same) unread.failed, sym told ∙ unread.told))

      closes : IsAskedAt g answer_of machine old is_closed new r → is_closed ≡ true
      closes (inl answered) = absurd (of_state machine (Store f) refl (answered.0 ∙ is))
      closes (inr (refusal, failed, unread)) = unread.ends (ap is_of_store (same_err (sym failed ∙ is)))
