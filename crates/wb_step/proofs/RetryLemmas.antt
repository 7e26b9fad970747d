-- What a builder is told that asks again with a take number that it knows of.
use Rattle.std.proofs.Common.{◌≡◌, ℕ, ◌+◌, ◌≤◌, ◌&&◌, Bool, true, false, cond, List, [], ◌∷◌, inl, inr, filter, find, Option, Some, None, IfSome, Result, Ok, Err, refl, sym, ap, subst, ◌∙◌, nat_eq, nat_lt, bytes_eq, option_and_then, unwrap_or, arith}
use Rattle.std.proofs.lemmas.Bool.{ltb-false, le-ltb, lt-ltb}
use Rattle.std.proofs.lemmas.Cmp.{tied_itself}
use Rattle.std.specs.Ordering.{is_eq}
use Rattle.std.proofs.lemmas.Cmp.{nat_list_eq_equiv}
use Rattle.std.specs.FinMap as map
use Rattle.wb_states.specs.Forms.{Next}
use Rattle.wb_states.specs.declared.moves.Move.TheVariants as to
use Rattle.wb_states.specs.declared.record.Record.{Record}
use Rattle.wb_states.specs.declared.reply.Assignment.{Assignment}
use Rattle.wb_states.specs.declared.reply.Reply.{Reply}
use Rattle.wb_states.specs.declared.reply.Reply.TheVariants.{Again, Done, Job}
use Rattle.wb_states.specs.declared.refusal.Refusal.{Refusal}
use Rattle.wb_states.specs.declared.state.State.TheVariants.{Building}
use Rattle.wb_states.specs.Holds.{building_after, held_of, is_building_after, is_held_by, take_cmp, take_of}
use Rattle.wb_states.specs.Machine.{IsConsistent, IsRecord, Machine}
use Rattle.wb_states.specs.Moves.{record_after_move}
use Rattle.wb_states.specs.Queue.{Entry, head_of}
use Rattle.deb_text.specs.Lists.{IsIn}
use Rattle.wb_states.specs.State.{code_of}
use Rattle.deb_text.proofs.KeyLemmas.{pair_cmp_total, pair_cmp-same, insert_all}
use Rattle.wb_states.proofs.QueueLemmas.{head_of-waits}
use Rattle.deb_text.proofs.SortedLemmas.{IsIn-filter, IsIn-find, IsIn-sorted_by}
use Rattle.wb_step.specs.Checks.{first_refusal}
use Rattle.wb_step.specs.Outcomes.{held_assignment}
use Rattle.wb_step.specs.Targets.{again_of, transition_of, with_move}
use Rattle.wb_step.specs.Step.{after_take, assignment_of, counted, assignment_reply, outcome, step}
use Rattle.wb_step.proofs.TransitionLemmas.{Stands}
use Rattle.wb_step.proofs.NextLemmas.{next-Again}
use Rattle.wb_step.proofs.PassLemmas.{Passes, passes}
use Rattle.wb_step.proofs.RefusalLemmas.{builder_refusal-is}

-- ---- what a builder builds

-- what is found stands in the list and passes the test
find-IsIn : {X : Type 0} (p : X → Bool) (xs : List X) (x : X) → find p xs ≡ Some x → IsIn x xs × (p x ≡ true)
find-IsIn p [] x is = cc
find-IsIn {X} p (y ∷ ys) x is =
    (elim (p y) as (λ b. p y ≡ b → cond b (Some y) (find p ys) ≡ Some x → IsIn x (y ∷ ys) × (p x ≡ true)) [
      | true ↦ λ passes found. let same : y ≡ x = only y x found in (inl (sym same), ap p (sym same) ∙ passes)
      | false ↦ λ _ found. let later = find-IsIn p ys x found in (inr later.0, later.1)
    ]) refl is
  where
    only : (a b : X) → Some a ≡ Some b → a ≡ b
    only a b e = cc

-- where nothing is found, nothing of the list passes the test
find-None : {X : Type 0} (p : X → Bool) (xs : List X) → find p xs ≡ None → (x : X) → IsIn x xs → p x ≡ false
find-None p [] is x within = absurd within
find-None p (y ∷ ys) is x within =
    (elim (p y) as (λ b. p y ≡ b → cond b (Some y) (find p ys) ≡ None → p x ≡ false) [
      | true ↦ λ _ found. absurd (clash found)
      | false ↦ λ fails found. elim within [ inl same ↦ ap p same ∙ fails | inr later ↦ find-None p ys found x later ]
    ]) refl is
  where
    clash : Some y ≡ None → ⊥
    clash e = cc

-- a record that the builder holds stands in the list of those
held-IsIn : (machine : Machine) (builder : List ℕ) (entry : Entry) → Stands machine entry → is_held_by builder entry ≡ true → IsIn entry (held_of machine builder)
unfolding held_of
held-IsIn machine builder entry stands held =
    let kept = (IsIn-find pair_cmp_total pair_cmp-same entry (map.entries machine.records) (map.entries_sorted machine.records)).1
    (sym (map.get-entries machine.records entry.0) ∙ stands) in
    (IsIn-sorted_by take_cmp entry (filter (is_held_by builder) (map.entries machine.records))).1
    ((IsIn-filter (is_held_by builder) entry (map.entries machine.records)).1 (kept, held))

-- where the builder builds nothing later, none of its records is being built later
none-later : (machine : Machine) (arch builder : List ℕ) (after : ℕ) → building_after machine arch builder after ≡ None
    → (entry : Entry) → Stands machine entry → is_held_by builder entry ≡ true → is_building_after arch after entry ≡ false
unfolding building_after
none-later machine arch builder after is entry stands held =
    find-None (is_building_after arch after) (held_of machine builder) is entry (held-IsIn machine builder entry stands held)

-- what the builder builds later is a record that it holds
later-held : (machine : Machine) (arch builder : List ℕ) (after : ℕ) (entry : Entry) → building_after machine arch builder after ≡ Some entry
    → Stands machine entry × ((is_held_by builder entry ≡ true) × (is_building_after arch after entry ≡ true))
unfolding building_after held_of
later-held machine arch builder after entry is =
    let found = find-IsIn (is_building_after arch after) (held_of machine builder) entry is in
    let within = (IsIn-sorted_by take_cmp entry (filter (is_held_by builder) (map.entries machine.records))).0 found.0 in
    let kept = (IsIn-filter (is_held_by builder) entry (map.entries machine.records)).0 within in (
      map.get-entries machine.records entry.0
          ∙ (IsIn-find pair_cmp_total pair_cmp-same entry (map.entries machine.records) (map.entries_sorted machine.records)).0 kept.0,
      (kept.1, found.1),
    )

-- where one record alone is being built later, it is the one that is told
one-later : (machine : Machine) (arch builder : List ℕ) (after : ℕ) (entry : Entry) → Stands machine entry → is_held_by builder entry ≡ true
    → is_building_after arch after entry ≡ true
    → ((other : Entry) → Stands machine other → is_held_by builder other ≡ true → is_building_after arch after other ≡ true → other ≡ entry)
    → building_after machine arch builder after ≡ Some entry
one-later machine arch builder after entry stands held later only =
    (elim (building_after machine arch builder after) as (λ found. building_after machine arch builder after ≡ found → found ≡ Some entry) [
      | None ↦ λ none. absurd (clash (sym later ∙ none-later machine arch builder after none entry stands held))
      | Some other ↦ λ some. let known = later-held machine arch builder after other some in ap Some (only other known.0 known.1.0 known.1.1)
    ]) refl
  where
    clash : true ≡ false → ⊥
    clash e = cc

-- ---- the state after an assignment

-- a record that a builder took
taken : List ℕ → ℕ → Entry → Entry
taken builder take_number entry = (entry.0, record_after_move (to.Take builder take_number) entry.1)

-- the state after the head of a queue was handed to a builder
unfoldable pub handed_to : Machine → List ℕ → Entry → Machine
handed_to machine builder entry = record machine {
  records = map.insert machine.records entry.0 (record_after_move (to.Take builder (machine.handed + 1)) entry.1);
  handed = machine.handed + 1;
  accepted = machine.accepted + 1;
}

-- what is known of a command for the head of a queue that was answered with an assignment
pub record IsAssigned (machine : Machine) (arch builder : List ℕ) (after : Option ℕ) (accepted : ℕ) (given : Assignment) : Type 0 where
  pub entry : Entry
  pub pass : Passes machine (Next arch builder after)
  pub none : again_of machine (Next arch builder after) ≡ None
  pub head : head_of machine arch ≡ Some entry
  pub count : accepted ≡ machine.accepted + 1
  pub value : given ≡ assignment_of entry (machine.handed + 1)
  pub new : (step machine (Next arch builder after)).1 ≡ handed_to machine builder entry

-- the state after the head of a queue was moved
head-handed : (machine : Machine) (arch builder : List ℕ) (after : Option ℕ) (entry : Entry) → head_of machine arch ≡ Some entry
    → counted machine (after_take machine (transition_of machine (Next arch builder after))) ≡ handed_to machine builder entry
unfolding transition_of handed_to
head-handed machine arch builder after entry is =
    ap (λ head. counted machine (after_take machine (option_and_then (with_move machine (Next arch builder after)) head))) is

answered-parts : (one other : ℕ) (made given : Assignment) → Job one made ≡ Job other given → (one ≡ other) × (made ≡ given)
answered-parts one other made given is = (cc, cc)

pub assigned-is : (machine : Machine) (arch builder : List ℕ) (after : Option ℕ) (accepted : ℕ) (given : Assignment)
    → (step machine (Next arch builder after)).0 ≡ Ok (Job accepted given) → IsAssigned machine arch builder after accepted given
unfolding step
assigned-is machine arch builder after accepted given is =
    (elim (first_refusal machine (Next arch builder after)) as (λ r. first_refusal machine (Next arch builder after) ≡ r
    → (outcome r (again_of machine (Next arch builder after)) machine (Next arch builder after)).0 ≡ Ok (Job accepted given)
    → IsAssigned machine arch builder after accepted given) [
      | Some refusal ↦ λ _ no. absurd (refused refusal no)
      | None ↦ λ first. (elim (again_of machine (Next arch builder after)) as (λ again. again_of machine (Next arch builder after) ≡ again
          → (outcome None again machine (Next arch builder after)).0 ≡ Ok (Job accepted given) → IsAssigned machine arch builder after accepted given) [
            | Some entry ↦ λ _ no. absurd (apart machine.accepted (held_assignment entry) (answer (Again machine.accepted (held_assignment entry)) no))
            | None ↦ λ again. (elim (head_of machine arch) as (λ head. head_of machine arch ≡ head → ◌≡◌ {A = Result Reply Refusal} (Ok (assignment_reply machine head)) (Ok (Job accepted given))
                → IsAssigned machine arch builder after accepted given) [
                  | None ↦ λ _ no. absurd (done (machine.accepted + 1) (answer (Done (machine.accepted + 1)) no))
                  | Some entry ↦ λ head some.
                      let parts = answered-parts (machine.accepted + 1) accepted (assignment_of entry (machine.handed + 1)) given (answer _ some) in
                      record {
                        entry = entry;
                        pass = passes machine (Next arch builder after) first;
                        none = again;
                        head = head;
                        count = sym parts.0;
                        value = sym parts.1;
                        new = (λ i. (outcome (first i) (again i) machine (Next arch builder after)).1) ∙ head-handed machine arch builder after entry head;
                      }
                ]) refl
          ]) refl
    ]) refl is
  where
    refused : (refusal : Refusal) → Err refusal ≡ Ok (Job accepted given) → ⊥
    refused refusal e = cc

    answer : (reply : Reply) → ◌≡◌ {A = Result Reply Refusal} (Ok reply) (Ok (Job accepted given)) → reply ≡ Job accepted given
    answer reply e = cc

    apart : (count : ℕ) (made : Assignment) → Again count made ≡ Job accepted given → ⊥
    apart count made e = cc

    done : (count : ℕ) → Done count ≡ Job accepted given → ⊥
    done count e = cc

-- ---- the retry

-- where the builder builds nothing after a number that is known, it builds afterwards what it was just handed, and
-- nothing else
retried : (machine : Machine) (arch builder : List ℕ) (known : ℕ) (entry : Entry) → head_of machine arch ≡ Some entry → known ≤ machine.handed
    → ((other : Entry) → Stands machine other → is_held_by builder other ≡ true → is_building_after arch known other ≡ false)
    → building_after (handed_to machine builder entry) arch builder known ≡ Some (taken builder (machine.handed + 1) entry)
unfolding handed_to taken record_after_move
retried machine arch builder known entry head below none =
    one-later (handed_to machine builder entry) arch builder known (entry.0, put) stands (nat_list_eq_equiv.refl builder) later only
  where
    put : Record
    put = record_after_move (to.Take builder (machine.handed + 1)) entry.1

    stands : map.get (map.insert machine.records entry.0 put) entry.0 ≡ Some put
    stands = map.get-insert pair_cmp_total machine.records entry.0 put entry.0
        ∙ ap (λ r. cond (is_eq r) (Some put) (map.get machine.records entry.0)) (tied_itself pair_cmp_total entry.0)

    later : (bytes_eq entry.0.0 arch && nat_lt known (machine.handed + 1)) ≡ true
    later = ap (λ (name : List ℕ). bytes_eq name arch && nat_lt known (machine.handed + 1)) (head_of-waits machine arch entry head).1
        ∙ (λ i. nat_list_eq_equiv.refl arch i && lt-ltb known (machine.handed + 1) (omega arith) i)

    IsIt : List ℕ × List ℕ → Record → Type 0
    IsIt key current = is_held_by builder (key, current) ≡ true → is_building_after arch known (key, current) ≡ true
        → ◌≡◌ {A = Entry} (key, current) (entry.0, put)

    clash : true ≡ false → ⊥
    clash e = cc

    old : (key : List ℕ × List ℕ) → IfSome (map.get machine.records key) (IsIt key)
    old key = (elim (map.get machine.records key) as (λ found. map.get machine.records key ≡ found → IfSome found (IsIt key)) [
      | None ↦ λ _. tt
      | Some current ↦ λ at held is. absurd (clash (sym is ∙ none (key, current) at held))
    ]) refl

    only : (other : Entry) → Stands (handed_to machine builder entry) other → is_held_by builder other ≡ true → is_building_after arch known other ≡ true
        → other ≡ (entry.0, put)
    only other at =
        let all : IfSome (map.get (map.insert machine.records entry.0 put) other.0) (IsIt other.0) =
        insert_all pair_cmp_total pair_cmp-same IsIt machine.records entry.0 put (λ _ _. refl) old other.0 in
        subst (λ found. IfSome found (IsIt other.0)) at all

assigned-again : (machine : Machine) (arch builder : List ℕ) (after : Option ℕ) (known accepted : ℕ) (given : Assignment) → IsAssigned machine arch builder after accepted given
    → known ≤ machine.handed → ((other : Entry) → Stands machine other → is_held_by builder other ≡ true → is_building_after arch known other ≡ false)
    → step (step machine (Next arch builder after)).1 (Next arch builder (Some known))
    ≡ (Ok (Again accepted given), (step machine (Next arch builder after)).1)
unfolding handed_to taken record_after_move
assigned-again machine arch builder after known accepted given assigned below none =
    let entry : Entry = assigned.entry in
    let new : Machine = handed_to machine builder entry in
    let pass : Passes machine (Next arch builder after) = assigned.pass in
    let answered : step new (Next arch builder (Some known)) ≡ (Ok (Again (machine.accepted + 1) (assignment_of entry (machine.handed + 1))), new) =
    next-Again new arch builder (Some known) (taken builder (machine.handed + 1) entry) pass.names
    (builder_refusal-is new arch builder false false false pass.arch pass.builder pass.others)
    (le-ltb (machine.handed + 1) known (omega arith))
    (retried machine arch builder known entry assigned.head below none) in
    let count = assigned.count in
    let same = assigned.value in
    subst (λ (m : Machine). step m (Next arch builder (Some known)) ≡ (Ok (Again accepted given), m)) (sym assigned.new)
    (answered ∙ (λ i. (Ok (Again (sym count i) (sym same i)), new)))

-- who asks again with the number that it asked with is told the same
pub next-retried : (machine : Machine) (arch builder : List ℕ) (after accepted : ℕ) (given : Assignment)
    → (step machine (Next arch builder (Some after))).0 ≡ Ok (Job accepted given)
    → step (step machine (Next arch builder (Some after))).1 (Next arch builder (Some after))
    ≡ (Ok (Again accepted given), (step machine (Next arch builder (Some after))).1)
next-retried machine arch builder after accepted given is =
    let assigned = assigned-is machine arch builder (Some after) accepted given is in
    assigned-again machine arch builder (Some after) after accepted given assigned (ltb-false machine.handed after assigned.pass.ahead)
    (none-later machine arch builder after assigned.none)

-- in a consistent office no record is held under a number that was not given yet
none-ahead : (machine : Machine) → IsConsistent machine → (arch : List ℕ) (other : Entry) → Stands machine other → is_building_after arch machine.handed other ≡ false
none-ahead machine old arch other at =
    let known : IfSome (Some other.1) (IsRecord machine other.0.0 other.0.1) =
    subst (λ found. IfSome found (IsRecord machine other.0.0 other.0.1)) at (old.records other.0.0 other.0.1) in
    let within = given other.1.take known.given in
    ap (λ b. bytes_eq other.0.0 arch && (nat_eq (code_of other.1.state) (code_of Building) && b)) (le-ltb machine.handed (take_of other) within)
    ∙ neither (bytes_eq other.0.0 arch) (nat_eq (code_of other.1.state) (code_of Building))
  where
    given : (taking : Option ℕ) → IfSome taking (λ n. (1 ≤ n) × (n ≤ machine.handed)) → unwrap_or taking 0 ≤ machine.handed
    given None is = omega arith
    given (Some n) is = is.1

    neither : (a b : Bool) → (a && (b && false)) ≡ false
    neither true true = refl
    neither true false = refl
    neither false b = refl

-- who lost an answer and asks after the last number that was given before it is told what was lost
pub next-lost : (machine : Machine) (arch builder : List ℕ) (after : Option ℕ) (accepted : ℕ) (given : Assignment) → IsConsistent machine
    → (step machine (Next arch builder after)).0 ≡ Ok (Job accepted given)
    → step (step machine (Next arch builder after)).1 (Next arch builder (Some machine.handed))
    ≡ (Ok (Again accepted given), (step machine (Next arch builder after)).1)
next-lost machine arch builder after accepted given old is =
    assigned-again machine arch builder after machine.handed accepted given (assigned-is machine arch builder after accepted given is) (omega arith)
    (λ other at _. none-ahead machine old arch other at)
