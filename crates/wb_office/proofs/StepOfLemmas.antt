-- What an accepted step in a part of the office makes of the whole office.
use Rattle.std.proofs.Common.{ℕ, ◌≡◌, ◌≢◌, ◌∙◌, refl, sym, ap, subst, ◌+◌, Result, false, is_some, cond, Option, Some}
use Rattle.std.proofs.Common.{None, Ok, option_map, List}
use Rattle.std.specs.Prelude.{IsSome, option_and_then}
use Rattle.std.specs.FinMap as map
use Rattle.std.specs.FinSet as set
use Rattle.std.specs.Ordering.{is_eq}
use Rattle.std.proofs.lemmas.Cmp.{tied_itself}
use Rattle.deb_text.proofs.KeyLemmas.{pair_cmp_total}
use Rattle.deb_text.specs.Text.{pair_cmp}
use Rattle.deb_relations.specs.declared.arch.ArchWords.{ArchWords}
use Rattle.wb_states.specs.declared.command.AddArch.{AddArch}
use Rattle.wb_states.specs.declared.command.AddBuilder.{AddBuilder}
use Rattle.wb_states.specs.declared.command.Command.{Command}
use Rattle.wb_states.specs.declared.command.Command.TheVariants as of
use Rattle.wb_states.specs.declared.command.Enter.{Enter}
use Rattle.wb_states.specs.declared.command.Forget.{Forget}
use Rattle.wb_states.specs.declared.command.RemoveBuilder.{RemoveBuilder}
use Rattle.wb_states.specs.declared.moves.Move.{Move}
use Rattle.wb_states.specs.declared.record.Record.{Record}
use Rattle.wb_states.specs.declared.refusal.Refusal.{Refusal}
use Rattle.wb_states.specs.declared.reply.Reply.{Reply}
use Rattle.wb_states.specs.Holds.{take_of}
use Rattle.wb_states.specs.Machine.{Machine, Key, arch_words}
use Rattle.wb_states.specs.Queue.{Entry}
use Rattle.wb_states.specs.Subject.{Subject, Nothing, Source, Taken, Head, Held, subject_of}
use Rattle.wb_step.specs.Checks.{first_refusal, is_there_already, source_in, source_named}
use Rattle.wb_step.specs.Locality.{moved, entry_put, key_gone, with_entry, without_entry, archs_after, builders_after}
use Rattle.wb_step.specs.Locality.{handed_after, changed}
use Rattle.wb_step.specs.Step.{Outcome, assignment_of, outcome, step}
use Rattle.wb_step.specs.Targets.{again_of, first_named, record_named, transition_of, move_of_command, target_of}
use Rattle.wb_step.proofs.LocalityLemmas.{same_answer, same_entry, steps_change}
use Rattle.wb_step.proofs.PassLemmas.{passes}
use Rattle.wb_step.proofs.TransitionLemmas.{target_of-stands}
use Rattle.wb_office.specs.Changed.{IsFresh, IsStepOf, IsThere, before_counts, found_at}
use Rattle.wb_office.specs.Keys.{key_at, key_of, key_put}

-- ---- which record a command puts

something : {X : Type 0} {x : X} → Some x ≢ None
something is = cc

-- the key of a record that was moved is that of the record that was found
moved_key : (found : Option Entry) (move : Entry → Option Move) (entry : Entry)
    → option_map moved (option_and_then (λ current. option_map (λ m. (current, m)) (move current)) found) ≡ Some entry → key_of found ≡ Some entry.0
moved_key None move entry is = cc
moved_key (Some current) move entry is = (elim (move current) as (λ m. option_map moved (option_map (λ m. (current, m)) m) ≡ Some entry → Some current.0 ≡ Some entry.0) [
  | None ↦ λ none. cc
  | Some m ↦ λ some. ap key_of some
]) is

target_key : (machine : Machine) (command : Command) (entry : Entry) → option_map moved (transition_of machine command) ≡ Some entry
    → key_of (target_of machine command) ≡ Some entry.0
unfolding transition_of
target_key machine command entry is = moved_key (target_of machine command) (λ e. move_of_command machine command (arch_words machine e.0.0)) entry is

-- where a command has a move for every record, nothing is moved only if nothing was found
nothing_moved : (found : Option Entry) (move : Entry → Option Move) → ((current : Entry) → move current ≢ None)
    → option_map moved (option_and_then (λ current. option_map (λ m. (current, m)) (move current)) found) ≡ None → found ≡ None
nothing_moved None move moves is = refl
nothing_moved (Some current) move moves is = absurd ((elim (move current) as (λ m. m ≢ None → option_map moved (option_map (λ m. (current, m)) m) ≡ None → ⊥) [
  | None ↦ λ there none. there refl
  | Some m ↦ λ there some. something some
]) (moves current) is)

no_target : (machine : Machine) (command : Command) → ((words : ArchWords) → move_of_command machine command words ≢ None) → option_map moved (transition_of machine command) ≡ None
    → target_of machine command ≡ None
unfolding transition_of
no_target machine command moves is =
    nothing_moved (target_of machine command) (λ e. move_of_command machine command (arch_words machine e.0.0)) (λ e. moves (arch_words machine e.0.0)) is

-- the key of a source package that is named is the one that is named
named_key : (machine : Machine) (arch source : List ℕ) (key : Key) → key_of (record_named machine arch source) ≡ Some key → Some (arch, source) ≡ Some key
unfolding record_named
named_key machine arch source key is = by_found (map.get machine.records (arch, source)) is
  where
    by_found : (found : Option Record) → key_of (option_map (λ current. ((arch, source), current)) found) ≡ Some key → Some (arch, source) ≡ Some key
    by_found None is = cc
    by_found (Some current) is = is

-- a record with its key, or none
keyed : {X : Type 0} (key : Key) (put : X → Record) (found : Option X) (entry : Entry) → option_map (λ current. (key, put current)) found ≡ Some entry → Some key ≡ Some entry.0
keyed key put None entry is = cc
keyed key put (Some current) entry is = ap key_of is

unkeyed : {X : Type 0} (key : Key) (put : X → Record) (found : Option X) → option_map {U = Entry} (λ current. (key, put current)) found ≡ None → found ≡ None
unkeyed key put None is = refl
unkeyed key put (Some current) is = cc

no_key : {Q : Type 0} (key : Key) → None ≡ Some key → Q
no_key key is = cc

-- what is found by what is named has the key of what is put
found_key : (machine : Machine) (subject : Subject) (key : Key) → key_of (first_named machine subject) ≡ Some key → key_at subject (first_named machine subject) ≡ Some key
found_key machine Nothing key is = is
found_key machine (Source arch source) key is = named_key machine arch source key is
found_key machine (Taken take_number) key is = is
found_key machine (Head next) key is = is
found_key machine (Held builder) key is = is

-- the record that a command puts has the key of the command
pub put_key : (command : Command) (machine : Machine) (entry : Entry) → entry_put machine command ≡ Some entry → key_put machine command ≡ Some entry.0
put_key (of.AddArch fields) machine entry is = cc
put_key (of.AddBuilder fields) machine entry is = cc
put_key (of.RemoveArch fields) machine entry is = cc
put_key (of.RemoveBuilder fields) machine entry is = cc
put_key (of.Forget fields) machine entry is = cc
put_key (of.Enter fields) machine entry is = ap key_of is
put_key (of.BuildPriority fields) machine entry is =
    keyed (fields.arch, fields.source) (λ (current : Record). record current { build_priority = fields.value }) (map.get machine.records (fields.arch, fields.source)) entry is
put_key command machine entry is = found_key machine (subject_of command) entry.0 (target_key machine command entry is)

-- what a command moves has a record
target_there : (machine : Machine) (command : Command) (key : Key) → key_of (target_of machine command) ≡ Some key → IsSome (map.get machine.records key)
target_there machine command key is = by_target (target_of machine command) refl is
  where
    by_target : (target : Option Entry) → target_of machine command ≡ target → key_of target ≡ Some key → IsSome (map.get machine.records key)
    by_target None target_is none = cc
    by_target (Some entry) target_is some =
        let kept : map.get machine.records key ≡ Some entry.1 = ap (option_and_then (map.get machine.records)) (sym some) ∙ target_of-stands machine command entry target_is in
        subst (λ found. IsSome found) (sym kept) refl

-- so has what it moves afterwards
moved_there : (machine : Machine) (command : Command) (entry : Entry) → option_map moved (transition_of machine command) ≡ Some entry → IsSome (map.get machine.records entry.0)
moved_there machine command entry is = target_there machine command entry.0 (target_key machine command entry is)

-- a record at a key that is found is at that key
keyed_there : (machine : Machine) (key : Key) (put : Record → Record) (entry : Entry) → option_map (λ current. (key, put current)) (map.get machine.records key) ≡ Some entry
    → IsSome (map.get machine.records entry.0)
keyed_there machine key put entry is = by_found (map.get machine.records key) refl is
  where
    by_found : (found : Option Record) → map.get machine.records key ≡ found → option_map (λ current. (key, put current)) found ≡ Some entry → IsSome (map.get machine.records entry.0)
    by_found None found_is none = cc
    by_found (Some current) found_is some =
        let kept : map.get machine.records entry.0 ≡ Some current = ap (option_and_then (map.get machine.records)) (sym (ap key_of some)) ∙ found_is in
        subst (λ found. IsSome found) (sym kept) refl

-- the record that a command puts, other than one that it enters, is in place of one that is there
pub put_there : (command : Command) → ((fields : Enter) → command ≢ of.Enter fields) → (machine : Machine) (entry : Entry) → entry_put machine command ≡ Some entry
    → IsSome (map.get machine.records entry.0)
put_there (of.AddArch fields) no_enter machine entry is = cc
put_there (of.AddBuilder fields) no_enter machine entry is = cc
put_there (of.RemoveArch fields) no_enter machine entry is = cc
put_there (of.RemoveBuilder fields) no_enter machine entry is = cc
put_there (of.Forget fields) no_enter machine entry is = cc
put_there (of.Enter fields) no_enter machine entry is = absurd (no_enter fields refl)
put_there (of.BuildPriority fields) no_enter machine entry is =
    keyed_there machine (fields.arch, fields.source) (λ (current : Record). record current { build_priority = fields.value }) entry is
put_there command no_enter machine entry is = moved_there machine command entry is

-- a source package that is named has no record where none was found
no_record : (machine : Machine) (arch source : List ℕ) (key : Key) → Some (arch, source) ≡ Some key → record_named machine arch source ≡ None → map.get machine.records key ≡ None
unfolding record_named
no_record machine arch source key is none =
    ap (option_and_then (map.get machine.records)) (sym is) ∙ unkeyed (arch, source) (λ current. current) (map.get machine.records (arch, source)) none

-- where nothing is found, a key is put only of a source package that is named, and it has no record
not_found : (machine : Machine) (subject : Subject) (key : Key) → first_named machine subject ≡ None → key_at subject (first_named machine subject) ≡ Some key
    → (source_in subject None ≡ Some key) × (map.get machine.records key ≡ None)
not_found machine Nothing key none is = no_key key is
not_found machine (Source arch source) key none is = (is, no_record machine arch source key is none)
not_found machine (Taken take_number) key none is = no_key key (sym (ap key_of none) ∙ is)
not_found machine (Head next) key none is = no_key key (sym (ap key_of none) ∙ is)
not_found machine (Held builder) key none is = no_key key is

-- a command is not one that forgets a record
abbrev KeepsRecords : Command → Type 0
KeepsRecords command = (fields : Forget) → command ≢ of.Forget fields

-- if a command with a key puts no record, and forgets none, it names a source package that has none
pub nothing_put : (command : Command) → KeepsRecords command → (machine : Machine) (key : Key)
    → entry_put machine command ≡ None → key_put machine command ≡ Some key
    → (source_named command ≡ Some key) × (map.get machine.records key ≡ None)
nothing_put (of.AddArch fields) keeps machine key none is = no_key key is
nothing_put (of.AddBuilder fields) keeps machine key none is = no_key key is
nothing_put (of.RemoveArch fields) keeps machine key none is = no_key key is
nothing_put (of.RemoveBuilder fields) keeps machine key none is = no_key key is
nothing_put (of.Forget fields) keeps machine key none is = absurd (keeps fields refl)
nothing_put (of.Enter fields) keeps machine key none is = absurd (something none)
nothing_put (of.BuildPriority fields) keeps machine key none is =
    let found = unkeyed (fields.arch, fields.source) (λ (current : Record). record current { build_priority = fields.value }) (map.get machine.records (fields.arch, fields.source)) none in
    (is, ap (option_and_then (map.get machine.records)) (sym is) ∙ found)
nothing_put (of.Merge fields) keeps machine key none is = no_key key is
nothing_put (of.Report fields) keeps machine key none is = no_key key is
nothing_put command keeps machine key none is = not_found machine (subject_of command) key
    (no_target machine command (λ words. something) none) is

-- what is put at a key is found there
inserted : (records : map.FinMap pair_cmp Record) (key : Key) (current : Record) → map.get (map.insert records key current) key ≡ Some current
inserted records key current = map.get-insert pair_cmp_total records key current key ∙ ap (λ r. cond (is_eq r) (Some current) (map.get records key)) (tied_itself pair_cmp_total key)

-- ---- a step that is new

told : (x reply : Reply) (answer : Result Reply Refusal) → answer ≡ Ok x → answer ≡ Ok reply → reply ≡ x
told x reply answer one other = cc

new_outcome : (refusal : Option Refusal) (again : Option Entry) (machine : Machine) (command : Command) (reply : Reply) → IsFresh reply
    → (outcome refusal again machine command).0 ≡ Ok reply → (refusal ≡ None) × (again ≡ None)
new_outcome (Some refusal) again machine command reply fresh is = cc
new_outcome None (Some entry) machine command reply fresh is = absurd (fresh machine.accepted (assignment_of entry (take_of entry)) (told _ reply (outcome None (Some entry) machine command).0 refl is))
new_outcome None None machine command reply fresh is = (refl, refl)

-- a command that is answered anew is refused by no check, and is not told again
answered_anew : (machine : Machine) (command : Command) (reply : Reply) → IsFresh reply → (step machine command).0 ≡ Ok reply → (first_refusal machine command ≡ None) × (again_of machine command ≡ None)
unfolding step
answered_anew machine command reply fresh is = new_outcome (first_refusal machine command) (again_of machine command) machine command reply fresh is

-- it takes no record away
none_gone : (command : Command) → KeepsRecords command → key_gone command ≡ None
none_gone (of.Forget fields) keeps = absurd (keeps fields refl)
none_gone _ keeps = refl

module _ {whole after : Machine} {key : Option Key} (command : Command) (h : IsStepOf whole command key after) where
  part_answer : (step h.part command).0 ≡ Ok h.reply
  part_answer = ap (λ (o : Outcome). o.0) h.stepped

  whole_answer : (step whole command).0 ≡ Ok h.reply
  whole_answer = sym (same_answer command h.part whole h.alike) ∙ part_answer

  -- the part after the step
  part_is : after ≡ changed h.part command
  part_is =
      let anew = answered_anew h.part command h.reply h.fresh part_answer in
      sym (ap (λ (o : Outcome). o.1) h.stepped) ∙ steps_change command h.part h.alike.single anew.0 anew.1

  -- the whole office after the step
  whole_is : (step whole command).1 ≡ changed whole command
  whole_is =
      let anew = answered_anew whole command h.reply h.fresh whole_answer in
      steps_change command whole h.alike.single anew.0 anew.1

  -- the counts of the part are those of the whole office
  pub same_counts : record (before_counts command whole) { handed = after.handed; accepted = after.accepted } ≡ (step whole command).1
  same_counts =
      let handed : after.handed ≡ (step whole command).1.handed = ap (λ (m : Machine). m.handed) part_is ∙ ap (handed_after command) h.alike.handed ∙ sym (ap (λ (m : Machine). m.handed) whole_is) in
      let accepted : after.accepted ≡ (step whole command).1.accepted = ap (λ (m : Machine). m.accepted) part_is ∙ ap (λ n. n + 1) h.alike.accepted ∙ sym (ap (λ (m : Machine). m.accepted) whole_is) in
      λ i. record (step whole command).1 { handed = handed i; accepted = accepted i }

  -- what the command adds is not there before
  is_new : is_there_already whole command ≡ false
  is_new = (passes whole command (answered_anew whole command h.reply h.fresh whole_answer).0).there

  before_is : before_counts command whole ≡ record (changed whole command) { handed = whole.handed; accepted = whole.accepted }
  before_is i = record (whole_is i) { handed = whole.handed; accepted = whole.accepted }

  part_records : KeepsRecords command → after.records ≡ with_entry (entry_put whole command) h.part.records
  part_records keeps =
      ap (λ (m : Machine). m.records) part_is ∙ ap (λ gone.
      without_entry gone (with_entry (entry_put h.part command) h.part.records)) (none_gone command keeps)
      ∙ ap (λ put. with_entry put h.part.records) (same_entry command h.part whole h.alike)

  -- the part has the record that the command puts at its key
  found_is : KeepsRecords command → found_at after key ≡ entry_put whole command
  found_is keeps = by_cases (entry_put whole command) (key_put whole command) refl refl
    where
      by_cases : (put : Option Entry) (asked : Option Key) → entry_put whole command ≡ put → key_put whole command ≡ asked → found_at after key ≡ put
      by_cases (Some entry) asked put_is asked_is =
          let records : after.records ≡ map.insert h.part.records entry.0 entry.1 = part_records keeps
          ∙ ap (λ put. with_entry put h.part.records) put_is in
          ap (found_at after) (h.key_is ∙ put_key command whole entry put_is)
          ∙ ap (λ (found : Option Record). option_map (λ (current : Record). (entry.0, current)) found) (ap (λ (r : map.FinMap pair_cmp Record). map.get r entry.0) records ∙ inserted h.part.records entry.0 entry.1)
      by_cases None None put_is asked_is = ap (found_at after) (h.key_is ∙ asked_is)
      by_cases None (Some k) put_is asked_is =
          let records : after.records ≡ h.part.records = part_records keeps
          ∙ ap (λ put. with_entry put h.part.records) put_is in
          let nothing = nothing_put command keeps whole k put_is asked_is in
          ap (found_at after) (h.key_is ∙ asked_is)
          ∙ ap (λ (found : Option Record). option_map (λ (current : Record). (k, current)) found) (ap (λ (r : map.FinMap pair_cmp Record). map.get r k) records ∙ h.alike.source k nothing.0 ∙ nothing.1)

  -- a command other than `enter` and `forget` puts the record that the part has at its key in place of one that is
  -- there
  pub found_there : ((fields : Enter) → command ≢ of.Enter fields) → KeepsRecords command
      → IsThere whole (found_at after key)
  found_there no_enter keeps = by_found (found_at after key) refl
    where
      by_found : (found : Option Entry) → found_at after key ≡ found → IsThere whole found
      by_found None is = tt
      by_found (Some entry) is = put_there command no_enter whole entry (sym (found_is keeps) ∙ is)

absent : {X : Type 0} (found : Option X) → is_some found ≡ false → found ≡ None
absent None none = refl
absent (Some x) none = cc

module _ {whole after : Machine} {key : Option Key} where
  -- an architecture that is added is not there before, and nothing else is written
  pub adds_arch : (fields : AddArch) → IsStepOf whole (of.AddArch fields) key after
      → (map.get whole.archs fields.name ≡ None)
      × (record whole { archs = map.insert whole.archs fields.name (record { os = fields.os; cpu = fields.cpu }) } ≡ before_counts (of.AddArch fields) whole)
  adds_arch fields h = (absent (map.get whole.archs fields.name) (is_new (of.AddArch fields) h), sym (before_is (of.AddArch fields) h))

  -- a builder that is added is not there before, and nothing else is written
  pub adds_builder : (fields : AddBuilder) → IsStepOf whole (of.AddBuilder fields) key after
      → (set.contains whole.builders (fields.name, fields.arch) ≡ false)
      × (record whole { builders = set.insert whole.builders (fields.name, fields.arch) } ≡ before_counts (of.AddBuilder fields) whole)
  adds_builder fields h = (is_new (of.AddBuilder fields) h, sym (before_is (of.AddBuilder fields) h))

  -- nothing else is written where a builder is taken from an architecture
  pub removes_builder : (fields : RemoveBuilder) → IsStepOf whole (of.RemoveBuilder fields) key after
      → record whole { builders = set.remove whole.builders (fields.name, fields.arch) } ≡ before_counts
      (of.RemoveBuilder fields) whole
  removes_builder fields h = sym (before_is (of.RemoveBuilder fields) h)

  -- nothing else is written where a record is forgotten
  pub forgets : (fields : Forget) → IsStepOf whole (of.Forget fields) key after
      → record whole { records = map.remove whole.records (fields.arch, fields.source) } ≡ before_counts
      (of.Forget fields) whole
  forgets fields h = sym (before_is (of.Forget fields) h)

-- a command that adds neither and takes no builder away leaves the architectures and the builders
module _ (machine : Machine) where
  adds_neither : (command : Command) → ((fields : AddArch) → command ≢ of.AddArch fields) → ((fields : AddBuilder) → command ≢ of.AddBuilder fields)
      → ((fields : RemoveBuilder) → command ≢ of.RemoveBuilder fields)
      → (archs_after command machine.archs ≡ machine.archs) ×
      (builders_after command machine.builders ≡ machine.builders)
  adds_neither (of.AddArch fields) no_arch no_builder stays = absurd (no_arch fields refl)
  adds_neither (of.AddBuilder fields) no_arch no_builder stays = absurd (no_builder fields refl)
  adds_neither (of.RemoveBuilder fields) no_arch no_builder stays = absurd (stays fields refl)
  adds_neither _ no_arch no_builder stays = (refl, refl)

-- any other command puts the record that the part has at its key
pub puts : {whole after : Machine} {key : Option Key} (command : Command) → ((fields : AddArch) → command ≢ of.AddArch fields) → ((fields : AddBuilder) → command ≢ of.AddBuilder fields)
    → ((fields : RemoveBuilder) → command ≢ of.RemoveBuilder fields) → KeepsRecords command
    → IsStepOf whole command key after → record whole { records = with_entry (found_at after key) whole.records } ≡ before_counts command whole
puts {whole = whole} {after = after} {key = key} command no_arch no_builder stays keeps h =
    let neither = adds_neither whole command no_arch no_builder stays in
    (λ i. record whole {
      records = without_entry (sym (none_gone command keeps) i) (with_entry (found_is command h keeps i) whole.records);
      archs = sym neither.0 i;
      builders = sym neither.1 i;
    }) ∙ sym (before_is command h)
