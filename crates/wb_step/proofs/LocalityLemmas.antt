-- What a command looks at decides its answer and its change.
use Rattle.std.proofs.Common.{◌≡◌, ◌≢◌, ◌∙◌, refl, sym, ap, ap₂, ℕ, ℤ, ◌+◌, Bool, not, ◌||◌, ◌&&◌, nat_le, nat_lt, is_some, List, [], ◌∷◌, Option, Some, None, Ok, Err, is_none, Result}
use Rattle.std.specs.Prelude.{unwrap_or}
use Rattle.wb_states.specs.declared.moves.Move.TheVariants as to
use Rattle.deb_relations.specs.declared.arch.ArchWords.{ArchWords}
use Rattle.wb_states.specs.Machine.{with_words}
use Rattle.wb_states.specs.declared.refusal.Refusal.TheVariants.{UnknownArch, UnknownBuilder, WrongArch, AfterAhead}
use Rattle.wb_states.specs.declared.refusal.Refusal.TheVariants.{NotHeld, UnknownSource, QueueEmpty, AlreadyThere}
use Rattle.wb_states.specs.declared.refusal.Refusal.TheVariants.{StillHeld, Spent}
use Rattle.wb_states.specs.declared.reply.Reply.TheVariants.{Done, Job, Again}
use Rattle.wb_states.specs.Holds.{take_of}
use Rattle.wb_step.specs.Checks.{when, differing}
use Rattle.wb_step.specs.Step.{assignment_of, assignment_reply}
use Rattle.std.specs.Option.{option_map, option_or}
use Rattle.std.specs.Prelude.{option_and_then, filter}
use Rattle.std.specs.FinMap as map
use Rattle.deb_text.specs.Lists.{is_nonempty}
use Rattle.deb_text.specs.Options.{has_value, first_some}
use Rattle.wb_states.specs.declared.command.Command.{Command}
use Rattle.wb_states.specs.declared.command.Command.TheVariants as of
use Rattle.wb_states.specs.declared.command.Next.{Next}
use Rattle.wb_states.specs.declared.moves.Move.{Move}
use Rattle.wb_states.specs.declared.record.Record.{Record}
use Rattle.wb_states.specs.declared.refusal.Refusal.{Refusal}
use Rattle.wb_states.specs.declared.reply.Reply.{Reply}
use Rattle.wb_states.specs.Limits.{count_limit}
use Rattle.wb_states.specs.Holds.{taken_as}
use Rattle.wb_states.specs.Machine.{Machine, Key, archs_of, arch_words}
use Rattle.wb_states.specs.Moves.{move_refusal}
use Rattle.wb_states.specs.Queue.{Entry, head_of}
use Rattle.wb_states.specs.Subject.{Subject, Nothing, Source, Taken, Head, Held, subject_of}
use Rattle.wb_step.specs.Arguments.{Addition, Removal, OfArch, Import, Lists, Lines, arguments_of}
use Rattle.wb_step.specs.Checks.{builder_named, first_refusal, state_refusal, text_refusal, lacks_arch, merge_refusal}
use Rattle.wb_step.specs.Checks.{lacks_builder, is_for_other_archs, is_ahead, is_not_held, lacks_source, lists_refusal}
use Rattle.wb_step.specs.Checks.{other_version, refused_move, has_empty_queue, has_full_count, is_spent, is_for_others}
use Rattle.wb_step.specs.Checks.{is_unknown_source, other_version_at, source_in, source_named, take_in, take_named}
use Rattle.wb_states.specs.Machine.{is_unknown_arch, is_unknown_builder}
use Rattle.wb_step.specs.Parts.{parts_refusal}
use Rattle.wb_step.specs.Targets.{again_of, first_named, next_in, next_named, target_of, transition_of, record_named, with_move, move_of_command}
use Rattle.wb_step.specs.Step.{step, outcome, reply_by, reply_to, state_after, counted, after_move, after_take, after_priority}
use Rattle.wb_step.specs.Locality.{IsSingle, LooksAlike, moved, entry_by, entry_put, prioritized, with_entry, changed}

-- two functions of a value that may be missing agree if they do where it is there
where_there : {X Y : Type 0} (f g : Option X → Y) (value : Option X) → f None ≡ g None → ((x : X) → value ≡ Some x → f (Some x) ≡ g (Some x)) → f value ≡ g value
where_there f g None none some = none
where_there f g (Some x) none some = some x refl

module _ (command : Command) (one other : Machine) (alike : LooksAlike command one other) where
  spoken : (a : Machine → List ℕ → Bool) → ((name : List ℕ) → a one name ≡ a other name) → (value : Option (List ℕ)) → has_value (a one) value ≡ has_value (a other) value
  spoken a same value i = has_value (λ name. same name i) value

  same_unknown : (arch : List ℕ) → is_unknown_arch one arch ≡ is_unknown_arch other arch
  same_unknown arch i = not (map.contains_key (alike.archs i) arch)

  same_arch : lacks_arch one command ≡ lacks_arch other command
  same_arch i = has_value (λ arch. same_unknown arch i) (arguments_of command).arch

  same_merge : merge_refusal one command ≡ merge_refusal other command
  same_merge =
      ap (option_and_then (lists_refusal one)) alike.single.imports
      ∙ sym (ap (option_and_then (lists_refusal other)) alike.single.imports)

  same_archs_of : (name : List ℕ) → builder_named command ≡ Some name → archs_of one name ≡ archs_of other name
  same_archs_of name is i = filter (λ arch. alike.builder name arch is i) (map.keys (alike.archs i))

  same_builder : lacks_builder one command ≡ lacks_builder other command
  same_builder =
      where_there (has_value (is_unknown_builder one)) (has_value (is_unknown_builder other)) (builder_named command)
      refl
      (λ name is. ap (λ archs. not (is_nonempty archs)) (same_archs_of name is))

  same_others : is_for_other_archs one command ≡ is_for_other_archs other command
  same_others =
      where_there (λ builder. has_value (λ arch. has_value (is_for_others one arch) builder) (arguments_of command).arch)
      (λ builder. has_value (λ arch. has_value (is_for_others other arch) builder) (arguments_of command).arch)
      (builder_named command) refl
      (λ name is i. has_value (λ arch. not (alike.builder name arch is i)) (arguments_of command).arch)

  same_ahead : is_ahead one command ≡ is_ahead other command
  same_ahead i = has_value (λ (next : Next). has_value (nat_lt (alike.handed i)) next.after) (next_named command)

  same_held : is_not_held one command ≡ is_not_held other command
  same_held =
      where_there (has_value (λ t. is_none (taken_as one t))) (has_value (λ t. is_none (taken_as other t))) (take_named command) refl
      (λ t is. ap is_none (alike.taken t is))

  same_source : lacks_source one command ≡ lacks_source other command
  same_source =
      where_there (has_value (is_unknown_source one)) (has_value (is_unknown_source other)) (source_named command) refl
      (λ key is. ap (λ (found : Option Record). not (is_some found)) (alike.source key is))

  same_version : other_version one command ≡ other_version other command
  same_version =
      where_there (λ key. option_and_then (λ version. option_and_then (λ k. other_version_at one k version) key) (arguments_of command).version)
      (λ key. option_and_then (λ version. option_and_then (λ k. other_version_at other k version) key) (arguments_of command).version) (source_named command) refl
      (λ key is i. option_and_then (λ version. option_and_then (differing version) (alike.source key is i)) (arguments_of command).version)

  same_named : (arch source : List ℕ) → source_named command ≡ Some (arch, source) → record_named one arch source ≡ record_named other arch source
  unfolding record_named
  same_named arch source is = ap (option_map (λ (current : Record). ((arch, source), current))) (alike.source (arch, source) is)

  same_words : (arch : List ℕ) → arch_words one arch ≡ arch_words other arch
  unfolding arch_words
  same_words arch i = with_words arch (unwrap_or (map.get (alike.archs i) arch) (record { os = []; cpu = [] }))

  same_spent : is_none (again_of one command) ≡ is_none (again_of other command)
  same_spent = ap is_none alike.again

  same_empty : has_empty_queue one command ≡ has_empty_queue other command
  same_empty =
      where_there (has_value (λ (next : Next). is_none (again_of one command) && is_none (head_of one next.arch)))
      (has_value (λ (next : Next). is_none (again_of other command) && is_none (head_of other next.arch))) (next_named command) refl
      (λ next is i. is_none (alike.again i) && is_none (alike.head next is i))

-- the record by which what a command names is found, unless the command adds it
same_first : (command : Command) (one other : Machine) → LooksAlike command one other → (subject : Subject) → subject_of command ≡ subject → (arguments_of command).adds ≡ None
    → first_named one subject ≡ first_named other subject
same_first command one other alike Nothing is none = refl
same_first command one other alike (Source arch source) is none = same_named command one other alike arch source (λ i. source_in (is i) (none i))
same_first command one other alike (Taken take_number) is none = alike.taken take_number (ap take_in is)
same_first command one other alike (Head next) is none = alike.head next (ap next_in is)
same_first command one other alike (Held builder) is none = refl

same_target : (command : Command) (one other : Machine) → LooksAlike command one other → target_of one command ≡ target_of other command
same_target (of.AddArch fields) one other alike = refl
same_target (of.AddBuilder fields) one other alike = refl
same_target (of.RemoveArch fields) one other alike = refl
same_target (of.RemoveBuilder fields) one other alike = refl
same_target (of.Enter fields) one other alike = refl
same_target (of.BuildPriority fields) one other alike = refl
same_target (of.Forget fields) one other alike = refl
same_target (of.Merge fields) one other alike = refl
same_target (of.Report fields) one other alike = refl
same_target command one other alike = same_first command one other alike (subject_of command) refl refl

same_move : (command : Command) (one other : Machine) → LooksAlike command one other → (words : ArchWords) → move_of_command one command words ≡ move_of_command other command words
same_move (of.Next fields) one other alike words = ap (λ n. Some (to.Take fields.builder (n + 1))) alike.handed
same_move (of.Take fields) one other alike words = ap (λ n. Some (to.Take fields.builder (n + 1))) alike.handed
same_move _ one other alike words = refl

same_with_move : (command : Command) (one other : Machine) → LooksAlike command one other → (entry : Entry) → with_move one command entry ≡ with_move other command entry
same_with_move command one other alike entry =
    ap (option_map (λ (move : Move). (entry, move))) (same_move command one other alike (arch_words one entry.0.0) ∙ ap (move_of_command other command) (same_words command one other alike entry.0.0))

pub same_transition : (command : Command) (one other : Machine) → LooksAlike command one other → transition_of one command ≡ transition_of other command
unfolding transition_of
same_transition command one other alike i = option_and_then (λ entry. same_with_move command one other alike entry i) (same_target command one other alike i)

same_refused : (command : Command) (one other : Machine) → LooksAlike command one other → refused_move one command ≡ refused_move other command
same_refused command one other alike = ap (option_and_then (λ (asked : Entry × Move). move_refusal asked.1 asked.0.1)) (same_transition command one other alike)

same_full : (builder : Option (List ℕ)) (one other : Machine) → one.accepted ≡ other.accepted → one.handed ≡ other.handed → has_full_count one builder ≡ has_full_count other builder
same_full None one other accepted handed = ap (nat_le count_limit) accepted
same_full (Some builder) one other accepted handed = λ i. nat_le count_limit (accepted i) || nat_le count_limit (handed i)

same_limit : (command : Command) (one other : Machine) → LooksAlike command one other → is_spent one command ≡ is_spent other command
same_limit command one other alike i =
    is_none (alike.again i) && same_full (arguments_of command).builder one other alike.accepted alike.handed i

pub same_refusal : (command : Command) (one other : Machine) → LooksAlike command one other → first_refusal one command ≡ first_refusal other command
unfolding first_refusal state_refusal
same_refusal command one other alike i = option_or (text_refusal command) (first_some (
    when (same_arch command one other alike i) UnknownArch
    ∷ same_merge command one other alike i
    ∷ when (same_builder command one other alike i) UnknownBuilder
    ∷ when (same_others command one other alike i) WrongArch
    ∷ when (same_ahead command one other alike i) (AfterAhead (alike.handed i))
    ∷ when (same_held command one other alike i) NotHeld
    ∷ when (same_source command one other alike i) UnknownSource
    ∷ same_version command one other alike i
    ∷ same_refused command one other alike i
    ∷ when (same_empty command one other alike i) QueueEmpty
    ∷ when (alike.there i) AlreadyThere
    ∷ when (alike.held i) StillHeld
    ∷ when (same_limit command one other alike i) Spent
    ∷ []))

-- the reply with the assignment of a record
abbrev assignment_of_target : ℕ → ℕ → Option Entry → Reply
assignment_of_target accepted handed None = Done (accepted + 1)
assignment_of_target accepted handed (Some entry) = Job (accepted + 1) (assignment_of entry (handed + 1))

assigned : (machine : Machine) (found : Option Entry) → assignment_reply machine found ≡ assignment_of_target machine.accepted machine.handed found
assigned machine None = refl
assigned machine (Some entry) = refl

no_import : (imported : Import) → Some imported ≢ None
no_import imported e = cc

-- the reply to a command that imports nothing
same_answered : (command : Command) (builder : Option (List ℕ)) (one other : Machine) → LooksAlike command one other → reply_by one command None builder ≡ reply_by other command None builder
same_answered command None one other alike = ap (λ n. Done (n + 1)) alike.accepted
same_answered command (Some builder) one other alike =
    assigned one _ ∙ (λ i. assignment_of_target (alike.accepted i) (alike.handed i) (same_target command one other alike i)) ∙ sym (assigned other _)

same_reply : (command : Command) (one other : Machine) → LooksAlike command one other → reply_to one command ≡ reply_to other command
same_reply command one other alike =
    ap (λ imports. reply_by one command imports (arguments_of command).builder) alike.single.imports
    ∙ same_answered command (arguments_of command).builder one other alike
    ∙ sym (ap (λ imports. reply_by other command imports (arguments_of command).builder) alike.single.imports)

-- what is answered, without the state after it
abbrev answered : Option Refusal → Option Entry → ℕ → Reply → Result Reply Refusal
answered (Some refusal) again accepted reply = Err refusal
answered None (Some entry) accepted reply = Ok (Again accepted (assignment_of entry (take_of entry)))
answered None None accepted reply = Ok reply

answered_as : (refusal : Option Refusal) (again : Option Entry) (machine : Machine) (command : Command) → (outcome refusal again machine command).0 ≡ answered refusal again machine.accepted (reply_to machine command)
answered_as (Some refusal) again machine command = refl
answered_as None (Some entry) machine command = refl
answered_as None None machine command = refl

pub same_answer : (command : Command) (one other : Machine) → LooksAlike command one other → (step one command).0 ≡ (step other command).0
unfolding step
same_answer command one other alike =
    answered_as (first_refusal one command) (again_of one command) one command
    ∙ (λ i. answered (same_refusal command one other alike i) (alike.again i) (alike.accepted i) (same_reply command one other alike i))
    ∙ sym (answered_as (first_refusal other command) (again_of other command) other command)

same_entry_by : (command : Command) (added : Option Addition) (removed : Option Removal) (value : Option ℤ)
    (one other : Machine) → LooksAlike command one other
    → entry_by one command added removed value ≡ entry_by other command added removed value
same_entry_by command (Some added) removed value one other alike = refl
same_entry_by command None (Some removed) value one other alike = refl
same_entry_by command None None (Some value) one other alike =
    where_there (option_and_then (prioritized one value)) (option_and_then (prioritized other value)) (source_named command) refl
    (λ key is. ap (option_map (λ (current : Record). (key, record current { build_priority = value }))) (alike.source key is))
same_entry_by command None None None one other alike = ap (option_map moved) (same_transition command one other alike)

pub same_entry : (command : Command) (one other : Machine) → LooksAlike command one other → entry_put one command ≡ entry_put other command
same_entry command one other alike = same_entry_by command (arguments_of command).adds (arguments_of command).removes
    (arguments_of command).build_priority one other alike

by_move : (machine : Machine) (asked : Option (Entry × Move)) → after_move machine asked ≡ record machine { records = with_entry (option_map moved asked) machine.records }
by_move machine None = refl
by_move machine (Some asked) = refl

by_priority : (machine : Machine) (key : Key) (value : ℤ) (found : Option Record)
    → after_priority machine key value found ≡ record machine { records = with_entry (option_map (λ current. (key, record current { build_priority = value })) found) machine.records }
by_priority machine key value None = refl
by_priority machine key value (Some current) = refl

counted_move : (machine : Machine) (asked : Option (Entry × Move)) → counted machine (after_move machine asked) ≡ record machine { records = with_entry (option_map moved asked) machine.records; accepted = machine.accepted + 1 }
counted_move machine asked = ap (counted machine) (by_move machine asked)

counted_take : (machine : Machine) (asked : Option (Entry × Move))
    → counted machine (after_take machine asked) ≡ record machine { records = with_entry (option_map moved asked) machine.records; handed = machine.handed + 1; accepted = machine.accepted + 1 }
counted_take machine asked = ap (λ (after : Machine). counted machine (record after { handed = machine.handed + 1 })) (by_move machine asked)

no_removal : (name : List ℕ) → Some name ≢ None
no_removal name e = cc

as_changed : (command : Command) (machine : Machine) → IsSingle command
    → counted machine (state_after machine command) ≡ changed machine command
as_changed (of.AddArch fields) machine single = refl
as_changed (of.AddBuilder fields) machine single = refl
as_changed (of.RemoveArch fields) machine single = absurd (no_removal fields.name single.keeps)
as_changed (of.RemoveBuilder fields) machine single = refl
as_changed (of.Forget fields) machine single = refl
as_changed (of.Enter fields) machine single = refl
as_changed (of.Next fields) machine single = counted_take machine (transition_of machine (of.Next fields))
as_changed (of.Take fields) machine single = counted_take machine (transition_of machine (of.Take fields))
as_changed (of.BuildPriority fields) machine single = ap (counted machine) (by_priority machine (fields.arch, fields.source) fields.value (map.get machine.records (fields.arch, fields.source)))
as_changed (of.Merge fields) machine single = absurd (no_import (Lists fields) single.imports)
as_changed (of.Report fields) machine single = absurd (no_import (Lines fields) single.imports)
as_changed command machine single = counted_move machine (transition_of machine command)

-- a command that is accepted, is not told again, imports nothing and takes no architecture away makes this change
pub steps_change : (command : Command) (machine : Machine) → IsSingle command → first_refusal machine command ≡ None
    → again_of machine command ≡ None
    → (step machine command).1 ≡ changed machine command
unfolding step
steps_change command machine single none fresh = ap₂ (λ refusal again. (outcome refusal again machine command).1) none fresh ∙ as_changed command machine single
