-- What the commands that name a source package answer to their texts.
use Rattle.std.specs.Option.{option_or}
use Rattle.std.proofs.Common.{◌≡◌, ◌≢◌, ℕ, ◌||◌, Bool, true, false, List, Some, None, Ok, Err, refl, sym, ap, ◌∙◌, nat_eq, nat_lt, length, option_map, if◌then◌else◌, []}
use Rattle.std.specs.Result.{result_err, result_unwrap_or}
use Rattle.deb_version.specs.Syntax.{fault_of}
use Rattle.deb_relations.specs.declared.arch.ArchWords.{ArchWords}
use Rattle.deb_relations.specs.declared.relations.Alternative.{Alternative}
use Rattle.deb_relations.specs.Reading.{reading_of}
use Rattle.wb_states.specs.Forms.{GiveBack, DepWait, Rebuild}
use Rattle.wb_states.specs.declared.command.Command.TheVariants as of
use Rattle.wb_states.specs.declared.command.SetAside.{SetAside}
use Rattle.wb_states.specs.declared.moves.Move.TheVariants as to
use Rattle.wb_states.specs.declared.refusal.Refusal.{Refusal}
use Rattle.wb_states.specs.declared.refusal.Refusal.TheVariants.{BadName, BadVersion, BadRelations, BadNumber, TextTooLong, Memory}
use Rattle.wb_states.specs.Limits.{note_limit, rebuild_limit}
use Rattle.wb_states.specs.Machine.{Machine, arch_words}
use Rattle.wb_step.specs.Checks.{aside_refusal, when, relations_refusal, text_refusal, key_refusal}
use Rattle.wb_states.specs.Names.{has_bad_key}
use Rattle.wb_step.specs.Outcomes.{named_step}
use Rattle.wb_step.specs.Step.{step}
use Rattle.wb_step.proofs.NamedLemmas.{step-GiveBack, step-DepWait, step-Rebuild}
use Rattle.wb_step.proofs.StepLemmas.{step-text, two-None, two-Some, two-later}

pub give_back-refused : (machine : Machine) (arch source version : List ℕ) (refusal : Refusal) → key_refusal arch source version ≡ Some refusal
    → step machine (GiveBack arch source version) ≡ (Err refusal, machine)
unfolding text_refusal
give_back-refused machine arch source version refusal is =
    step-text machine (GiveBack arch source version) refusal (two-Some (when (has_bad_key arch source) BadName) (option_map BadVersion (fault_of version)) None refusal is)

pub give_back-is : (machine : Machine) (arch source version : List ℕ) → key_refusal arch source version ≡ None
    → step machine (GiveBack arch source version) ≡ named_step machine arch source version to.GiveBack
unfolding text_refusal
give_back-is machine arch source version is = step-GiveBack machine arch source version (two-None (when (has_bad_key arch source) BadName) (option_map BadVersion (fault_of version)) None is)

pub dep_wait-refused : (machine : Machine) (arch source version relations : List ℕ) (refusal : Refusal) → key_refusal arch source version ≡ Some refusal
    → step machine (DepWait arch source version relations) ≡ (Err refusal, machine)
unfolding text_refusal
dep_wait-refused machine arch source version relations refusal is =
    step-text machine (DepWait arch source version relations) refusal (two-Some (when (has_bad_key arch source) BadName) (option_map BadVersion (fault_of version)) (option_or (option_map (λ fault. BadRelations (Some fault)) (result_err (reading_of relations))) None) refusal is)

pub dep_wait-BadRelations : (machine : Machine) (arch source version relations : List ℕ) (later refusal : Refusal)
    → option_or (key_refusal arch source version) (Some later) ≡ Some refusal → relations_refusal relations ≡ Some later
    → step machine (DepWait arch source version relations) ≡ (Err refusal, machine)
unfolding text_refusal
dep_wait-BadRelations machine arch source version relations later refusal is bad =
    step-text machine (DepWait arch source version relations) refusal (two-later (when (has_bad_key arch source) BadName) (option_map BadVersion (fault_of version)) (option_or (option_map (λ fault. BadRelations (Some fault)) (result_err (reading_of relations))) None) later refusal is
    (ap (λ first. option_or first None) bad))

-- the same where the relations may be refused for want of memory, which is never told of a key that is refused
pub dep_wait-either : (machine : Machine) (arch source version relations : List ℕ) (later refusal : Refusal)
    → option_or (key_refusal arch source version) (Some later) ≡ Some refusal → (later ≢ Memory → relations_refusal relations ≡ Some later) → refusal ≢ Memory
    → step machine (DepWait arch source version relations) ≡ (Err refusal, machine)
dep_wait-either machine arch source version relations later refusal is bad differs =
    (elim (key_refusal arch source version) as (λ key. key_refusal arch source version ≡ key → option_or key (Some later) ≡ Some refusal
    → step machine (DepWait arch source version relations) ≡ (Err refusal, machine)) [
      | None ↦ λ good same.
          let one : later ≡ refusal = only later refusal same in
          dep_wait-BadRelations machine arch source version relations later refusal is (bad (λ none. differs (sym one ∙ none)))
      | Some first ↦ λ refused same. dep_wait-refused machine arch source version relations refusal (refused ∙ same)
    ]) refl is
  where
    only : (x y : Refusal) → Some x ≡ Some y → x ≡ y
    only x y e = cc

pub dep_wait-is : (machine : Machine) (arch source version relations : List ℕ) (groups : List (List Alternative)) (words : ArchWords) → key_refusal arch source version ≡ None
    → reading_of relations ≡ Ok groups → words ≡ arch_words machine arch
    → step machine (DepWait arch source version relations) ≡ named_step machine arch source version (to.DepWait groups words)
unfolding text_refusal
dep_wait-is machine arch source version relations groups words is reads named =
    step-DepWait machine arch source version relations (two-None (when (has_bad_key arch source) BadName) (option_map BadVersion (fault_of version)) (option_or (option_map (λ fault. BadRelations (Some fault)) (result_err (reading_of relations))) None) is
    ∙ ap (λ reading. option_or (option_map (λ fault. BadRelations (Some fault)) (result_err reading)) None) reads)
    ∙ (λ i. named_step machine arch source version (to.DepWait (result_unwrap_or (reads i) []) (sym named i)))

-- the two commands that set a source package aside are refused for their texts alike
pub aside-Fail : (fields : SetAside) → text_refusal (of.Fail fields) ≡ aside_refusal fields.arch fields.source fields.version fields.note
unfolding text_refusal
aside-Fail fields = refl

pub aside-NotForUs : (fields : SetAside) → text_refusal (of.NotForUs fields) ≡ aside_refusal fields.arch fields.source fields.version fields.note
unfolding text_refusal
aside-NotForUs fields = refl

pub aside-refused : (arch source version note : List ℕ) (refusal : Refusal) → key_refusal arch source version ≡ Some refusal
    → aside_refusal arch source version note ≡ Some refusal
aside-refused arch source version note refusal is =
    two-Some (when (has_bad_key arch source) BadName) (option_map BadVersion (fault_of version)) (option_or (when (nat_lt note_limit (length note)) TextTooLong) None) refusal is

pub aside-long : (arch source version note : List ℕ) (refusal : Refusal)
    → option_or (key_refusal arch source version) (Some TextTooLong) ≡ Some refusal → nat_lt note_limit (length note) ≡ true
    → aside_refusal arch source version note ≡ Some refusal
aside-long arch source version note refusal is long =
    two-later (when (has_bad_key arch source) BadName) (option_map BadVersion (fault_of version)) (option_or (when (nat_lt note_limit (length note)) TextTooLong) None) TextTooLong refusal is
    (ap (λ b. option_or (when b TextTooLong) None) long)

pub aside-None : (arch source version note : List ℕ) → key_refusal arch source version ≡ None → nat_lt note_limit (length note) ≡ false
    → aside_refusal arch source version note ≡ None
aside-None arch source version note is short =
    two-None (when (has_bad_key arch source) BadName) (option_map BadVersion (fault_of version)) (option_or (when (nat_lt note_limit (length note)) TextTooLong) None) is
    ∙ ap (λ b. option_or (when b TextTooLong) None) short

pub rebuild-refused : (machine : Machine) (arch source version : List ℕ) (number : ℕ) (message : List ℕ) (refusal : Refusal) → key_refusal arch source version ≡ Some refusal
    → step machine (Rebuild arch source version number message) ≡ (Err refusal, machine)
unfolding text_refusal
rebuild-refused machine arch source version number message refusal is =
    step-text machine (Rebuild arch source version number message) refusal (two-Some (when (has_bad_key arch source) BadName) (option_map BadVersion (fault_of version)) (option_or (when (nat_eq number 0 || nat_lt rebuild_limit number) BadNumber) (option_or (when (nat_lt note_limit (length message)) TextTooLong) None)) refusal is)

pub rebuild-BadNumber : (machine : Machine) (arch source version : List ℕ) (number : ℕ) (message : List ℕ) (refusal : Refusal)
    → option_or (key_refusal arch source version) (Some BadNumber) ≡ Some refusal
    → None ≡ (if nat_eq number 0 || nat_lt rebuild_limit number then None else Some number)
    → step machine (Rebuild arch source version number message) ≡ (Err refusal, machine)
unfolding text_refusal
rebuild-BadNumber machine arch source version number message refusal is none =
    step-text machine (Rebuild arch source version number message) refusal (two-later (when (has_bad_key arch source) BadName) (option_map BadVersion (fault_of version)) (option_or (when (nat_eq number 0 || nat_lt rebuild_limit number) BadNumber) (option_or (when (nat_lt note_limit (length message)) TextTooLong) None)) BadNumber refusal is
    (ap (λ b. option_or (when b BadNumber) (option_or (when (nat_lt note_limit (length message)) TextTooLong) None)) (bad (nat_eq number 0 || nat_lt rebuild_limit number) none)))
  where
    bad : (b : Bool) → None ≡ (if b then None else Some number) → b ≡ true
    bad true e = refl
    bad false e = cc

pub numbered : (number kept : ℕ) (b : Bool) → Some kept ≡ (if b then None else Some number) → (b ≡ false) × (kept ≡ number)
numbered number kept true e = cc
numbered number kept false e = (refl, only kept number e) where
  only : (x y : ℕ) → Some x ≡ Some y → x ≡ y
  only x y e = cc

pub rebuild-long : (machine : Machine) (arch source version : List ℕ) (number : ℕ) (message : List ℕ) (refusal : Refusal)
    → option_or (key_refusal arch source version) (Some TextTooLong) ≡ Some refusal
    → (nat_eq number 0 || nat_lt rebuild_limit number) ≡ false → nat_lt note_limit (length message) ≡ true
    → step machine (Rebuild arch source version number message) ≡ (Err refusal, machine)
unfolding text_refusal
rebuild-long machine arch source version number message refusal is good long =
    step-text machine (Rebuild arch source version number message) refusal (two-later (when (has_bad_key arch source) BadName) (option_map BadVersion (fault_of version)) (option_or (when (nat_eq number 0 || nat_lt rebuild_limit number) BadNumber) (option_or (when (nat_lt note_limit (length message)) TextTooLong) None)) TextTooLong refusal is
    (λ i. option_or (when (good i) BadNumber) (option_or (when (long i) TextTooLong) None)))

pub rebuild-is : (machine : Machine) (arch source version : List ℕ) (number : ℕ) (message : List ℕ) (kept : ℕ) (own : List ℕ) → key_refusal arch source version ≡ None
    → (nat_eq number 0 || nat_lt rebuild_limit number) ≡ false → nat_lt note_limit (length message) ≡ false → kept ≡ number → own ≡ message
    → step machine (Rebuild arch source version number message) ≡ named_step machine arch source version (to.Rebuild kept own)
unfolding text_refusal
rebuild-is machine arch source version number message kept own is good long same told =
    step-Rebuild machine arch source version number message (two-None (when (has_bad_key arch source) BadName) (option_map BadVersion (fault_of version)) (option_or (when (nat_eq number 0 || nat_lt rebuild_limit number) BadNumber) (option_or (when (nat_lt note_limit (length message)) TextTooLong) None)) is
    ∙ (λ i. option_or (when (good i) BadNumber) (option_or (when (long i) TextTooLong) None)))
    ∙ (λ i. named_step machine arch source version (to.Rebuild (sym same i) (sym told i)))
