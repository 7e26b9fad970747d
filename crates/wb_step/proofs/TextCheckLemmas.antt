-- What a check of a command's texts says, from what its parts say.
use Rattle.std.specs.Option.{option_or}
use Rattle.std.proofs.Common.{◌≡◌, ◌||◌, Bool, true, false, [], ◌∷◌, Option, Some, None, Result, Ok, Err, IfErr, OnOk}
use Rattle.std.proofs.Common.{nat_lt, length, not, option_map, refl, sym, ap, subst, ◌∙◌}
use Rattle.deb_text.specs.Options.{first_some}
use Rattle.wb_states.specs.declared.command.Command.{Command}
use Rattle.wb_states.specs.declared.command.Command.TheVariants as of
use Rattle.wb_states.specs.declared.command.AddArch.{AddArch}
use Rattle.wb_states.specs.declared.command.AddBuilder.{AddBuilder}
use Rattle.wb_states.specs.declared.command.DepWait.{DepWait}
use Rattle.wb_states.specs.declared.command.Enter.{Enter}
use Rattle.wb_states.specs.declared.command.Forget.{Forget}
use Rattle.wb_states.specs.declared.command.GiveBack.{GiveBack}
use Rattle.wb_states.specs.declared.command.Held.{Held}
use Rattle.wb_states.specs.declared.command.Next.{Next}
use Rattle.wb_states.specs.declared.command.Take.{Take}
use Rattle.wb_states.specs.declared.command.Waits.{Waits}
use Rattle.wb_states.specs.declared.command.Attempted.{Attempted}
use Rattle.wb_states.specs.declared.command.Rebuild.{Rebuild}
use Rattle.wb_states.specs.declared.command.BuildPriority.{BuildPriority}
use Rattle.wb_states.specs.declared.command.Merge.{Merge}
use Rattle.wb_states.specs.declared.command.RemoveArch.{RemoveArch}
use Rattle.wb_states.specs.declared.command.RemoveBuilder.{RemoveBuilder}
use Rattle.wb_states.specs.declared.command.SetAside.{SetAside}
use Rattle.wb_states.specs.declared.refusal.Refusal.{Refusal}
use Rattle.wb_states.specs.declared.refusal.Refusal.TheVariants.{BadName, BadNumber, BadRelations, Memory, RepeatedArch, TextTooLong}
use Rattle.wb_states.specs.Limits.{relations_limit}
use Rattle.wb_states.specs.Refusals.{IsOfMachine}
use Rattle.wb_step.specs.Checks.{aside_refusal, has_bad_arch, has_bad_builder, has_bad_entry, has_bad_part, has_bad_request, has_bad_take, has_long_relations, has_repeated_arch, is_bad_number, is_bad_priority, is_long_text, key_refusal, relations_fault, relations_refusal, text_refusal, version_refusal, when}
use Rattle.wb_states.specs.Names.{has_bad_key, is_arch_name}
use Rattle.wb_step.specs.TextChecks.{ChecksTexts, Tells}
use Rattle.wb_step.proofs.WantLemmas.{key-wanted, want-DepWait, want-text, want-Waits}

or_none : (one : Option Refusal) → option_or one None ≡ one
or_none (Some refusal) = refl
or_none None = refl

-- a check after two, and two after two
after_two : (a b c : Option Refusal) → option_or (first_some (a ∷ b ∷ [])) c ≡ first_some (a ∷ b ∷ c ∷ [])
after_two (Some refusal) b c = refl
after_two None (Some refusal) c = refl
after_two None None c = sym (or_none c)

after_three : (a b c d : Option Refusal) → option_or (option_or (first_some (a ∷ b ∷ [])) c) d ≡ first_some (a ∷ b ∷ c ∷ d ∷ [])
after_three (Some refusal) b c d = refl
after_three None (Some refusal) c d = refl
after_three None None (Some refusal) d = refl
after_three None None None d = sym (or_none d)

-- checks of which the first two, or the third, say nothing
two_none : (a b c : Option Refusal) → first_some (a ∷ b ∷ []) ≡ None → c ≡ None → first_some (a ∷ b ∷ c ∷ []) ≡ None
two_none a b c two third = sym (after_two a b c) ∙ (λ i. option_or (two i) (third i))

-- what the first two refuse
two_refuse : (a b c : Option Refusal) (refusal : Refusal) → first_some (a ∷ b ∷ []) ≡ Some refusal → first_some (a ∷ b ∷ c ∷ []) ≡ Some refusal
two_refuse a b c refusal two = sym (after_two a b c) ∙ ap (λ first. option_or first c) two

-- ---- what is said of a command

-- nothing is wrong
pub tells_nothing : Tells None (Ok (tt {0}))
tells_nothing = record { ok = refl; refused = tt; memory = tt }

-- the parts say the first refusal of the texts of a command that brings no relations that are too long
pub told : {X : Type 0} {first : Option Refusal} (command : Command) (r : Result X Refusal) → Tells first r → first ≡ text_refusal command → has_long_relations command ≡ false → ChecksTexts command r
told command (Ok x) tells is short = record { ok = sym is ∙ tells.ok; passed = want-text command (sym is ∙ tells.ok) short; refused = tt; memory = tt }
told command (Err refusal) tells is short = record {
  ok = tt;
  passed = tt;
  refused = λ other. sym is ∙ tells.refused other;
  memory = λ none. want-text command (sym is ∙ tells.memory none) short;
}

pub told_as : {X : Type 0} {first : Option Refusal} {command other : Command} (r : Result X Refusal) → command ≡ other → Tells first r → first ≡ text_refusal other
    → has_long_relations other ≡ false → ChecksTexts command r
told_as r is tells same short = subst (λ command. ChecksTexts command r) (sym is) (told _ r tells same short)

-- ---- the first refusal of the texts of each command

pub text-AddArch : (fields : AddArch) → when (has_bad_arch fields.name fields.os fields.cpu) BadName ≡ text_refusal (of.AddArch fields)
unfolding text_refusal
text-AddArch fields = sym (or_none _)

pub text-AddBuilder : (fields : AddBuilder) → when (has_bad_builder fields.name fields.arch) BadName ≡ text_refusal (of.AddBuilder fields)
unfolding text_refusal
text-AddBuilder fields = sym (or_none _)

pub text-RemoveArch : (fields : RemoveArch) → when (not (is_arch_name fields.name)) BadName ≡ text_refusal
    (of.RemoveArch fields)
unfolding text_refusal
text-RemoveArch fields = sym (or_none _)

pub text-RemoveBuilder : (fields : RemoveBuilder) → when (has_bad_builder fields.name fields.arch) BadName ≡
    text_refusal (of.RemoveBuilder fields)
unfolding text_refusal
text-RemoveBuilder fields = sym (or_none _)

pub text-Forget : (fields : Forget) → key_refusal fields.arch fields.source fields.version ≡ text_refusal
    (of.Forget fields)
unfolding text_refusal
text-Forget fields = refl

pub text-Enter : (fields : Enter) → first_some (when (has_bad_entry fields.arch fields.source fields.priority fields.section) BadName ∷ version_refusal fields.version ∷ []) ≡ text_refusal (of.Enter fields)
unfolding text_refusal
text-Enter fields = refl

pub text-Take : (fields : Take) → first_some (when (has_bad_take fields.arch fields.builder fields.source) BadName ∷ version_refusal fields.version ∷ []) ≡ text_refusal (of.Take fields)
unfolding text_refusal
text-Take fields = refl

pub text-GiveBack : (fields : GiveBack) → key_refusal fields.arch fields.source fields.version ≡ text_refusal (of.GiveBack fields)
unfolding text_refusal
text-GiveBack fields = refl

pub text-Next : (fields : Next) → when (has_bad_request fields.arch fields.builder) BadName ≡ text_refusal (of.Next fields)
unfolding text_refusal
text-Next fields = sym (or_none _)

pub text-Attempted : (fields : Attempted) → when (is_long_text fields.reason) TextTooLong ≡ text_refusal (of.Attempted fields)
unfolding text_refusal
text-Attempted fields = sym (or_none _)

pub text-aside : (fields : SetAside) → option_or (key_refusal fields.arch fields.source fields.version) (when (is_long_text fields.note) TextTooLong) ≡ aside_refusal fields.arch fields.source fields.version fields.note
text-aside fields = after_two (when (has_bad_key fields.arch fields.source) BadName) (version_refusal fields.version) (when (is_long_text fields.note) TextTooLong)

pub text-Rebuild : (fields : Rebuild) → option_or (option_or (key_refusal fields.arch fields.source fields.version) (when (is_bad_number fields.number) BadNumber)) (when (is_long_text fields.message) TextTooLong)
    ≡ text_refusal (of.Rebuild fields)
unfolding text_refusal
text-Rebuild fields =
    after_three (when (has_bad_key fields.arch fields.source) BadName) (version_refusal fields.version) (when (is_bad_number fields.number) BadNumber) (when (is_long_text fields.message) TextTooLong)

pub text-BuildPriority : (fields : BuildPriority) → option_or (key_refusal fields.arch fields.source fields.version) (when (is_bad_priority fields.value) BadNumber)
    ≡ text_refusal (of.BuildPriority fields)
unfolding text_refusal
text-BuildPriority fields =
    after_two (when (has_bad_key fields.arch fields.source) BadName) (version_refusal fields.version) (when (is_bad_priority fields.value) BadNumber) ∙ numbered (is_bad_priority fields.value)
  where
    numbered : (b : Bool) → first_some (when (has_bad_key fields.arch fields.source) BadName ∷ version_refusal fields.version ∷ when b BadNumber ∷ [])
        ≡ first_some (when (has_bad_key fields.arch fields.source) BadName ∷ version_refusal fields.version ∷ when (b || false) BadNumber ∷ [])
    numbered true = refl
    numbered false = refl

pub text-Built : (fields : Held) → None ≡ text_refusal (of.Built fields)
unfolding text_refusal
text-Built fields = refl

pub text-Uploaded : (fields : Held) → None ≡ text_refusal (of.Uploaded fields)
unfolding text_refusal
text-Uploaded fields = refl

pub text-PutBack : (fields : Held) → None ≡ text_refusal (of.PutBack fields)
unfolding text_refusal
text-PutBack fields = refl

pub text-Merge : (fields : Merge) → option_or (when (has_bad_part fields.parts) BadName) (when (has_repeated_arch fields.parts) RepeatedArch) ≡ text_refusal (of.Merge fields)
unfolding text_refusal
text-Merge fields = ap (option_or (when (has_bad_part fields.parts) BadName)) (sym (or_none _))

-- ---- relations

-- relations that cannot be read are refused, and out of memory they are not too long
pub told-Waits : {X : Type 0} (fields : Waits) (r : Result X Refusal) → OnOk r (relations_fault fields.relations ≡ None) → OnOk r (nat_lt relations_limit (length fields.relations) ≡ false) → IfErr r (λ refusal. IsOfMachine refusal → relations_refusal fields.relations ≡ Some refusal)
    → IfErr r (λ refusal. refusal ≡ Memory → nat_lt relations_limit (length fields.relations) ≡ false) → ChecksTexts (of.Waits fields) r
unfolding text_refusal
told-Waits fields (Ok x) read within refused short = record { ok = ap (λ fault. option_or (option_map (λ one. BadRelations (Some one)) fault) None) read; passed = want-Waits fields.take_number fields.relations within; refused = tt; memory = tt }
told-Waits fields (Err refusal) read within refused short = record {
  ok = tt;
  passed = tt;
  refused = λ other. or_none _ ∙ refused other;
  memory = λ none. want-Waits fields.take_number fields.relations (short none);
}

-- relations that can be read say nothing after the key
pub told-DepWait : {X : Type 0} (fields : DepWait) (r : Result X Refusal) → Tells (key_refusal fields.arch fields.source fields.version) r
    → relations_fault fields.relations ≡ None → nat_lt relations_limit (length fields.relations) ≡ false → ChecksTexts (of.DepWait fields) r
unfolding text_refusal
told-DepWait fields (Ok x) key read short = record {
  ok = two_none (when (has_bad_key fields.arch fields.source) BadName) (version_refusal fields.version) (relations_refusal fields.relations) key.ok (ap (option_map (λ one. BadRelations (Some one))) read);
  passed = want-DepWait fields.arch fields.source fields.version fields.relations key.ok short;
  refused = tt;
  memory = tt;
}
told-DepWait fields (Err refusal) key read short = record {
  ok = tt;
  passed = tt;
  refused = λ other. two_refuse (when (has_bad_key fields.arch fields.source) BadName) (version_refusal fields.version) (relations_refusal fields.relations) refusal (key.refused other);
  memory = λ none. want-DepWait fields.arch fields.source fields.version fields.relations (key.memory none) short;
}

-- relations that cannot be read are refused, unless the key is
pub told-DepWait-later : {X : Type 0} (fields : DepWait) (later refusal : Refusal) → option_or (key_refusal fields.arch fields.source fields.version) (Some later) ≡ Some refusal
    → (IsOfMachine later → relations_refusal fields.relations ≡ Some later) → (later ≡ Memory → nat_lt relations_limit (length fields.relations) ≡ false) → (refusal ≡ Memory → later ≡ Memory)
    → ChecksTexts {X = X} (of.DepWait fields) (Err refusal)
unfolding text_refusal
told-DepWait-later fields later refusal is bad short only = record {
  ok = tt;
  passed = tt;
  refused = λ other. sym (after_two (when (has_bad_key fields.arch fields.source) BadName) (version_refusal fields.version) (relations_refusal fields.relations))
      ∙ either (key_refusal fields.arch fields.source fields.version) is other;
  memory = λ none. want-DepWait fields.arch fields.source fields.version fields.relations (key-wanted fields.arch fields.source fields.version later refusal is none) (short (only none));
}
  where
    either : (key : Option Refusal) → option_or key (Some later) ≡ Some refusal → IsOfMachine refusal → option_or key (relations_refusal fields.relations) ≡ Some refusal
    either None same other = let one : later ≡ refusal = cc in bad (λ none. other (sym one ∙ none)) ∙ same
    either (Some first) same other = same
