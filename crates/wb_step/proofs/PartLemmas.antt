-- The refusal of a merge, and its parts one by one.
use Rattle.std.proofs.Common.{◌≡◌, ℕ, Bool, true, false, List, [], ◌∷◌, Option, Some, None, refl, nat_le, not, ◌∙◌}
use Rattle.std.specs.List.{list_any}
use Rattle.std.specs.Option.{option_or}
use Rattle.wb_states.specs.Forms.{Merge}
use Rattle.wb_states.specs.declared.command.Part.{Part}
use Rattle.wb_states.specs.declared.refusal.Refusal.{Refusal}
use Rattle.wb_states.specs.declared.refusal.Refusal.TheVariants.{BadName, BadNumber, TextTooLong, RepeatedArch, UnknownArch, UnknownBuilder, WrongArch, AfterAhead, NotHeld, UnknownSource, QueueEmpty, AlreadyThere, Spent}
use Rattle.wb_states.specs.Limits.{count_limit}
use Rattle.wb_states.specs.Machine.{Machine}
use Rattle.wb_states.specs.Names.{is_arch_name}
use Rattle.deb_text.specs.Options.{first_some}
use Rattle.wb_step.specs.Checks.{first_refusal, has_repeated_arch, state_refusal, text_refusal, when}
use Rattle.wb_step.specs.Targets.{transition_of}
use Rattle.wb_step.specs.Parts.{parts_refusal}

joined : (is_bad is_repeated : Bool) (refused : Option Refusal) (is_full : Bool) (handed : ℕ)
    → option_or (first_some (when is_bad BadName ∷ None ∷ None ∷ when false BadNumber ∷ when false TextTooLong ∷ None ∷ when is_repeated RepeatedArch ∷ []))
    (first_some (when false UnknownArch ∷ refused ∷ when false UnknownBuilder ∷ when false WrongArch ∷ when false (AfterAhead handed)
    ∷ when false NotHeld ∷ when false UnknownSource ∷ None ∷ None ∷ when false QueueEmpty ∷ when false AlreadyThere ∷ when is_full Spent ∷ []))
    ≡ first_some (when is_bad BadName ∷ when is_repeated RepeatedArch ∷ refused ∷ when is_full Spent ∷ [])
joined true is_repeated refused is_full handed = refl
joined false true refused is_full handed = refl
joined false false (Some refusal) is_full handed = refl
joined false false None is_full handed = refl

-- the refusal of a merge, by the outcomes of its checks
pub first_refusal-Merge : (machine : Machine) (sources : List ℕ) (parts : List Part) (is_bad is_repeated : Bool) (refused : Option Refusal) (is_full : Bool)
    → list_any (λ part. not (is_arch_name part.arch)) parts ≡ is_bad → has_repeated_arch parts ≡ is_repeated
    → parts_refusal machine sources parts ≡ refused → nat_le count_limit machine.accepted ≡ is_full
    → first_refusal machine (Merge sources parts) ≡ first_some (when is_bad BadName ∷ when is_repeated RepeatedArch ∷ refused ∷ when is_full Spent ∷ [])
unfolding first_refusal text_refusal state_refusal transition_of
first_refusal-Merge machine sources parts is_bad is_repeated refused is_full bad repeated why full =
    joined (list_any (λ part. not (is_arch_name part.arch)) parts) (has_repeated_arch parts) (parts_refusal machine sources parts)
    (nat_le count_limit machine.accepted) machine.handed
    ∙ (λ i. first_some (when (bad i) BadName ∷ when (repeated i) RepeatedArch ∷ why i ∷ when (full i) Spent ∷ []))
