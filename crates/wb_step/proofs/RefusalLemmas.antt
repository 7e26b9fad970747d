-- The first refusal of a command, by the outcomes of its checks.
use Rattle.std.proofs.Common.{◌≡◌, ℕ, Bool, true, not, List, [], ◌∷◌, Option, Some, None, false, nat_le, option_map}
use Rattle.std.specs.FinMap as map
use Rattle.std.specs.FinSet as set
use Rattle.std.specs.Option.{option_or}
use Rattle.deb_version.specs.declared.fault.VersionFault.{VersionFault}
use Rattle.deb_version.specs.Syntax.{fault_of}
use Rattle.deb_text.specs.Lists.{is_nonempty}
use Rattle.wb_states.specs.Forms.{AddArch, AddBuilder, Enter, RemoveBuilder}
use Rattle.wb_states.specs.declared.refusal.Refusal.{Refusal}
use Rattle.wb_states.specs.declared.refusal.Refusal.TheVariants.{UnknownArch, UnknownBuilder, WrongArch, AlreadyThere}
use Rattle.wb_states.specs.declared.refusal.Refusal.TheVariants.{BadName, BadVersion, StillHeld, Spent}
use Rattle.wb_states.specs.Limits.{count_limit}
use Rattle.wb_states.specs.Machine.{Machine, archs_of}
use Rattle.deb_text.specs.Options.{first_some}
use Rattle.wb_step.specs.Targets.{transition_of}
use Rattle.wb_step.specs.Checks.{when, has_bad_name, is_for_other_archs, is_still_held, lacks_arch, lacks_builder}
use Rattle.wb_step.specs.Checks.{text_refusal, state_refusal, first_refusal, builder_refusal, key_refusal}
use Rattle.wb_states.specs.Names.{has_bad_key}

pub first_refusal-AddArch : (machine : Machine) (name os cpu : List ℕ) (is_bad is_there is_full : Bool)
    → has_bad_name (AddArch name os cpu) ≡ is_bad → map.contains_key machine.archs name ≡ is_there → nat_le count_limit machine.accepted ≡ is_full
    → first_refusal machine (AddArch name os cpu) ≡ option_or (first_some (when is_bad BadName ∷ [])) (first_some (when is_there AlreadyThere ∷ when is_full Spent ∷ []))
unfolding first_refusal text_refusal state_refusal transition_of
first_refusal-AddArch machine name os cpu is_bad is_there is_full bad there full =
    λ i. option_or (first_some (when (bad i) BadName ∷ [])) (first_some (when (there i) AlreadyThere ∷ when (full i) Spent ∷ []))

pub first_refusal-AddBuilder : (machine : Machine) (name arch : List ℕ) (is_bad is_unknown is_there is_full : Bool)
    → has_bad_name (AddBuilder name arch) ≡ is_bad → lacks_arch machine (AddBuilder name arch) ≡ is_unknown
    → set.contains machine.builders (name, arch) ≡ is_there → nat_le count_limit machine.accepted ≡ is_full
    → first_refusal machine (AddBuilder name arch) ≡ option_or (first_some (when is_bad BadName ∷ [])) (first_some (when is_unknown UnknownArch ∷ when is_there AlreadyThere ∷ when is_full Spent ∷ []))
unfolding first_refusal text_refusal state_refusal transition_of
first_refusal-AddBuilder machine name arch is_bad is_unknown is_there is_full bad unknown there full =
    λ i. option_or (first_some (when (bad i) BadName ∷ [])) (first_some (when (unknown i) UnknownArch ∷ when (there i) AlreadyThere ∷ when (full i) Spent ∷ []))

pub first_refusal-RemoveBuilder : (machine : Machine) (name arch : List ℕ)
    (is_bad is_unknown has_none is_other is_held is_full : Bool)
    → has_bad_name (RemoveBuilder name arch) ≡ is_bad → lacks_arch machine (RemoveBuilder name arch) ≡ is_unknown
    → lacks_builder machine (RemoveBuilder name arch) ≡ has_none
    → is_for_other_archs machine (RemoveBuilder name arch) ≡ is_other
    → is_still_held machine (RemoveBuilder name arch) ≡ is_held → nat_le count_limit machine.accepted ≡ is_full
    → first_refusal machine (RemoveBuilder name arch)
    ≡ option_or (first_some (when is_bad BadName ∷ []))
    (first_some (when is_unknown UnknownArch ∷ when has_none UnknownBuilder ∷ when is_other WrongArch ∷ when is_held
    StillHeld ∷ when is_full Spent ∷ []))
unfolding first_refusal text_refusal state_refusal transition_of
first_refusal-RemoveBuilder machine name arch is_bad is_unknown has_none is_other is_held is_full bad unknown none other
    held full =
    λ i. option_or (first_some (when (bad i) BadName ∷ []))
    (first_some (when (unknown i) UnknownArch ∷ when (none i) UnknownBuilder ∷ when (other i) WrongArch ∷ when (held i)
    StillHeld ∷ when (full i) Spent ∷ []))

pub first_refusal-Enter : (machine : Machine) (arch source version priority section : List ℕ) (is_bad : Bool) (fault : Option VersionFault) (is_unknown is_there is_full : Bool)
    → has_bad_name (Enter arch source version priority section) ≡ is_bad → fault_of version ≡ fault
    → lacks_arch machine (Enter arch source version priority section) ≡ is_unknown
    → map.contains_key machine.records (arch, source) ≡ is_there → nat_le count_limit machine.accepted ≡ is_full
    → first_refusal machine (Enter arch source version priority section)
    ≡ option_or (first_some (when is_bad BadName ∷ option_map BadVersion fault ∷ [])) (first_some (when is_unknown UnknownArch ∷ when is_there AlreadyThere ∷ when is_full Spent ∷ []))
unfolding first_refusal text_refusal state_refusal transition_of
first_refusal-Enter machine arch source version priority section is_bad fault is_unknown is_there is_full bad faulty unknown there full =
    λ i. option_or (first_some (when (bad i) BadName ∷ option_map BadVersion (faulty i) ∷ [])) (first_some (when (unknown i) UnknownArch ∷ when (there i) AlreadyThere ∷ when (full i) Spent ∷ []))

pub entry-BadVersion : (machine : Machine) (arch source version priority section : List ℕ) (refusal : Refusal)
    → has_bad_name (Enter arch source version priority section) ≡ false → option_map BadVersion (fault_of version) ≡ Some refusal
    → first_refusal machine (Enter arch source version priority section) ≡ Some refusal
unfolding first_refusal text_refusal state_refusal transition_of
entry-BadVersion machine arch source version priority section refusal bad faulty =
    λ i. option_or (first_some (when (bad i) BadName ∷ faulty i ∷ [])) (state_refusal machine (Enter arch source version priority section))

pub builder_refusal-is : (machine : Machine) (arch builder : List ℕ) (is_unknown has_none is_other : Bool)
    → not (map.contains_key machine.archs arch) ≡ is_unknown → not (is_nonempty (archs_of machine builder)) ≡ has_none
    → not (set.contains machine.builders (builder, arch)) ≡ is_other
    → builder_refusal machine arch builder ≡ first_some (when is_unknown UnknownArch ∷ when has_none UnknownBuilder ∷ when is_other WrongArch ∷ [])
unfolding builder_refusal
builder_refusal-is machine arch builder is_unknown has_none is_other unknown none other =
    λ i. first_some (when (unknown i) UnknownArch ∷ when (none i) UnknownBuilder ∷ when (other i) WrongArch ∷ [])

pub key_refusal-BadName : (arch source version : List ℕ) → has_bad_key arch source ≡ true → key_refusal arch source version ≡ Some BadName
unfolding text_refusal
key_refusal-BadName arch source version bad = λ i. first_some (when (bad i) BadName ∷ option_map BadVersion (fault_of version) ∷ [])

pub key_refusal-BadVersion : (arch source version : List ℕ) (refusal : Refusal) → has_bad_key arch source ≡ false
    → option_map BadVersion (fault_of version) ≡ Some refusal → key_refusal arch source version ≡ Some refusal
unfolding text_refusal
key_refusal-BadVersion arch source version refusal bad faulty = λ i. first_some (when (bad i) BadName ∷ faulty i ∷ [])

pub key_refusal-None : (arch source version : List ℕ) → has_bad_key arch source ≡ false → fault_of version ≡ None → key_refusal arch source version ≡ None
unfolding text_refusal
key_refusal-None arch source version bad faulty = λ i. first_some (when (bad i) BadName ∷ option_map BadVersion (faulty i) ∷ [])
