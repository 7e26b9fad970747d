-- An architecture that is taken away.
use Rattle.std.specs.Prelude.{◌≡◌, ◌||◌, ℕ, Bool, List, None, nat_lt}
use Rattle.wb_states.specs.declared.command.Command.TheVariants as of
use Rattle.wb_states.specs.declared.command.RemoveArch.{RemoveArch}
use Rattle.wb_states.specs.declared.counts.Counts.{Counts}
use Rattle.wb_states.specs.declared.counts.StateCounts.{StateCounts}
use Rattle.wb_states.specs.Machine.{Key, Machine, builder_pairs}
use Rattle.wb_merge.specs.Merged.{recorded_names}
use Rattle.wb_step.specs.Checks.{first_refusal}
use Rattle.wb_store.specs.Opening.{AreCountsOf}

-- a record is held of an architecture that has so many in each state (Building, Built and Uploaded are those of a hold)
abbrev pub has_held : StateCounts → Bool
has_held counts = (nat_lt 0 counts.building || nat_lt 0 counts.built) || nat_lt 0 counts.uploaded

-- an office has these counts, and takes this architecture away
abbrev pub IsToGo : Counts → RemoveArch → Machine → Type 0
IsToGo counts removal machine = AreCountsOf machine counts × (first_refusal machine (of.RemoveArch removal) ≡ None)

-- what goes with an architecture: these are the source packages that have a record there, and these all pairs of a
-- builder and an architecture
abbrev pub AreWithArch : List ℕ → List (List ℕ) → List Key → Machine → Type 0
AreWithArch arch names pairs machine = (names ≡ recorded_names machine.records arch) × (pairs ≡ builder_pairs machine)
