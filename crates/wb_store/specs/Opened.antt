-- At which state a store stands that was opened.
use Rattle.std.specs.Prelude.{◌⊎◌}
use Rattle.sqlite.specs.State.{State}
use Rattle.wb_states.specs.declared.counts.Counts.{Counts}
use Rattle.wb_states.specs.Machine.{IsConsistent, Machine}
use Rattle.wb_store.specs.Opening.{AreCountsOf}
use Rattle.wb_store.specs.Settled.{IsSettled}

-- the store stands at this state, which is consistent, outside a transaction: its counts are these, and a crash leaves only that state
pub record IsOpenedAt (machine : Machine) (counts : Counts) (s : State) : Type 0 where
  pub consistent : IsConsistent machine
  pub counted : AreCountsOf machine counts
  pub settled : IsSettled machine s

-- the store stands at the one state or at the other
abbrev pub IsOpenedAtOne : Machine → Machine → Counts → State → Type 0
IsOpenedAtOne one other counts s = ∥ (IsOpenedAt one counts s ⊎ IsOpenedAt other counts s) ∥₁
