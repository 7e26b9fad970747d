-- At which state an office over tables stands, open or closed, and what is left of it if this is in doubt.
use Rattle.std.specs.Prelude.{◌≡◌, ◌⊎◌, ℕ, Bool, true, false, List, None, IfSome, IsTrue}
use Rattle.std.specs.BTreeMap as tree
use Rattle.std.specs.FinMap as map
use Rattle.deb_text.specs.Text.{text_cmp}
use Rattle.sqlite.specs.State.{State}
use Rattle.wb_states.specs.declared.counts.Counts.{Counts}
use Rattle.wb_states.specs.declared.counts.StateCounts.{StateCounts}
use Rattle.wb_states.specs.Lookups.{counts_of}
use Rattle.wb_states.specs.Machine.{Machine, IsConsistent}
use Rattle.wb_store.specs.Settled.{IsBackAt, LeavesEither}
use Rattle.wb_office.specs.declared.known.Known.{Known}
use Rattle.wb_store.specs.Opening.{AreCountsOf}

-- so many records of an architecture are in each state, for each architecture that has its numbers here
abbrev pub AreSummaries : Machine → tree.BTreeMap (List ℕ) StateCounts → Type 0
AreSummaries machine summaries =
    (arch : List ℕ) → IfSome (tree.get text_cmp summaries arch) (λ counts. counts ≡ counts_of machine arch)

-- what an office knows of its tables is so at this state: the counts; the architectures, unless they have to be read;
-- and how many records of an architecture are in each state, where that need not be counted
pub record Knows (machine : Machine) (known : Known) : Type 0 where
  pub counts : AreCountsOf machine known.counts
  pub archs : IfSome known.archs (λ archs. archs.items ≡ map.entries machine.archs)
  pub summaries : AreSummaries machine known.summaries

-- these counts are all that is known
abbrev pub KnowsCounts : Known → Counts → Type 0
KnowsCounts known counts = (known.counts ≡ counts) × (known.archs ≡ None)
    × ((arch : List ℕ) → tree.get text_cmp known.summaries arch ≡ None)

-- an office that is open has its state in tables outside a transaction; a crash of an open or a closed one leaves only
-- that state; and what it knows of its tables is so at this state
pub record StandsAt (machine : Machine) (is_closed : Bool) (known : Known) (s : State) : Type 0 where
  pub consistent : IsConsistent machine
  pub knows : Knows machine known
  pub back : IsBackAt machine s
  pub is_open : is_closed ≡ false → IsTrue s.is_open

-- an office that is closed, and of which a crash leaves the one state or the other
pub record LeavesOne (before after : Machine) (is_closed : Bool) (s : State) : Type 0 where
  pub closed : is_closed ≡ true
  pub left : LeavesEither before after s

-- an office stands at the one state or at the other
abbrev pub StandsAtOne : Machine → Machine → Bool → Known → State → Type 0
StandsAtOne one other is_closed known s = ∥ (StandsAt one is_closed known s ⊎ StandsAt other is_closed known s) ∥₁
