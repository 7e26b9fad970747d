-- At which state an office stands that was just opened.
use Rattle.std.proofs.Common.{◌≡◌, ◌⊎◌, false, inl, inr, IfSome, subst, sym}
use Rattle.std.proofs.Math.Logic.{∥∥₁_map}
use Rattle.std.specs.FinMap as map
use Rattle.sqlite.specs.State.{State}
use Rattle.wb_states.specs.declared.counts.Counts.{Counts}
use Rattle.wb_states.specs.Lookups.{counts_of}
use Rattle.wb_states.specs.Machine.{Machine}
use Rattle.wb_store.specs.Opened.{IsOpenedAt, IsOpenedAtOne}
use Rattle.wb_store.proofs.SettledLemmas.{settled_back}
use Rattle.wb_store.specs.Opening.{AreCountsOf}
use Rattle.wb_office.specs.declared.known.Known.{Known}
use Rattle.wb_office.specs.Standing.{Knows, KnowsCounts, StandsAt, StandsAtOne}

-- what is known of an office over a store that was opened is so at the state of the store
knows_opened : {machine : Machine} {counts : Counts} {known : Known} → KnowsCounts known counts
    → AreCountsOf machine counts → Knows machine known
knows_opened {machine = machine} {known = known} new counted = record {
  counts = subst (AreCountsOf machine) (sym new.0) counted;
  archs = subst (λ archs. IfSome archs (λ those. those.items ≡ map.entries machine.archs)) (sym new.1) tt;
  summaries = λ arch. subst (λ found. IfSome found (λ counts. counts ≡ counts_of machine arch)) (sym (new.2 arch)) tt;
}

-- such an office stands at that state
pub stands_opened : {machine : Machine} {counts : Counts} {known : Known} {s : State} → KnowsCounts known counts
    → IsOpenedAt machine counts s
    → StandsAt machine false known s
stands_opened {s = s} new opened = record {
  consistent = opened.consistent;
  knows = knows_opened new opened.counted;
  back = settled_back s opened.settled;
  is_open = λ _. opened.settled.is_open;
}

-- the same if it is one of two states
pub stands_opened_one : {one other : Machine} {counts : Counts} {known : Known} {s : State}
    → KnowsCounts known counts → IsOpenedAtOne one other counts s
    → StandsAtOne one other false known s
stands_opened_one {one = one} {other = other} {known = known} {s = s} new opened = ∥∥₁_map opened (λ either.
    let r : StandsAt one false known s ⊎ StandsAt other false known s = elim either [
      | inl first ↦ inl (stands_opened new first)
      | inr second ↦ inr (stands_opened new second)
    ] in r)
