use Rattle.std.proofs.Common.{◌≡◌, pos, refl}
use Rattle.std.specs.FinMap as finite
use Rattle.wb_states.specs.declared.record.Record.{Record}
use Rattle.wb_merge.proofs.ForwardLemmas.{at-becomes, at-starts, build_priority-kept, build_priority-new}
use Rattle.wb_merge.proofs.laws.merges_keep_build_priorities.Goals as goal

pub returns-clause-stays : goal.returns-clause-stays
returns-clause-stays c old arch listing key current new becomes =
    at-becomes old arch listing key current new becomes (λ (r : Record). r.build_priority ≡ current.build_priority) refl
    (λ listed _. build_priority-kept listed (finite.get listing.built key.1) listing.available current)

pub returns-clause-starts : goal.returns-clause-starts
returns-clause-starts c old arch listing key new none is =
    at-starts old arch listing key new (λ (r : Record). r.build_priority ≡ pos 0) none is
    (λ listed. build_priority-new listed (finite.get listing.built key.1))
