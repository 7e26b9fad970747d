use Rattle.std.proofs.Common.{◌≡◌}
use Rattle.std.specs.List.{fold}
use Rattle.wb_merge.specs.Listing.{with_offer}
use Rattle.wb_merge.proofs.offers.offer_provided.Given as goal

abbrev pub invariant-loop-given : goal.invariant-loop-given
invariant-loop-given l =
    fold with_offer l.available l.given-iterator.rest.items ≡ fold with_offer l.fn.available l.fn.provided.items
