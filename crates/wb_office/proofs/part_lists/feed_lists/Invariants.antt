use Rattle.std.proofs.Common.{◌≡◌}
use Rattle.std.specs.FinMap as map
use Rattle.wb_states.specs.Machine.{Machine}
use Rattle.wb_archive.specs.Readers.{IsFeedOf}
use Rattle.wb_office.proofs.PartListLemmas.{GoesOnFor}
use Rattle.wb_office.proofs.part_lists.feed_lists.Given as goal

abbrev pub invariant-loop-list : goal.invariant-loop-list
invariant-loop-list g l = (machine : Machine) → l.fn.archs ≡ map.entries machine.archs
    → GoesOnFor (IsFeedOf g.R.Read.remaining machine) l.fn.lists.items l.feeds.items l.list-iterator.rest.items
