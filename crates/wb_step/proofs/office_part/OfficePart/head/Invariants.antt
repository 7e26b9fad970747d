use Rattle.std.proofs.Common.{◌≡◌, filter, None}
use Rattle.std.specs.Option.{option_map}
use Rattle.std.specs.Map.Iter.{deref_pair}
use Rattle.std.specs.FinMap as finite
use Rattle.wb_states.specs.Queue.{entry_cmp, is_waiting}
use Rattle.wb_step.proofs.QueueLemmas.{scan}
use Rattle.wb_step.proofs.office_part.OfficePart.head.Given as goal

abbrev pub invariant-loop-key : goal.invariant-loop-key
invariant-loop-key l =
    scan entry_cmp (option_map deref_pair l.best) (filter (is_waiting l.arch) l.key-iterator)
    ≡ scan entry_cmp None (filter (is_waiting l.arch) (finite.entries l.self.records))
