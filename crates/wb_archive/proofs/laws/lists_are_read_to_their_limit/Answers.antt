use Rattle.std.proofs.Common.{List, ℕ, Option, subst}
use Rattle.deb_control.specs.FeedState.{fresh}
use Rattle.deb_control.specs.Source.{TakesSome}
use Rattle.deb_control.proofs.FeedCallLemmas.{read-needs}
use Rattle.wb_archive.proofs.laws.lists_are_read_to_their_limit.Goals as goal

pub returns : goal.returns
returns g c = record {
  value = λ reader text fault is broke.
      read-needs text broke.before broke.last fault
      (subst (λ (bytes : Option (List ℕ)). TakesSome (fresh bytes).source broke.before.source) is broke.read) broke.taken broke.ends;
}
