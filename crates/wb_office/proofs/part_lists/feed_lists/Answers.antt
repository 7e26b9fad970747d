use Rattle.std.proofs.Common.{◌≡◌, ◌∷◌, [], rules, arith}
use Rattle.std.proofs.lemmas.Grind.{common_steps}
use Rattle.std.proofs.lemmas.List.{nil_from_length}
use Rattle.wb_archive.specs.Readers.{IsFeedOf}
use Rattle.wb_office.proofs.PartListLemmas.{goes_on_for_all, goes_on_from, goes_on_with}
use Rattle.wb_office.proofs.part_lists.feed_lists.Goals as goal

pub loop-list-init : goal.loop-list-init
loop-list-init g c =
    let all : c.into_iter-list-iterator.result.rest.items ≡ c.args.lists.items = search rules in
    λ machine own. goes_on_from (IsFeedOf g.R.Read.remaining machine) c.args.lists.items c.new-feeds.result.items c.into_iter-list-iterator.result.rest.items c.new-feeds.ensures.items all

pub loop-list-preserved : goal.loop-list-preserved
loop-list-preserved g c =
    let split : c.loop-list.list-iterator.rest.items ≡ c.in-Some.list ∷ c.next.new.self.rest.items = search rules in
    λ machine own.
    goes_on_with (IsFeedOf g.R.Read.remaining machine) c.args.lists.items c.loop-list.feeds.items c.push_part.new.lists.items c.loop-list.list-iterator.rest.items c.next.new.self.rest.items
    c.in-Some.list c.in_ok-feed.feed split (c.in_ok-feed.ensures.value machine own) c.in_ok-push_part.ensures.value (c.loop-list.invariant machine own)

pub returns : goal.returns
returns g c = record {
  value = λ machine own.
      let none : c.loop-list.list-iterator.rest.items ≡ [] = grind (arith, common_steps, nil_from_length) in
      goes_on_for_all (IsFeedOf g.R.Read.remaining machine) c.args.lists.items c.loop-list.feeds.items c.loop-list.list-iterator.rest.items none (c.loop-list.invariant machine own);
}
