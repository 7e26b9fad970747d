use Rattle.std.proofs.Common.{◌≡◌, ◌∙◌, ◌++◌, sym, ap, filter, map, rules}
use Rattle.std.proofs.lemmas.List.Sorted.{IsNonDecreasingBy-from_sort_by_key, answers_always}
use Rattle.std.proofs.lemmas.List.{append-nil}
use Rattle.std.specs.FinMap as finite
use Rattle.wb_states.specs.Holds.{is_held_by}
use Rattle.std.specs.Map.Iter.{deref_pair}
use Rattle.wb_states.proofs.SortLemmas.{number_of, held-sorted}
use Rattle.wb_step.proofs.TableLemmas.{records-iterated}
use Rattle.wb_step.proofs.office_part.OfficePart.held_by.Goals as goal

pub loop-key-init : goal.loop-key-init
loop-key-init c =
    let start : c.into_iter-key-iterator.result ≡ finite.entries c.args.self.now.records =
    records-iterated c.self.inside c.args.self.now c.self.view_is c.iter-key-items.ensures.ordered _ (c.into_iter-key-iterator.ensures.into_iter_gives ∙ c.iter-key-items.ensures.rest) in
    λ i. map deref_pair (c.new-held.ensures.items i) ++ filter (is_held_by c.args.builder.now) (start i)

pub returns : goal.returns
returns c =
    let all : map deref_pair c.loop-key.held.items ≡ filter (is_held_by c.args.builder.now) (finite.entries c.args.self.now.records) =
    sym (append-nil (map deref_pair c.loop-key.held.items))
    ∙ ap (λ items. map deref_pair c.loop-key.held.items ++ filter (is_held_by c.args.builder.now) items) (sym c.in-None.ensures.steps.0)
    ∙ c.loop-key.invariant in
    record {
      value = held-sorted c.args.self.now c.args.builder.now c.loop-key.held.items c.sort_by_key.new.self.items
          (IsNonDecreasingBy-from_sort_by_key number_of _ c.in_ok-sort_by_key.ensures.sorted (λ a r q k. search rules))
          (c.in_ok-sort_by_key.ensures.stable number_of (answers_always _ _ _ (λ f a r g h. search rules)))
          all;
    }
