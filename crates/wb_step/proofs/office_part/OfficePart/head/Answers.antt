use Rattle.std.proofs.Common.{◌≡◌, ◌∙◌, ap, sym, subst, T, filter, None}
use Rattle.std.specs.FinMap as finite
use Rattle.std.specs.Option.{option_map}
use Rattle.std.specs.Map.Iter.{deref_pair}
use Rattle.wb_states.specs.Queue.{entry_cmp, head_of, is_waiting}
use Rattle.wb_step.proofs.QueueLemmas.{found-heads, scan, scan-head, scan-drops, scan-starts, scan-takes, scan-stays, waits-both, waits-not-arch, waits-not-state, entry_cmp-by_places}
use Rattle.wb_step.proofs.TableLemmas.{records-iterated}
use Rattle.wb_step.proofs.office_part.OfficePart.head.Goals as goal
use Rattle.wb_step.proofs.office_part.OfficePart.head.Goals.{in-None-best, in-Some-best, else-eq-via-then-eq+else-eq-2, else-eq-via-else-eq}

pub loop-key-init : goal.loop-key-init
loop-key-init c =
    let start : c.into_iter-key-iterator.result ≡ finite.entries c.args.self.now.records =
    records-iterated c.self.inside c.args.self.now c.self.view_is c.iter-key-items.ensures.ordered _ (c.into_iter-key-iterator.ensures.into_iter_gives ∙ c.iter-key-items.ensures.rest) in
    λ i. scan entry_cmp None (filter (is_waiting c.args.arch.now) (start i))

pub loop-key-preserved-then-is_first : goal.loop-key-preserved-then-is_first
loop-key-preserved-then-is_first c =
    let item = deref_pair (c.in-Some.key, c.in-Some.current) in
    let waits = waits-both c.args.arch.now item c.if-eq.ensures c.if-eq-2.ensures in
    elim c.match-best.branch [
      | in-None-best w ↦ scan-starts entry_cmp (is_waiting c.args.arch.now) (option_map deref_pair c.loop-key.best) item c.loop-key.key-iterator c.next.new.self _
          c.in-Some.ensures.steps c.loop-key.invariant waits (ap (option_map deref_pair) w.in-None-best.is)
      | in-Some-best w ↦
          let best = deref_pair (w.in-Some-best.first, w.in-Some-best.record) in
          scan-takes entry_cmp (is_waiting c.args.arch.now) (option_map deref_pair c.loop-key.best) item c.loop-key.key-iterator c.next.new.self _
          c.in-Some.ensures.steps c.loop-key.invariant best waits (ap (option_map deref_pair) w.in-Some-best.is)
          (entry_cmp-by_places item best _ _ _ _ _ w.of.ensures w.as_str.ensures w.of-in-Some-best.ensures w.as_str-in-Some-best.ensures w.lt-is_first.ensures
          ∙ sym w.is_first-is ∙ c.if-is_first.true)
    ]

pub loop-key-preserved-else-is_first : goal.loop-key-preserved-else-is_first
loop-key-preserved-else-is_first c =
    let item = deref_pair (c.in-Some.key, c.in-Some.current) in
    let waits = waits-both c.args.arch.now item c.if-eq.ensures c.if-eq-2.ensures in
    elim c.match-best.branch [
      | in-None-best w ↦ absurd (subst T (sym w.is_first-is ∙ c.if-is_first.false) tt)
      | in-Some-best w ↦
          let best = deref_pair (w.in-Some-best.first, w.in-Some-best.record) in
          scan-stays entry_cmp (is_waiting c.args.arch.now) (option_map deref_pair c.loop-key.best) item c.loop-key.key-iterator c.next.new.self _
          c.in-Some.ensures.steps c.loop-key.invariant best waits (ap (option_map deref_pair) w.in-Some-best.is)
          (entry_cmp-by_places item best _ _ _ _ _ w.of.ensures w.as_str.ensures w.of-in-Some-best.ensures w.as_str-in-Some-best.ensures w.lt-is_first.ensures
          ∙ sym w.is_first-is ∙ c.if-is_first.false)
    ]

pub loop-key-preserved : goal.loop-key-preserved
loop-key-preserved c =
    let item = deref_pair (c.in-Some.key, c.in-Some.current) in
    let drops = scan-drops entry_cmp (is_waiting c.args.arch.now) (option_map deref_pair c.loop-key.best) item c.loop-key.key-iterator c.next.new.self _
    c.in-Some.ensures.steps c.loop-key.invariant in
    elim c.else-eq.branch [
      | else-eq-via-then-eq+else-eq-2 w ↦ drops (waits-not-state c.args.arch.now item (sym w.eq-then-eq.ensures ∙ w.if-eq-2.false))
      | else-eq-via-else-eq w ↦ drops (waits-not-arch c.args.arch.now item (sym c.eq.ensures ∙ w.if-eq.false))
    ]

pub returns : goal.returns
returns c =
    let is : option_map deref_pair c.loop-key.best ≡ head_of c.args.self.now c.args.arch.now =
    ap (λ items. scan entry_cmp (option_map deref_pair c.loop-key.best) (filter (is_waiting c.args.arch.now) items)) (sym c.in-None.ensures.steps.0)
    ∙ c.loop-key.invariant ∙ scan-head c.args.self.now c.args.arch.now in
    record { value = is; first = found-heads c.args.self.now c.args.arch.now (option_map deref_pair c.loop-key.best) is }
