-- A read adds to what was read before it.
use Rattle.std.proofs.Common.{[], refl, ◌∙◌, ap, arith, append-nil, take, drop, sym, length, ◌++◌}
use Rattle.std.proofs.lemmas.List.{take_all, length-take-le}
use Rattle.wb_streams.proofs.StreamLemmas.{Consumes-kept, Consumes-nil, Consumes-none, Consumes-then, room-grown, taken-fits}
use Rattle.wb_streams.proofs.body.fill.Goals as goal

pub loop-filled-init : goal.loop-filled-init
loop-filled-init g c = record {
  within = c.requires;
  taken = ([], Consumes-nil _, sym (append-nil _));
  failed = refl;
}

pub loop-filled-preserved : goal.loop-filled-preserved
loop-filled-preserved g c = record {
  within = c.in-Ok.ensures.bound;
  taken = (
    c.loop-filled.invariant.taken.0 ++ take c.in-Ok.count (drop c.loop-filled.filled c.read_on.new.room),
    Consumes-then _ _ _ _ _ c.loop-filled.invariant.taken.1 c.in-Ok.ensures.ok,
    room-grown _ _ _ _ _ _ c.in-Ok.ensures.front c.loop-filled.invariant.taken.2,
  );
  failed = c.in-Ok.ensures.kept ∙ c.loop-filled.invariant.failed;
}

pub returns-then-count-eq0-clause-value : goal.returns-then-count-eq0-clause-value
returns-then-count-eq0-clause-value g c =
    let long = ap length (sym c.loop-filled.invariant.taken.2) ∙ length-take-le c.loop-filled.filled c.loop-filled.room c.loop-filled.invariant.within in (
      c.loop-filled.invariant.taken.0,
      Consumes-none _ _ _ _ _ _ c.if-count-eq0.true c.loop-filled.invariant.taken.1 c.in-Ok.ensures.ok,
      c.in-Ok.ensures.end c.if-count-eq0.true (omega arith),
      omega arith,
    )

pub returns-clause-value : goal.returns-clause-value
returns-clause-value g c = (
  c.loop-filled.invariant.taken.0,
  c.loop-filled.invariant.taken.1,
  sym (take_all c.loop-filled.filled c.loop-filled.room (omega arith)) ∙ c.loop-filled.invariant.taken.2,
)

pub returns-in_default-clause-bound : goal.returns-in_default-clause-bound
returns-in_default-clause-bound g c = (
  c.loop-filled.invariant.taken.0,
  Consumes-kept _ _ _ _ c.loop-filled.invariant.taken.1 c.in_default.ensures.unchanged,
  taken-fits _ _ _ _ _ c.loop-filled.invariant.within (omega arith) c.loop-filled.invariant.taken.2,
)

pub returns-then-count-eq0-clause-bound : goal.returns-then-count-eq0-clause-bound
returns-then-count-eq0-clause-bound g c = (
  c.loop-filled.invariant.taken.0,
  Consumes-none _ _ _ _ _ _ c.if-count-eq0.true c.loop-filled.invariant.taken.1 c.in-Ok.ensures.ok,
  taken-fits _ _ _ _ _ c.loop-filled.invariant.within (omega arith) c.loop-filled.invariant.taken.2,
)
