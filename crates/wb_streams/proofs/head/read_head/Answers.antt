-- What was read so far is the front of the room, and each read adds to it.
use Rattle.std.proofs.Common.{inl, inr, arith, length, take, length-take, ◌∙◌, ◌≡◌, ◌+◌}
use Rattle.wb_streams.proofs.HeadLemmas.{head_front}
use Rattle.wb_streams.proofs.StreamLemmas.{Consumes-kept, Consumes-none, Consumes-on}
use Rattle.wb_streams.proofs.head.read_head.Goals as goal

pub returns-else-filled-eq0-clause-value : goal.returns-else-filled-eq0-clause-value
returns-else-filled-eq0-clause-value g c =
    let long : length (take c.loop-filled.filled c.loop-filled.room) ≡ c.loop-filled.filled = simp length-take (omega arith) in (
      take c.loop-filled.filled c.loop-filled.room,
      omega arith,
      Consumes-none _ _ _ _ _ _ c.if-count-eq0.true c.loop-filled.invariant.taken c.in-Ok.ensures.ok,
      (
        omega (arith, c.requires, c.loop-filled.auto.room),
        inr (
          omega (arith, c.requires, c.loop-filled.auto.room),
          (c.loop-filled.invariant.unfinished (omega arith)).0,
          c.in-Ok.ensures.end c.if-count-eq0.true (omega arith),
        ),
      ),
    )

pub returns-in-Whole-clause-value : goal.returns-in-Whole-clause-value
returns-in-Whole-clause-value g c = (
  omega (arith, c.requires, c.loop-filled.auto.room, c.in-Ok.ensures.bound),
  Consumes-on _ _ _ _ _ _ _ c.in-Ok.ensures.front c.loop-filled.invariant.taken c.in-Ok.ensures.ok,
  c.in-Whole.ensures.value.0,
  c.in-Whole.ensures.value.1,
)

pub loop-filled-preserved : goal.loop-filled-preserved
loop-filled-preserved g c = record {
  within = omega (arith, c.in-Ok.ensures.bound);
  taken = Consumes-on _ _ _ _ _ _ _ c.in-Ok.ensures.front c.loop-filled.invariant.taken c.in-Ok.ensures.ok;
  unfinished = λ _. c.in-Unfinished.ensures.value;
  failed = c.in-Ok.ensures.kept ∙ c.loop-filled.invariant.failed;
}

pub returns-in-Malformed-clause-value : goal.returns-in-Malformed-clause-value
returns-in-Malformed-clause-value g c =
    let long : length (take (c.loop-filled.filled + c.in-Ok.count) c.read_on.new.room) ≡ c.loop-filled.filled + c.in-Ok.count = simp length-take (omega (arith, c.in-Ok.ensures.bound)) in (
      take (c.loop-filled.filled + c.in-Ok.count) c.read_on.new.room,
      omega arith,
      Consumes-on _ _ _ _ _ _ _ c.in-Ok.ensures.front c.loop-filled.invariant.taken c.in-Ok.ensures.ok,
      (omega (arith, c.requires, c.loop-filled.auto.room, c.in-Ok.ensures.bound), inl c.in-Malformed.ensures.value),
    )

pub returns-in-Crowded-clause-value : goal.returns-in-Crowded-clause-value
returns-in-Crowded-clause-value g c =
    let long : length (take (c.loop-filled.filled + c.in-Ok.count) c.read_on.new.room) ≡ c.loop-filled.filled + c.in-Ok.count = simp length-take (omega (arith, c.in-Ok.ensures.bound)) in (
      take (c.loop-filled.filled + c.in-Ok.count) c.read_on.new.room,
      Consumes-on _ _ _ _ _ _ _ c.in-Ok.ensures.front c.loop-filled.invariant.taken c.in-Ok.ensures.ok,
      (omega (arith, c.requires, c.loop-filled.auto.room, c.in-Ok.ensures.bound), inr c.in-Crowded.ensures.value),
    )

pub returns-in_default-clause-value : goal.returns-in_default-clause-value
returns-in_default-clause-value g c =
    let long : length (take c.loop-filled.filled c.loop-filled.room) ≡ c.loop-filled.filled = simp length-take (omega arith) in (
      take c.loop-filled.filled c.loop-filled.room,
      Consumes-kept _ _ _ _ c.loop-filled.invariant.taken c.in_default.ensures.unchanged,
      head_front c.loop-filled.room c.loop-filled.filled (omega (arith, c.requires, c.loop-filled.auto.room)) c.loop-filled.invariant.unfinished,
    )
