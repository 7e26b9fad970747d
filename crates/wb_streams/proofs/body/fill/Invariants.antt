-- What was read stands after the front; no read failed.
use Rattle.std.proofs.Common.{◌≡◌, ◌-◌, ◌≤◌, List, ℕ, ◌++◌, length, take}
use Rattle.std.specs.Io.KnownBytes.{Consumes}
use Rattle.wb_streams.proofs.body.fill.Given as goal

abbrev pub invariant-loop-filled : goal.invariant-loop-filled
invariant-loop-filled g l = record {
  within : l.filled ≤ length l.room;
  taken : (taken : List ℕ) × Consumes l.initial.reader.bytes l.reader.bytes taken
      × (take l.filled l.room ≡ take l.start l.initial.room ++ taken);
  failed : l.reader.failed ≡ l.initial.reader.failed;
}

abbrev pub decreases-loop-filled : goal.decreases-loop-filled
decreases-loop-filled g l = length l.room - l.filled
