-- The bytes so far stand at the front of the room, and are no head yet; no read failed.
use Rattle.std.proofs.Common.{◌≡◌, ◌-◌, ◌<◌, ◌≤◌, length, take}
use Rattle.std.specs.Io.KnownBytes.{Consumes}
use Rattle.wb_streams.specs.Heads.{IsUnfinished}
use Rattle.wb_streams.proofs.head.read_head.Given as goal

abbrev pub invariant-loop-filled : goal.invariant-loop-filled
invariant-loop-filled g l = record {
  within : l.filled ≤ length l.room;
  taken : Consumes l.initial.reader.bytes l.reader.bytes (take l.filled l.room);
  unfinished : 0 < l.filled → IsUnfinished (take l.filled l.room);
  failed : l.reader.failed ≡ l.initial.reader.failed;
}

abbrev pub decreases-loop-filled : goal.decreases-loop-filled
decreases-loop-filled g l = length l.room - l.filled
