-- What was appended is the front of the bytes, and no write failed.
use Rattle.std.proofs.Common.{◌≡◌, length, take, ◌-◌, ◌≤◌}
use Rattle.std.specs.Io.KnownBytes.{Appends}
use Rattle.wb_streams.proofs.write.write_bytes.Given as goal

abbrev pub invariant-loop-done : goal.invariant-loop-done
invariant-loop-done g l = record {
  within : l.done ≤ length l.bytes;
  taken : Appends l.initial.writer.bytes l.writer.bytes (take l.done l.bytes);
  failed : l.writer.failed ≡ l.initial.writer.failed;
}

abbrev pub decreases-loop-done : goal.decreases-loop-done
decreases-loop-done g l = length l.bytes - l.done
