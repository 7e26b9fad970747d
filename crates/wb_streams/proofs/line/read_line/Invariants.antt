-- The bytes so far are those at the front of the room, and none is a line feed; no read failed.
use Rattle.std.proofs.Common.{◌≡◌, take}
use Rattle.std.specs.Io.KnownBytes.{Consumes}
use Rattle.deb_text.specs.Lines.{IsOneLine}
use Rattle.wb_streams.proofs.line.read_line.Given as goal

abbrev pub invariant-loop-len : goal.invariant-loop-len
invariant-loop-len g l = record {
  taken : Consumes l.initial.reader.bytes l.reader.bytes (take l.len l.room);
  line : IsOneLine (take l.len l.room);
  failed : l.reader.failed ≡ l.initial.reader.failed;
}
