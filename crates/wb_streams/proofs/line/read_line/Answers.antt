-- A full room and one byte more are a line that is too long.
use Rattle.std.proofs.Common.{◌∙◌, take, arith, length-take}
use Rattle.wb_streams.proofs.LineLemmas.{over_long}
use Rattle.wb_streams.proofs.line.read_line.Goals as goal

pub returns-in-Byte-read_byte : goal.returns-in-Byte-read_byte
returns-in-Byte-read_byte g c = record {
  failed = c.in-Byte-read_byte.ensures.failed ∙ c.loop-len.invariant.failed;
  value = over_long c.args.reader.now.bytes c.loop-len.reader.bytes c.read_byte-2.new.reader.bytes
      (take c.loop-len.len c.loop-len.room) c.in-Byte-read_byte.field-0
      (simp length-take (omega (arith, c.requires)))
      c.loop-len.invariant.line c.in-Byte-read_byte.field-0-test.1 c.loop-len.invariant.taken c.in-Byte-read_byte.ensures.value;
}
