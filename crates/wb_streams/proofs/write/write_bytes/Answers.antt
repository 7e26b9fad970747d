-- A write appends a front of what is left.
use Rattle.std.proofs.Common.{◌∙◌, arith}
use Rattle.wb_streams.proofs.LineLemmas.{Appends-take}
use Rattle.wb_streams.proofs.write.write_bytes.Goals as goal

pub loop-done-preserved : goal.loop-done-preserved
loop-done-preserved g c = record {
  failed = c.in-Ok.ensures.ok ∙ c.loop-done.invariant.failed;
  within = omega (arith, c.in-Ok.ensures.bound, c.split_at.ensures.back_len);
  taken = Appends-take c.args.writer.now.bytes c.loop-done.writer.bytes c.write.new.self.bytes
      c.args.bytes.now c.loop-done.done c.in-Ok.count c.loop-done.invariant.taken
      (rw c.split_at.ensures.back at c.in-Ok.ensures.bytes);
}
