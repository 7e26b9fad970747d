use Rattle.std.proofs.Common.{ap, arith}
use Rattle.std.specs.FinMap as finite
use Rattle.deb_text.specs.Text.{text_cmp}
use Rattle.wb_merge.specs.Offers.{with_listed}
use Rattle.wb_merge.proofs.ReadCountLemmas.{begins, all-sources, first-takes}
use Rattle.wb_merge.proofs.listing.read_sources.Goals as goal

pub loop-listed-init : goal.loop-listed-init
loop-listed-init c = record {
  stands = begins c.args.sources.now c.of-paragraphs.result c.of-paragraphs.ensures (omega arith);
  goes = all-sources (with_listed c.args.arch.now) _ finite.empty c.args.sources.now c.of-paragraphs.result c.of-paragraphs.ensures
      (ap (finite.from_entries {R = text_cmp}) c.new-listed.ensures.empty);
  grown = first-takes c.args.sources.now c.of-paragraphs.result c.of-paragraphs.ensures;
}
