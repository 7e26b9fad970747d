use Rattle.std.proofs.Common.{◌≡◌, ap, arith}
use Rattle.std.specs.FinMap as finite
use Rattle.deb_relations.specs.Satisfaction.{no_pairs}
use Rattle.deb_text.specs.Text.{text_cmp}
use Rattle.wb_merge.specs.Offers.{with_binary}
use Rattle.wb_merge.proofs.ReadCountLemmas.{begins, all-binaries, first-takes}
use Rattle.wb_merge.proofs.listing.read_packages.Goals as goal

pub loop-available-init : goal.loop-available-init
loop-available-init c =
    let nothing : finite.from_entries {R = text_cmp} c.new-built.result.entries ≡ finite.empty = ap (finite.from_entries {R = text_cmp}) c.new-built.ensures.empty in
    let none : c.new-available.result ≡ no_pairs = c.new-available.ensures.value in
    record {
      stands = begins c.args.packages.now c.of-paragraphs.result c.of-paragraphs.ensures (omega arith);
      goes = all-binaries (with_binary c.args.arch.now) _ (finite.empty, no_pairs) c.args.packages.now c.of-paragraphs.result c.of-paragraphs.ensures
          (λ i. (nothing i, none i));
      grown = first-takes c.args.packages.now c.of-paragraphs.result c.of-paragraphs.ensures;
    }
