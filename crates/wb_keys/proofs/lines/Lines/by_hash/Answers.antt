-- Lines are kept by their hashes.
use Rattle.std.proofs.Common.{ap, ◌∙◌}
use Rattle.std.specs.Prelude.{find}
use Rattle.wb_keys.specs.KeyFile.{has_hash}
use Rattle.wb_keys.proofs.LineLemmas.{lookup-kept}
use Rattle.wb_keys.proofs.lines.Lines.by_hash.Goals as goal

pub returns : goal.returns
returns c = record {
  value = c.get.ensures.value
      ∙ (lookup-kept c.args.hash.now c.self.inside.by_hash.entries c.self.invariant.hashes
      ∙ ap (find (has_hash c.args.hash.now)) c.self.view_is);
}
