-- Lines are kept by their hashes.
use Rattle.std.proofs.Common.{ap, ◌∙◌}
use Rattle.std.specs.List.{list_any}
use Rattle.wb_keys.specs.KeyFile.{has_hash}
use Rattle.wb_keys.proofs.LineLemmas.{is_some-kept}
use Rattle.wb_keys.proofs.lines.Lines.has_hash.Goals as goal

pub returns : goal.returns
returns c = c.contains_key.ensures
    ∙ (is_some-kept c.args.hash.now c.self.inside.by_hash.entries c.self.invariant.hashes
    ∙ ap (list_any (has_hash c.args.hash.now)) c.self.view_is)
