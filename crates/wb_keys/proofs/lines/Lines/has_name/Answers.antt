-- The names that are kept are those of the lines.
use Rattle.std.proofs.Common.{ap, ◌∙◌}
use Rattle.std.specs.Prelude.{bytes_eq}
use Rattle.std.specs.List.{list_any}
use Rattle.std.specs.String.{string_bytes}
use Rattle.wb_keys.specs.KeyFile.{has_name}
use Rattle.wb_keys.proofs.LineLemmas.{name-kept}
use Rattle.wb_keys.proofs.lines.Lines.has_name.Goals as goal

pub returns : goal.returns
returns c = c.contains.ensures
    ∙ (ap (λ text. list_any (λ kept. bytes_eq text (string_bytes kept)) c.self.inside.names.keys) c.as_str.ensures
    ∙ (name-kept c.args.name.now c.self.inside.names.keys _ c.self.invariant.names
    ∙ ap (list_any (has_name c.args.name.now)) c.self.view_is))
