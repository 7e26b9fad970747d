use Rattle.std.proofs.Common.{◌∙◌, is_some, sym, ap}
use Rattle.deb_text.proofs.KeyLemmas.{text_cmp_total}
use Rattle.deb_text.proofs.MapLemmas.{get-lookup}
use Rattle.wb_merge.proofs.report.is_repeated.Goals as goal

pub returns : goal.returns
returns c = c.contains_key.ensures ∙ sym (ap is_some (get-lookup text_cmp_total c.args.lines.now.entries c.args.line.now.source))
