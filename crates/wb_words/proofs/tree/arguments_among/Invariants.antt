use Rattle.std.proofs.Common.{◌≡◌, drop}
use Rattle.wb_words.specs.Usages.{arguments_named, usages_in}
use Rattle.wb_words.proofs.tree.arguments_among.Given as goal

abbrev pub invariant-loop-usage : goal.invariant-loop-usage
invariant-loop-usage l = arguments_named l.name (usages_in (drop l.usage-index l.usages)) ≡ arguments_named l.name (usages_in l.usages)
