use Rattle.std.proofs.Common.{◌≡◌, false, drop}
use Rattle.clap.specs.Words.{app_of}
use Rattle.clap.specs.declared.builder.command.Command.TheViews.{out-Command}
use Rattle.wb_words.specs.Usages.{usages_in, with_usages}
use Rattle.wb_words.proofs.tree.with_subcommands.Given as goal

abbrev pub invariant-loop-usage : goal.invariant-loop-usage
invariant-loop-usage l = (with_usages (app_of l.made) (usages_in (drop l.usage-index l.usages))
    ≡ with_usages (app_of l.fn.command) (usages_in l.usages))
    × ((out-Command l.made).has_globals ≡ false)
