use Rattle.std.proofs.Common.{◌≡◌, false, drop}
use Rattle.clap.specs.Words.{app_of}
use Rattle.clap.specs.declared.builder.command.Command.TheViews.{out-Command}
use Rattle.wb_words.specs.Usages.{arguments_in, with_arguments}
use Rattle.wb_words.proofs.tree.with_arguments.Given as goal

abbrev pub invariant-loop-taken : goal.invariant-loop-taken
invariant-loop-taken l = (with_arguments (app_of l.made) (arguments_in (drop l.taken-index l.arguments))
    ≡ with_arguments (app_of l.fn.command) (arguments_in l.arguments))
    × ((out-Command l.made).has_globals ≡ false)
