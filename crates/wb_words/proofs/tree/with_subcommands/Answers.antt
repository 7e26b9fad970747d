use Rattle.std.proofs.Common.{◌∙◌}
use Rattle.wb_words.proofs.UsageLemmas.{with_usages-next}
use Rattle.wb_words.proofs.tree.with_subcommands.Goals as goal

pub loop-usage-preserved : goal.loop-usage-preserved
loop-usage-preserved c =
    let grown = c.in_ok-made.ensures in (
      with_usages-next _ _ _ c.loop-usage.made c.new.result c.in_ok-added.added c.in_ok-made.made c.loop-usage-test.true
          c.new.ensures.app c.in_ok-added.ensures.value (grown.shape c.in_ok-added.ensures.local) ∙ c.loop-usage.invariant.0,
      rw (grown.globals, c.loop-usage.invariant.1, c.in_ok-added.ensures.local),
    )
