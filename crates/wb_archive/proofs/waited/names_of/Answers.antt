use Rattle.std.proofs.Common.{inr}
use Rattle.std.specs.BTreeSet.{contains}
use Rattle.deb_text.specs.Text.{text_cmp}
use Rattle.wb_archive.proofs.WaitedLemmas.{rows-done, rows-step}
use Rattle.wb_archive.proofs.waited.names_of.Goals as goal

pub loop-row-init : goal.loop-row-init
loop-row-init c = λ current there. inr there

pub loop-row-preserved : goal.loop-row-preserved
loop-row-preserved c =
    rows-step (contains text_cmp c.loop-row.waited) (contains text_cmp c.add_waits.new.waited) c.row-item.result c.args.rows.now c.loop-row.row-index c.loop-row-test.true c.row-item.is
    c.in_ok-add_waits.ensures.others c.in_ok-add_waits.ensures.names c.loop-row.invariant

pub returns : goal.returns
returns c = record { value = rows-done (contains text_cmp c.loop-row.waited) c.args.rows.now c.loop-row.row-index c.loop-row-test.false c.loop-row.invariant }
