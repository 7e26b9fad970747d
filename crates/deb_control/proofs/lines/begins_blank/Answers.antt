use Rattle.std.proofs.Common.{◌∙◌, sym}
use Rattle.deb_control.proofs.BlankLemmas.{blank-goes, blank-stops, no_feed}
use Rattle.deb_control.proofs.lines.begins_blank.Goals as goal

pub returns-then-not-is_blank : goal.returns-then-not-is_blank
returns-then-not-is_blank c =
    blank-stops c.args.bytes.now c.loop-b.b-index c.loop-b-test.true (no_feed _ c.if-b-eq10.false) (sym c.is_blank.ensures ∙ c.if-not-is_blank.true) ∙ c.loop-b.invariant

pub loop-b-preserved : goal.loop-b-preserved
loop-b-preserved c =
    blank-goes c.args.bytes.now c.loop-b.b-index c.loop-b-test.true (no_feed _ c.if-b-eq10.false) (sym c.is_blank.ensures ∙ c.if-not-is_blank.false) ∙ c.loop-b.invariant
