use Rattle.wb_step.proofs.TextCheckLemmas.{told-Waits}
use Rattle.wb_step.proofs.text_check.check_waits.Goals as goal

pub returns : goal.returns
returns c = record { checks = told-Waits c.args.waits.now c.check_relations.result c.check_relations.ensures.ok c.check_relations.ensures.short c.check_relations.ensures.refused c.check_relations.ensures.memory }
