use Rattle.std.proofs.Common.{◌∙◌}
use Rattle.std.proofs.lemmas.Bool.{eq-eqb, eqb-true}
use Rattle.wb_sql.proofs.RecognitionLemmas.{stored_is, is_stored}
use Rattle.wb_sql.proofs.beside.is_alone.Goals as goal

pub returns-then-count_in_tree-eq1 : goal.returns-then-count_in_tree-eq1
returns-then-count_in_tree-eq1 c =
    record { value = (λ stored. record { one = cc; stored = stored_is c.args.tree stored }, λ is. is_stored c.args.tree is.stored) }

pub returns-else-count_in_tree-eq1 : goal.returns-else-count_in_tree-eq1
returns-else-count_in_tree-eq1 c =
    record { value = (λ so. absurd (c.if-count_in_tree-eq1.false (eqb-true _ _ so)), λ is. eq-eqb _ _ (c.count_in_tree.ensures.value ∙ is.one)) }
