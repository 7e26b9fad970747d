use Rattle.std.proofs.Common.{refl}
use Rattle.wb_keys.specs.declared.right.Right.TheVariants.{Operate}
use Rattle.wb_keys.specs.Rights.{holder_for, is_for, meets, need_of}
use Rattle.wb_keys.proofs.RightLemmas.{is_nonempty-IsIn, list_any-IsIn}
use Rattle.wb_keys.proofs.laws.operators_may_everything.Goals as goal

pub returns-clause-commands : goal.returns-clause-commands
returns-clause-commands c = λ rights machine command h.
    list_any-IsIn (λ right. meets right (holder_for machine command) (need_of command)) Operate rights h refl

pub returns-clause-kinds : goal.returns-clause-kinds
returns-clause-kinds c = λ rights kind h. list_any-IsIn (is_for kind) Operate rights h refl

pub returns-clause-queries : goal.returns-clause-queries
returns-clause-queries c = λ rights query h. is_nonempty-IsIn Operate rights h
