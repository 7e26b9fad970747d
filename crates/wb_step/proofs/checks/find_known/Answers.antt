use Rattle.std.proofs.Common.{◌∙◌, sym}
use Rattle.std.proofs.lemmas.Result.{IfErr-weaker, IfOk-weaker}
use Rattle.wb_step.proofs.SoughtLemmas.{known-arch, unknown-arch, sought-first, sought-found}
use Rattle.wb_step.proofs.checks.find_known.Goals as goal

pub returns-then-lacks_arch-clause-refused : goal.returns-then-lacks_arch-clause-refused
returns-then-lacks_arch-clause-refused c = λ _ done.
    sought-first c.args.office.now c.args.arch.now c.args.source.now c.args.version.now done _ _
    (unknown-arch c.args.office.now c.args.arch.now (sym c.lacks_arch.ensures.value ∙ c.if-lacks_arch.true))

pub returns-clause-known : goal.returns-clause-known
returns-clause-known c =
    IfOk-weaker c.find_source.result _ _
    (λ _ _. sym c.lacks_arch.ensures.value ∙ c.if-lacks_arch.false) c.find_source.ensures.ok

pub returns-clause-refused : goal.returns-clause-refused
returns-clause-refused c = IfErr-weaker c.find_source.result _ _ (λ _ is differs done.
    sought-found c.args.office.now c.args.arch.now c.args.source.now c.args.version.now done _ _
    (known-arch c.args.office.now c.args.arch.now (sym c.lacks_arch.ensures.value ∙ c.if-lacks_arch.false))
    (is differs)) c.find_source.ensures.refused
