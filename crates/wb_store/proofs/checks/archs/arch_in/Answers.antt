use Rattle.std.proofs.Common.{subst, inr, refl, IfNone}
use Rattle.wb_rows.specs.Reading.{IsNoArch}
use Rattle.wb_store.proofs.CheckLemmas.{no_formed_arch}
use Rattle.wb_store.proofs.checks.archs.arch_in.Goals as goal

pub returns-in_default-clause-err : goal.returns-in_default-clause-err
returns-in_default-clause-err c =
    inr (refl, no_formed_arch c.args.row.now (subst (λ found. IfNone found (IsNoArch c.args.row.now)) c.in_default.is c.in_ok-name.ensures.none))
