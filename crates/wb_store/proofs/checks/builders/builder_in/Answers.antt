use Rattle.std.proofs.Common.{subst, inr, refl, IfNone}
use Rattle.wb_rows.specs.Reading.{IsNoBuilder}
use Rattle.wb_store.proofs.OpeningBuilderLemmas.{no_formed_builder}
use Rattle.wb_store.proofs.checks.builders.builder_in.Goals as goal

pub returns-in_default-clause-err : goal.returns-in_default-clause-err
returns-in_default-clause-err c =
    inr (refl, no_formed_builder c.args.archs.now c.args.row.now (subst (λ found. IfNone found (IsNoBuilder c.args.row.now)) c.in_default.is c.in_ok-name.ensures.none))
