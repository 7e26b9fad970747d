use Rattle.std.proofs.Common.{subst, IfNone, ℕ}
use Rattle.wb_store.specs.Checks.{HasFormat}
use Rattle.wb_store.proofs.OpeningCountLemmas.{no_format}
use Rattle.wb_store.proofs.checks.counts.tested_counts.Goals as goal

pub returns-in_default-format_in-clause-err : goal.returns-in_default-format_in-clause-err
returns-in_default-format_in-clause-err c =
    no_format c.args.wanted c.args.rows.now c.row-item.result c.row-item.is
    (subst (λ found. IfNone found ((format : ℕ) → ¬ HasFormat format c.row-item.result)) c.in_default-format_in.is c.format_in.ensures.none)
