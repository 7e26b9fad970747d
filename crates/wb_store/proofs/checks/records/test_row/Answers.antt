use Rattle.std.proofs.Common.{◌≡◌, ◌∙◌, true, false, inr, sym}
use Rattle.wb_states.specs.Lookups.{entry_of}
use Rattle.wb_store.proofs.OpeningRecordLemmas.{repeated}
use Rattle.wb_store.proofs.checks.records.test_row.Goals as goal

pub returns-clause-err : goal.returns-clause-err
returns-clause-err c =
    let kept = c.args.kept.now in
    inr (
      c.damaged.ensures,
      repeated kept.format kept.archs.now kept.builders.now kept.handed c.args.row.now (entry_of c.in_ok-read.read) c.in_ok-read.ensures.value.0 c.in_ok-read.ensures.value.1.kept
          (λ own. let both : false ≡ true = sym c.if-branch.false ∙ c.in_ok-is_own.ensures.value.1 own in cc),
    )
