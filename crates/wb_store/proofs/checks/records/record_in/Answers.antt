use Rattle.std.proofs.Common.{◌≡◌, ◌∙◌, true, false, subst, sym, inr, IfNone, IfSome}
use Rattle.wb_states.specs.Lookups.{entry_of}
use Rattle.wb_store.specs.Schemas.{IsKeptIn, IsNoneIn, cells_in}
use Rattle.wb_store.proofs.OpeningRecordLemmas.{no_formed_record, unformed_record}
use Rattle.wb_store.proofs.checks.records.record_in.Goals as goal

pub returns-in_default-clause-err : goal.returns-in_default-clause-err
returns-in_default-clause-err c =
    let kept = c.args.kept.now in
    inr (
      c.damaged.ensures,
      no_formed_record kept.format kept.archs.now kept.builders.now kept.handed c.args.row.now
          (subst (λ found. IfNone found (IsNoneIn kept.format c.args.row.now)) c.in_default.is c.in_ok-read.ensures.none),
    )

pub returns-else-branch-clause-err : goal.returns-else-branch-clause-err
returns-else-branch-clause-err c =
    let kept = c.args.kept.now in
    let read = subst (λ found. IfSome found (λ made. (c.args.row.now ≡ cells_in kept.format (entry_of made)) × IsKeptIn kept.format made.current)) c.in-Some.is c.in_ok-read.ensures.value in
    inr (
      c.damaged-else-branch.ensures,
      unformed_record kept.format kept.archs.now kept.builders.now kept.handed c.args.row.now (entry_of c.in-Some.read)
          read.0 read.1
          (λ formed. let both : false ≡ true = sym c.if-branch.false ∙ c.in_ok-is_record_formed.ensures.value.1 formed in cc),
    )
