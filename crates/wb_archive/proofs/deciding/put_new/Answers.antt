use Rattle.std.proofs.Common.{◌∙◌, sym, subst}
use Rattle.wb_merge.specs.Merged.{Records}
use Rattle.wb_archive.specs.Tables.{with_records}
use Rattle.wb_archive.proofs.DecideLemmas.{kept-same}
use Rattle.wb_archive.proofs.deciding.put_new.Goals as goal

pub returns-in-Kept-clause-value : goal.returns-in-Kept-clause-value
returns-in-Kept-clause-value g c = λ at clean holds is.
    let same = kept-same at.now.machine.records (c.args.arch.now, c.args.name.now) c.args.new.now (sym is ∙ c.in-Kept.is) in
    subst (λ (records : Records). g.T.MergeTables.holds c.args.tables.now (with_records records at)) (sym same) holds
