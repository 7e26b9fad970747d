use Rattle.std.proofs.Common.{◌∙◌, sym, subst}
use Rattle.wb_merge.specs.Merged.{Records}
use Rattle.wb_archive.specs.Tables.{with_records}
use Rattle.wb_archive.proofs.DecideLemmas.{absent-same}
use Rattle.wb_archive.proofs.deciding.take_out.Goals as goal

pub returns-in-Absent-clause-value : goal.returns-in-Absent-clause-value
returns-in-Absent-clause-value g c = λ at clean holds is.
    let same = absent-same at.now.machine.records (c.args.arch.now, c.args.name.now) (sym is ∙ c.in-Absent.is) in
    subst (λ (records : Records). g.T.MergeTables.holds c.args.tables.now (with_records records at)) (sym same) holds
