use Rattle.wb_merge.specs.Merged.{merged}
use Rattle.wb_merge.proofs.ChangeLemmas.{notes-arch}
use Rattle.wb_merge.proofs.MergeLemmas.{merged-others}
use Rattle.wb_archive.specs.Decides.{listing_at}
use Rattle.wb_archive.proofs.part.keep.Goals as goal

pub returns-clause-noted : goal.returns-clause-noted
returns-clause-noted g c = λ at clean holds.
    let laws = g.met.T.MergeTables in
    let at_clear = laws.clean c.clear.new.tables c.release.new.tables c.in_ok-release.ensures.calls.follows clean in
    let at_decide = laws.clean c.decide.new.tables c.clear.new.tables c.in_ok-clear.ensures.calls.follows at_clear in
    let arch = c.args.arch.now.name in
    let listing = listing_at c.args.arch.now at.now in
    notes-arch c.args.notes.now c.note_changes.new.notes c.no_changes-changes.result c.decide.new.changes arch
    at.now.machine.records (merged at.now.machine.records arch listing) c.no_changes-changes.ensures.value
    (c.in_ok-counts.ensures.noted at at_decide holds) (merged-others at.now.machine.records arch listing)
    c.note_changes.ensures.value
