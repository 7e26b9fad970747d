use Rattle.std.proofs.Common.{◌≡◌, [], List, Some, None, refl, sym, subst}
use Rattle.std.specs.BTreeSet.{contains}
use Rattle.deb_text.specs.Text.{text_cmp}
use Rattle.wb_states.specs.declared.reply.PartEnd.{PartEnd}
use Rattle.wb_states.specs.declared.reply.PartEnd.TheVariants.{Merged}
use Rattle.wb_states.specs.declared.scratch.BinaryRow.{BinaryRow}
use Rattle.wb_states.specs.declared.scratch.SourceRow.{SourceRow}
use Rattle.wb_merge.specs.Changes.{NotesChanges}
use Rattle.wb_merge.specs.Merged.{Records, merge_counts, merged}
use Rattle.wb_merge.specs.Scratch.{listing_of_kept}
use Rattle.wb_merge.proofs.ChangeLemmas.{notes-itself}
use Rattle.wb_archive.specs.Tables.{Contents, Tables, with_binaries, with_records, with_savepoint}
use Rattle.wb_archive.proofs.PartLemmas.{part-kept, part-refused}
use Rattle.wb_archive.proofs.StopLemmas.{if-ok-at, if-ok-from, on-ok-at}
use Rattle.wb_archive.proofs.part.merge_part.Goals as goal

some-none : (saved : Contents) → Some saved ≡ None → ⊥
some-none saved e = cc

pub returns-in-Some-clause-value : goal.returns-in-Some-clause-value
returns-in-Some-clause-value g c = λ at archs rows clean holds first unsaved empty sources there.
    let laws = g.met.T.MergeTables in
    if-ok-from _ c.take_back.result (λ (end : PartEnd) done.
    let went = on-ok-at _ c.take_back.result end done c.take_back.ensures.calls.follows in
    let at_fill = laws.clean c.fill_binaries.new.tables c.take_back.new.tables went clean in
    let at_waited = laws.clean c.waited_names.new.tables c.fill_binaries.new.tables c.in_ok-bad.ensures.calls.follows at_fill in
    let at_save = laws.clean c.save.new.tables c.waited_names.new.tables c.in_ok-waited.ensures.calls.follows at_waited in
    let saved = c.in_ok-save.ensures.value at at_save holds unsaved in
    let kept = c.in_ok-waited.ensures.same (with_savepoint at) at_waited saved in
    let filled = rw c.in-Some.is at (c.in_ok-bad.ensures.value (with_savepoint at) at_fill kept first empty) in
    let back = on-ok-at _ c.take_back.result end done (c.take_back.ensures.value (with_binaries filled.1.1.1.0 (with_savepoint at)) at.now clean filled.1.1.1.1 refl) in
    let as_was : record { now = at.now; saved = None } ≡ at = λ i. record { now = at.now; saved = sym unsaved i } in (
      filled.0,
      (
        filled.1.0,
        part-refused (g.R.ReadParagraphs.breaks c.args.packages.now)
            (λ (records : Records). g.T.MergeTables.holds c.take_back.new.tables (with_records records at)
            × NotesChanges c.args.notes.now c.args.notes.now at.now.machine.records records)
            c.args.arch.now at.now.machine.records rows filled.0 c.in-Some.bad end filled.1.1.0
            (if-ok-at _ c.take_back.result end done c.take_back.ensures.end) (
              subst (λ (t : Tables). g.T.MergeTables.holds c.take_back.new.tables t) as_was back,
              notes-itself c.args.notes.now at.now.machine.records,
            ),
      ),
    ))

pub returns-clause-value : goal.returns-clause-value
returns-clause-value g c = λ at archs rows clean holds first unsaved empty sources there.
    let laws = g.met.T.MergeTables in
    if-ok-from _ c.keep.result (λ (end : PartEnd) done.
    let went = on-ok-at _ c.keep.result end done c.keep.ensures.calls.follows in
    let at_fill = laws.clean c.fill_binaries.new.tables c.keep.new.tables went clean in
    let at_waited = laws.clean c.waited_names.new.tables c.fill_binaries.new.tables c.in_ok-bad.ensures.calls.follows at_fill in
    let at_save = laws.clean c.save.new.tables c.waited_names.new.tables c.in_ok-waited.ensures.calls.follows at_waited in
    let saved = c.in_ok-save.ensures.value at at_save holds unsaved in
    let kept = c.in_ok-waited.ensures.same (with_savepoint at) at_waited saved in
    let filled = rw c.in-None.is at (c.in_ok-bad.ensures.value (with_savepoint at) at_fill kept first empty) in (
      filled.0,
      (
        filled.1.0,
        part-kept (g.R.ReadParagraphs.breaks c.args.packages.now)
            (λ (records : Records). g.T.MergeTables.holds c.keep.new.tables (with_records records at)
            × NotesChanges c.args.notes.now c.keep.new.notes at.now.machine.records records)
            (λ (binaries : List BinaryRow). g.T.MergeTables.holds c.fill_binaries.new.tables (with_binaries binaries (with_savepoint at)))
            c.args.arch.now archs (contains text_cmp c.in_ok-waited.waited) at.now.machine.records rows filled.0 end there
            (c.in_ok-waited.ensures.value (with_savepoint at) at_waited saved) filled.1.1
            (λ binaries stood.
            let held = on-ok-at _ c.keep.result end done (c.keep.ensures.value (with_binaries binaries (with_savepoint at)) clean stood (some-none at.now)) in
            let noted = on-ok-at _ c.keep.result end done (c.keep.ensures.noted (with_binaries binaries
            (with_savepoint at)) clean stood) in
            let told = if-ok-at _ c.keep.result end done (c.keep.ensures.end (with_binaries binaries (with_savepoint at)) clean stood) in
            let m = merged at.now.machine.records c.args.arch.now.name (listing_of_kept c.args.arch.now at.now.sources binaries) in
            let emptied : record { now = record { machine = record at.now.machine { records = m }; sources = at.now.sources; binaries = [] }; saved = None } ≡ with_records m at =
            λ i. record { now = record { machine = record at.now.machine { records = m }; sources = at.now.sources; binaries = sym empty i }; saved = sym unsaved i } in (
              subst (λ (s : List SourceRow). end ≡ Merged (merge_counts at.now.machine.records c.args.arch.now.name (listing_of_kept c.args.arch.now s binaries))) sources told,
              subst (λ (s : List SourceRow).
                  let m = merged at.now.machine.records c.args.arch.now.name
                  (listing_of_kept c.args.arch.now s binaries) in
                  g.T.MergeTables.holds c.keep.new.tables (with_records m at)
                  × NotesChanges c.args.notes.now c.keep.new.notes at.now.machine.records m) sources
                  (subst (λ (t : Tables). g.T.MergeTables.holds c.keep.new.tables t) emptied held, noted),
            )),
      ),
    ))
