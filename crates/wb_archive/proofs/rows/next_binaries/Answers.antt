use Rattle.std.proofs.Common.{◌+◌}
use Rattle.std.specs.BTreeSet.{contains}
use Rattle.deb_text.specs.Text.{text_cmp}
use Rattle.wb_states.specs.declared.refusal.ListKind.TheVariants.{Packages}
use Rattle.wb_merge.specs.Scratch.{binary_rows_at}
use Rattle.wb_archive.proofs.ReadLemmas.{counts-more, gives-end, gives-row, refuses-control, refuses-fields, rows-kept}
use Rattle.wb_archive.proofs.rows.next_binaries.Goals as goal

pub returns-in-Ok-clause-value : goal.returns-in-Ok-clause-value
returns-in-Ok-clause-value g c = λ count.
    let laws = g.met.R.ReadParagraphs in
    let fields = g.R.Found.Fields.fields c.in-Ok-Some.found in
    let kept = rows-kept c.args.arch.now (contains text_cmp c.args.waited.now) (c.args.passed + 1) fields
    c.in-Ok.rows.items c.in-Ok.ensures.value in (
      kept.0,
      (
        kept.1.0,
        gives-row g.R.ReadParagraphs.may_stand_at g.R.ReadParagraphs.passed laws.stands laws.counts
            (binary_rows_at c.args.arch.now) c.args.list.now c.next.new.self c.args.passed fields kept.0
            (rw c.in-Ok-Some.field-0-is at c.in-Ok-Some.ensures.ok) count kept.1.1,
      ),
    )

pub returns-in-Ok-clause-counts : goal.returns-in-Ok-clause-counts
returns-in-Ok-clause-counts g c =
    let laws = g.met.R.ReadParagraphs in
    counts-more g.R.ReadParagraphs.may_stand_at g.R.ReadParagraphs.passed laws.stands laws.counts c.args.list.now c.next.new.self (g.R.Found.Fields.fields c.in-Ok-Some.found)
    (rw c.in-Ok-Some.field-0-is at c.in-Ok-Some.ensures.ok)

pub returns-in-Ok-None-clause-ended : goal.returns-in-Ok-None-clause-ended
returns-in-Ok-None-clause-ended g c = λ none.
    let laws = g.met.R.ReadParagraphs in
    gives-end g.R.ReadParagraphs.may_stand_at g.R.ReadParagraphs.passed laws.stands laws.counts Packages
    (binary_rows_at c.args.arch.now) c.args.list.now c.next.new.self
    (rw c.in-Ok-None.field-0-is at c.in-Ok-None.ensures.ok)

pub returns-in-Ok-Some-clause-refused : goal.returns-in-Ok-Some-clause-refused
returns-in-Ok-Some-clause-refused g c = λ count.
    let laws = g.met.R.ReadParagraphs in
    refuses-fields g.R.ReadParagraphs.may_stand_at g.R.ReadParagraphs.passed laws.stands laws.counts Packages
    (binary_rows_at c.args.arch.now) g.R.ReadParagraphs.breaks c.args.list.now c.next.new.self c.args.passed
    (g.R.Found.Fields.fields c.in-Ok-Some.found) c.in-Err-binary_rows.refusal c.read_fault.result
    (rw c.in-Ok-Some.field-0-is at c.in-Ok-Some.ensures.ok) count c.in-Err-binary_rows.ensures.refused
    c.read_fault.ensures.is

pub returns-clause-refused : goal.returns-clause-refused
returns-clause-refused g c = λ count.
    let laws = g.met.R.ReadParagraphs in
    refuses-control g.R.ReadParagraphs.may_stand_at g.R.ReadParagraphs.passed laws.stands laws.counts Packages
    (binary_rows_at c.args.arch.now) g.R.ReadParagraphs.breaks c.args.list.now c.in-Err.fault c.fault_of.result
    c.in-Err.ensures.refused c.fault_of.ensures.is
