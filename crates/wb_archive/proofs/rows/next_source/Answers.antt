use Rattle.std.proofs.Common.{◌+◌}
use Rattle.wb_states.specs.declared.refusal.ListKind.TheVariants.{Sources}
use Rattle.wb_merge.specs.Scratch.{source_row_at}
use Rattle.wb_archive.proofs.ReadLemmas.{source-seq, counts-more, gives-end, gives-row, refuses-control, refuses-fields}
use Rattle.wb_archive.proofs.rows.next_source.Goals as goal

pub returns-in-Ok-clause-number : goal.returns-in-Ok-clause-number
returns-in-Ok-clause-number g c = source-seq (c.args.passed + 1) (g.R.Found.Fields.fields c.in-Ok-Some.found) c.in-Ok.row c.in-Ok.ensures.value

pub returns-in-Ok-clause-value : goal.returns-in-Ok-clause-value
returns-in-Ok-clause-value g c = λ count.
    let laws = g.met.R.ReadParagraphs in
    gives-row g.R.ReadParagraphs.may_stand_at g.R.ReadParagraphs.passed laws.stands laws.counts source_row_at c.args.list.now c.next.new.self c.args.passed (g.R.Found.Fields.fields c.in-Ok-Some.found) c.in-Ok.row
    (rw c.in-Ok-Some.field-0-is at c.in-Ok-Some.ensures.ok) count c.in-Ok.ensures.value

pub returns-in-Ok-clause-counts : goal.returns-in-Ok-clause-counts
returns-in-Ok-clause-counts g c =
    let laws = g.met.R.ReadParagraphs in
    counts-more g.R.ReadParagraphs.may_stand_at g.R.ReadParagraphs.passed laws.stands laws.counts c.args.list.now c.next.new.self (g.R.Found.Fields.fields c.in-Ok-Some.found)
    (rw c.in-Ok-Some.field-0-is at c.in-Ok-Some.ensures.ok)

pub returns-in-Ok-None-clause-ended : goal.returns-in-Ok-None-clause-ended
returns-in-Ok-None-clause-ended g c = λ none.
    let laws = g.met.R.ReadParagraphs in
    gives-end g.R.ReadParagraphs.may_stand_at g.R.ReadParagraphs.passed laws.stands laws.counts Sources source_row_at c.args.list.now c.next.new.self (rw c.in-Ok-None.field-0-is at c.in-Ok-None.ensures.ok)

pub returns-in-Ok-Some-clause-refused : goal.returns-in-Ok-Some-clause-refused
returns-in-Ok-Some-clause-refused g c = λ count.
    let laws = g.met.R.ReadParagraphs in
    refuses-fields g.R.ReadParagraphs.may_stand_at g.R.ReadParagraphs.passed laws.stands laws.counts Sources source_row_at g.R.ReadParagraphs.breaks c.args.list.now c.next.new.self c.args.passed
    (g.R.Found.Fields.fields c.in-Ok-Some.found) c.in-Err-source_row.refusal c.read_fault.result
    (rw c.in-Ok-Some.field-0-is at c.in-Ok-Some.ensures.ok) count c.in-Err-source_row.ensures.refused c.read_fault.ensures.is

pub returns-clause-refused : goal.returns-clause-refused
returns-clause-refused g c = λ count.
    let laws = g.met.R.ReadParagraphs in
    refuses-control g.R.ReadParagraphs.may_stand_at g.R.ReadParagraphs.passed laws.stands laws.counts Sources source_row_at g.R.ReadParagraphs.breaks c.args.list.now c.in-Err.fault c.fault_of.result
    c.in-Err.ensures.refused c.fault_of.ensures.is
