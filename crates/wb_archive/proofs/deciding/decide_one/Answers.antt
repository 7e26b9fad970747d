use Rattle.std.proofs.Common.{◌∙◌, Option, ap₂, rules, subst}
use Rattle.wb_merge.specs.Changes.{NotesChange, record_change}
use Rattle.wb_merge.specs.Merged.{change_of}
use Rattle.wb_merge.specs.declared.changes.RecordChange.{RecordChange}
use Rattle.wb_merge.specs.declared.merge.Change.{Change}
use Rattle.wb_archive.proofs.StopLemmas.{advances-on, if-ok-map, if-ok-with, on-ok-just, on-ok-with, stops-on}
use Rattle.wb_archive.proofs.deciding.decide_one.Goals as goal

pub returns-clause-change : goal.returns-clause-change
returns-clause-change g c = λ at clean holds.
    let laws = g.met.T.MergeTables in
    if-ok-with _ _ c.keep_record.result c.keep_record.ensures.calls.follows (λ went.
    let at_found = laws.clean c.found.new.tables c.keep_record.new.tables went clean in
    let at_record = laws.clean c.record_of.new.tables c.found.new.tables c.in_ok-new.ensures.calls.follows at_found in
    let was = c.in_ok-old.ensures.value at at_record holds in
    let held = c.in_ok-old.ensures.same at at_record holds in
    let is = c.in_ok-new.ensures.value at at_found held (c.as_ref-known.ensures.value ∙ was) in
    if-ok-map _ _ c.keep_record.result (λ (change : Change) e. e ∙ ap₂ change_of (c.as_ref-known.ensures.value
    ∙ was) is) c.keep_record.ensures.change)

pub returns-clause-noted : goal.returns-clause-noted
returns-clause-noted g c = λ at clean holds.
    let laws = g.met.T.MergeTables in
    on-ok-with _ _ c.keep_record.result c.keep_record.ensures.calls.follows (λ went.
    let at_found = laws.clean c.found.new.tables c.keep_record.new.tables went clean in
    let at_record = laws.clean c.record_of.new.tables c.found.new.tables c.in_ok-new.ensures.calls.follows at_found in
    let was = c.in_ok-old.ensures.value at at_record holds in
    let held = c.in_ok-old.ensures.same at at_record holds in
    let is = c.in_ok-new.ensures.value at at_found held (c.as_ref-known.ensures.value ∙ was) in
    on-ok-just _ c.keep_record.result
    (subst (λ (change : Option RecordChange).
    NotesChange c.args.changes.now c.note_change.new.changes c.args.name.now change)
    (ap₂ record_change (c.as_ref-known.ensures.value ∙ was) (c.as_ref.ensures.value ∙ is)) c.note_change.ensures.value))

pub returns-in_err-new-clause-calls : goal.returns-in_err-new-clause-calls
returns-in_err-new-clause-calls g c =
    let tables = g.T.MergeTables in
    let laws = g.met.T.MergeTables in
    let stops = stops-on tables.follows tables.fails laws.follows_on laws.fails_on c.args.tables.now c.record_of.new.tables
    c.found.new.tables c.in_err-new.field-0.0 c.in_ok-old.ensures.calls.follows c.in_err-new.ensures.calls.stops in
    search (rules, stops, c.from_residual-in_err-new.ensures)

pub returns-clause-calls : goal.returns-clause-calls
returns-clause-calls g c =
    let tables = g.T.MergeTables in
    let laws = g.met.T.MergeTables in
    advances-on tables.follows tables.fails laws.follows_on laws.fails_on c.args.tables.now c.found.new.tables
    c.keep_record.new.tables c.keep_record.result
    (laws.follows_on c.args.tables.now c.record_of.new.tables c.found.new.tables c.in_ok-old.ensures.calls.follows
    c.in_ok-new.ensures.calls.follows) c.keep_record.ensures.calls
