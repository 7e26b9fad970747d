use Rattle.std.proofs.Common.{◌≡◌, ◌∙◌, ◌++◌, List, [], map as each, drop, refl, sym, ap, subst, append-nil, Ok, Err}
use Rattle.std.proofs.Common.{Result}
use Rattle.std.proofs.lemmas.List.{drop_all}
use Rattle.wb_states.specs.declared.keyed.KeyedRecord.{KeyedRecord}
use Rattle.wb_states.specs.declared.store_fault.StoreFault.{StoreFault}
use Rattle.wb_states.specs.declared.store_fault.StoreFault.TheVariants.{Memory}
use Rattle.wb_states.specs.Lookups.{entry_of}
use Rattle.wb_states.specs.Queue.{Entry}
use Rattle.wb_merge.specs.Changes.{NotesBetween}
use Rattle.wb_merge.specs.Merged.{Records}
use Rattle.wb_merge.specs.Reported.{rows_over, rows_reported, with_rows}
use Rattle.wb_merge.proofs.ChangeLemmas.{between-start}
use Rattle.wb_merge.proofs.ReportedLemmas.{reported-rows}
use Rattle.wb_store.specs.Finds.{Finds}
use Rattle.wb_store.proofs.FindsLemmas.{finds_then, finds_unasked, finds_weaker, lacks_memory, then_fails}
use Rattle.wb_store.proofs.ReadLemmas.{handed_on}
use Rattle.wb_office.proofs.ReportLemmas.{rows_next, rows_noted}
use Rattle.wb_office.proofs.reporting.find_rows.Goals as goal

pub returns-in_err-sources : goal.returns-in_err-sources
returns-in_err-sources g c =
    let nothing : Finds g.S.Store (λ machine (x : Unit {0}). Unit {0}) c.args.store.now c.args.store.now (Ok tt) = finds_unasked (λ machine sound. tt) in
    record { finds = lacks_memory nothing (handed_on c.from_residual.result c.from_residual.ensures.1) }

pub loop-source-init : goal.loop-source-init
unfolding rows_reported
loop-source-init g c = finds_unasked (λ machine sound. (
  ap (λ (rows : List KeyedRecord). each entry_of rows ++ rows_over machine.records c.args.arch.now c.args.lines.now c.deref-source-items.result.now) c.new-rows.ensures.items
      ∙ ap (rows_over machine.records c.args.arch.now c.args.lines.now) (c.deref-source-items.ensures.value ∙ c.in_ok-sources.ensures.value),
  subst (λ (rows : List KeyedRecord). NotesBetween c.args.changes.now c.args.changes.now machine.records
      (with_rows machine.records (each entry_of rows)) c.args.arch.now) (sym c.new-rows.ensures.items)
      (between-start c.args.changes.now machine.records c.args.arch.now),
))

pub returns-in_err-found : goal.returns-in_err-found
returns-in_err-found g c = record {
  finds = then_fails c.loop-source.invariant c.in_err-found.ensures.finds (handed_on c.from_residual-in_err-found.result c.from_residual-in_err-found.ensures.1);
}

pub returns-in_err-push_found : goal.returns-in_err-push_found
returns-in_err-push_found g c =
    let full : Result (Unit {0}) StoreFault = Err Memory in
    let lacks : Finds g.S.Store (λ machine (x : Unit {0}). Unit {0}) c.loop-source.store c.find_row.new.store full = lacks_memory c.in_ok-found.ensures.finds refl in
    record { finds = then_fails c.loop-source.invariant lacks (handed_on c.from_residual-in_err-push_found.result c.from_residual-in_err-push_found.ensures.1) }

pub loop-source-preserved : goal.loop-source-preserved
loop-source-preserved g c =
    finds_then c.loop-source.invariant c.in_ok-found.ensures.finds (λ machine sound first second. (
      rows_next machine.records c.args.arch.now c.args.lines.now c.deref-source-items.result.now c.loop-source.source-index c.source-item.result c.loop-source-test.true c.source-item.is
          c.loop-source.rows.items c.push_found.new.rows.items c.in_ok-found.found c.in_ok-push_found.ensures.ok first.0 second.0,
      rows_noted c.args.changes.now c.loop-source.changes c.find_row.new.changes machine.records c.args.arch.now c.args.lines.now c.source-item.result
          c.loop-source.rows.items c.push_found.new.rows.items c.in_ok-found.found c.in_ok-push_found.ensures.ok second.0 first.1 second.1,
    ))

pub returns : goal.returns
returns g c = record {
  finds = finds_weaker (Ok c.loop-source.rows) c.loop-source.invariant (λ machine rows sound both.
      let left : rows_over machine.records c.args.arch.now c.args.lines.now (drop c.loop-source.source-index c.deref-source-items.result.now) ≡ [] =
      ap (rows_over machine.records c.args.arch.now c.args.lines.now) (drop_all c.loop-source.source-index c.deref-source-items.result.now c.loop-source-test.false) in
      let are : each entry_of rows.items ≡ rows_reported machine.records c.args.arch.now c.args.lines.now =
      sym (ap (λ (l : List Entry). each entry_of rows.items ++ l) left ∙ append-nil (each entry_of rows.items)) ∙ both.0 in (
        are,
        subst (λ (r : Records). NotesBetween c.args.changes.now c.loop-source.changes machine.records r c.args.arch.now)
            (ap (with_rows machine.records) are ∙ reported-rows machine.records c.args.arch.now c.args.lines.now) both.1,
      ));
}
