use Rattle.std.proofs.Common.{◌∙◌, refl}
use Rattle.std.proofs.lemmas.Result.{IfOk-weaker}
use Rattle.sqlite.specs.Held.{state}
use Rattle.wb_store.specs.Lookups.{HaveCounts}
use Rattle.wb_store.specs.Queries as ask
use Rattle.wb_store.proofs.FoundLemmas.{counts_found}
use Rattle.wb_store.proofs.ReadLemmas.{asks_of, handed_on, looks_up_nothing, looks_up_rows}
use Rattle.wb_store.proofs.store.Store.office_row.Goals as goal

pub returns-in_err-rows : goal.returns-in_err-rows
returns-in_err-rows g c = record {
  looks_up = rw (← c.self.view_is) (looks_up_nothing
      (asks_of ask.Office tt c.office_counts.ensures refl) c.in_err-rows.ensures.reads
      (handed_on c.from_residual.result c.from_residual.ensures.1));
}

pub returns : goal.returns
returns g c =
    let db = (state g.S.Store c.self.inside.conn).now in
    let rows = c.in_ok-rows.rows.items in
    record {
      looks_up = rw (← c.self.view_is) (looks_up_rows (asks_of ask.Office tt c.office_counts.ensures refl)
          (HaveCounts c.deref.result.now) c.counts_in.result c.in_ok-rows.ensures.reads
          (λ machine scratch stands a. IfOk-weaker c.counts_in.result _ _
          (λ counts told. told machine.handed machine.accepted
          (c.deref.ensures.value ∙ counts_found machine db stands.counts rows a)) c.counts_in.ensures.value)
          c.counts_in.ensures.err
          (λ machine scratch sound stands a. (
            machine.handed,
            machine.accepted,
            c.deref.ensures.value ∙ counts_found
                machine db stands.counts rows a,
          )));
    }
