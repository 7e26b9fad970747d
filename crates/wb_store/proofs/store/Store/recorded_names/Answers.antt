use Rattle.std.proofs.Common.{[], ◌∷◌, ap}
use Rattle.std.proofs.lemmas.Result.{IfOk-weaker}
use Rattle.sqlite.specs.Held.{state}
use Rattle.wb_store.specs.Queries as ask
use Rattle.wb_store.specs.ScratchLookups.{AreNames}
use Rattle.wb_store.proofs.FoundLemmas.{text_bound}
use Rattle.wb_store.proofs.ReadLemmas.{asks_of, handed_on, looks_up_nothing, looks_up_rows}
use Rattle.wb_store.proofs.RecordNameLemmas.{names_found, names_readable}
use Rattle.wb_store.proofs.store.Store.recorded_names.Goals as goal

pub returns-in_err-rows : goal.returns-in_err-rows
returns-in_err-rows g c = record {
  looks_up = rw (← c.self.view_is) (looks_up_nothing (asks_of
      (ask.NamesOf c.args.arch.now) tt c.names_of_arch.ensures (ap (λ v. v ∷ [])
      (text_bound c.params-to_sql.ensures c.as_str.ensures))) c.in_err-rows.ensures.reads
      (handed_on c.from_residual.result c.from_residual.ensures.1));
}

pub returns : goal.returns
returns g c =
    let db = (state g.S.Store c.self.inside.conn).now in
    let arch = c.args.arch.now in
    let rows = c.in_ok-rows.rows.items in
    record {
      looks_up = rw (← c.self.view_is) (looks_up_rows (asks_of (ask.NamesOf arch) tt c.names_of_arch.ensures (ap
          (λ v. v ∷ []) (text_bound c.params-to_sql.ensures c.as_str.ensures)))
          (AreNames rows) c.names_in.result c.in_ok-rows.ensures.reads
          (λ machine scratch stands a. IfOk-weaker c.names_in.result _ _
          (λ made is. names_found machine db stands rows arch a made.items is) c.names_in.ensures.value)
          c.names_in.ensures.err
          (λ machine scratch sound stands a. names_readable machine db stands rows arch a sound));
    }
