use Rattle.std.proofs.Common.{[], ◌∷◌, ap₂, ◌∙◌, refl}
use Rattle.sqlite.specs.Held.{state}
use Rattle.wb_store.specs.Queries as ask
use Rattle.wb_store.proofs.FoundLemmas.{current_found, text_bound}
use Rattle.wb_store.proofs.LookupLemmas.{key_readable}
use Rattle.wb_store.proofs.ReadLemmas.{asks_of, handed_on, fails_to_look_up, looks_up}
use Rattle.wb_store.proofs.store.Store.get.Goals as goal

pub returns-in_err-rows : goal.returns-in_err-rows
returns-in_err-rows g c = record {
  looks_up = rw (← c.self.view_is) (fails_to_look_up (asks_of (ask.RecordAt
      (c.args.arch.now, c.args.source.now)) tt c.record.ensures (ap₂ (λ u v. u ∷ v ∷ [])
      (text_bound c.params-to_sql.ensures c.as_str.ensures)
      (text_bound c.params-to_sql-2.ensures c.as_str-2.ensures))) refl c.in_err-rows.ensures.reads
      (handed_on c.from_residual.result c.from_residual.ensures.1)
      (λ machine scratch sound stands rows a. key_readable machine
      (state g.S.Store c.self.inside.conn).now stands rows sound _ a));
}

pub returns : goal.returns
returns g c =
    let db = (state g.S.Store c.self.inside.conn).now in
    record {
      looks_up = rw (← c.self.view_is) (looks_up (asks_of (ask.RecordAt
          (c.args.arch.now, c.args.source.now)) tt c.record.ensures (ap₂ (λ u v. u ∷ v ∷ [])
          (text_bound c.params-to_sql.ensures c.as_str.ensures)
          (text_bound c.params-to_sql-2.ensures c.as_str-2.ensures))) refl c.in_ok-rows.ensures.reads
          (λ machine scratch stands a. c.current_in.ensures
          ∙ current_found machine db stands c.in_ok-rows.rows.items (c.args.arch.now, c.args.source.now)
          refl a));
    }
