use Rattle.std.proofs.Common.{[], ◌∷◌, pos, ap, ap₂, ◌∙◌, refl}
use Rattle.sqlite.specs.Held.{state}
use Rattle.wb_store.specs.Queries as ask
use Rattle.wb_store.proofs.FoundLemmas.{state_found, text_bound, number_bound}
use Rattle.wb_store.proofs.LookupLemmas.{state_readable}
use Rattle.wb_store.proofs.ReadLemmas.{asks_of, looks_up_all}
use Rattle.wb_store.proofs.store.Store.in_state.Goals as goal

pub returns : goal.returns
returns g c =
    let db = (state g.S.Store c.self.inside.conn).now in
    record {
      looks_up = rw (← c.self.view_is) (looks_up_all (asks_of
          (ask.InState c.args.arch.now c.args.state) tt c.records_in_state.ensures (ap₂ (λ u v. u ∷ v ∷ [])
          (text_bound c.params-to_sql.ensures c.as_str.ensures) (number_bound c.params-to_sql-2.ensures (ap pos
          (c.from-code.ensures ∙ c.code.ensures.value))))) refl c.records.result c.records.ensures.reads
          (λ machine scratch rows stands a. state_found machine db stands rows.items c.args.arch.now c.args.state refl
          a)
          (λ machine scratch sound stands rows a. state_readable machine db stands rows sound _ a));
    }
