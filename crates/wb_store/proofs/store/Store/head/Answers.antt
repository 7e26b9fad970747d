use Rattle.std.proofs.Common.{[], ◌∷◌, pos, ap, ap₂, ◌∙◌, option_map, refl}
use Rattle.sqlite.specs.Held.{state}
use Rattle.wb_states.specs.Lookups.{entry_of}
use Rattle.wb_store.specs.Queries as ask
use Rattle.wb_store.proofs.FoundLemmas.{head_found, text_bound, number_bound}
use Rattle.wb_store.proofs.LookupLemmas.{head_readable}
use Rattle.wb_store.proofs.ReadLemmas.{asks_of, handed_on, fails_to_look_up, looks_up}
use Rattle.wb_store.proofs.store.Store.head.Goals as goal

pub returns-in_err-rows : goal.returns-in_err-rows
returns-in_err-rows g c = record {
  looks_up = rw (← c.self.view_is) (fails_to_look_up (asks_of (ask.HeadOf c.args.arch.now) tt c.head.ensures (ap₂
      (λ u v. u ∷ v ∷ []) (text_bound c.params-to_sql.ensures c.as_str.ensures)
      (number_bound c.params-to_sql-2.ensures (ap pos
      (c.from-waiting.ensures ∙ c.code.ensures.value))))) refl c.in_err-rows.ensures.reads
      (handed_on c.from_residual.result c.from_residual.ensures.1)
      (λ machine scratch sound stands rows a. head_readable machine
      (state g.S.Store c.self.inside.conn).now stands rows sound _ a));
}

pub returns : goal.returns
returns g c =
    let db = (state g.S.Store c.self.inside.conn).now in
    record {
      looks_up = rw (← c.self.view_is) (looks_up (asks_of (ask.HeadOf c.args.arch.now) tt c.head.ensures (ap₂
          (λ u v. u ∷ v ∷ []) (text_bound c.params-to_sql.ensures c.as_str.ensures)
          (number_bound c.params-to_sql-2.ensures (ap pos
          (c.from-waiting.ensures ∙ c.code.ensures.value))))) refl c.in_ok-rows.ensures.reads
          (λ machine scratch stands a sound. ap (option_map entry_of) c.first_in.ensures
          ∙ head_found machine db stands c.in_ok-rows.rows.items sound c.args.arch.now
          refl a));
    }
