use Rattle.std.proofs.Common.{[], ◌∷◌, ◌^◌, ◌-◌, min, ap, ◌∙◌, option_map, arith, refl}
use Rattle.std.proofs.lemmas.Int.{ints}
use Rattle.sqlite.specs.Held.{state}
use Rattle.wb_states.specs.Lookups.{entry_of}
use Rattle.wb_store.specs.Queries as ask
use Rattle.wb_store.proofs.FoundLemmas.{taken_found, number_bound}
use Rattle.wb_store.proofs.LookupLemmas.{take_readable}
use Rattle.wb_store.proofs.ReadLemmas.{asks_of, handed_on, fails_to_look_up, looks_up}
use Rattle.wb_store.proofs.store.Store.by_take.Goals as goal

pub returns-in_err-rows : goal.returns-in_err-rows
returns-in_err-rows g c = record {
  looks_up = rw (← c.self.view_is) (fails_to_look_up (asks_of
      (ask.TakenAs c.args.take_number) tt c.record_of_take.ensures (ap (λ v. v ∷ [])
      (number_bound {n = min c.args.take_number (2 ^ 63 - 1)} c.params-to_sql.ensures (omega
      (arith, ints))))) refl c.in_err-rows.ensures.reads (handed_on c.from_residual.result c.from_residual.ensures.1)
      (λ machine scratch sound stands rows a. take_readable machine
      (state g.S.Store c.self.inside.conn).now stands rows sound _ a));
}

pub returns : goal.returns
returns g c =
    let db = (state g.S.Store c.self.inside.conn).now in
    record {
      looks_up = rw (← c.self.view_is) (looks_up (asks_of (ask.TakenAs c.args.take_number) tt c.record_of_take.ensures
          (ap (λ v. v ∷ []) (number_bound {n = min c.args.take_number (2 ^ 63 - 1)} c.params-to_sql.ensures (omega
          (arith, ints))))) refl c.in_ok-rows.ensures.reads
          (λ machine scratch stands a sound. ap (option_map entry_of) c.first_in.ensures
          ∙ taken_found machine db stands c.in_ok-rows.rows.items sound c.args.take_number refl a));
    }
