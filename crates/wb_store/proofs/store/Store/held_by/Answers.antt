use Rattle.std.proofs.Common.{[], ◌∷◌, ap, rules, refl}
use Rattle.std.proofs.lemmas.List.Sorted.{IsNonDecreasingBy-from_sort_by_key, answers_always}
use Rattle.sqlite.specs.Held.{state}
use Rattle.wb_store.specs.Queries as ask
use Rattle.wb_store.proofs.FoundLemmas.{held_found, text_bound}
use Rattle.wb_store.proofs.HoldLemmas.{are_held, number_of}
use Rattle.wb_store.proofs.LookupLemmas.{held_readable}
use Rattle.wb_store.proofs.ReadLemmas.{asks_of, handed_on, fails_to_look_up, lacks_memory, looks_up}
use Rattle.wb_store.proofs.store.Store.held_by.Goals as goal

pub returns-in_err-rows : goal.returns-in_err-rows
returns-in_err-rows g c = record {
  looks_up = rw (← c.self.view_is) (fails_to_look_up (asks_of (ask.HeldBy c.args.builder.now) tt c.held_by.ensures (ap
      (λ v. v ∷ []) (text_bound c.params-to_sql.ensures c.as_str.ensures))) refl c.in_err-rows.ensures.reads
      (handed_on c.from_residual.result c.from_residual.ensures.1)
      (λ machine scratch sound stands rows a. held_readable machine
      (state g.S.Store c.self.inside.conn).now stands rows sound _ a));
}

pub returns-in_err-sort_by_key : goal.returns-in_err-sort_by_key
returns-in_err-sort_by_key g c = record {
  looks_up = rw (← c.self.view_is) (lacks_memory (asks_of (ask.HeldBy c.args.builder.now) tt c.held_by.ensures (ap
      (λ v. v ∷ []) (text_bound c.params-to_sql.ensures c.as_str.ensures))) refl c.in_ok-rows.ensures.reads
      (handed_on c.from_residual-in_err-sort_by_key.result c.from_residual-in_err-sort_by_key.ensures.1));
}

pub returns : goal.returns
returns g c =
    let db = (state g.S.Store c.self.inside.conn).now in
    let builder = c.args.builder.now in
    record {
      looks_up = rw (← c.self.view_is) (looks_up (asks_of (ask.HeldBy c.args.builder.now) tt c.held_by.ensures (ap
          (λ v. v ∷ []) (text_bound c.params-to_sql.ensures c.as_str.ensures))) refl c.in_ok-rows.ensures.reads
          (λ machine scratch stands a. are_held machine builder c.in_ok-rows.rows.items
          c.sort_by_key.new.self.items
          (IsNonDecreasingBy-from_sort_by_key number_of _ c.in_ok-sort_by_key.ensures.sorted (λ a r q k. search rules))
          (c.in_ok-sort_by_key.ensures.stable number_of (answers_always _ _ _ (λ f a r g h. search rules)))
          (held_found machine db stands c.in_ok-rows.rows.items builder refl a)));
    }
