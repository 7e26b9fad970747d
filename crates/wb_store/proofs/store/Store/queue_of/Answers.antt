use Rattle.std.proofs.Common.{[], ◌∷◌, pos, ap, ap₂, ◌∙◌, refl}
use Rattle.sqlite.specs.Held.{state}
use Rattle.wb_store.specs.Queries as ask
use Rattle.wb_store.proofs.FoundLemmas.{queue_found, text_bound, number_bound}
use Rattle.wb_store.proofs.LookupLemmas.{queue_readable}
use Rattle.wb_store.proofs.ReadLemmas.{asks_of, looks_up_all}
use Rattle.wb_store.proofs.store.Store.queue_of.Goals as goal

pub returns : goal.returns
returns g c =
    let db = (state g.S.Store c.self.inside.conn).now in
    record {
      looks_up = rw (← c.self.view_is) (looks_up_all (asks_of (ask.QueueOf c.args.arch.now) tt c.queue.ensures (ap₂
          (λ u v. u ∷ v ∷ []) (text_bound c.params-to_sql.ensures c.as_str.ensures)
          (number_bound c.params-to_sql-2.ensures (ap pos
          (c.from-waiting.ensures ∙ c.code.ensures.value))))) refl c.records.result c.records.ensures.reads
          (λ machine scratch rows stands a sound. queue_found machine db stands rows.items sound c.args.arch.now
          refl a)
          (λ machine scratch sound stands rows a. queue_readable machine db stands rows sound _ a));
    }
