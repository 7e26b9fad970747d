use Rattle.std.proofs.Common.{[], ◌∷◌, ap, refl}
use Rattle.sqlite.specs.Held.{state}
use Rattle.wb_store.specs.Queries as ask
use Rattle.wb_store.proofs.FoundLemmas.{arch_found, text_bound}
use Rattle.wb_store.proofs.LookupLemmas.{arch_readable}
use Rattle.wb_store.proofs.ReadLemmas.{asks_of, looks_up_all}
use Rattle.wb_store.proofs.store.Store.all_of.Goals as goal

pub returns : goal.returns
returns g c =
    let db = (state g.S.Store c.self.inside.conn).now in
    record {
      looks_up = rw (← c.self.view_is) (looks_up_all (asks_of
          (ask.RecordsOf c.args.arch.now) tt c.records_of_arch.ensures (ap (λ v. v ∷ [])
          (text_bound c.params-to_sql.ensures c.as_str.ensures))) refl c.records.result c.records.ensures.reads
          (λ machine scratch rows stands a. arch_found machine db stands rows.items c.args.arch.now refl a)
          (λ machine scratch sound stands rows a. arch_readable machine db stands rows sound _ a));
    }
