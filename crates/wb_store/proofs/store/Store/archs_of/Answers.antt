use Rattle.std.proofs.Common.{[], ◌∷◌, ap, refl}
use Rattle.std.proofs.lemmas.Result.{IfOk-weaker}
use Rattle.sqlite.specs.Held.{state}
use Rattle.wb_store.specs.Lookups.{ArePairs}
use Rattle.wb_store.specs.Queries as ask
use Rattle.wb_store.proofs.BuilderLemmas.{archs_found, builder_readable}
use Rattle.wb_store.proofs.FoundLemmas.{text_bound}
use Rattle.wb_store.proofs.ReadLemmas.{asks_of, handed_on, looks_up_nothing, looks_up_rows}
use Rattle.wb_store.proofs.store.Store.archs_of.Goals as goal

pub returns-in_err-rows : goal.returns-in_err-rows
returns-in_err-rows g c = record {
  looks_up = rw (← c.self.view_is) (looks_up_nothing (asks_of
      (ask.PairsOf c.args.builder.now) tt c.builder_pairs.ensures (ap (λ v. v ∷ [])
      (text_bound c.params-to_sql.ensures c.as_str.ensures))) c.in_err-rows.ensures.reads
      (handed_on c.from_residual.result c.from_residual.ensures.1));
}

pub returns : goal.returns
returns g c =
    let db = (state g.S.Store c.self.inside.conn).now in
    let rows = c.in_ok-rows.rows.items in
    record {
      looks_up = rw (← c.self.view_is) (looks_up_rows (asks_of
          (ask.PairsOf c.args.builder.now) tt c.builder_pairs.ensures (ap (λ v. v ∷ [])
          (text_bound c.params-to_sql.ensures c.as_str.ensures)))
          (ArePairs rows) c.arch_names_in.result c.in_ok-rows.ensures.reads
          (λ machine scratch stands a. IfOk-weaker c.arch_names_in.result _ _
          (λ made have sound. archs_found machine db stands rows sound c.args.builder.now made.items refl a have)
          c.arch_names_in.ensures.value)
          c.arch_names_in.ensures.err
          (λ machine scratch sound stands a. builder_readable machine db stands rows sound a));
    }
