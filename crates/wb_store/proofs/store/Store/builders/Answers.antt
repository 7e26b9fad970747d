use Rattle.std.proofs.Common.{refl}
use Rattle.std.proofs.lemmas.Result.{IfOk-weaker}
use Rattle.sqlite.specs.Held.{state}
use Rattle.wb_store.specs.Lookups.{ArePairs}
use Rattle.wb_store.specs.Queries as ask
use Rattle.wb_store.proofs.OpeningBuilderLemmas.{builders_found, builders_readable}
use Rattle.wb_store.proofs.ReadLemmas.{asks_of, handed_on, looks_up_nothing, looks_up_rows}
use Rattle.wb_store.proofs.store.Store.builders.Goals as goal

pub returns-in_err-listed : goal.returns-in_err-listed
returns-in_err-listed g c = record {
  looks_up = rw (← c.self.view_is) (looks_up_nothing
      (asks_of ask.Builders tt c.all_builders.ensures refl) c.in_err-listed.ensures.reads
      (handed_on c.from_residual.result c.from_residual.ensures.1));
}

pub returns : goal.returns
returns g c =
    let db = (state g.S.Store c.self.inside.conn).now in
    let rows = c.in_ok-listed.listed.items in
    record {
      looks_up = rw (← c.self.view_is) (looks_up_rows (asks_of ask.Builders tt c.all_builders.ensures refl)
          (ArePairs rows) c.pairs_in.result c.in_ok-listed.ensures.reads
          (λ machine scratch stands a. IfOk-weaker c.pairs_in.result _ _
          (λ made is. builders_found machine db stands.builders rows a made.items is) c.pairs_in.ensures.value)
          c.pairs_in.ensures.err
          (λ machine scratch sound stands a. builders_readable machine db stands.builders rows a sound));
    }
