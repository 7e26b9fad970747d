use Rattle.std.proofs.Common.{[], ◌∷◌, ap, ap₂, ◌∙◌, not, Ok, refl}
use Rattle.sqlite.specs.Held.{state}
use Rattle.wb_store.specs.Queries as ask
use Rattle.wb_store.proofs.BuilderLemmas.{pair_found}
use Rattle.wb_store.proofs.FoundLemmas.{text_bound}
use Rattle.wb_store.proofs.ReadLemmas.{asks_of, handed_on, looks_up_nothing, looks_up_rows}
use Rattle.wb_store.proofs.ScratchLemmas.{counted-is_nonempty}
use Rattle.wb_store.proofs.store.Store.has_builder.Goals as goal

pub returns-in_err-pairs : goal.returns-in_err-pairs
returns-in_err-pairs g c = record {
  looks_up = rw (← c.self.view_is) (looks_up_nothing (asks_of (ask.Pair
      (c.args.builder.now, c.args.arch.now)) tt c.builder_pair.ensures (ap₂ (λ u v. u ∷ v ∷ [])
      (text_bound c.params-to_sql.ensures c.as_str.ensures)
      (text_bound c.params-to_sql-2.ensures c.as_str-2.ensures))) c.in_err-pairs.ensures.reads
      (handed_on c.from_residual.result c.from_residual.ensures.1));
}

pub returns : goal.returns
returns g c =
    let db = (state g.S.Store c.self.inside.conn).now in
    let rows = c.in_ok-pairs.pairs.items in
    record {
      looks_up = rw (← c.self.view_is) (looks_up_rows (asks_of (ask.Pair
          (c.args.builder.now, c.args.arch.now)) tt c.builder_pair.ensures (ap₂ (λ u v. u ∷ v ∷ [])
          (text_bound c.params-to_sql.ensures c.as_str.ensures)
          (text_bound c.params-to_sql-2.ensures c.as_str-2.ensures))) (Unit {0}) (Ok _) c.in_ok-pairs.ensures.reads
          (λ machine scratch stands a. ap not c.is_empty.ensures ∙ counted-is_nonempty c.in_ok-pairs.pairs ∙ pair_found
          machine db stands rows (c.args.builder.now, c.args.arch.now)
          refl a)
          tt
          (λ machine scratch sound stands a. tt));
    }
