use Rattle.std.proofs.Common.{[], ◌∷◌, ap, subst, IsPermutation}
use Rattle.std.proofs.lemmas.Result.{IfOk-weaker}
use Rattle.sqlite.specs.Held.{state}
use Rattle.wb_states.specs.Lookups.{rows_of}
use Rattle.wb_store.specs.Lookups.{AreStates}
use Rattle.wb_store.specs.Queries as ask
use Rattle.wb_store.proofs.FoundLemmas.{text_bound}
use Rattle.wb_store.proofs.LookupLemmas.{states_answer}
use Rattle.wb_store.proofs.ReadLemmas.{asks_of, handed_on, looks_up_nothing, looks_up_rows}
use Rattle.wb_store.proofs.StateLemmas.{are_states, states_found}
use Rattle.wb_store.proofs.counts.states_of.Goals as goal

pub returns-in_err-rows : goal.returns-in_err-rows
returns-in_err-rows g c = record {
  looks_up = looks_up_nothing (asks_of (ask.StatesOf c.args.arch.now) tt c.states_of_arch.ensures (ap (λ v. v ∷ []) (text_bound c.params-to_sql.ensures c.as_str.ensures))) c.in_err-rows.ensures.reads
      (handed_on c.from_residual.result c.from_residual.ensures.1);
}

pub returns : goal.returns
returns g c =
    let db = (state g.S.Store c.args.conn.now).now in
    let arch = c.args.arch.now in
    let rows = c.in_ok-rows.rows.items in
    record {
      looks_up = looks_up_rows (asks_of (ask.StatesOf arch) tt c.states_of_arch.ensures (ap (λ v. v ∷ []) (text_bound c.params-to_sql.ensures c.as_str.ensures))) (AreStates rows) c.states_in.result c.in_ok-rows.ensures.reads
          (λ machine scratch stands a. IfOk-weaker c.states_in.result _ _
          (λ made is. states_found (rows_of machine arch) made.items (subst (IsPermutation _) is (states_answer machine db stands rows arch a))) c.states_in.ensures.value)
          c.states_in.ensures.err
          (λ machine scratch sound stands a. are_states (rows_of machine arch) rows (states_answer machine db stands rows arch a));
    }
