use Rattle.std.proofs.Common.{[], ◌∷◌, ap}
use Rattle.std.proofs.lemmas.Result.{IfOk-weaker}
use Rattle.sqlite.specs.Held.{state}
use Rattle.wb_store.specs.Queries as ask
use Rattle.wb_store.specs.ScratchLookups.{AreSources}
use Rattle.wb_store.proofs.FoundLemmas.{text_bound}
use Rattle.wb_store.proofs.PackageLemmas.{looks_up_nothing, looks_up_rows, sources_found, sources_readable}
use Rattle.wb_store.proofs.ReadLemmas.{asks_of, handed_on}
use Rattle.wb_store.proofs.merge_tables.WritingMergeTables.sources_named.Goals as goal

pub returns-in_err-rows-clause-looks_up : goal.returns-in_err-rows-clause-looks_up
returns-in_err-rows-clause-looks_up g c = rw (← c.store.view_is) (looks_up_nothing
    (asks_of (ask.SourcesNamed c.args.name.now) tt c.sources_named.ensures (ap (λ v. v
    ∷ []) (text_bound c.params-to_sql.ensures c.as_str.ensures)))
    c.in_err-rows.ensures.reads (handed_on c.from_residual.result c.from_residual.ensures.1))

pub returns-clause-looks_up : goal.returns-clause-looks_up
returns-clause-looks_up g c =
    let db = (state g.S.Store c.store.inside.conn).now in
    let rows = c.in_ok-rows.rows.items in
    rw (← c.store.view_is) (looks_up_rows
    (asks_of (ask.SourcesNamed c.args.name.now) tt c.sources_named.ensures (ap (λ v. v
    ∷ []) (text_bound c.params-to_sql.ensures c.as_str.ensures)))
    (AreSources rows) c.sources_in.result c.in_ok-rows.ensures.reads
    (λ machine scratch stands a. IfOk-weaker c.sources_in.result _ _
    (λ made is. sources_found db stands rows c.args.name.now made.items a is) c.sources_in.ensures.value)
    c.sources_in.ensures.err
    (λ machine scratch readable stands a. sources_readable db stands rows readable c.args.name.now a))
