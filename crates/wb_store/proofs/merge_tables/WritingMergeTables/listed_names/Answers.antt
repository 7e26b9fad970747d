use Rattle.std.proofs.Common.{refl}
use Rattle.std.proofs.lemmas.Result.{IfOk-weaker}
use Rattle.sqlite.specs.Held.{state}
use Rattle.wb_store.specs.Queries as ask
use Rattle.wb_store.specs.ScratchLookups.{AreNames}
use Rattle.wb_store.proofs.NameLemmas.{names_found, names_readable}
use Rattle.wb_store.proofs.PackageLemmas.{looks_up_nothing, looks_up_rows}
use Rattle.wb_store.proofs.ReadLemmas.{asks_of, handed_on}
use Rattle.wb_store.proofs.merge_tables.WritingMergeTables.listed_names.Goals as goal

pub returns-in_err-rows-clause-looks_up : goal.returns-in_err-rows-clause-looks_up
returns-in_err-rows-clause-looks_up g c = rw (← c.store.view_is) (looks_up_nothing
    (asks_of ask.SourceNames tt c.source_names.ensures refl)
    c.in_err-rows.ensures.reads (handed_on c.from_residual.result c.from_residual.ensures.1))

pub returns-clause-looks_up : goal.returns-clause-looks_up
returns-clause-looks_up g c =
    let db = (state g.S.Store c.store.inside.conn).now in
    let rows = c.in_ok-rows.rows.items in
    rw (← c.store.view_is) (looks_up_rows
    (asks_of ask.SourceNames tt c.source_names.ensures refl)
    (AreNames rows) c.distinct_names_in.result c.in_ok-rows.ensures.reads
    (λ machine scratch stands a. IfOk-weaker c.distinct_names_in.result _ _
    (λ made is. names_found db stands rows a made.items is) c.distinct_names_in.ensures.value)
    c.distinct_names_in.ensures.err
    (λ machine scratch readable stands a. names_readable db stands rows a readable))
