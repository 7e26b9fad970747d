use Rattle.std.proofs.Common.{◌≡◌, ◌∙◌, ◌+◌, ℕ, suc, ◌∷◌, drop, drop-cons, get_or, ap, arith}
use Rattle.std.proofs.lemmas.List.{drop_all}
use Rattle.wb_states.specs.declared.store_fault.Table.TheVariants.{Office}
use Rattle.wb_store.proofs.ReadLemmas.{handed_on}
use Rattle.wb_store.proofs.ShowLemmas.{next_current, none_left, not_shown, one_shown}
use Rattle.wb_store.proofs.rows.add_tables.Goals as goal

pub returns-in_err-add_table : goal.returns-in_err-add_table
returns-in_err-add_table g c =
    let at = c.loop-table.table-index in
    let tables = c.args.tables.now in
    record {
      shows = λ current. not_shown (c.loop-table.invariant current) (c.in_err-add_table.ensures.shows (next_current at tables current (drop-cons tables at Office c.loop-table-test.true)))
          (handed_on c.from_residual.result c.from_residual.ensures.1);
    }

one_after : (n : ℕ) → suc n ≡ n + 1
one_after n = omega arith

pub loop-table-preserved : goal.loop-table-preserved
loop-table-preserved g c =
    let at = c.loop-table.table-index in
    let tables = c.args.tables.now in
    let next = drop-cons tables at Office c.loop-table-test.true in
    λ current. one_shown (c.loop-table.invariant current) (next ∙ ap (λ (n : ℕ). get_or tables at Office ∷ drop n tables) (one_after at))
    (c.in_ok-add_table.ensures.shows (next_current at tables current next))

pub returns : goal.returns
returns g c = record { shows = λ current. none_left (c.loop-table.invariant current) (drop_all c.loop-table.table-index c.args.tables.now c.loop-table-test.false) }
