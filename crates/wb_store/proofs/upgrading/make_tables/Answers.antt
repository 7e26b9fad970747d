use Rattle.wb_store.proofs.UpgradeLemmas.{tables_moved}
use Rattle.wb_store.proofs.upgrading.make_tables.Goals as goal

pub returns : goal.returns
returns g c = record { moves = λ machine. tables_moved g.S.Store c.args.conn.now c.make_second_tables.new.conn machine c.make_second_tables.ensures.makes c.answer_on.ensures.value }
