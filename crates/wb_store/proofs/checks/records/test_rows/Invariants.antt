use Rattle.std.proofs.Common.{◌≡◌, List}
use Rattle.std.specs.BTreeSet.{contains}
use Rattle.std.specs.Ordering.{nat_cmp}
use Rattle.sqlite.specs.Order.{Row}
use Rattle.wb_store.proofs.OpeningRecordLemmas.{IsTested}
use Rattle.wb_store.specs.Schemas.{query_of_records}
use Rattle.wb_store.proofs.OpeningStreamLemmas.{IsUnderWay}
use Rattle.wb_store.proofs.checks.records.test_rows.Given as goal

abbrev pub invariant-rows : goal.invariant-rows
invariant-rows g l =
    (l.rows.conn.ghost_name ≡ l.initial.rows.conn.ghost_name)
    × ((given : List Row) × IsUnderWay g.S.Store (query_of_records l.fn.kept.format) l.fn.conn l.rows.conn.now given × IsTested l.fn.kept.format l.fn.kept.archs.now l.fn.kept.builders.now l.fn.kept.handed (contains nat_cmp l.takes) l.before given)
