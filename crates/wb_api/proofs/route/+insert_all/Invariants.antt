use Rattle.std.proofs.Common.{length}
use Rattle.wb_api.proofs.route.+insert_all.Given as goal

abbrev pub decreases-insert_all : goal.decreases-insert_all
decreases-insert_all l = length l.table.now
