use Rattle.std.proofs.Common.{subst, sym}
use Rattle.std.proofs.Common.{map as each}
use Rattle.sqlite.specs.Held.{state}
use Rattle.wb_sql.specs.Transactions.{FailsToCommit}
use Rattle.wb_states.specs.Lookups.{entry_of}
use Rattle.wb_store.proofs.PreparingLemmas.{taken_of}
use Rattle.wb_store.proofs.UpgradedLemmas.{not_committed, not_moved, upgraded_by}
use Rattle.wb_store.proofs.upgrading.upgrade.Goals as goal

pub returns-in-Err : goal.returns-in-Err
returns-in-Err g c =
    let back = c.roll_back.ensures in
    record {
      upgrades = not_moved g.S.Store (each entry_of c.args.records.now) c.args.conn.now c.begin.new.conn c.move_all.new.conn c.roll_back.new.conn c.begin.ensures.begun c.in-Err.fault c.in-Err.ensures.moves
          c.roll_back.result back.ok back.err back.survives;
    }

pub returns-in-Ok : goal.returns-in-Ok
returns-in-Ok g c = record {
  upgrades = upgraded_by g.S.Store (each entry_of c.args.records.now) c.args.conn.now c.begin.new.conn c.move_all.new.conn c.commit.new.conn c.begin.ensures.begun c.in_default.ensures.moves c.commit.ensures.sound
      c.commit.ensures.crash c.in-Ok.ensures.ok c.in-Ok.ensures.alone;
}

pub returns-in-Err-commit : goal.returns-in-Err-commit
returns-in-Err-commit g c =
    let written = c.move_all.new.conn in
    let at = c.commit.new.conn in
    let back = c.roll_back-in-Err-commit.ensures in
    record {
      upgrades = not_committed g.S.Store (each entry_of c.args.records.now) c.args.conn.now c.begin.new.conn written at c.begin.ensures.begun c.in_default.ensures.moves c.commit.ensures.sound c.commit.ensures.crash
          c.roll_back-in-Err-commit.new.conn c.cause_of.result c.fault_of.result c.fault_of.ensures.value
          (λ clean. subst (FailsToCommit g.S.Store written) (sym c.cause_of.ensures.value) (c.in-Err-commit.ensures.cause clean))
          (λ clean. taken_of (state g.S.Store at) (state g.S.Store c.roll_back-in-Err-commit.new.conn) c.roll_back-in-Err-commit.result (back.ok clean) (back.err clean)) back.survives;
    }
