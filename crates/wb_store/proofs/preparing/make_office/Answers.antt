use Rattle.std.proofs.Common.{subst, sym}
use Rattle.sqlite.specs.Held.{state}
use Rattle.wb_sql.specs.Transactions.{FailsToCommit}
use Rattle.wb_store.proofs.PreparingLemmas.{MakesAnywhere, made_by, made_not, not_made, taken_of}
use Rattle.wb_store.proofs.preparing.make_office.Goals as goal

pub returns-in-Err : goal.returns-in-Err
returns-in-Err g c =
    let makes = subst (MakesAnywhere g.S.Store c.begin.new.conn c.make_empty_office.new.conn) c.in-Err.is c.make_empty_office.ensures.makes in
    let back = c.roll_back.ensures in
    record {
      makes = not_made g.S.Store c.args.conn.now c.begin.new.conn c.make_empty_office.new.conn c.roll_back.new.conn c.begin.ensures.begun c.in-Err.error makes c.roll_back.result
          back.ok back.err back.survives;
    }

pub returns-in-Ok : goal.returns-in-Ok
returns-in-Ok g c =
    let makes = subst (MakesAnywhere g.S.Store c.begin.new.conn c.make_empty_office.new.conn) c.in_default.is c.make_empty_office.ensures.makes in
    record {
      makes = made_by g.S.Store c.args.conn.now c.begin.new.conn c.make_empty_office.new.conn c.commit.new.conn c.begin.ensures.begun makes c.commit.ensures.sound
          c.commit.ensures.crash c.in-Ok.ensures.ok c.in-Ok.ensures.alone;
    }

pub returns-in-Err-commit : goal.returns-in-Err-commit
returns-in-Err-commit g c =
    let written = c.make_empty_office.new.conn in
    let at = c.commit.new.conn in
    let makes = subst (MakesAnywhere g.S.Store c.begin.new.conn written) c.in_default.is c.make_empty_office.ensures.makes in
    let back = c.roll_back-in-Err-commit.ensures in
    record {
      makes = made_not g.S.Store c.args.conn.now c.begin.new.conn written at c.begin.ensures.begun makes c.commit.ensures.sound c.commit.ensures.crash
          c.roll_back-in-Err-commit.new.conn c.cause_of.result
          (λ clean. subst (FailsToCommit g.S.Store written) (sym c.cause_of.ensures.value) (c.in-Err-commit.ensures.cause clean))
          (λ clean. taken_of (state g.S.Store at) (state g.S.Store c.roll_back-in-Err-commit.new.conn) c.roll_back-in-Err-commit.result (back.ok clean) (back.err clean)) back.survives;
    }
