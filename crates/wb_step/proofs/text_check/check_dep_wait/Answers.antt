use Rattle.wb_step.specs.Checks.{key_refusal}
use Rattle.wb_step.proofs.TextCheckLemmas.{told-DepWait, told-DepWait-later}
use Rattle.wb_step.proofs.text_check.check_dep_wait.Goals as goal

pub returns-in-Ok : goal.returns-in-Ok
returns-in-Ok c = record { checks = told-DepWait c.args.waits.now c.check_key-key.result c.check_key-key.ensures.tells c.in-Ok.ensures.ok c.in-Ok.ensures.short }

pub returns-in-Err : goal.returns-in-Err
returns-in-Err c =
    let key = c.check_key-key.ensures.tells in
    record {
      checks = told-DepWait-later c.args.waits.now c.in-Err.refusal c.read_refusal_or.result
          (c.read_refusal_or.ensures.value (key_refusal c.args.waits.now.arch c.args.waits.now.source c.args.waits.now.version) key.ok key.refused key.memory)
          c.in-Err.ensures.refused c.in-Err.ensures.memory c.read_refusal_or.ensures.memory;
    }
