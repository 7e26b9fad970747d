use Rattle.std.proofs.Common.{rules, ◌≡◌, ◌∙◌, ap, subst, Ok, Err, IfErr}
use Rattle.wb_states.specs.declared.store_fault.StoreFault.TheVariants as fault
use Rattle.sqlite.specs.Held.{state}
use Rattle.sqlite.specs.State.{HasCleanDisk, Survives}
use Rattle.wb_store.specs.Ending.{IsFaultOfCommit}
use Rattle.wb_store.specs.Settled.{SettlesBy}
use Rattle.wb_office.specs.declared.carry.CarryError.TheVariants.{InDoubt}
use Rattle.wb_office.specs.Batches.{CarriesBatch, WritesBatch, batch_of}
use Rattle.wb_office.proofs.BatchCarryLemmas.{batch_not, change_why, change_way, change_survives, batch_carried}
use Rattle.wb_office.proofs.BatchCarryLemmas.{batch_in_doubt, commit_survives, memory_why, memory_way}
use Rattle.wb_office.proofs.batch.carry_batch.Goals as goal

pub returns-in-Err : goal.returns-in-Err
returns-in-Err g c =
    let batch = batch_of c.args.batch.now in
    let counts = c.args.counts in
    let old = c.args.store.now in
    let mid = c.write_batch.new.writing.store.now in
    let end = c.roll_back-ended.new.self.0 in
    let same : end ≡ c.store-1.given.0 = search rules in
    let change = subst (λ start. WritesBatch g.S.Store batch counts start mid (Err c.in-Err.fault))
    c.begin-writing.ensures.begun c.in-Err.ensures.writes in
    record {
      carries = subst (λ h. CarriesBatch g.S.Store batch counts old h (Err c.failure.result)) same
          (batch_not g.S.Store batch counts old mid end c.in-Err.fault c.roll_back-ended.result c.failure.result
          c.failure.ensures.value
          (change_why g.S.Store batch counts old mid c.in-Err.fault change)
          (change_way g.S.Store batch counts old mid c.in-Err.fault change)
          (change_survives g.S.Store batch counts old mid c.in-Err.fault change)
          c.roll_back-ended.ensures.taken_back c.roll_back-ended.ensures.ok c.roll_back-ended.ensures.cause c.roll_back-ended.ensures.survives);
    }

pub returns-in-Ok : goal.returns-in-Ok
returns-in-Ok g c =
    let batch = batch_of c.args.batch.now in
    let counts = c.args.counts in
    let old = c.args.store.now in
    let mid = c.write_batch.new.writing.store.now in
    let end = c.commit.new.self.0 in
    let same : end ≡ c.store-2-1.given.0 = search rules in
    let change = subst (λ start. WritesBatch g.S.Store batch counts start mid (Ok tt)) c.begin-writing.ensures.begun
    c.in_default.ensures.writes in
    record {
      carries = subst (λ h. CarriesBatch g.S.Store batch counts old h (Ok tt)) same
          (batch_carried g.S.Store batch counts old mid end change c.commit.result c.commit.ensures.settles
          c.commit.ensures.cause c.commit.ensures.survives c.in-Ok.is);
    }

pub returns-in-Err-commit : goal.returns-in-Err-commit
returns-in-Err-commit g c =
    let batch = batch_of c.args.batch.now in
    let counts = c.args.counts in
    let old = c.args.store.now in
    let mid = c.write_batch.new.writing.store.now in
    let end = c.commit.new.self.0 in
    let same : end ≡ c.store-2-1.given.0 = search rules in
    let change = subst (λ start. WritesBatch g.S.Store batch counts start mid (Ok tt)) c.begin-writing.ensures.begun
    c.in_default.ensures.writes in
    record {
      carries = subst (λ h. CarriesBatch g.S.Store batch counts old h (Err (InDoubt c.in-Err-commit.fault))) same
          (batch_in_doubt g.S.Store batch counts old mid end change c.commit.result c.commit.ensures.settles
          c.commit.ensures.cause c.commit.ensures.survives c.in-Err-commit.fault c.in-Err-commit.is);
    }

pub returns-in-Err-Memory : goal.returns-in-Err-Memory
returns-in-Err-Memory g c =
    let batch = batch_of c.args.batch.now in
    let counts = c.args.counts in
    let old = c.args.store.now in
    let mid = c.write_batch.new.writing.store.now in
    let end = c.store-2-1.given.0 in
    let same : c.commit.new.self.0 ≡ end = search rules in
    let change = subst (λ start. WritesBatch g.S.Store batch counts start mid (Ok tt)) c.begin-writing.ensures.begun
    c.in_default.ensures.writes in
    let settles = subst (λ h. SettlesBy g.S.Store mid h c.commit.result) same c.commit.ensures.settles in
    let cause = subst (λ h. HasCleanDisk (state g.S.Store h) → IfErr c.commit.result (IsFaultOfCommit g.S.Store mid)) same c.commit.ensures.cause in
    let survives = subst (λ h. Survives (state g.S.Store mid) (state g.S.Store h) (λ db. db ≡ (state g.S.Store mid).now.trees)) same c.commit.ensures.survives in
    let is : c.commit.result ≡ Err fault.Memory = c.in-Err-Memory.is ∙ ap Err c.in-Err-Memory.field-0-is in
    record {
      carries = batch_not g.S.Store batch counts old end c.roll_back-ended-in-Err-Memory.new.self fault.Memory
          c.roll_back-ended-in-Err-Memory.result c.failure-in-Err-Memory.result c.failure-in-Err-Memory.ensures.value
          (memory_why g.S.Store batch counts old mid end change c.commit.result settles cause survives is)
          (memory_way g.S.Store batch counts old mid end change c.commit.result settles cause survives is)
          (commit_survives g.S.Store batch counts old mid end change c.commit.result settles cause survives)
          c.roll_back-ended-in-Err-Memory.ensures.taken_back c.roll_back-ended-in-Err-Memory.ensures.ok c.roll_back-ended-in-Err-Memory.ensures.cause c.roll_back-ended-in-Err-Memory.ensures.survives;
    }
