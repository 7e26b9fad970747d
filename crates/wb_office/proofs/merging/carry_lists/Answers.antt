use Rattle.std.proofs.Common.{rules, ◌≡◌, ◌∙◌, ap, subst, Ok, Err, IfErr}
use Rattle.sqlite.specs.Held.{state}
use Rattle.sqlite.specs.State.{HasCleanDisk, Survives}
use Rattle.wb_states.specs.declared.store_fault.StoreFault.TheVariants as fault
use Rattle.wb_store.specs.Ending.{IsFaultOfCommit}
use Rattle.wb_store.specs.Settled.{SettlesBy}
use Rattle.wb_office.specs.declared.answer.Failure.TheVariants.{Uncommitted}
use Rattle.wb_office.specs.declared.carry.CarryError.TheVariants.{InDoubt}
use Rattle.wb_office.specs.MergeCarried.{CarriesLists}
use Rattle.wb_office.specs.MergeLists.{AreListsNoted, AreListsToRead, MergesLists}
use Rattle.wb_office.proofs.MergeCarryLemmas.{merge_carried, merge_in_doubt, merge_lacks_memory, merge_stops}
use Rattle.wb_office.proofs.merging.carry_lists.Goals as goal

pub returns-in-Err : goal.returns-in-Err
returns-in-Err g c =
    let ready = AreListsToRead g.R.ReadParagraphs.may_stand_at c.args.sources.now c.args.parts.items in
    let done = AreListsNoted g.R.ReadParagraphs.may_stand_at g.R.ReadParagraphs.breaks c.args.sources.now
    c.args.parts.items c.args.notes.now c.merge_in.new.notes in
    let counts = c.args.counts in
    let old = c.args.store.now in
    let mid = c.merge_in.new.writing.store.now in
    let change = subst (λ start. MergesLists g.S.Store ready done counts start mid (Err c.in-Err.stop)) c.begin-writing.ensures.begun c.in-Err.ensures.merges in
    record {
      carries = merge_stops g.S.Store ready done counts old mid c.roll_back-ended.new.self.0 _ c.stopped.new.store c.in-Err.stop c.roll_back-ended.result c.stopped.result
          c.stopped.ensures.ends c.stopped.ensures.survives (search rules) change
          c.roll_back-ended.ensures.taken_back c.roll_back-ended.ensures.ok c.roll_back-ended.ensures.cause c.roll_back-ended.ensures.survives;
    }

pub returns-in-Ok-commit : goal.returns-in-Ok-commit
returns-in-Ok-commit g c =
    let ready = AreListsToRead g.R.ReadParagraphs.may_stand_at c.args.sources.now c.args.parts.items in
    let done = AreListsNoted g.R.ReadParagraphs.may_stand_at g.R.ReadParagraphs.breaks c.args.sources.now
    c.args.parts.items c.args.notes.now c.merge_in.new.notes in
    let counts = c.args.counts in
    let old = c.args.store.now in
    let mid = c.merge_in.new.writing.store.now in
    let end = c.commit.new.self.0 in
    let same : end ≡ c.store-2-1.given.0 = search rules in
    let change = subst (λ start. MergesLists g.S.Store ready done counts start mid (Ok c.in-Ok.replies)) c.begin-writing.ensures.begun c.in-Ok.ensures.merges in
    record {
      carries = subst (λ h. CarriesLists g.S.Store ready done counts old h (Ok c.in-Ok.replies)) same
          (merge_carried g.S.Store ready done counts old mid end change c.commit.result c.commit.ensures.settles c.commit.ensures.cause c.commit.ensures.survives c.in-Ok-commit.is);
    }

pub returns-in-Err-Memory : goal.returns-in-Err-Memory
returns-in-Err-Memory g c =
    let ready = AreListsToRead g.R.ReadParagraphs.may_stand_at c.args.sources.now c.args.parts.items in
    let done = AreListsNoted g.R.ReadParagraphs.may_stand_at g.R.ReadParagraphs.breaks c.args.sources.now
    c.args.parts.items c.args.notes.now c.merge_in.new.notes in
    let counts = c.args.counts in
    let old = c.args.store.now in
    let mid = c.merge_in.new.writing.store.now in
    let end = c.store-2-1.given.0 in
    let same : c.commit.new.self.0 ≡ end = search rules in
    let change = subst (λ start. MergesLists g.S.Store ready done counts start mid (Ok c.in-Ok.replies)) c.begin-writing.ensures.begun c.in-Ok.ensures.merges in
    let settles = subst (λ h. SettlesBy g.S.Store mid h c.commit.result) same c.commit.ensures.settles in
    let cause = subst (λ h. HasCleanDisk (state g.S.Store h) → IfErr c.commit.result (IsFaultOfCommit g.S.Store mid)) same c.commit.ensures.cause in
    let survives = subst (λ h. Survives (state g.S.Store mid) (state g.S.Store h) (λ db. db ≡ (state g.S.Store mid).now.trees)) same c.commit.ensures.survives in
    let is : c.commit.result ≡ Err fault.Memory = c.in-Err-Memory.is ∙ ap Err c.in-Err-Memory.field-0-is in
    record {
      carries = merge_lacks_memory g.S.Store ready done counts old mid end change c.commit.result settles cause survives
          c.roll_back-ended-in-Err-Memory.new.self c.roll_back-ended-in-Err-Memory.result c.failure.result is c.failure.ensures.value
          c.roll_back-ended-in-Err-Memory.ensures.taken_back c.roll_back-ended-in-Err-Memory.ensures.ok
          c.roll_back-ended-in-Err-Memory.ensures.cause c.roll_back-ended-in-Err-Memory.ensures.survives;
    }

pub returns : goal.returns
returns g c =
    let ready = AreListsToRead g.R.ReadParagraphs.may_stand_at c.args.sources.now c.args.parts.items in
    let done = AreListsNoted g.R.ReadParagraphs.may_stand_at g.R.ReadParagraphs.breaks c.args.sources.now
    c.args.parts.items c.args.notes.now c.merge_in.new.notes in
    let counts = c.args.counts in
    let old = c.args.store.now in
    let mid = c.merge_in.new.writing.store.now in
    let end = c.commit.new.self.0 in
    let same : end ≡ c.store-2-1.given.0 = search rules in
    let change = subst (λ start. MergesLists g.S.Store ready done counts start mid (Ok c.in-Ok.replies)) c.begin-writing.ensures.begun c.in-Ok.ensures.merges in
    record {
      carries = subst (λ h. CarriesLists g.S.Store ready done counts old h (Err (Uncommitted (InDoubt c.in-Err-commit.fault)))) same
          (merge_in_doubt g.S.Store ready done counts old mid end change c.commit.result c.commit.ensures.settles c.commit.ensures.cause c.commit.ensures.survives
          c.in-Err-commit.fault c.in-Err-commit.is);
    }
