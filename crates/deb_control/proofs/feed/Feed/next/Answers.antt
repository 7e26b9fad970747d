use Rattle.std.proofs.Common.{refl, ◌+◌, true, Err}
use Rattle.deb_control.proofs.FeedLemmas.{answers-none, known-answer, read-ends, refuses-next}
use Rattle.deb_control.proofs.feed.Feed.next.Goals as goal

pub returns-in-Ok-None-clause-gave : goal.returns-in-Ok-None-clause-gave
returns-in-Ok-None-clause-gave g c =
    answers-none c.args.self.now (record { passed = c.self.inside.passed; ended = c.self.inside.ended; source = c.read_next.new.source })
    (record { passed = c.self.inside.passed; ended = c.self.inside.ended; source = c.self.inside.source }) c.self.view_is c.if-self.false refl refl
    (rw c.in-Ok-None.field-0-is at c.in-Ok-None.ensures.ok)

pub returns-in-Ok-None-clause-ok : goal.returns-in-Ok-None-clause-ok
returns-in-Ok-None-clause-ok g c = known-answer _ _ _ (returns-in-Ok-None-clause-gave g c)

pub returns-in-Err-clause-refuses : goal.returns-in-Err-clause-refuses
returns-in-Err-clause-refuses g c = λ memory read.
    refuses-next c.args.self.now (record { passed = c.self.inside.passed + 1; ended = true; source = c.read_next.new.source })
    (record { passed = c.self.inside.passed; ended = c.self.inside.ended; source = c.self.inside.source }) c.in-Err.kind c.self.view_is c.if-self.false refl refl
    (c.in-Err.ensures.refused memory read)

pub returns-in-Err-clause-refused : goal.returns-in-Err-clause-refused
returns-in-Err-clause-refused g c = λ memory read.
    known-answer (Err (record { paragraph = c.self.inside.passed + 1; kind = c.in-Err.kind })) c.args.self.now
    (record { passed = c.self.inside.passed + 1; ended = true; source = c.read_next.new.source }) (returns-in-Err-clause-refuses g c memory read)

pub returns-in-Err-clause-read : goal.returns-in-Err-clause-read
returns-in-Err-clause-read g c = λ read.
    read-ends c.args.self.now (record { passed = c.self.inside.passed + 1; ended = true; source = c.read_next.new.source })
    (record { passed = c.self.inside.passed; ended = c.self.inside.ended; source = c.self.inside.source }) c.in-Err.kind c.self.view_is c.if-self.false refl refl
    (c.in-Err.ensures.read read)
