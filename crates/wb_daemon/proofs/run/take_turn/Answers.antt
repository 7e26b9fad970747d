-- What a turn did.
use Rattle.std.proofs.Common.{not, refl, subst, take, inl, inr}
use Rattle.std.specs.Io.KnownBytes.{Appends}
use Rattle.wb_streams.specs.Line.{with_line_feed}
use Rattle.wb_step.specs.Offices.{Open}
use Rattle.wb_streams.specs.Streams.{Flags}
use Rattle.wb_daemon.specs.Run.{asked_by}
use Rattle.wb_daemon.specs.Turn.{Answers, StopsAt}
use Rattle.wb_streams.specs.Streams.{AppendsFront}
use Rattle.wb_daemon.proofs.AnswerLemmas.{answers-long, answers-long_cut, stops_turn}
use Rattle.wb_daemon.proofs.RunLemmas.{FailsFor-answer, short_line}
use Rattle.wb_daemon.proofs.run.take_turn.Goals as goal

pub returns-in-Ok-clause-value : goal.returns-in-Ok-clause-value
returns-in-Ok-clause-value g c = λ before clean stands.
    let took = c.in-Ended.ensures.value in
    let line = take c.in-Ended.len c.read_line.new.room in
    let did = c.in-Ok.ensures.value before clean stands in
    let answers = subst (λ l. Answers (g.L.Lists.may_read c.args.lists.now) (asked_by l) before did.0 c.args.writer.now.bytes c.answer_line.new.writer.bytes c.in-Ok.status)
    {y = line} c.split_at.ensures.front did.2 in
    (did.0, Open, did.1, (line, (short_line c.read_line.new.room c.in-Ended.len took.0, took.1, took.2), answers, refl))

pub returns-in-Err-clause-value : goal.returns-in-Err-clause-value
returns-in-Err-clause-value g c = λ before clean stands.
    let took = c.in-Ended.ensures.value in
    let line = take c.in-Ended.len c.read_line.new.room in
    let did = c.in-Err.ensures.err before clean stands in
    let stops = subst (λ l. StopsAt (g.L.Lists.may_read c.args.lists.now) (asked_by l) before did.0 did.1 c.args.writer.now.bytes c.answer_line.new.writer.bytes c.in-Err.cause)
    {y = line} c.split_at.ensures.front did.3 in (
      did.0,
      did.1,
      did.2,
      stops_turn (g.L.Lists.may_read c.args.lists.now) c.in-Err.cause line before did.0 did.1
          c.args.reader.now.bytes c.read_line.new.reader.bytes c.args.writer.now.bytes c.answer_line.new.writer.bytes
          (inl (short_line c.read_line.new.room c.in-Ended.len took.0, took.1, took.2)) stops,
    )

pub returns-in-Ok-answer_line-clause-value : goal.returns-in-Ok-answer_line-clause-value
returns-in-Ok-answer_line-clause-value g c = λ before clean stands.
    let took = c.in-Last.ensures.value in
    let line = take c.in-Last.len c.read_line.new.room in
    let did = c.in-Ok-answer_line.ensures.value before clean stands in
    let answers = subst (λ l. Answers (g.L.Lists.may_read c.args.lists.now) (asked_by l) before did.0 c.args.writer.now.bytes c.answer_line-in-Last.new.writer.bytes c.in-Ok-answer_line.status)
    {y = line} c.split_at-in-Last.ensures.front did.2 in
    (did.0, Open, did.1, (line, (took.1, took.2, inl took.3), answers, refl))

pub returns-in-Err-answer_line-clause-value : goal.returns-in-Err-answer_line-clause-value
returns-in-Err-answer_line-clause-value g c = λ before clean stands.
    let took = c.in-Last.ensures.value in
    let line = take c.in-Last.len c.read_line.new.room in
    let did = c.in-Err-answer_line.ensures.err before clean stands in
    let stops = subst (λ l. StopsAt (g.L.Lists.may_read c.args.lists.now) (asked_by l) before did.0 did.1
    c.args.writer.now.bytes c.answer_line-in-Last.new.writer.bytes c.in-Err-answer_line.cause)
    {y = line} c.split_at-in-Last.ensures.front did.3 in (
      did.0,
      did.1,
      did.2,
      stops_turn (g.L.Lists.may_read c.args.lists.now) c.in-Err-answer_line.cause line before did.0 did.1
          c.args.reader.now.bytes c.read_line.new.reader.bytes c.args.writer.now.bytes c.answer_line-in-Last.new.writer.bytes
          (inr (took.1, took.2, inl took.3)) stops,
    )

pub returns-then-write_line-clause-value : goal.returns-then-write_line-clause-value
returns-then-write_line-clause-value g c = λ before clean stands.
    let took = c.in-TooLong.ensures.value in
    let whole = subst (λ t. Appends c.args.writer.now.bytes c.write_line.new.writer.bytes (with_line_feed t))
    c.line_fault_json.ensures.value (c.write_line.ensures.value c.if-write_line.true) in (
      before,
      Open,
      stands,
      (
        took.0,
        (took.2, took.3, inr took.1),
        answers-long (g.L.Lists.may_read c.args.lists.now) took.0 before c.args.writer.now.bytes c.write_line.new.writer.bytes took.1 whole,
        refl,
      ),
    )

pub returns-else-write_line-clause-value : goal.returns-else-write_line-clause-value
returns-else-write_line-clause-value g c = λ before clean stands.
    let took = c.in-TooLong.ensures.value in
    let front = subst (λ t. AppendsFront c.args.writer.now.bytes c.write_line.new.writer.bytes (with_line_feed t))
    c.line_fault_json.ensures.value (c.write_line.ensures.err c.if-write_line.false) in (
      before,
      Open,
      stands,
      (
        took.0,
        inr (took.2, took.3, inr took.1),
        answers-long_cut (g.L.Lists.may_read c.args.lists.now) took.0 before c.args.writer.now.bytes c.write_line.new.writer.bytes took.1 front,
      ),
    )

pub returns-in-Failed-clause-value : goal.returns-in-Failed-clause-value
returns-in-Failed-clause-value g c = λ before clean stands.
    let took = c.in-Failed.ensures.value in
    (before, Open, stands, (took.0, took.1, took.2, refl, refl, refl))

-- ---- what failed

pub returns-in-Ok-clause-failed : goal.returns-in-Ok-clause-failed
returns-in-Ok-clause-failed g c = (c.in-Ended.ensures.failed, c.in-Ok.ensures.failed)

pub returns-in-Err-clause-failed : goal.returns-in-Err-clause-failed
returns-in-Err-clause-failed g c =
    FailsFor-answer c.in-Err.cause c.args.reader.now c.read_line.new.reader c.args.writer.now c.answer_line.new.writer c.in-Ended.ensures.failed
    c.in-Err.ensures.cause c.in-Err.ensures.failed

pub returns-in-Ok-answer_line-clause-failed : goal.returns-in-Ok-answer_line-clause-failed
returns-in-Ok-answer_line-clause-failed g c = (c.in-Last.ensures.failed, c.in-Ok-answer_line.ensures.failed)

pub returns-in-Err-answer_line-clause-failed : goal.returns-in-Err-answer_line-clause-failed
returns-in-Err-answer_line-clause-failed g c =
    FailsFor-answer c.in-Err-answer_line.cause c.args.reader.now c.read_line.new.reader c.args.writer.now c.answer_line-in-Last.new.writer c.in-Last.ensures.failed
    c.in-Err-answer_line.ensures.cause c.in-Err-answer_line.ensures.failed

pub returns-then-write_line-clause-failed : goal.returns-then-write_line-clause-failed
returns-then-write_line-clause-failed g c =
    (c.in-TooLong.ensures.failed, subst (λ b. Flags (not b) c.args.writer.now c.write_line.new.writer) c.if-write_line.true c.write_line.ensures.failed)

pub returns-else-write_line-clause-failed : goal.returns-else-write_line-clause-failed
returns-else-write_line-clause-failed g c =
    (c.in-TooLong.ensures.failed, subst (λ b. Flags (not b) c.args.writer.now c.write_line.new.writer) c.if-write_line.false c.write_line.ensures.failed)

pub returns-in-Failed-clause-failed : goal.returns-in-Failed-clause-failed
returns-in-Failed-clause-failed g c = (c.in-Failed.ensures.failed, refl)
