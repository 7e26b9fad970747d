-- The run so far, and how it ends.
use Rattle.std.proofs.Common.{[], None, Some, refl, arith, subst}
use Rattle.wb_daemon.proofs.AnswerLemmas.{Turns-more}
use Rattle.wb_lists.proofs.ListLemmas.{MayReadLess-same, MayReadLess-then}
use Rattle.wb_daemon.proofs.RunLemmas.{FailsFor-then, so_far-start, so_far-next, ends-line, ends-nothing, stops-limit, stops-read, stops-turn}
use Rattle.wb_step.specs.Offices.{Open, Stands}
use Rattle.wb_daemon.specs.declared.message.Cause.TheVariants.{Lines, Read}
use Rattle.wb_daemon.specs.declared.run.Turn.TheVariants.{More, End, Stop}
use Rattle.wb_daemon.proofs.run.run_within.Goals as goal

pub lines-init : goal.lines-init
lines-init g c = record {
  clean = λ h. h;
  small = omega arith;
  failed = (refl, refl);
  kept = MayReadLess-same (g.L.Lists.may_read c.args.lists.now);
  far = λ before clean stands. (before, stands, so_far-start (g.L.Lists.may_read c.args.lists.now) c.args.reader.now.bytes c.args.writer.now.bytes before);
}

pub returns-in-End : goal.returns-in-End
returns-in-End g c = record {
  clean = λ h. c.lines.invariant.clean (c.take_turn.ensures.clean h);
  status = omega (arith, c.lines.invariant.small, c.in-End.ensures.status, c.max.ensures);
  failed = FailsFor-then None c.args.reader.now c.lines.reader c.take_turn.new.reader c.args.writer.now c.lines.writer c.take_turn.new.writer c.lines.invariant.failed c.in-End.ensures.failed;
  value = λ before clean stands.
      let so = c.lines.invariant.far before (c.take_turn.ensures.clean clean) stands in
      let now = c.in-End.ensures.value so.0 clean so.1 in
      let did = Turns-more (g.L.Lists.may_read c.args.lists.now) (g.L.Lists.may_read c.lines.lists) c.lines.invariant.kept (End c.in-End.status) so.0 now.0 now.1
      c.lines.reader.bytes c.take_turn.new.reader.bytes c.lines.writer.bytes c.take_turn.new.writer.bytes now.3 in (
        now.0,
        now.1,
        now.2,
        (
          ends-line so.2 did.0 c.take_turn.new.reader.bytes c.take_turn.new.writer.bytes now.0
              c.in-End.status c.max.result (omega arith) c.max.ensures did.1 did.2,
          did.3,
        ),
      );
}

pub returns-in-Stop : goal.returns-in-Stop
returns-in-Stop g c = record {
  clean = λ h. c.lines.invariant.clean (c.take_turn.ensures.clean h);
  status = tt;
  failed = FailsFor-then (Some c.in-Stop.cause) c.args.reader.now c.lines.reader c.take_turn.new.reader c.args.writer.now c.lines.writer c.take_turn.new.writer c.lines.invariant.failed c.in-Stop.ensures.failed;
  value = λ before clean stands.
      let so = c.lines.invariant.far before (c.take_turn.ensures.clean clean) stands in
      let now = c.in-Stop.ensures.value so.0 clean so.1 in (
        now.0,
        now.1,
        now.2,
        stops-turn so.2 c.in-Stop.cause _ _ _ now.1
            (Turns-more (g.L.Lists.may_read c.args.lists.now) (g.L.Lists.may_read c.lines.lists) c.lines.invariant.kept (Stop c.in-Stop.cause) so.0 now.0 now.1
            c.lines.reader.bytes c.take_turn.new.reader.bytes c.lines.writer.bytes c.take_turn.new.writer.bytes now.3),
      );
}

pub lines-preserved : goal.lines-preserved
lines-preserved g c =
    let may_read = g.L.Lists.may_read c.args.lists.now in
    record {
      clean = λ h. c.lines.invariant.clean (c.take_turn.ensures.clean h);
      small = omega (arith, c.lines.invariant.small, c.in-More.ensures.status, c.max-greatest.ensures);
      failed = FailsFor-then None c.args.reader.now c.lines.reader c.take_turn.new.reader c.args.writer.now c.lines.writer c.take_turn.new.writer c.lines.invariant.failed c.in-More.ensures.failed;
      kept = MayReadLess-then may_read (g.L.Lists.may_read c.lines.lists) (g.L.Lists.may_read c.take_turn.new.lists) c.lines.invariant.kept c.take_turn.ensures.kept;
      far = λ before clean stands.
          let so = c.lines.invariant.far before (c.take_turn.ensures.clean clean) stands in
          let now = c.in-More.ensures.value so.0 clean so.1 in
          let did = Turns-more may_read (g.L.Lists.may_read c.lines.lists) c.lines.invariant.kept (More c.in-More.status) so.0 now.0 now.1
          c.lines.reader.bytes c.take_turn.new.reader.bytes c.lines.writer.bytes c.take_turn.new.writer.bytes now.3 in (
            now.0,
            subst (λ standing. Stands g.O.CarryOut.is_closed g.O.CarryOut.stands_at g.O.CarryOut.leaves c.take_turn.new.office now.0 standing) did.3 now.2,
            so_far-next so.2 did.0 c.take_turn.new.reader.bytes c.take_turn.new.writer.bytes now.0
                c.in-More.status c.max-greatest.result did.1 did.2 c.max-greatest.ensures,
          );
    }

pub returns-in-End-read_byte : goal.returns-in-End-read_byte
returns-in-End-read_byte g c = record {
  clean = c.lines.invariant.clean;
  status = c.lines.invariant.small;
  failed = FailsFor-then None c.args.reader.now c.lines.reader c.read_byte.new.reader c.args.writer.now c.lines.writer c.lines.writer c.lines.invariant.failed (c.in-End-read_byte.ensures.failed, refl);
  value = λ before clean stands.
      let so = c.lines.invariant.far before clean stands in (
        so.0,
        Open,
        so.1,
        (ends-nothing so.2 c.read_byte.new.reader.bytes (omega arith) c.in-End-read_byte.ensures.value (c.in-End-read_byte.ensures.status refl), refl),
      );
}

pub returns-in-Byte : goal.returns-in-Byte
returns-in-Byte g c = record {
  clean = c.lines.invariant.clean;
  status = tt;
  failed = FailsFor-then (Some Lines) c.args.reader.now c.lines.reader c.read_byte.new.reader c.args.writer.now c.lines.writer c.lines.writer c.lines.invariant.failed (c.in-Byte.ensures.failed, refl);
  value = λ before clean stands.
      let so = c.lines.invariant.far before clean stands in
      (so.0, Open, so.1, stops-limit so.2 c.in-Byte.field-0 c.read_byte.new.reader.bytes (omega arith) c.in-Byte.ensures.value);
}

pub returns-in-Failed : goal.returns-in-Failed
returns-in-Failed g c = record {
  clean = c.lines.invariant.clean;
  status = tt;
  failed = FailsFor-then (Some Read) c.args.reader.now c.lines.reader c.read_byte.new.reader c.args.writer.now c.lines.writer c.lines.writer c.lines.invariant.failed (c.in-Failed.ensures.failed, refl);
  value = λ before clean stands.
      let so = c.lines.invariant.far before clean stands in
      (so.0, Open, so.1, stops-read so.2 [] c.read_byte.new.reader.bytes refl c.in-Failed.ensures.value);
}
