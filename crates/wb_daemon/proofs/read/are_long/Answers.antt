-- One word more, or the first for which there is no room.
use Rattle.std.proofs.Common.{[], List, ℕ, arith, refl, sym}
use Rattle.std.specs.Borrow.{Bor}
use Rattle.wb_daemon.proofs.WordsLemmas.{long-words, short-words, spaced-next}
use Rattle.wb_daemon.proofs.read.are_long.Goals as goal

pub loop-word-init : goal.loop-word-init
loop-word-init c = refl

pub returns-then-word-room : goal.returns-then-word-room
returns-then-word-room c =
    let none : Bor (List ℕ) = record { ref_ptr = (0, 0); now = [] } in record {
      value = sym (long-words c.args.words.now c.loop-word.word-index c.loop-word.room none c.loop-word-test.true c.loop-word.invariant c.if-word-room.true);
    }

pub loop-word-preserved : goal.loop-word-preserved
loop-word-preserved c =
    let none : Bor (List ℕ) = record { ref_ptr = (0, 0); now = [] } in
    let next = spaced-next c.args.words.now c.loop-word.word-index none c.loop-word-test.true in
    omega (arith, next, c.loop-word.invariant, c.if-word-room.false)

pub returns : goal.returns
returns c = record {
  value = sym (short-words c.args.words.now c.loop-word.word-index c.loop-word.room c.loop-word-test.false c.loop-word.invariant);
}
