-- The room that the words so far leave, each with a space after it.
use Rattle.std.proofs.Common.{◌≡◌, ◌+◌, map, take}
use Rattle.wb_streams.specs.Line.{line_limit}
use Rattle.wb_daemon.proofs.WordsLemmas.{spaced}
use Rattle.wb_daemon.proofs.read.are_long.Given as goal

abbrev pub invariant-loop-word : goal.invariant-loop-word
invariant-loop-word l = l.room + spaced (map (λ word. word.now) (take l.word-index l.words)) ≡ line_limit + 1
