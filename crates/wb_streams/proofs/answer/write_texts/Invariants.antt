-- What was written is the texts without those that are left; no write failed.
use Rattle.std.proofs.Common.{◌≡◌, ◌++◌, List, ℕ, length, map}
use Rattle.std.specs.Io.KnownBytes.{Appends}
use Rattle.std.specs.List.{concat}
use Rattle.wb_streams.proofs.answer.write_texts.Given as goal

abbrev pub invariant-loop-left : goal.invariant-loop-left
invariant-loop-left g l = record {
  written : (before : List ℕ) × Appends l.initial.writer.bytes l.writer.bytes before
      × (concat (map (λ t. t.now) l.texts) ≡ before ++ concat (map (λ t. t.now) l.left));
  failed : l.writer.failed ≡ l.initial.writer.failed;
}

abbrev pub decreases-loop-left : goal.decreases-loop-left
decreases-loop-left g l = length l.left
