-- A text was written, or a part of it.
use Rattle.std.proofs.Common.{◌∙◌, ◌++◌, Bor, ap, sym, append_assoc, refl, List, ℕ, map, take, drop, length, ◌-◌}
use Rattle.std.specs.List.{concat}
use Rattle.wb_streams.proofs.StreamLemmas.{Appends-then, AppendsFront-then, texts_step}
use Rattle.wb_streams.proofs.answer.write_texts.Goals as goal

pub returns-then-not-write_bytes-clause-err : goal.returns-then-not-write_bytes-clause-err
returns-then-not-write_bytes-clause-err g c =
    let written = c.loop-left.invariant.written in
    let rest = concat (map (λ (t : Bor (List ℕ)). t.now) (take (length c.loop-left.left.now - 1) (drop 1 c.loop-left.left.now))) in
    let step = texts_step c.loop-left.left.now _ c.in-len1-up.len_at_least ∙ ap (λ t. t ++ rest) (sym c.as_bytes.ensures.value) in
    λ _. AppendsFront-then _ _ _ written.0 c.as_bytes.result.now rest _ written.1 (c.if-not-write_bytes.ensures.err refl) (written.2 ∙ ap (λ l. written.0 ++ l) step)

pub loop-left-preserved : goal.loop-left-preserved
loop-left-preserved g c =
    let written = c.loop-left.invariant.written in
    let rest = concat (map (λ (t : Bor (List ℕ)). t.now) (take (length c.loop-left.left.now - 1) (drop 1 c.loop-left.left.now))) in
    let step = texts_step c.loop-left.left.now _ c.in-len1-up.len_at_least ∙ ap (λ t. t ++ rest) (sym c.as_bytes.ensures.value) in
    record {
      written = (
        written.0 ++ c.as_bytes.result.now,
        Appends-then _ _ _ written.0 c.as_bytes.result.now written.1 (c.if-not-write_bytes.ensures.value refl),
        written.2 ∙ ap (λ l. written.0 ++ l) step ∙ sym (append_assoc written.0 c.as_bytes.result.now rest),
      );
      failed = c.if-not-write_bytes.ensures.failed ∙ c.loop-left.invariant.failed;
    }
