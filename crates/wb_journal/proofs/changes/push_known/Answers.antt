use Rattle.std.proofs.Common.{◌∙◌, sym, ap, ◌++◌, append_assoc}
use Rattle.std.specs.Prelude.{codes}
use Rattle.std.specs.String.{string_bytes}
use Rattle.std.specs.FinMap as finite
use Rattle.deb_text.specs.Text.{text_cmp}
use Rattle.wb_journal.specs.Changes.{changes_text, named_text}
use Rattle.wb_journal.proofs.ChangeLemmas.{this-arch}
use Rattle.wb_journal.proofs.changes.push_known.Goals as goal

pub returns-then-eq : goal.returns-then-eq
returns-then-eq c =
    let start = string_bytes c.args.out.now in
    let begun = codes ",\"changes\":[" in
    let ended = codes "]" in
    let shown = named_text (finite.entries (finite.from_entries {R = text_cmp} c.of_arch-item.result.records.entries)) in
    let is = sym c.loop-of_arch.invariant.left ∙ this-arch c.args.changes.now c.args.arch.now c.loop-of_arch.of_arch-index
    c.of_arch-item.result c.loop-of_arch-test.true c.of_arch-item.is (sym c.eq.ensures ∙ c.if-eq.true) in
    record {
      ok = c.in_ok-push_str-2.ensures.bytes
          ∙ ap (λ text. text ++ ended) (c.in_ok-push_changes.ensures.ok
          ∙ ap (λ text. text ++ shown) (c.in_ok-push_str.ensures.bytes
          ∙ ap (λ out. string_bytes out ++ begun) c.loop-of_arch.invariant.same))
          ∙ append_assoc (start ++ begun) shown ended ∙ append_assoc start begun (shown ++ ended)
          ∙ ap (λ found. start ++ changes_text found) (sym is);
    }
