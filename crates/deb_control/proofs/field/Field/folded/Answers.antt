use Rattle.std.proofs.Common.{◌∙◌, ap, sym, ℕ, List}
use Rattle.std.specs.Prelude.{fold, map, string_bytes}
use Rattle.deb_control.specs.Lines.{trim, is_nonempty}
use Rattle.deb_control.specs.Fields.{folded_onto}
use Rattle.deb_control.proofs.FieldLemmas.{folded_of-fold, first-filled, piece-filled, where-err}
use Rattle.deb_control.proofs.field.Field.folded.Goals as goal

pub loop-line-init : goal.loop-line-init
loop-line-init c =
    ap (λ (v : List ℕ). fold folded_onto v (map trim c.into_iter-line-iterator.result))
    (c.in_ok-text.ensures.value ∙ c.without_blanks.ensures ∙ ap trim c.first.ensures)
    ∙ ap (λ (v : List (List ℕ)). fold folded_onto (trim c.args.self.now.first) (map trim v))
    (c.into_iter-line-iterator.ensures.into_iter_gives ∙ c.lines-line-items.ensures)
    ∙ folded_of-fold c.args.self.now

pub returns-in_err-text-clause-memory : goal.returns-in_err-text-clause-memory
returns-in_err-text-clause-memory c =
    where-err _ (first-filled c.args.self.now
    (ap is_nonempty (ap trim (sym c.first.ensures) ∙ sym c.without_blanks.ensures) ∙ c.in_err-text.ensures.memory))

pub returns-in_err-fold_line-clause-memory : goal.returns-in_err-fold_line-clause-memory
returns-in_err-fold_line-clause-memory c =
    where-err _
    (ap is_nonempty (sym c.loop-line.invariant ∙ ap (λ (v : List (List ℕ)). fold folded_onto (string_bytes c.loop-line.text) (map trim v)) c.in-Some.ensures.steps)
    ∙ piece-filled (string_bytes c.loop-line.text) (trim c.in-Some.line.now) (map trim c.next.new.self)
    (ap is_nonempty (sym c.without_blanks-in-loop-line.ensures) ∙ c.in_err-fold_line.ensures.memory))
