use Rattle.std.proofs.Common.{◌≡◌, ◌∙◌, sym, ap, false, true}
use Rattle.std.specs.List.{before_first}
use Rattle.deb_control.specs.Lines.{is_line_feed, is_continuation}
use Rattle.deb_control.specs.Fields.{continued}
use Rattle.deb_control.proofs.FieldLemmas.{continuations-more, continuations-none}
use Rattle.deb_control.proofs.field.next_continuation.Goals as goal

pub returns-in_err-added-clause-none : goal.returns-in_err-added-clause-none
returns-in_err-added-clause-none c =
    let other : is_continuation (before_first is_line_feed c.args.text.now) ≡ false =
    ap is_continuation (sym c.split_text.ensures.line) ∙ c.in_err-added.ensures.none in
    rw c.from_residual.ensures (continuations-none c.args.text.now other)

pub returns-clause-some : goal.returns-clause-some
unfolding continued
returns-clause-some c =
    let is : is_continuation (before_first is_line_feed c.args.text.now) ≡ true =
    ap is_continuation (sym c.split_text.ensures.line) ∙ c.in_ok-added.ensures.some in
    rw (c.without_blank_end.ensures, c.in_ok-added.ensures.rest, c.split_text.ensures.line, c.split_text.ensures.rest)
    (continuations-more c.args.text.now is)
