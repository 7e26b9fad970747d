use Rattle.std.proofs.Common.{◌<◌, ◌≡◌, ◌∙◌, refl, sym, subst, length, arith, rules}
use Rattle.deb_control.proofs.IndexLemmas.{IsHalfIndexed, half-indexed-done, half-indexed-field, half-indexed-more, half-indexed-some}
use Rattle.deb_control.proofs.owned.index_of.Goals as goal

pub returns-in_err-push-clause-memory : goal.returns-in_err-push-clause-memory
returns-in_err-push-clause-memory c =
    let some : 0 < length c.loop-left.left.now = grind (arith, c.is_empty.ensures, c.loop-left-test.true) in
    let none = half-indexed-some c.args.text.now c.loop-left.left.now c.split_text.result.0.now c.split_text.result.1.now c.loop-left.starts.items c.loop-left.invariant.1 some
    c.split_text.ensures.line c.split_text.ensures.rest (sym c.is_continuation_line.ensures ∙ c.if-not-is_continuation_line.true) in
    search (rules, none, c.from_residual.ensures)

pub loop-left-preserved-in_ok-push : goal.loop-left-preserved-in_ok-push
loop-left-preserved-in_ok-push c =
    let some : 0 < length c.loop-left.left.now = grind (arith, c.is_empty.ensures, c.loop-left-test.true) in (
      search rules,
      subst (IsHalfIndexed c.args.text.now c.split_text.result.1.now) (sym c.in_ok-push.ensures.items)
          (half-indexed-field c.args.text.now c.loop-left.left.now c.split_text.result.0.now c.split_text.result.1.now c.loop-left.starts.items _ c.loop-left.invariant.1 c.loop-left.invariant.0 some refl
          c.split_text.ensures.line c.split_text.ensures.rest (sym c.is_continuation_line.ensures ∙ c.if-not-is_continuation_line.true)),
    )

pub loop-left-preserved : goal.loop-left-preserved
loop-left-preserved c =
    let some : 0 < length c.loop-left.left.now = grind (arith, c.is_empty.ensures, c.loop-left-test.true) in (
      search rules,
      half-indexed-more c.args.text.now c.loop-left.left.now c.split_text.result.0.now c.split_text.result.1.now c.loop-left.starts.items c.loop-left.invariant.1 some
          c.split_text.ensures.line c.split_text.ensures.rest (sym c.is_continuation_line.ensures ∙ c.if-not-is_continuation_line.false),
    )

pub returns-clause-value : goal.returns-clause-value
returns-clause-value c =
    let none : length c.loop-left.left.now ≡ 0 = grind (arith, c.is_empty.ensures, c.loop-left-test.false) in
    half-indexed-done c.args.text.now c.loop-left.left.now c.loop-left.starts.items c.loop-left.invariant.1 none
