use Rattle.std.proofs.Common.{◌∙◌, Some, None, Err, rules, sym, ap}
use Rattle.std.proofs.lemmas.Result.{err_from_is_err_and}
use Rattle.wb_merge.proofs.ReportLemmas.{at-next, at-bad, at-memory, at-end, lines_in-cut}
use Rattle.wb_merge.proofs.report.ReportLines.read.Goals as goal

pub returns-in_err-add_line-clause-refused : goal.returns-in_err-add_line-clause-refused
returns-in_err-add_line-clause-refused c =
    let p = err_from_is_err_and c.from_residual.result c.from_residual.ensures.1 in
    let cut = lines_in-cut c.loop-line.left.now (Some (c.in-Some.line, c.in-Some.rest)) c.in-Some.ensures.cases in
    rw (p.1, p.2) (λ other. at-bad c.in-Some.line.now c.loop-line.invariant.1 _ cut.1 (c.in_err-add_line.ensures.bad other)
    ∙ ap Err (sym (c.in_err-add_line.ensures.refused other)))

pub returns-in_err-add_line-clause-memory : goal.returns-in_err-add_line-clause-memory
returns-in_err-add_line-clause-memory c =
    let p = err_from_is_err_and c.from_residual.result c.from_residual.ensures.1 in
    let cut = lines_in-cut c.loop-line.left.now (Some (c.in-Some.line, c.in-Some.rest)) c.in-Some.ensures.cases in
    rw (p.1, p.2) (λ out. at-memory c.in-Some.line.now c.loop-line.invariant.1 _ cut.1 (c.in_err-add_line.ensures.memory out))

pub loop-line-preserved : goal.loop-line-preserved
loop-line-preserved c =
    let cut = lines_in-cut c.loop-line.left.now (Some (c.in-Some.line, c.in-Some.rest)) c.in-Some.ensures.cases in
    (search rules, at-next c.in-Some.line.now c.loop-line.invariant.1 c.in-Some.rest.now cut.0 cut.1 c.in_ok-add_line.ensures.ok c.in_ok-add_line.ensures.value)

pub returns-in_err-add_line-2-clause-refused : goal.returns-in_err-add_line-2-clause-refused
returns-in_err-add_line-2-clause-refused c =
    let p = err_from_is_err_and c.from_residual-in_err-add_line-2.result c.from_residual-in_err-add_line-2.ensures.1 in
    let last = lines_in-cut c.loop-line.left.now None c.in_default.ensures.cases in
    rw (p.1, p.2) (λ other. at-bad c.loop-line.left.now c.loop-line.invariant.1 _ last (c.in_err-add_line-2.ensures.bad other)
    ∙ ap Err (sym (c.in_err-add_line-2.ensures.refused other)))

pub returns-in_err-add_line-2-clause-memory : goal.returns-in_err-add_line-2-clause-memory
returns-in_err-add_line-2-clause-memory c =
    let p = err_from_is_err_and c.from_residual-in_err-add_line-2.result c.from_residual-in_err-add_line-2.ensures.1 in
    let last = lines_in-cut c.loop-line.left.now None c.in_default.ensures.cases in
    rw (p.1, p.2) (λ out. at-memory c.loop-line.left.now c.loop-line.invariant.1 _ last (c.in_err-add_line-2.ensures.memory out))

pub returns-clause-value : goal.returns-clause-value
returns-clause-value c =
    at-end c.loop-line.left.now c.loop-line.invariant.1 (lines_in-cut c.loop-line.left.now None c.in_default.ensures.cases)
    c.in_ok-add_line-2.ensures.ok c.in_ok-add_line-2.ensures.value
