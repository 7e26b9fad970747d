use Rattle.std.proofs.lemmas.Result.{err_from_is_err_and}
use Rattle.std.proofs.Common.{◌∙◌, ap, sym}
use Rattle.std.specs.Prelude.{is_some}
use Rattle.deb_relations.proofs.BegunLemmas.{asked-begun}
use Rattle.deb_relations.proofs.parse.restriction_of.Goals as goal

pub returns-in_err-version-clause-memory : goal.returns-in_err-version-clause-memory
returns-in_err-version-clause-memory c =
    let p = err_from_is_err_and c.from_residual.result c.from_residual.ensures.1 in
    rw (p.1, p.2) (λ memory.
    asked-begun c.args.inside.now c.skip_white.result.now c.split_leading.result.0.now c.split_leading.result.1.now c.skip_white-2.result.now c.split_leading-2.result.0.now
    c.skip_white.ensures c.split_leading.ensures.front c.split_leading.ensures.back c.skip_white-2.ensures c.split_leading-2.ensures.front
    (ap is_some (sym c.op_of.ensures ∙ c.in-Some.is)) (c.in_err-version.ensures.memory memory))
