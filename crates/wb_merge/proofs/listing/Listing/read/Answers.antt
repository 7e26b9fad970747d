use Rattle.std.proofs.lemmas.Result.{err_from_is_err_and}
use Rattle.wb_merge.proofs.WholeLemmas.{listing-is, sources-refused, packages-refused}
use Rattle.wb_merge.proofs.listing.Listing.read.Goals as goal

pub returns-clause-value : goal.returns-clause-value
returns-clause-value c =
    listing-is c.args.arch.now c.args.sources.now c.args.packages.now _ _ _ c.in_ok-listed.ensures.value c.in_ok-built.ensures.value

pub returns-in_err-listed-clause-refused : goal.returns-in_err-listed-clause-refused
returns-in_err-listed-clause-refused c =
    let p = err_from_is_err_and c.from_residual.result c.from_residual.ensures.1 in
    rw (p.1, p.2) (λ other. sources-refused c.args.arch.now c.args.sources.now c.args.packages.now _ (c.in_err-listed.ensures.refused other))

pub returns-in_err-built-clause-refused : goal.returns-in_err-built-clause-refused
returns-in_err-built-clause-refused c =
    let p = err_from_is_err_and c.from_residual-in_err-built.result c.from_residual-in_err-built.ensures.1 in
    rw (p.1, p.2) (λ other. packages-refused c.args.arch.now c.args.sources.now c.args.packages.now _ _ c.in_ok-listed.ensures.value
    (c.in_err-built.ensures.refused other))
