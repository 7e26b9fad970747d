use Rattle.std.proofs.Common.{◌∙◌, ap, refl, rules, subst, None, Some, IsSome}
use Rattle.wb_merge.specs.declared.listing.Listed.{Listed}
use Rattle.wb_merge.specs.Scratch.{listed_in}
use Rattle.wb_merge.proofs.ScratchLemmas.{listed_in-by}
use Rattle.wb_merge.proofs.found.listed_in.Goals as goal

pub returns-in_default-clause-value : goal.returns-in_default-clause-value
returns-in_default-clause-value c = listed_in-by c.args.arch.now c.args.rows.now c.args.name.now None c.in_default.ensures

pub returns-clause-value : goal.returns-clause-value
returns-clause-value c =
    ap (λ (listed : Listed). Some listed) c.in_ok-listed_as.ensures.value
    ∙ listed_in-by c.args.arch.now c.args.rows.now c.args.name.now (Some c.in-Some.row.now) c.in-Some.ensures

pub returns-in_err-listed_as-clause-memory : goal.returns-in_err-listed_as-clause-memory
returns-in_err-listed_as-clause-memory c =
    let there : IsSome (listed_in c.args.arch.now c.args.rows.now c.args.name.now) =
    subst IsSome (listed_in-by c.args.arch.now c.args.rows.now c.args.name.now (Some c.in-Some.row.now) c.in-Some.ensures) refl in
    search rules
