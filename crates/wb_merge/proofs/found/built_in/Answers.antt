use Rattle.std.proofs.Common.{◌∙◌, ap, List, ℕ, Option, None, Some}
use Rattle.wb_merge.specs.declared.listing.Built.{Built}
use Rattle.wb_merge.proofs.ScratchLemmas.{built_in-by}
use Rattle.wb_merge.proofs.found.built_in.Goals as goal

pub returns-in_default-clause-value : goal.returns-in_default-clause-value
returns-in_default-clause-value c = built_in-by c.args.rows.now c.args.name.now None c.in_default.ensures

with-version : ℕ → List ℕ → Option Built
with-version number version = Some record { version = version; number = number }

pub returns-clause-value : goal.returns-clause-value
unfolding with-version
returns-clause-value c =
    ap (with-version c.in-Some.row.now.number) c.in_ok-clone.ensures.cases
    ∙ built_in-by c.args.rows.now c.args.name.now (Some c.in-Some.row.now) c.in-Some.ensures
