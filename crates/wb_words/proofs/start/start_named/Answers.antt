-- The words of a single command, which begin with a query or do not.
use Rattle.std.proofs.Common.{refl}
use Rattle.wb_words.proofs.StartLemmas.{single-names}
use Rattle.wb_words.proofs.start.start_named.Goals as goal

pub returns-in_default-clause-some : goal.returns-in_default-clause-some
returns-in_default-clause-some c =
    single-names _ _ c.args.name.now _ c.args.store c.single_words.result c.single_start.result _ c.single_start.ensures.value refl
    c.single_words.ensures.value refl c.in_default.not-run c.in_default.not-serve
