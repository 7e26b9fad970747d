use Rattle.std.proofs.Common.{◌≡◌, length, arith}
use Rattle.std.proofs.lemmas.Option.{IfSome_then}
use Rattle.wb_store.proofs.OpeningCountLemmas.{format_row}
use Rattle.wb_store.proofs.checks.counts.format_in.Goals as goal

pub returns-then-column_count-eq3-clause-value : goal.returns-then-column_count-eq3-clause-value
returns-then-column_count-eq3-clause-value c =
    let size : length c.args.row.now ≡ 3 = omega arith in IfSome_then c.number_at.result c.number_at.ensures.value (λ format is. format_row c.args.row.now format size is)
