use Rattle.std.proofs.Common.{◌≡◌, ◌≢◌, ◌∙◌, length, ap, sym, arith}
use Rattle.wb_rows.specs.Cells.{number}
use Rattle.wb_rows.proofs.ColumnLemmas.{whole}
use Rattle.wb_rows.proofs.FaultLemmas.{passed}
use Rattle.wb_rows.proofs.ReadLemmas.{no_start, other_rank}
use Rattle.wb_rows.proofs.read.read_record.Goals as goal

pub returns-then-place-from-clause-refused : goal.returns-then-place-from-clause-refused
returns-then-place-from-clause-refused c =
    let other : c.in_ok-place.place ≢ c.rank.result = omega arith in
    λ is. other_rank c.args.row.now ((c.in_ok-arch.arch, c.in_ok-arch.source), c.in_ok-current.current) c.in_ok-place.place
    c.in_ok-arch.ensures.value c.in_ok-current.ensures.value c.in_ok-place.ensures.value (λ same. other (same ∙ sym c.rank.ensures.value))

pub returns-clause-value : goal.returns-clause-value
returns-clause-value c =
    let same : c.in_ok-place.place ≡ c.rank.result = omega arith in
    let size : length c.args.row.now ≡ 16 = omega arith in
    whole c.args.row.now c.in_ok-arch.arch c.in_ok-arch.source c.in_ok-current.current size
    c.in_ok-arch.ensures.value c.in_ok-current.ensures.value (c.in_ok-place.ensures.value ∙ ap number (same ∙ c.rank.ensures.value))

pub returns-in_err-arch-clause-refused : goal.returns-in_err-arch-clause-refused
returns-in_err-arch-clause-refused c =
    passed _ c.from_residual.result c.from_residual.ensures.1 (λ is. no_start c.args.row.now (c.in_err-arch.ensures.refused is))
