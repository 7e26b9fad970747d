use Rattle.std.proofs.Common.{◌≡◌, ◌≢◌, ◌∙◌, ◌+◌, ℕ, length, ap, sym, arith}
use Rattle.wb_rows.specs.Cells.{number}
use Rattle.wb_rows.specs.FirstSchema.{first_rank_of}
use Rattle.wb_rows.proofs.ColumnLemmas.{first_whole}
use Rattle.wb_rows.proofs.FaultLemmas.{passed}
use Rattle.wb_rows.proofs.FirstLemmas.{rank_of-first}
use Rattle.wb_rows.proofs.ReadLemmas.{no_first_start, other_first_rank}
use Rattle.wb_rows.proofs.read.read_first_record.Goals as goal

pub returns-in_err-arch-clause-refused : goal.returns-in_err-arch-clause-refused
returns-in_err-arch-clause-refused c =
    passed _ c.from_residual.result c.from_residual.ensures.1 (λ is. no_first_start c.args.row.now (c.in_err-arch.ensures.refused is))

pub returns-then-saturating_add-from-clause-refused : goal.returns-then-saturating_add-from-clause-refused
returns-then-saturating_add-from-clause-refused c =
    let current = c.in_ok-current.current in
    let kept = c.in_ok-current.ensures.value.1 in
    let other : c.in_ok-place.place + 348000 ≢ c.rank.result = omega arith in
    let ranks = rank_of-first current kept.build_priority in
    λ is. other_first_rank c.args.row.now ((c.in_ok-arch.arch, c.in_ok-arch.source), current) c.in_ok-place.place kept
    c.in_ok-arch.ensures.value c.in_ok-current.ensures.value.0 c.in_ok-place.ensures.value
    (λ same. other (ap (λ (n : ℕ). n + 348000) same ∙ sym ranks ∙ sym c.rank.ensures.value))

pub returns-clause-value : goal.returns-clause-value
returns-clause-value c =
    let current = c.in_ok-current.current in
    let same : c.in_ok-place.place + 348000 ≡ c.rank.result = omega arith in
    let size : length c.args.row.now ≡ 15 = omega arith in
    let ranks : first_rank_of current + 348000 ≡ c.rank.result = sym (c.rank.ensures.value ∙ rank_of-first current c.in_ok-current.ensures.value.1.build_priority) in
    let first : c.in_ok-place.place ≡ first_rank_of current = omega arith in (
      first_whole c.args.row.now c.in_ok-arch.arch c.in_ok-arch.source current size c.in_ok-arch.ensures.value c.in_ok-current.ensures.value.0 (c.in_ok-place.ensures.value ∙ ap number first),
      c.in_ok-current.ensures.value.1,
    )
