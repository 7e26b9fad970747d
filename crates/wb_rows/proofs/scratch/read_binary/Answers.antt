use Rattle.std.proofs.Common.{◌≡◌, length, arith}
use Rattle.wb_rows.proofs.FaultLemmas.{passed}
use Rattle.wb_rows.proofs.ScratchLemmas.{no_binary_offer, binary_whole}
use Rattle.wb_rows.proofs.scratch.read_binary.Goals as goal

pub returns-in_err-version-clause-refused : goal.returns-in_err-version-clause-refused
returns-in_err-version-clause-refused c =
    passed _ c.from_residual-in_err-version.result c.from_residual-in_err-version.ensures.1
    (λ is. no_binary_offer c.args.row.now c.in_ok-text.text c.in_ok-number.kind c.in_ok-text.ensures.value.0 c.in_ok-number.ensures.value.1.0
    (c.in_err-version.ensures.refused is))

pub returns-clause-value : goal.returns-clause-value
returns-clause-value c =
    let size : length c.args.row.now ≡ 7 = omega arith in
    binary_whole c.args.row.now _ c.in_ok-text.text c.in_ok-number.kind size c.in_ok-seq.ensures.value c.in_ok-text.ensures.value
    c.in_ok-source_version.ensures.value c.in_ok-number.ensures.value c.in_ok-version.ensures.value
