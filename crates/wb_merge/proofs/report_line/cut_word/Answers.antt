use Rattle.std.proofs.Common.{◌∙◌, sym, ap}
use Rattle.std.specs.List.{after_first}
use Rattle.deb_control.specs.Lines.{is_blank}
use Rattle.wb_merge.proofs.ReportLineLemmas.{has-blank, no_blank-rest}
use Rattle.wb_merge.proofs.report_line.cut_word.Goals as goal

pub range-requires-clause-end_boundary : goal.range-requires-clause-end_boundary
range-requires-clause-end_boundary c =
    (has-blank c.as_bytes.result.now c.without_blank_start-start.result.now c.in-Some.at c.as_bytes.ensures.value c.without_blank_start-start.utf8 (sym c.blank_place.ensures ∙ c.in-Some.is)).here

pub range_from-requires : goal.range_from-requires
range_from-requires c =
    λ _. (has-blank c.as_bytes.result.now c.without_blank_start-start.result.now c.in-Some.at c.as_bytes.ensures.value c.without_blank_start-start.utf8 (sym c.blank_place.ensures ∙ c.in-Some.is)).behind

pub returns-in-None-clause-rest : goal.returns-in-None-clause-rest
returns-in-None-clause-rest c = no_blank-rest c.as_bytes.result.now c.without_blank_start-start.result.now c.as_bytes.ensures.value (sym c.blank_place.ensures ∙ c.in-None.is)
    ∙ ap (after_first is_blank) c.without_blank_start-start.ensures
