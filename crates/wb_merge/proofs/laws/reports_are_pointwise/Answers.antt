use Rattle.std.proofs.Common.{ap, ◌∙◌}
use Rattle.std.proofs.lemmas.Bool.{false_from_ne_true}
use Rattle.std.proofs.lemmas.Cmp.{nat_list_eq_equiv}
use Rattle.std.specs.Option.{option_map}
use Rattle.std.specs.FinMap as map
use Rattle.std.specs.Prelude.{Option, bytes_eq}
use Rattle.wb_merge.specs.declared.report.ReportLine.{ReportLine}
use Rattle.wb_merge.specs.Reported.{record_by_line}
use Rattle.wb_merge.proofs.NameLemmas.{bytes_eq-is}
use Rattle.wb_merge.proofs.ReportedLemmas.{reported-here, reported-others, reported-rows, reported-unnamed}
use Rattle.wb_merge.proofs.laws.reports_are_pointwise.Goals as goal

pub returns : goal.returns
returns c = record {
  named = λ old arch source lines line is.
      reported-here old arch lines (arch, source) (nat_list_eq_equiv.refl arch)
      ∙ ap (λ (l : Option ReportLine). option_map (record_by_line l) (map.get old (arch, source))) is;
  unnamed = reported-unnamed;
  others = λ old arch lines key other.
      reported-others old arch lines key (false_from_ne_true (bytes_eq key.0 arch) (λ e. other (bytes_eq-is key.0 arch e)));
  rows = reported-rows;
}
