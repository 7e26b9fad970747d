use Rattle.std.proofs.Common.{◌≡◌, List, ℕ, [], true, false, codes, ◌∷◌, is_some, None, refl, ap}
use Rattle.std.specs.FinMap as finite
use Rattle.deb_control.specs.Lines.{trim, trim_end}
use Rattle.deb_version.specs.Syntax.{is_version_text, fault_of, length_fault, epoch_fault, number_fault, rest_fault, upstream_fault, upstream_part_fault, revision_fault, revision_part_fault, is_upstream_char, is_revision_char, has_epoch, epoch_text, rest_of, has_revision, upstream_text, revision_text, upstream_start, upstream_end}
use Rattle.deb_relations.specs.Names.{is_package_name, is_package_char, is_lower_or_digit}
use Rattle.deb_text.specs.Text.{text_cmp}
use Rattle.deb_text.proofs.KeyLemmas.{text_cmp_total}
use Rattle.wb_merge.specs.Examples.{reported_of}
use Rattle.wb_merge.specs.Report.{line_of, lines_in, with_line, is_bad_line, report_of}
use Rattle.wb_merge.proofs.ReportLemmas.{at-start, at-next, at-bad}
use Rattle.wb_merge.proofs.laws.examples_of_reports.Goals as goal

pub returns-clause-installable : goal.returns-clause-installable
unfolding line_of trim trim_end is_package_name is_package_char is_lower_or_digit is_version_text fault_of length_fault epoch_fault number_fault rest_fault upstream_fault upstream_part_fault revision_fault revision_part_fault is_upstream_char is_revision_char has_epoch epoch_text rest_of has_revision upstream_text revision_text upstream_start upstream_end
returns-clause-installable c = refl

pub returns-clause-uninstallable : goal.returns-clause-uninstallable
unfolding line_of trim trim_end is_package_name is_package_char is_lower_or_digit is_version_text fault_of length_fault epoch_fault number_fault rest_fault upstream_fault upstream_part_fault revision_fault revision_part_fault is_upstream_char is_revision_char has_epoch epoch_text rest_of has_revision upstream_text revision_text upstream_start upstream_end
returns-clause-uninstallable c = refl

pub returns-clause-no_reason : goal.returns-clause-no_reason
unfolding line_of trim trim_end is_package_name is_package_char is_lower_or_digit is_version_text fault_of length_fault epoch_fault number_fault rest_fault upstream_fault upstream_part_fault revision_fault revision_part_fault is_upstream_char is_revision_char has_epoch epoch_text rest_of has_revision upstream_text revision_text upstream_start upstream_end
returns-clause-no_reason c = refl

pub returns-clause-unread : goal.returns-clause-unread
unfolding line_of trim trim_end is_package_name is_package_char is_lower_or_digit is_version_text fault_of length_fault epoch_fault number_fault rest_fault upstream_fault upstream_part_fault revision_fault revision_part_fault is_upstream_char is_revision_char has_epoch epoch_text rest_of has_revision upstream_text revision_text upstream_start upstream_end
returns-clause-unread c = (refl, refl, refl, refl, refl, refl)

pub returns-clause-bad : goal.returns-clause-bad
unfolding line_of trim trim_end is_package_name is_package_char is_lower_or_digit is_version_text fault_of length_fault epoch_fault number_fault rest_fault upstream_fault upstream_part_fault revision_fault revision_part_fault is_upstream_char is_revision_char has_epoch epoch_text rest_of has_revision upstream_text revision_text upstream_start upstream_end lines_in with_line is_bad_line report_of
returns-clause-bad c = (refl, refl)

pub returns-clause-blank : goal.returns-clause-blank
unfolding line_of trim trim_end is_package_name is_package_char is_lower_or_digit is_version_text fault_of length_fault epoch_fault number_fault rest_fault upstream_fault upstream_part_fault revision_fault revision_part_fault is_upstream_char is_revision_char has_epoch epoch_text rest_of has_revision upstream_text revision_text upstream_start upstream_end lines_in with_line is_bad_line report_of
returns-clause-blank c = refl

-- the line before, and those of the same source
abbrev first : List ℕ
first = codes "hello 2.10-3 installable"

abbrev second : List ℕ
second = codes "hello 2.10-4 installable"

first-good : is_bad_line finite.empty first ≡ false
unfolding line_of trim trim_end is_package_name is_package_char is_lower_or_digit is_version_text fault_of length_fault epoch_fault number_fault rest_fault upstream_fault upstream_part_fault revision_fault revision_part_fault is_upstream_char is_revision_char has_epoch epoch_text rest_of has_revision upstream_text revision_text upstream_start upstream_end is_bad_line
first-good = ap is_some (finite.get-empty text_cmp (codes "hello"))

blank-good : is_bad_line (with_line finite.empty first) [] ≡ false
unfolding line_of trim trim_end is_package_name is_package_char is_lower_or_digit is_version_text fault_of length_fault epoch_fault number_fault rest_fault upstream_fault upstream_part_fault revision_fault revision_part_fault is_upstream_char is_revision_char has_epoch epoch_text rest_of has_revision upstream_text revision_text upstream_start upstream_end is_bad_line
blank-good = refl

second-bad : is_bad_line (with_line (with_line finite.empty first) []) second ≡ true
unfolding line_of trim trim_end is_package_name is_package_char is_lower_or_digit is_version_text fault_of length_fault epoch_fault number_fault rest_fault upstream_fault upstream_part_fault revision_fault revision_part_fault is_upstream_char is_revision_char has_epoch epoch_text rest_of has_revision upstream_text revision_text upstream_start upstream_end is_bad_line with_line
second-bad =
    ap is_some (finite.get-insert text_cmp_total finite.empty (codes "hello") (reported_of (codes "hello") (codes "2.10-3") None) (codes "hello"))

pub returns-clause-again : goal.returns-clause-again
unfolding lines_in
returns-clause-again c =
    let text : List ℕ = codes "hello 2.10-3 installable\n\nhello 2.10-4 installable\n" in
    let one = at-next first (at-start finite.empty text refl) (codes "\nhello 2.10-4 installable\n") refl refl first-good refl in
    let two = at-next [] one (codes "hello 2.10-4 installable\n") refl refl blank-good refl in
    at-bad second two ([] ∷ []) refl second-bad
