use Rattle.std.proofs.Common.{refl}
use Rattle.deb_version.specs.Syntax.{has_epoch, epoch_text, rest_of, has_revision, upstream_text, revision_text, epoch_of, value_of, with_digit, parts_of}
use Rattle.deb_version.specs.Order.{weight_of, part_cmp, revision_or_zero, parts_cmp, version_cmp}
use Rattle.wb_merge.specs.Report.{record_after_report}
use Rattle.wb_merge.proofs.laws.examples_of_reported_records.Goals as goal

pub returns-clause-uninstallable : goal.returns-clause-uninstallable
unfolding record_after_report version_cmp parts_cmp revision_or_zero part_cmp weight_of parts_of has_epoch epoch_text rest_of has_revision upstream_text revision_text epoch_of value_of with_digit
returns-clause-uninstallable c = λ _. refl

pub returns-clause-another_reason : goal.returns-clause-another_reason
unfolding record_after_report version_cmp parts_cmp revision_or_zero part_cmp weight_of parts_of has_epoch epoch_text rest_of has_revision upstream_text revision_text epoch_of value_of with_digit
returns-clause-another_reason c = λ _. refl

pub returns-clause-installable : goal.returns-clause-installable
unfolding record_after_report version_cmp parts_cmp revision_or_zero part_cmp weight_of parts_of has_epoch epoch_text rest_of has_revision upstream_text revision_text epoch_of value_of with_digit
returns-clause-installable c = λ _. refl

pub returns-clause-same_version : goal.returns-clause-same_version
unfolding record_after_report version_cmp parts_cmp revision_or_zero part_cmp weight_of parts_of has_epoch epoch_text rest_of has_revision upstream_text revision_text epoch_of value_of with_digit
returns-clause-same_version c = λ _. refl

pub returns-clause-other_version : goal.returns-clause-other_version
unfolding record_after_report version_cmp parts_cmp revision_or_zero part_cmp weight_of parts_of has_epoch epoch_text rest_of has_revision upstream_text revision_text epoch_of value_of with_digit
returns-clause-other_version c = λ _. refl

pub returns-clause-waiting : goal.returns-clause-waiting
unfolding record_after_report version_cmp parts_cmp revision_or_zero part_cmp weight_of parts_of has_epoch epoch_text rest_of has_revision upstream_text revision_text epoch_of value_of with_digit
returns-clause-waiting c = λ _. refl

pub returns-clause-held : goal.returns-clause-held
unfolding record_after_report version_cmp parts_cmp revision_or_zero part_cmp weight_of parts_of has_epoch epoch_text rest_of has_revision upstream_text revision_text epoch_of value_of with_digit
returns-clause-held c = λ _. refl
