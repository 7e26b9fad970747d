use Rattle.std.proofs.Common.{refl, ap, codes}
use Rattle.deb_version.specs.Syntax.{has_epoch, epoch_text, rest_of, has_revision, upstream_text, revision_text, epoch_of, value_of, with_digit, parts_of}
use Rattle.deb_version.specs.Operator.{meets}
use Rattle.deb_version.specs.Order.{weight_of, part_cmp, revision_or_zero, parts_cmp, version_cmp}
use Rattle.wb_merge.specs.Merge.{listed_record, new_record, newer_record, same_record, relisted}
use Rattle.wb_merge.specs.Examples.{listed_at, record_in}
use Rattle.wb_states.specs.declared.record.Record.{Record}
use Rattle.wb_states.specs.declared.state.State.TheVariants.{DepWait}
use Rattle.wb_merge.proofs.ExampleLemmas.{becomes, becomes-beside, after-waits, libssl-waits}
use Rattle.wb_merge.proofs.laws.examples_of_merges.Goals as goal

abbrev waiting : Record
waiting = record (record_in DepWait (codes "7.88.1-10")) { waits = codes "libssl-dev (>= 3)" }

pub returns-clause-unlisted : goal.returns-clause-unlisted
unfolding listed_record new_record newer_record same_record relisted version_cmp parts_cmp revision_or_zero part_cmp weight_of parts_of has_epoch epoch_text rest_of has_revision upstream_text revision_text epoch_of value_of with_digit
returns-clause-unlisted c = becomes _ (λ _. refl)

pub returns-clause-added : goal.returns-clause-added
unfolding listed_record new_record newer_record same_record relisted version_cmp parts_cmp revision_or_zero part_cmp weight_of parts_of has_epoch epoch_text rest_of has_revision upstream_text revision_text epoch_of value_of with_digit
returns-clause-added c = becomes _ (λ _. refl)

pub returns-clause-added_behind : goal.returns-clause-added_behind
unfolding listed_record new_record newer_record same_record relisted version_cmp parts_cmp revision_or_zero part_cmp weight_of parts_of has_epoch epoch_text rest_of has_revision upstream_text revision_text epoch_of value_of with_digit
returns-clause-added_behind c = becomes _ (λ _. refl)

pub returns-clause-added_built : goal.returns-clause-added_built
unfolding listed_record new_record newer_record same_record relisted version_cmp parts_cmp revision_or_zero part_cmp weight_of parts_of has_epoch epoch_text rest_of has_revision upstream_text revision_text epoch_of value_of with_digit
returns-clause-added_built c = becomes _ (λ _. refl)

pub returns-clause-newer : goal.returns-clause-newer
unfolding listed_record new_record newer_record same_record relisted version_cmp parts_cmp revision_or_zero part_cmp weight_of parts_of has_epoch epoch_text rest_of has_revision upstream_text revision_text epoch_of value_of with_digit
returns-clause-newer c = becomes _ (λ _. refl)

pub returns-clause-newer_built : goal.returns-clause-newer_built
unfolding listed_record new_record newer_record same_record relisted version_cmp parts_cmp revision_or_zero part_cmp weight_of parts_of has_epoch epoch_text rest_of has_revision upstream_text revision_text epoch_of value_of with_digit
returns-clause-newer_built c = becomes _ (λ _. refl)

pub returns-clause-newer_not_for_us : goal.returns-clause-newer_not_for_us
unfolding listed_record new_record newer_record same_record relisted version_cmp parts_cmp revision_or_zero part_cmp weight_of parts_of has_epoch epoch_text rest_of has_revision upstream_text revision_text epoch_of value_of with_digit
returns-clause-newer_not_for_us c = becomes _ (λ _. refl)

pub returns-clause-older : goal.returns-clause-older
unfolding listed_record new_record newer_record same_record relisted version_cmp parts_cmp revision_or_zero part_cmp weight_of parts_of has_epoch epoch_text rest_of has_revision upstream_text revision_text epoch_of value_of with_digit
returns-clause-older c = becomes _ (λ _. refl)

pub returns-clause-same_held : goal.returns-clause-same_held
unfolding listed_record new_record newer_record same_record relisted version_cmp parts_cmp revision_or_zero part_cmp weight_of parts_of has_epoch epoch_text rest_of has_revision upstream_text revision_text epoch_of value_of with_digit
returns-clause-same_held c = becomes _ (λ _. refl)

pub returns-clause-same_listing : goal.returns-clause-same_listing
unfolding listed_record new_record newer_record same_record relisted version_cmp parts_cmp revision_or_zero part_cmp weight_of parts_of has_epoch epoch_text rest_of has_revision upstream_text revision_text epoch_of value_of with_digit
returns-clause-same_listing c = becomes _ (λ _. refl)

pub returns-clause-same_removed : goal.returns-clause-same_removed
unfolding listed_record new_record newer_record same_record relisted version_cmp parts_cmp revision_or_zero part_cmp weight_of parts_of has_epoch epoch_text rest_of has_revision upstream_text revision_text epoch_of value_of with_digit
returns-clause-same_removed c = becomes _ (λ _. refl)

pub returns-clause-same_built : goal.returns-clause-same_built
unfolding listed_record new_record newer_record same_record relisted version_cmp parts_cmp revision_or_zero part_cmp weight_of parts_of has_epoch epoch_text rest_of has_revision upstream_text revision_text epoch_of value_of with_digit
returns-clause-same_built c = becomes _ (λ _. refl)

pub returns-clause-same_not_rebuilt : goal.returns-clause-same_not_rebuilt
unfolding listed_record new_record newer_record same_record relisted version_cmp parts_cmp revision_or_zero part_cmp weight_of parts_of has_epoch epoch_text rest_of has_revision upstream_text revision_text epoch_of value_of with_digit
returns-clause-same_not_rebuilt c = becomes _ (λ _. refl)

pub returns-clause-same_rebuilt : goal.returns-clause-same_rebuilt
unfolding listed_record new_record newer_record same_record relisted version_cmp parts_cmp revision_or_zero part_cmp weight_of parts_of has_epoch epoch_text rest_of has_revision upstream_text revision_text epoch_of value_of with_digit
returns-clause-same_rebuilt c = becomes _ (λ _. refl)

pub returns-clause-same_not_for_us : goal.returns-clause-same_not_for_us
unfolding listed_record new_record newer_record same_record relisted version_cmp parts_cmp revision_or_zero part_cmp weight_of parts_of has_epoch epoch_text rest_of has_revision upstream_text revision_text epoch_of value_of with_digit
returns-clause-same_not_for_us c = becomes _ (λ _. refl)

pub returns-clause-same_text : goal.returns-clause-same_text
unfolding listed_record new_record newer_record same_record relisted version_cmp parts_cmp revision_or_zero part_cmp weight_of parts_of has_epoch epoch_text rest_of has_revision upstream_text revision_text epoch_of value_of with_digit
returns-clause-same_text c = becomes _ (λ _. refl)

pub returns-clause-waits_unmet : goal.returns-clause-waits_unmet
unfolding listed_record new_record newer_record same_record relisted meets version_cmp parts_cmp revision_or_zero part_cmp weight_of parts_of has_epoch epoch_text rest_of has_revision upstream_text revision_text epoch_of value_of with_digit
returns-clause-waits_unmet c = becomes-beside _ _ (λ available here. ap (after-waits (listed_at (codes "7.88.1-10")) waiting) (libssl-waits available _ here))

pub returns-clause-waits_provided : goal.returns-clause-waits_provided
unfolding listed_record new_record newer_record same_record relisted meets version_cmp parts_cmp revision_or_zero part_cmp weight_of parts_of has_epoch epoch_text rest_of has_revision upstream_text revision_text epoch_of value_of with_digit
returns-clause-waits_provided c = becomes-beside _ _ (λ available here. ap (after-waits (listed_at (codes "7.88.1-10")) waiting) (libssl-waits available _ here))

pub returns-clause-waits_met : goal.returns-clause-waits_met
unfolding listed_record new_record newer_record same_record relisted meets version_cmp parts_cmp revision_or_zero part_cmp weight_of parts_of has_epoch epoch_text rest_of has_revision upstream_text revision_text epoch_of value_of with_digit
returns-clause-waits_met c = becomes-beside _ _ (λ available here. ap (after-waits (listed_at (codes "7.88.1-10")) waiting) (libssl-waits available _ here))
