use Rattle.std.proofs.Common.{ℕ, Bool, true, false, List, refl, ap, codes, ◌∙◌, ◌&&◌, ◌||◌, Option, Some, None}
use Rattle.std.specs.List.{list_any}
use Rattle.deb_version.specs.declared.operator.Op.TheVariants.{LaterOrEqual}
use Rattle.deb_relations.specs.declared.relations.Restriction.{Restriction}
use Rattle.deb_relations.specs.Satisfaction.{Offer, Pairs, meets_restriction, versions_of}
use Rattle.deb_relations.specs.Arch.{arch_matches}
use Rattle.deb_relations.specs.Grammar.{is_not_blank, is_white, is_profile_char, is_op_char, is_qualifier, is_word, op_of, words}
use Rattle.deb_relations.specs.Names.{is_lower_or_digit, is_package_char, is_arch_char, is_arch_word, is_package_name}
use Rattle.deb_relations.specs.Printing.{terms_text, alternative_text, group_text, printed}
use Rattle.deb_relations.specs.Reader.{is_solid, between, read_name, read_qualifier, restriction_of, read_restriction}
use Rattle.deb_relations.specs.Reader.{term_of, terms_of, arch_terms_of, read_archs, profile_of, read_profiles}
use Rattle.deb_relations.specs.Reader.{read_alternative, read_group, read_groups, with_group}
use Rattle.deb_relations.specs.Reading.{name_fault, fault_behind_operator, asked_fault, restriction_fault, words_fault, archs_fault, list_fault, profiles_fault, alternative_fault, is_alternative, group_fault, is_group_or_blank, groups_fault, reading_of}
use Rattle.deb_relations.specs.Reduction.{has_match, holds_without_profiles, is_kept, reduced_group, reduced}
use Rattle.deb_relations.specs.Satisfaction.{is_alternative_met, is_group_met, satisfied}
use Rattle.deb_version.specs.Syntax.{has_epoch, epoch_text, rest_of, has_revision, upstream_text, revision_text, epoch_of, value_of, with_digit, parts_of, is_version_text, fault_of, length_fault, epoch_fault, rest_fault, upstream_fault, upstream_part_fault, is_upstream_char, is_revision_char, revision_fault, revision_part_fault, number_fault}
use Rattle.deb_version.specs.Operator.{meets}
use Rattle.deb_version.specs.Order.{weight_of, part_cmp, revision_or_zero, parts_cmp, version_cmp}
use Rattle.deb_relations.proofs.laws.examples_of_relations.Goals as goal

pub returns-clause-sources : goal.returns-clause-sources
unfolding arch_matches is_not_blank is_white is_profile_char is_op_char is_qualifier is_word op_of words is_lower_or_digit is_package_char is_arch_char is_arch_word is_package_name terms_text alternative_text group_text printed is_solid between read_name read_qualifier restriction_of read_restriction term_of terms_of arch_terms_of read_archs profile_of read_profiles read_alternative read_group read_groups with_group name_fault fault_behind_operator asked_fault restriction_fault words_fault archs_fault list_fault profiles_fault alternative_fault is_alternative group_fault is_group_or_blank groups_fault reading_of has_match holds_without_profiles is_kept reduced_group reduced is_alternative_met is_group_met satisfied has_epoch epoch_text rest_of has_revision upstream_text revision_text epoch_of value_of with_digit parts_of weight_of part_cmp revision_or_zero parts_cmp version_cmp meets is_version_text fault_of length_fault epoch_fault rest_fault upstream_fault upstream_part_fault is_upstream_char is_revision_char revision_fault revision_part_fault number_fault
returns-clause-sources c = (refl, refl)

pub returns-clause-alternatives : goal.returns-clause-alternatives
unfolding arch_matches is_not_blank is_white is_profile_char is_op_char is_qualifier is_word op_of words is_lower_or_digit is_package_char is_arch_char is_arch_word is_package_name terms_text alternative_text group_text printed is_solid between read_name read_qualifier restriction_of read_restriction term_of terms_of arch_terms_of read_archs profile_of read_profiles read_alternative read_group read_groups with_group name_fault fault_behind_operator asked_fault restriction_fault words_fault archs_fault list_fault profiles_fault alternative_fault is_alternative group_fault is_group_or_blank groups_fault reading_of has_match holds_without_profiles is_kept reduced_group reduced is_alternative_met is_group_met satisfied has_epoch epoch_text rest_of has_revision upstream_text revision_text epoch_of value_of with_digit parts_of weight_of part_cmp revision_or_zero parts_cmp version_cmp meets is_version_text fault_of length_fault epoch_fault rest_fault upstream_fault upstream_part_fault is_upstream_char is_revision_char revision_fault revision_part_fault number_fault
returns-clause-alternatives c = (refl, refl, refl)

pub returns-clause-wildcards : goal.returns-clause-wildcards
unfolding arch_matches is_not_blank is_white is_profile_char is_op_char is_qualifier is_word op_of words is_lower_or_digit is_package_char is_arch_char is_arch_word is_package_name terms_text alternative_text group_text printed is_solid between read_name read_qualifier restriction_of read_restriction term_of terms_of arch_terms_of read_archs profile_of read_profiles read_alternative read_group read_groups with_group name_fault fault_behind_operator asked_fault restriction_fault words_fault archs_fault list_fault profiles_fault alternative_fault is_alternative group_fault is_group_or_blank groups_fault reading_of has_match holds_without_profiles is_kept reduced_group reduced is_alternative_met is_group_met satisfied has_epoch epoch_text rest_of has_revision upstream_text revision_text epoch_of value_of with_digit parts_of weight_of part_cmp revision_or_zero parts_cmp version_cmp meets is_version_text fault_of length_fault epoch_fault rest_fault upstream_fault upstream_part_fault is_upstream_char is_revision_char revision_fault revision_part_fault number_fault
returns-clause-wildcards c = (refl, refl, refl)

pub returns-clause-unread : goal.returns-clause-unread
unfolding arch_matches is_not_blank is_white is_profile_char is_op_char is_qualifier is_word op_of words is_lower_or_digit is_package_char is_arch_char is_arch_word is_package_name terms_text alternative_text group_text printed is_solid between read_name read_qualifier restriction_of read_restriction term_of terms_of arch_terms_of read_archs profile_of read_profiles read_alternative read_group read_groups with_group name_fault fault_behind_operator asked_fault restriction_fault words_fault archs_fault list_fault profiles_fault alternative_fault is_alternative group_fault is_group_or_blank groups_fault reading_of has_match holds_without_profiles is_kept reduced_group reduced is_alternative_met is_group_met satisfied has_epoch epoch_text rest_of has_revision upstream_text revision_text epoch_of value_of with_digit parts_of weight_of part_cmp revision_or_zero parts_cmp version_cmp meets is_version_text fault_of length_fault epoch_fault rest_fault upstream_fault upstream_part_fault is_upstream_char is_revision_char revision_fault revision_part_fault number_fault
returns-clause-unread c = (refl, refl, refl)

pub returns-clause-versions : goal.returns-clause-versions
unfolding arch_matches is_not_blank is_white is_profile_char is_op_char is_qualifier is_word op_of words is_lower_or_digit is_package_char is_arch_char is_arch_word is_package_name terms_text alternative_text group_text printed is_solid between read_name read_qualifier restriction_of read_restriction term_of terms_of arch_terms_of read_archs profile_of read_profiles read_alternative read_group read_groups with_group name_fault fault_behind_operator asked_fault restriction_fault words_fault archs_fault list_fault profiles_fault alternative_fault is_alternative group_fault is_group_or_blank groups_fault reading_of has_match holds_without_profiles is_kept reduced_group reduced is_alternative_met is_group_met satisfied has_epoch epoch_text rest_of has_revision upstream_text revision_text epoch_of value_of with_digit parts_of weight_of part_cmp revision_or_zero parts_cmp version_cmp meets is_version_text fault_of length_fault epoch_fault rest_fault upstream_fault upstream_part_fault is_upstream_char is_revision_char revision_fault revision_part_fault number_fault
returns-clause-versions c = λ pairs here none.
    let least : List ℕ → Option Restriction = λ version. Some (record { op = LaterOrEqual; version = version }) in
    let met : Option Restriction → List Offer → Bool = λ asked versions. list_any (meets_restriction asked) versions in
    let libc : List Offer = versions_of pairs (codes "libc6") in (
      ap (λ versions. Some ((met (least (codes "2.2.1")) versions || false) && true)) here,
      ap (λ versions. Some ((met (least (codes "2.10.1")) versions || false) && true)) here,
      ap (λ versions. Some ((met None versions || (met None libc || false)) && true)) none ∙ ap (λ versions. Some ((met None versions || false) && true)) here,
      ap (λ versions. Some ((met None versions || false) && ((met None libc || false) && true))) none,
    )

pub returns-clause-provided : goal.returns-clause-provided
unfolding arch_matches is_not_blank is_white is_profile_char is_op_char is_qualifier is_word op_of words is_lower_or_digit is_package_char is_arch_char is_arch_word is_package_name terms_text alternative_text group_text printed is_solid between read_name read_qualifier restriction_of read_restriction term_of terms_of arch_terms_of read_archs profile_of read_profiles read_alternative read_group read_groups with_group name_fault fault_behind_operator asked_fault restriction_fault words_fault archs_fault list_fault profiles_fault alternative_fault is_alternative group_fault is_group_or_blank groups_fault reading_of has_match holds_without_profiles is_kept reduced_group reduced is_alternative_met is_group_met satisfied has_epoch epoch_text rest_of has_revision upstream_text revision_text epoch_of value_of with_digit parts_of weight_of part_cmp revision_or_zero parts_cmp version_cmp meets is_version_text fault_of length_fault epoch_fault rest_fault upstream_fault upstream_part_fault is_upstream_char is_revision_char revision_fault revision_part_fault number_fault
returns-clause-provided c = λ pairs bare versioned.
    let least : List ℕ → Option Restriction = λ version. Some (record { op = LaterOrEqual; version = version }) in
    let met : Option Restriction → List Offer → Bool = λ asked versions. list_any (meets_restriction asked) versions in (
      ap (λ versions. Some ((met None versions || false) && true)) bare,
      ap (λ versions. Some ((met (least (codes "1")) versions || false) && true)) bare,
      ap (λ versions. Some ((met (least (codes "1")) versions || false) && true)) versioned,
      ap (λ versions. Some ((met (least (codes "3")) versions || false) && true)) versioned,
    )
