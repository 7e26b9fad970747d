use Rattle.std.proofs.Common.{refl}
use Rattle.deb_version.specs.Syntax.{is_version_text, fault_of, length_fault, epoch_fault, rest_fault, upstream_fault, upstream_part_fault, is_upstream_char, is_revision_char, revision_fault, revision_part_fault, number_fault}
use Rattle.deb_version.specs.Syntax.{has_epoch, epoch_text, rest_of, has_revision, upstream_text, revision_text, epoch_of, value_of, with_digit, parts_of}
use Rattle.deb_version.specs.Order.{weight_of, part_cmp, revision_or_zero, parts_cmp, version_cmp}
use Rattle.deb_relations.specs.Arch.{arch_matches}
use Rattle.deb_relations.specs.Grammar.{is_not_blank, is_white, is_profile_char, is_op_char, is_qualifier, is_word, op_of, words}
use Rattle.deb_relations.specs.Names.{is_lower_or_digit, is_package_char, is_arch_char, is_arch_word, is_package_name}
use Rattle.deb_relations.specs.Provided.{given_by, given_in, provided_in}
use Rattle.deb_relations.specs.Reader.{is_solid, between, read_name, read_qualifier, restriction_of, read_restriction}
use Rattle.deb_relations.specs.Reader.{term_of, terms_of, arch_terms_of, read_archs, profile_of, read_profiles}
use Rattle.deb_relations.specs.Reader.{read_alternative, read_group, read_groups, with_group}
use Rattle.wb_merge.specs.Rows.{source_name, has_source_version, source_version, last_digits, rebuild_number}
use Rattle.wb_merge.specs.Listing.{is_listed, is_candidate, candidates, listed_of, is_built_from, builds, built_of, is_installable_on, offers_on}
use Rattle.wb_merge.proofs.laws.examples_of_listings.Goals as goal

pub returns-clause-archs : goal.returns-clause-archs
unfolding is_listed arch_matches
returns-clause-archs c = (refl, refl, refl, refl, refl, refl)

pub returns-clause-extra : goal.returns-clause-extra
unfolding is_listed arch_matches
returns-clause-extra c = refl

pub returns-clause-versions : goal.returns-clause-versions
unfolding listed_of candidates is_candidate is_listed arch_matches version_cmp parts_cmp revision_or_zero part_cmp weight_of parts_of has_epoch epoch_text rest_of has_revision upstream_text revision_text epoch_of value_of with_digit
returns-clause-versions c = refl

pub returns-clause-builds : goal.returns-clause-builds
unfolding built_of builds is_built_from source_name has_source_version source_version last_digits rebuild_number version_cmp parts_cmp revision_or_zero part_cmp weight_of parts_of has_epoch epoch_text rest_of has_revision upstream_text revision_text epoch_of value_of with_digit
returns-clause-builds c = refl

pub returns-clause-provided : goal.returns-clause-provided
unfolding offers_on is_installable_on provided_in given_in given_by is_not_blank is_white is_profile_char is_op_char is_qualifier is_word op_of words is_lower_or_digit is_package_char is_arch_char is_arch_word is_package_name is_solid between read_name read_qualifier restriction_of read_restriction term_of terms_of arch_terms_of read_archs profile_of read_profiles read_alternative read_group read_groups with_group has_epoch epoch_text rest_of has_revision upstream_text revision_text epoch_of value_of with_digit is_version_text fault_of length_fault epoch_fault rest_fault upstream_fault upstream_part_fault is_upstream_char is_revision_char revision_fault revision_part_fault number_fault
returns-clause-provided c = (refl, refl, refl)
