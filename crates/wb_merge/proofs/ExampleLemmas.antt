-- What a merge makes of one source package of the architecture follows from the cases alone: the lemmas behind the examples.
use Rattle.std.proofs.Common.{◌≡◌, ℕ, Bool, true, false, if◌then◌else◌, ◌&&◌, ◌||◌, List, codes, Option, Some, None, ap, ◌∙◌}
use Rattle.std.specs.List.{list_any}
use Rattle.deb_relations.specs.Grammar.{is_not_blank, is_white, is_profile_char, is_op_char, is_qualifier, is_word, op_of, words}
use Rattle.deb_relations.specs.Names.{is_lower_or_digit, is_package_char, is_arch_char, is_arch_word, is_package_name}
use Rattle.deb_relations.specs.Reader.{is_solid, between, read_name, read_qualifier, restriction_of, read_restriction}
use Rattle.deb_relations.specs.Reader.{term_of, terms_of, arch_terms_of, read_archs, profile_of, read_profiles}
use Rattle.deb_relations.specs.Reader.{read_alternative, read_group, read_groups, with_group}
use Rattle.deb_relations.specs.Reading.{name_fault, fault_behind_operator, asked_fault, restriction_fault, words_fault, archs_fault, list_fault, profiles_fault, alternative_fault, is_alternative, group_fault, is_group_or_blank, groups_fault, reading_of}
use Rattle.deb_version.specs.Syntax.{has_epoch, epoch_text, rest_of, has_revision, upstream_text, revision_text, epoch_of, value_of, with_digit, parts_of, is_version_text, fault_of, length_fault, epoch_fault, rest_fault, upstream_fault, upstream_part_fault, is_upstream_char, is_revision_char, revision_fault, revision_part_fault, number_fault}
use Rattle.deb_version.specs.Operator.{meets}
use Rattle.deb_version.specs.Order.{weight_of, part_cmp, revision_or_zero, parts_cmp, version_cmp}
use Rattle.deb_version.specs.declared.operator.Op.TheVariants.{LaterOrEqual}
use Rattle.deb_relations.specs.Satisfaction.{Offer, Pairs, versions_of, meets_restriction, is_alternative_met, is_group_met, satisfied}
use Rattle.wb_states.specs.declared.state.State.TheVariants.{NeedsBuild}
use Rattle.wb_states.specs.declared.record.Record.{Record}
use Rattle.wb_merge.specs.declared.listing.Listed.{Listed}
use Rattle.wb_merge.specs.declared.listing.Built.{Built}
use Rattle.wb_merge.specs.Merge.{record_after, relisted, are_waits_met}
use Rattle.wb_merge.specs.Examples.{Becomes, BecomesBeside}
use Rattle.wb_merge.proofs.MergeLemmas.{merged-listed}

-- what the cases give is what becomes of the record
pub becomes : (name : List ℕ) {listed : Option Listed} {built : Option Built} {current new : Option Record}
    → ((available : Pairs) → record_after current listed built available ≡ new) → Becomes name listed built current new
becomes name given old listing is_listed is_built was =
    merged-listed old _ listing _ ∙ (λ i. record_after (was i) (is_listed i) (is_built i) listing.available) ∙ given listing.available

-- the same where what is available plays a part
pub becomes-beside : (other name : List ℕ) {versions : List Offer} {listed : Option Listed} {built : Option Built} {current new : Option Record}
    → ((available : Pairs) → versions_of available other ≡ versions → record_after current listed built available ≡ new)
    → BecomesBeside other versions name listed built current new
becomes-beside other name given old listing available is_listed is_built was =
    merged-listed old _ listing _ ∙ (λ i. record_after (was i) (is_listed i) (is_built i) listing.available) ∙ given listing.available available

-- what is made of a record of the version that is listed, of which nothing is built, by whether what it waits for is available
abbrev pub after-waits : Option Listed → Record → Bool → Option Record
after-waits None current is_met = None
after-waits (Some listed) current is_met = Some (relisted (if is_met then NeedsBuild else current.state) current.number listed None current)

-- whether these waits are met is whether one of the versions that are available is at least 3
pub libssl-waits : (available : Pairs) (versions : List Offer) → versions_of available (codes "libssl-dev") ≡ versions
    → are_waits_met available (codes "libssl-dev (>= 3)") ≡ ((list_any (meets_restriction (Some (record { op = LaterOrEqual; version = codes "3" }))) versions || false) && true)
unfolding are_waits_met is_not_blank is_white is_profile_char is_op_char is_qualifier is_word op_of words is_lower_or_digit is_package_char is_arch_char is_arch_word is_package_name is_solid between read_name read_qualifier restriction_of read_restriction term_of terms_of arch_terms_of read_archs profile_of read_profiles read_alternative read_group read_groups with_group name_fault fault_behind_operator asked_fault restriction_fault words_fault archs_fault list_fault profiles_fault alternative_fault is_alternative group_fault is_group_or_blank groups_fault reading_of is_alternative_met is_group_met satisfied has_epoch epoch_text rest_of has_revision upstream_text revision_text epoch_of value_of with_digit parts_of weight_of part_cmp revision_or_zero parts_cmp version_cmp meets is_version_text fault_of length_fault epoch_fault rest_fault upstream_fault upstream_part_fault is_upstream_char is_revision_char revision_fault revision_part_fault number_fault
libssl-waits available versions = ap (λ versions. (list_any (meets_restriction (Some (record { op = LaterOrEqual; version = codes "3" }))) versions || false) && true)
