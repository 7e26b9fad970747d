use Rattle.std.proofs.Common.{refl}
use Rattle.deb_version.specs.Syntax.{has_epoch, epoch_text, rest_of, has_revision, upstream_text, revision_text, epoch_of, value_of, with_digit, parts_of}
use Rattle.deb_version.specs.Order.{weight_of, part_cmp, revision_or_zero, parts_cmp, version_cmp}
use Rattle.deb_version.proofs.laws.examples_of_the_order.Goals as goal

pub returns : goal.returns
unfolding version_cmp parts_cmp revision_or_zero part_cmp weight_of parts_of has_epoch epoch_text rest_of has_revision upstream_text revision_text epoch_of value_of with_digit
returns c = record {
  parts = (refl, (refl, (refl, (refl, tt))));
  tildes = (refl, (refl, tt));
  versions = (refl, (refl, (refl, tt)));
  letters = (refl, (refl, (refl, (refl, tt))));
  numbers = (refl, (refl, (refl, tt)));
  equal = (refl, refl, refl);
}
