use Rattle.std.proofs.Common.{◌≡◌}
use Rattle.wb_archive.specs.Decides.{with_versions}
use Rattle.wb_archive.proofs.waits.add_versions.Given as goal

abbrev pub invariant-loop-version : goal.invariant-loop-version
invariant-loop-version l = with_versions l.available l.name l.version-iterator.rest.items ≡ with_versions l.fn.available l.name l.fn.versions.items
