use Rattle.std.proofs.Common.{◌≡◌, ◌++◌, drop}
use Rattle.wb_archive.specs.Merges.{archs_of_parts}
use Rattle.wb_archive.proofs.merge.archs_of_parts.Given as goal

abbrev pub invariant-loop-part : goal.invariant-loop-part
invariant-loop-part g l = l.archs.items ++ archs_of_parts (drop l.part-index l.parts) ≡ archs_of_parts l.parts
