use Rattle.std.proofs.Common.{◌≡◌}
use Rattle.std.specs.FinMap as map
use Rattle.wb_states.specs.Machine.{Machine}
use Rattle.wb_archive.specs.Merges.{BeginsAt, IsPartOf}
use Rattle.wb_office.specs.PartLists.{Stands}
use Rattle.wb_office.proofs.PartListLemmas.{GoesOn}
use Rattle.wb_office.proofs.part_lists.part_lists.Given as goal

abbrev pub invariant-loop-part : goal.invariant-loop-part
invariant-loop-part l = (machine : Machine) → l.archs ≡ map.entries machine.archs → GoesOn (IsPartOf (BeginsAt Stands) machine) l.parts l.lists.items l.part-index
