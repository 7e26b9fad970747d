use Rattle.wb_archive.specs.Merges.{BeginsAt, IsPartOf}
use Rattle.wb_office.specs.PartLists.{Stands}
use Rattle.wb_office.proofs.PartListLemmas.{goes_on_to_end}
use Rattle.wb_office.proofs.part_lists.part_lists.Goals as goal

pub returns : goal.returns
returns c = record {
  value = λ machine are.
      goes_on_to_end (IsPartOf (BeginsAt Stands) machine) c.args.parts.now c.loop-part.lists.items c.loop-part.part-index c.loop-part-test.false (c.loop-part.invariant machine are);
}
