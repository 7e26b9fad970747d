-- The lists so far are those of the names so far.
use Rattle.std.proofs.Common.{take}
use Rattle.wb_lists.specs.Lists.{MayReadLess, OpensParts}
use Rattle.wb_lists.proofs.lists.parts_of.Given as goal

abbrev pub invariant-loop-part_names : goal.invariant-loop-part_names
invariant-loop-part_names g l = record {
  kept : MayReadLess (g.L.Lists.may_read l.initial.lists) (g.L.Lists.may_read l.lists);
  opened : OpensParts (g.L.Lists.may_read l.initial.lists) g.L.List.Read.remaining (take l.part_names-index l.names) l.parts.items;
}
