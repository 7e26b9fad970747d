use Rattle.std.specs.FinMap as map
use Rattle.std.specs.FinSet as set
use Rattle.wb_states.specs.Machine.{empty_office}
use Rattle.wb_step.proofs.office_part.OfficePart.new.Goals as goal

pub returns : goal.returns
unfolding empty_office
returns c = record {
  value = λ i. record {
    records = map.from_entries (c.new.ensures.empty i);
    archs = map.from_entries (c.new-2.ensures.empty i);
    builders = set.from_list (c.new-3.ensures.empty i);
    handed = 0;
    accepted = 0;
  };
}
