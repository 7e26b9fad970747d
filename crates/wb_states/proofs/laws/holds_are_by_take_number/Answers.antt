use Rattle.wb_states.proofs.HoldLemmas.{held_of-in, sorted-held_of, building_after-is, building_after-least, building_after-none}
use Rattle.wb_states.proofs.laws.holds_are_by_take_number.Goals as goal

pub returns-clause-members : goal.returns-clause-members
returns-clause-members c = held_of-in

pub returns-clause-ascending : goal.returns-clause-ascending
returns-clause-ascending c = sorted-held_of

pub returns-clause-building : goal.returns-clause-building
returns-clause-building c = building_after-is

pub returns-clause-least : goal.returns-clause-least
returns-clause-least c = building_after-least

pub returns-clause-none : goal.returns-clause-none
returns-clause-none c machine arch builder after entry = building_after-none machine arch builder after entry
