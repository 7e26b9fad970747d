-- What the office answers to a query, by its state: records, relations, counts, or a refusal, the first in the one
-- order.
use Rattle.std.specs.Prelude.{ℕ, Bool, false, not, ◌||◌, List, [], map as each, Option, Some, None, is_none, Result, Ok}
use Rattle.std.specs.Prelude.{Err, if◌then◌else◌}
use Rattle.std.specs.FinMap as map
use Rattle.wb_states.specs.declared.keyed.KeyedRecord.{KeyedRecord}
use Rattle.wb_states.specs.declared.record.Record.{Record}
use Rattle.wb_states.specs.declared.refusal.Refusal.{Refusal}
use Rattle.wb_states.specs.declared.refusal.Refusal.TheVariants.{BadName, UnknownArch, UnknownBuilder, UnknownSource}
use Rattle.wb_states.specs.Holds.{held_of}
use Rattle.wb_states.specs.Lookups.{counts_of, keyed, rows_in}
use Rattle.wb_states.specs.Machine.{Machine, builder_pairs}
use Rattle.wb_states.specs.Names.{is_arch_name, is_builder_name}
use Rattle.wb_states.specs.Queue.{queue_of}
use Rattle.wb_states.specs.State.{state_named}
use Rattle.wb_states.specs.declared.state.State.{State}
use Rattle.wb_states.specs.declared.query.Answer.{Answer}
use Rattle.wb_states.specs.declared.query.Answer.TheVariants.{Queue, ByState, Item, Mine, Depends, Summary, Office}
use Rattle.wb_states.specs.declared.query.Answer.TheVariants.{Archs, Builders}
use Rattle.wb_states.specs.declared.query.Query.{Query}
use Rattle.wb_states.specs.declared.query.Query.TheVariants as query
use Rattle.wb_states.specs.Machine.{is_unknown_arch, is_unknown_builder}
use Rattle.wb_states.specs.Names.{has_bad_key}

-- the record that was found at a key, or that there is none
abbrev pub found_at : List ℕ → List ℕ → Option Record → Result Answer Refusal
found_at arch source None = Err UnknownSource
found_at arch source (Some current) = Ok (Item (keyed ((arch, source), current)))

-- the record of a source package on an architecture, if both names have their forms
abbrev pub item_in : Machine → List ℕ → List ℕ → Result Answer Refusal
item_in machine arch source =
    if is_unknown_arch machine arch then Err UnknownArch else found_at arch source (map.get machine.records (arch, source))

-- what a builder holds, by take number, if its name has its form
abbrev pub mine_in : Machine → List ℕ → Result Answer Refusal
mine_in machine builder =
    if is_unknown_builder machine builder then Err UnknownBuilder else Ok (Mine builder (each keyed (held_of machine builder)))

-- the queue of an architecture
abbrev pub queue_in : Machine → List ℕ → Result Answer Refusal
queue_in machine arch =
    if is_unknown_arch machine arch then Err UnknownArch else Ok (Queue arch (each keyed (queue_of machine arch)))

-- the records of an architecture that are in the state of a name, if a state has it
abbrev pub records_in : Machine → List ℕ → Option State → Result Answer Refusal
records_in machine arch None = Err BadName
records_in machine arch (Some state) =
    if is_unknown_arch machine arch then Err UnknownArch else Ok (ByState arch state (each keyed (rows_in machine arch state)))

-- what a source package needs to be built, by the record that was found, or that there is none
abbrev pub depends_at : List ℕ → List ℕ → Option Record → Result Answer Refusal
depends_at arch source None = Err UnknownSource
depends_at arch source (Some current) = Ok (Depends arch source current.depends)

-- what a source package needs to be built on an architecture
abbrev pub depends_in : Machine → List ℕ → List ℕ → Result Answer Refusal
depends_in machine arch source =
    if is_unknown_arch machine arch then Err UnknownArch else depends_at arch source (map.get machine.records (arch, source))

-- how many records of an architecture are in each state, and how many commands the office accepted
abbrev pub summary_in : Machine → List ℕ → Result Answer Refusal
summary_in machine arch =
    if is_unknown_arch machine arch then Err UnknownArch else Ok (Summary machine.accepted arch (counts_of machine arch))

-- the two counts of the office
abbrev pub office_in : Machine → Result Answer Refusal
office_in machine = Ok (Office machine.accepted machine.handed)

-- the architectures of the office with their words, by name, and how many commands the office accepted
abbrev pub archs_in : Machine → Result Answer Refusal
archs_in machine = Ok (Archs machine.accepted (map.entries machine.archs))

-- each builder with an architecture for which it was added, by builder and then by architecture, and how many commands
-- the office accepted
abbrev pub builders_in : Machine → Result Answer Refusal
builders_in machine = Ok (Builders machine.accepted (builder_pairs machine))

-- what the office answers to a query of which each name has its form
abbrev pub answer_in : Machine → Query → Result Answer Refusal
answer_in machine (query.Queue arch) = queue_in machine arch
answer_in machine (query.ByState arch state) = records_in machine arch (state_named state)
answer_in machine (query.Item arch source) = item_in machine arch source
answer_in machine (query.Mine builder) = mine_in machine builder
answer_in machine (query.Depends arch source) = depends_in machine arch source
answer_in machine (query.Summary arch) = summary_in machine arch
answer_in machine query.Office = office_in machine
answer_in machine query.Archs = archs_in machine
answer_in machine query.Builders = builders_in machine

-- a name of the query is malformed, or no state has its state's name
abbrev pub has_malformed_name : Query → Bool
has_malformed_name (query.Queue arch) = not (is_arch_name arch)
has_malformed_name (query.ByState arch state) = not (is_arch_name arch) || is_none (state_named state)
has_malformed_name (query.Item arch source) = has_bad_key arch source
has_malformed_name (query.Mine builder) = not (is_builder_name builder)
has_malformed_name (query.Depends arch source) = has_bad_key arch source
has_malformed_name (query.Summary arch) = not (is_arch_name arch)
has_malformed_name query.Office = false
has_malformed_name query.Archs = false
has_malformed_name query.Builders = false

-- the records that an answer lists
abbrev pub listed_in : Answer → List KeyedRecord
listed_in (Queue arch records) = records
listed_in (ByState arch state records) = records
listed_in (Item shown) = []
listed_in (Mine builder records) = records
listed_in (Depends arch source depends) = []
listed_in (Summary accepted arch counts) = []
listed_in (Office accepted handed) = []
listed_in (Archs accepted archs) = []
listed_in (Builders accepted pairs) = []

-- what the office answers to a query: the queue of an architecture, its records in a state, or how many are in each;
-- the record of a source package there, or what it needs to be built; what a builder holds, of all architectures, by
-- take number; or its two counts, its architectures or its builders
unfoldable pub answer_of : Machine → Query → Result Answer Refusal
answer_of machine asked = if has_malformed_name asked then Err BadName else answer_in machine asked
