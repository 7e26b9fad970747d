-- The answers to queries, of what was looked up; and that no state makes one that comes of a store.
use Rattle.std.proofs.Common.{◌≡◌, ℕ, Bool, true, false, cond, List, map as each, Option, Some, None, Result, Ok, Err, IfErr, refl, sym, ap, subst, ◌∙◌}
use Rattle.std.proofs.lemmas.Bool.{both_ways}
use Rattle.std.proofs.lemmas.List.{map-id}
use Rattle.std.proofs.lemmas.Simd.{map-map}
use Rattle.std.specs.FinMap as map
use Rattle.wb_states.specs.declared.record.Record.{Record}
use Rattle.wb_states.specs.declared.refusal.Refusal.{Refusal}
use Rattle.wb_states.specs.declared.refusal.Refusal.TheVariants.{BadName, UnknownArch, UnknownBuilder}
use Rattle.wb_states.specs.Holds.{held_of}
use Rattle.wb_states.specs.Machine.{Machine}
use Rattle.wb_states.specs.Queue.{Entry, queue_of}
use Rattle.wb_states.specs.declared.keyed.KeyedRecord.{KeyedRecord}
use Rattle.wb_states.specs.Lookups.{entry_of}
use Rattle.wb_states.specs.declared.query.Answer.{Answer}
use Rattle.wb_states.specs.declared.query.Answer.TheVariants.{Queue, ByState, Mine, Summary}
use Rattle.wb_states.specs.Machine.{is_unknown_arch, is_unknown_builder}
use Rattle.wb_states.specs.Refusals.{is_of_store}
use Rattle.wb_states.specs.Queries.{answer_in, answer_of, depends_at, depends_in, found_at, has_malformed_name, item_in, mine_in, queue_in, records_in, summary_in}
use Rattle.wb_states.specs.declared.query.Query.{Query}
use Rattle.wb_states.specs.declared.query.Query.TheVariants as asked
use Rattle.wb_states.specs.Lookups.{counts_of, keyed, rows_in}
use Rattle.wb_states.specs.State.{state_named}
use Rattle.wb_states.specs.declared.state.State.{State}

-- records that were looked up are those of the state, each with its key
pub keyed-entries : {rows : List KeyedRecord} {entries : List Entry} → each entry_of rows ≡ entries → each keyed entries ≡ rows
keyed-entries {rows} {entries} are = ap (each keyed) (sym are) ∙ map-map keyed entry_of rows ∙ map-id rows

-- ---- a refusal of a query is one of its state

-- a refusal of this answer, if it is one, does not come of a store
abbrev IsOfState : Result Answer Refusal → Type 0
IsOfState answer = IfErr answer (λ refusal. is_of_store refusal ≡ false)

either-state : (b : Bool) (refusal : Refusal) (rest : Result Answer Refusal) → is_of_store refusal ≡ false → IsOfState rest → IsOfState (cond b (Err refusal) rest)
either-state true refusal rest no_store later = no_store
either-state false refusal rest no_store later = later

found-state : (arch source : List ℕ) (found : Option Record) → IsOfState (found_at arch source found)
found-state arch source None = refl
found-state arch source (Some current) = tt

item-state : (machine : Machine) (arch source : List ℕ) → IsOfState (item_in machine arch source)
item-state machine arch source =
    either-state (is_unknown_arch machine arch) UnknownArch (found_at arch source (map.get machine.records (arch, source))) refl
    (found-state arch source (map.get machine.records (arch, source)))

mine-state : (machine : Machine) (builder : List ℕ) → IsOfState (mine_in machine builder)
mine-state machine builder =
    either-state (is_unknown_builder machine builder) UnknownBuilder (Ok (Mine builder (each keyed (held_of machine builder)))) refl tt

queue-state : (machine : Machine) (arch : List ℕ) → IsOfState (queue_in machine arch)
queue-state machine arch = either-state (is_unknown_arch machine arch) UnknownArch (Ok (Queue arch (each keyed (queue_of machine arch)))) refl tt

records-state : (machine : Machine) (arch : List ℕ) (named : Option State) → IsOfState (records_in machine arch named)
records-state machine arch None = refl
records-state machine arch (Some state) =
    either-state (is_unknown_arch machine arch) UnknownArch (Ok (ByState arch state (each keyed (rows_in machine arch state)))) refl tt

needed-state : (arch source : List ℕ) (found : Option Record) → IsOfState (depends_at arch source found)
needed-state arch source None = refl
needed-state arch source (Some current) = tt

depends-state : (machine : Machine) (arch source : List ℕ) → IsOfState (depends_in machine arch source)
depends-state machine arch source =
    either-state (is_unknown_arch machine arch) UnknownArch (depends_at arch source (map.get machine.records (arch, source))) refl
    (needed-state arch source (map.get machine.records (arch, source)))

summary-state : (machine : Machine) (arch : List ℕ) → IsOfState (summary_in machine arch)
summary-state machine arch =
    either-state (is_unknown_arch machine arch) UnknownArch (Ok (Summary machine.accepted arch (counts_of machine arch))) refl tt

answer-state : (machine : Machine) (query : Query) → IsOfState (answer_in machine query)
answer-state machine (asked.Queue arch) = queue-state machine arch
answer-state machine (asked.ByState arch state) = records-state machine arch (state_named state)
answer-state machine (asked.Item arch source) = item-state machine arch source
answer-state machine (asked.Mine builder) = mine-state machine builder
answer-state machine (asked.Depends arch source) = depends-state machine arch source
answer-state machine (asked.Summary arch) = summary-state machine arch
answer-state machine asked.Office = tt
answer-state machine asked.Archs = tt
answer-state machine asked.Builders = tt

never : (answer : Result Answer Refusal) (refusal : Refusal) → IsOfState answer → is_of_store refusal ≡ true → ¬ (answer ≡ Err refusal)
never answer refusal of_state of_store is = both_ways (is_of_store refusal) (subst IsOfState is of_state) of_store

-- no state answers a query with a refusal that comes of a store
pub answer-has-no-store : (machine : Machine) (query : Query) (refusal : Refusal) → is_of_store refusal ≡ true → ¬ (answer_of machine query ≡ Err refusal)
unfolding answer_of
answer-has-no-store machine query refusal =
    never (answer_of machine query) refusal (either-state (has_malformed_name query) BadName (answer_in machine query) refl (answer-state machine query))

-- ---- the forms of the names

-- malformed names are refused, and of others the state is asked
pub answer_of-bad : (machine : Machine) (query : Query) → has_malformed_name query ≡ true → answer_of machine query ≡ Err BadName
unfolding answer_of
answer_of-bad machine query bad = ap (λ b. cond b (Err BadName) (answer_in machine query)) bad

pub answer_of-good : (machine : Machine) (query : Query) → has_malformed_name query ≡ false → answer_of machine query ≡ answer_in machine query
unfolding answer_of
answer_of-good machine query good = ap (λ b. cond b (Err BadName) (answer_in machine query)) good
