-- No answer to a query has a line feed.
use Rattle.std.proofs.Common.{◌∙◌, ◌++◌, refl, ℕ, suc, true, false, List, [], ◌∷◌, codes}
use Rattle.std.specs.Prelude.{Bool, Option, None, Some, ℤ, pos, negsuc, decimal}
use Rattle.std.specs.Fmt.{signed_decimal}
use Rattle.std.specs.List.{flat_map, join_by}
use Rattle.json.specs.Print.{quoted}
use Rattle.deb_text.specs.Lines.{IsOneLine}
use Rattle.wb_states.specs.Moves.{build_text_of}
use Rattle.wb_states.specs.State.{name_of}
use Rattle.wb_states.specs.declared.counts.StateCounts.{StateCounts}
use Rattle.wb_states.specs.declared.record.Record.{Record}
use Rattle.wb_states.specs.declared.keyed.KeyedRecord.{KeyedRecord}
use Rattle.wb_states.specs.Machine.{Key}
use Rattle.wb_states.specs.declared.arch.OsCpu.{OsCpu}
use Rattle.wb_states.specs.declared.query.Answer.{Answer}
use Rattle.wb_states.specs.declared.query.Answer.TheVariants.{Queue, ByState, Item, Mine, Depends, Summary, Office}
use Rattle.wb_states.specs.declared.query.Answer.TheVariants.{Archs, Builders}
use Rattle.wb_api.specs.Queries.{truth_text, quoted_or_null, decimal_or_null, fields_text, record_text, records_text}
use Rattle.wb_api.specs.Queries.{waiting_text, queue_text, counts_text, query_text, arch_text, archs_text, pair_text}
use Rattle.wb_api.specs.Queries.{pairs_text}
use Rattle.wb_api.proofs.OneLineLemmas.{behind, decimal-one, quoted-one}

signed_decimal-one : (z : ℤ) → IsOneLine (signed_decimal z)
signed_decimal-one (pos n) = decimal-one n
signed_decimal-one (negsuc n) = decimal-one (suc n)

truth_text-one : (b : Bool) → IsOneLine (truth_text b)
truth_text-one true = refl
truth_text-one false = refl

quoted_or_null-one : (text : Option (List ℕ)) → IsOneLine (quoted_or_null text)
quoted_or_null-one None = refl
quoted_or_null-one (Some text) = quoted-one text

decimal_or_null-one : (n : Option ℕ) → IsOneLine (decimal_or_null n)
decimal_or_null-one None = refl
decimal_or_null-one (Some n) = decimal-one n

fields_text-one : (arch source : List ℕ) (current : Record) → IsOneLine (fields_text arch source current)
unfolding fields_text
fields_text-one arch source current =
    behind (quoted arch) _ (quoted-one arch)
    ∙ behind (quoted (build_text_of current)) _ (quoted-one (build_text_of current))
    ∙ behind (signed_decimal current.build_priority) _ (signed_decimal-one current.build_priority)
    ∙ behind (truth_text current.earlier) _ (truth_text-one current.earlier)
    ∙ behind (quoted_or_null current.holder) _ (quoted_or_null-one current.holder)
    ∙ behind (quoted current.message) _ (quoted-one current.message)
    ∙ behind (quoted current.note) _ (quoted-one current.note)
    ∙ behind (decimal current.number) _ (decimal-one current.number)
    ∙ behind (quoted current.priority) _ (quoted-one current.priority)
    ∙ behind (quoted current.section) _ (quoted-one current.section)
    ∙ behind (quoted source) _ (quoted-one source)
    ∙ behind (quoted (name_of current.state)) _ (quoted-one (name_of current.state))
    ∙ behind (decimal_or_null current.take) _ (decimal_or_null-one current.take)
    ∙ behind (quoted current.version) _ (quoted-one current.version)
    ∙ behind (quoted current.waits) _ (quoted-one current.waits)

record_text-one : (row : KeyedRecord) → IsOneLine (record_text row)
record_text-one row = fields_text-one row.arch row.source row.current

-- texts of one line, each behind a comma
joined-one : {X : Type 0} (text : X → List ℕ) → ((row : X) → IsOneLine (text row))
    → (rows : List X) → IsOneLine (flat_map (λ row. codes "," ++ text row) rows)
joined-one text one [] = refl
joined-one text one (row ∷ rows) = behind (text row) _ (one row) ∙ joined-one text one rows

-- texts of one line with commas between them
list-one : {X : Type 0} (text : X → List ℕ) → ((row : X) → IsOneLine (text row))
    → (rows : List X) → IsOneLine (join_by text (codes ",") rows)
list-one text one [] = refl
list-one text one (row ∷ rows) = behind (text row) _ (one row) ∙ joined-one text one rows

records_text-one : (rows : List KeyedRecord) → IsOneLine (records_text rows)
unfolding records_text
records_text-one = list-one record_text record_text-one

waiting_text-one : (row : KeyedRecord) → IsOneLine (waiting_text row)
unfolding waiting_text
waiting_text-one row =
    behind (quoted (build_text_of row.current)) _ (quoted-one (build_text_of row.current))
    ∙ behind (quoted row.source) _ (quoted-one row.source)

queue_text-one : (rows : List KeyedRecord) → IsOneLine (queue_text rows)
unfolding queue_text
queue_text-one = list-one waiting_text waiting_text-one

arch_text-one : (arch : List ℕ × OsCpu) → IsOneLine (arch_text arch)
unfolding arch_text
arch_text-one arch =
    behind (quoted arch.0) _ (quoted-one arch.0) ∙ behind (quoted arch.1.cpu) _ (quoted-one arch.1.cpu)
    ∙ behind (quoted arch.1.os) _ (quoted-one arch.1.os)

archs_text-one : (archs : List (List ℕ × OsCpu)) → IsOneLine (archs_text archs)
unfolding archs_text
archs_text-one = list-one arch_text arch_text-one

pair_text-one : (pair : Key) → IsOneLine (pair_text pair)
unfolding pair_text
pair_text-one pair = behind (quoted pair.1) _ (quoted-one pair.1) ∙ behind (quoted pair.0) _ (quoted-one pair.0)

pairs_text-one : (pairs : List Key) → IsOneLine (pairs_text pairs)
unfolding pairs_text
pairs_text-one = list-one pair_text pair_text-one

counts_text-one : (counts : StateCounts) → IsOneLine (counts_text counts)
unfolding counts_text
counts_text-one counts =
    behind (decimal counts.bd_uninstallable) _ (decimal-one counts.bd_uninstallable)
    ∙ behind (decimal counts.build_attempted) _ (decimal-one counts.build_attempted)
    ∙ behind (decimal counts.building) _ (decimal-one counts.building)
    ∙ behind (decimal counts.built) _ (decimal-one counts.built)
    ∙ behind (decimal counts.dep_wait) _ (decimal-one counts.dep_wait)
    ∙ behind (decimal counts.failed) _ (decimal-one counts.failed)
    ∙ behind (decimal counts.installed) _ (decimal-one counts.installed)
    ∙ behind (decimal counts.needs_build) _ (decimal-one counts.needs_build)
    ∙ behind (decimal counts.not_for_us) _ (decimal-one counts.not_for_us)
    ∙ behind (decimal counts.uploaded) _ (decimal-one counts.uploaded)

pub query_text-one : (answer : Answer) → IsOneLine (query_text answer)
unfolding query_text
query_text-one (Queue arch rows) =
    behind (quoted arch) _ (quoted-one arch) ∙ behind (queue_text rows) _ (queue_text-one rows)
query_text-one (ByState arch state rows) =
    behind (quoted arch) _ (quoted-one arch) ∙ behind (records_text rows) _ (records_text-one rows)
    ∙ behind (quoted (name_of state)) _ (quoted-one (name_of state))
query_text-one (Item row) = record_text-one row
query_text-one (Mine builder rows) =
    behind (quoted builder) _ (quoted-one builder) ∙ behind (records_text rows) _ (records_text-one rows)
query_text-one (Depends arch source depends) =
    behind (quoted arch) _ (quoted-one arch) ∙ behind (quoted_or_null depends) _ (quoted_or_null-one depends)
    ∙ behind (quoted source) _ (quoted-one source)
query_text-one (Summary accepted arch counts) =
    behind (decimal accepted) _ (decimal-one accepted) ∙ behind (quoted arch) _ (quoted-one arch)
    ∙ behind (counts_text counts) _ (counts_text-one counts)
query_text-one (Office accepted handed) =
    behind (decimal accepted) _ (decimal-one accepted) ∙ behind (decimal handed) _ (decimal-one handed)
query_text-one (Archs accepted archs) =
    behind (decimal accepted) _ (decimal-one accepted) ∙ behind (archs_text archs) _ (archs_text-one archs)
query_text-one (Builders accepted pairs) =
    behind (decimal accepted) _ (decimal-one accepted) ∙ behind (pairs_text pairs) _ (pairs_text-one pairs)
